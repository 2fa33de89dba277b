-- The path of a place's node as it is read off its cells (document 02, Note 12): what the rows tell, what is written of the path, and how far
-- the cells so far lead.
use Rattle.std.specs.Prelude.{ℕ, zero, suc, ◌+◌, ◌*◌, min, ◌≤◌, ◌<◌, ◌≡◌, true, false, List, [], ◌∷◌, length, get_or, Option, Some, None}
use Rattle.words.specs.Number.{number}
use Rattle.record.specs.Record.{word_length}
use Rattle.rule.specs.Sound.{Sound}
use Rattle.forest.specs.Expression.{Expression, expression}
use Rattle.forest.specs.Sizes.{height}
use Rattle.forest.specs.Good.{Sort, Good}
use Rattle.forest.specs.Reference.{Path}
use Rattle.model.specs.Facts.{facts_of}
use Rattle.facts.specs.Facts.{row_count, facts_in, In}
use Rattle.facts.specs.Closes.{Closes}
use Rattle.letter_moves.specs.Standing.{rules_kept}
use Rattle.tops_rows.specs.Tops.{TopsKept}
use Rattle.transfer_path.specs.Follow.{most_levels, most_place, carried}
use Rattle.transfer_path.specs.Spot.{Spot, path_to, tops, ahead}
use Rattle.transfer_climb.specs.declared.Climbed.{Climbed}
use Rattle.transfer_climb.specs.declared.Down.{Down}

-- the expression of each rule in the rows
abbrev pub meaning : List ℕ → ℕ → Expression
meaning t r = expression (rules_kept t) r

-- the rows of a sound plan's rules with what is known of each, and their trees
pub record CountedRows (t : List ℕ) : Type 0 where
  pub rank : ℕ → ℕ
  pub sound : Sound (rules_kept t) rank
  pub facts_are : facts_in t ≡ facts_of (rules_kept t)
  pub closes : Closes t
  pub counts : TopsKept t (row_count t)

-- the numbers of the levels that are written, the deepest first; the bytes of the most levels
unfoldable pub levels_in : List ℕ → ℕ → Path
levels_in path zero = []
levels_in path (suc k) = number word_length path (word_length * k) ∷ levels_in path k

abbrev pub path_length : ℕ
path_length = word_length * most_levels

-- the spot under the levels that are written
abbrev pub spot_at : List ℕ → Climbed → Spot
spot_at path at = (at.before, levels_in path at.levels)

-- it isn't too far, and there is room for its own level
pub record Ready (path : List ℕ) (at : Climbed) : Type 0 where
  pub room : path_length ≤ length path
  pub near : carried (path_to (spot_at path at)) ≡ true

-- one level more is written: the spot's own
pub record LevelPut (at : Climbed) (path path' : List ℕ) : Type 0 where
  pub same_length : length path' ≡ length path
  pub writes : levels_in path' (at.levels + 1) ≡ path_to (spot_at path at)

-- the spot y is reached, or is too far
pub record Took (path path' : List ℕ) (y : Spot) (c : Option Climbed) : Type 0 where
  pub same_length : length path' ≡ length path
  pub near : (at : Climbed) → c ≡ Some at → (spot_at path' at ≡ y) × (carried (path_to y) ≡ true)
  pub far : c ≡ None → carried (path_to y) ≡ false

-- rule r is a spine's, which has a part j
pub record PartAt (t : List ℕ) (r j : ℕ) : Type 0 where
  pub inside : In t r
  pub spine : Good Sort.spine (meaning t r)
  pub below : j < tops (meaning t r)
  pub few : j < most_place

-- the same part of something lower, or what stands before its hole
pub record GoesDown (t : List ℕ) (r j : ℕ) (d : Down) : Type 0 where
  pub on : (q i : ℕ) → d ≡ Down.On q i
      → PartAt t q i × (get_or (ahead (meaning t q)) i 0 ≡ get_or (ahead (meaning t r)) j 0) × (height (meaning t q) < height (meaning t r))
  pub before : (v : ℕ) → d ≡ Down.Before v → v ≡ min (get_or (ahead (meaning t r)) j 0) most_place

-- the path p is written, or is too far
pub record Traces (path path' : List ℕ) (p : Path) (x : Option ℕ) : Type 0 where
  pub same_length : length path' ≡ length path
  pub levels : (l : ℕ) → x ≡ Some l → (levels_in path' l ≡ p) × (carried p ≡ true)
  pub far : x ≡ None → carried p ≡ false
