-- Document 02, Note 6: what must hold of the rules of the client's copy.
use Rattle.std.specs.Prelude.{ℕ, ◌*◌, ◌≤◌, ◌<◌, Bool, List, ◌⊎◌, ◌≡◌, length, T}
use Rattle.rule.specs.declared.Rule.{Rule}
use Rattle.rule.specs.Sound.{rule, Sound, Closed, Lower}
use Rattle.reach.specs.Reaches.{Reaches}
use Rattle.forest.specs.Forest.{forest}
use Rattle.copy_variants.specs.Visible.{visible, seen_in}

-- rules C with start rule top are a copy of rules R with start rule start, for a client who sees the labels that pass v
pub record Copied (v : ℕ → Bool) (R : List Rule) (start : ℕ) (C : List Rule) (top : ℕ) : Type 0 where
  -- "a new .. plan": sound, with a closed start rule; its rules name lower ones only
  pub sound : Sound C (λ r. r)
  pub lower : Lower C
  pub ends : Closed C top
  -- "whose forest is the old one with those subtrees gone, order kept"
  pub gives : forest C top ≡ visible v (forest R start)
  -- "each is the start or reached from it through the rules named"
  pub reached : (j : ℕ) → j < length C → (j ≡ top) ⊎ Reaches C top j
  -- "must not see entries of a higher class": no rule has the label of one
  pub seen : (j : ℕ) → j < length C → T (seen_in v (rule C j))
  -- "output needs 40 × n + 10 bytes": three rules for each are enough
  pub few : length C ≤ 3 * length R
