-- What the moves ask of the table and the cursor holds at every place of the walked forest: the rows are those of the plan's rules,
-- so what they name has a row, and the cells of a place name only rules of the plan. Assumes nothing.
use Prim.Native.Nat.{ℕ, ◌<◌}
use mathlib.Core.Path.{◌≡◌, refl, sym, subst}
use mathlib.Core.List.{List}
use lib.ListN.{length}
use lib.Dec.{T, ltb, ltb→lt}
use Rattle.rule.specs.declared.Rule.{Rule}
use Rattle.rule.specs.Rule.{every}
use Rattle.rule.specs.Sound.{rule, Sound}
use Rattle.forest.specs.Place.{Cells}
use Rattle.rule.proofs.Names.{T-left, T-right}
use Rattle.model.specs.Facts.{Facts, facts_of}
use Rattle.model.proofs.Ranged.{Numbers}
use Rattle.facts.specs.Facts.{row_count, In, facts_in}
use Rattle.facts.specs.Closes.{Names, Closed, Closes}
use Rattle.move_parts.specs.Moves.{Each, Fits}
use Rattle.letter_moves.proofs.Inside.{representative-below, toward-below, last-below}

-- cells that name rules with P have them where the moves look
pub numbers_fit : (P : ℕ → Type 0) → P 0 → {cs : Cells} → Numbers P cs → Each (Fits P) cs
unfolding Each
numbers_fit P z Numbers.none = tt
numbers_fit P z (Numbers.row p h) = (record { one = λ e. absurd (e refl); two = p }, numbers_fit P z h)
numbers_fit P z (Numbers.spine p h) = (record { one = λ e. p; two = z }, numbers_fit P z h)
numbers_fit P z (Numbers.run s p q h) = (record { one = λ e. p; two = q }, numbers_fit P z h)

-- the rules that a sound plan's rule names
names-below : (n : ℕ) (x : Rule) → T (every (λ k. ltb k n) x) → Names (λ k. k < n) x
unfolding every Names
names-below n Rule.Empty t = tt
names-below n (Rule.Pair b c) t = (ltb→lt b n (T-left (ltb b n) (ltb c n) t), ltb→lt c n (T-right (ltb b n) (ltb c n) t))
names-below n (Rule.Node a c) t = ltb→lt c n t
names-below n (Rule.Fill b c) t = (ltb→lt b n (T-left (ltb b n) (ltb c n) t), ltb→lt c n (T-right (ltb b n) (ltb c n) t))
names-below n (Rule.Part a b c) t = (ltb→lt b n (T-left (ltb b n) (ltb c n) t), ltb→lt c n (T-right (ltb b n) (ltb c n) t))
names-below n (Rule.Join b c) t = (ltb→lt b n (T-left (ltb b n) (ltb c n) t), ltb→lt c n (T-right (ltb b n) (ltb c n) t))

-- the facts of a sound plan's rules name its rules
facts-closed : {R : List Rule} {rank : ℕ → ℕ} → Sound R rank → 0 < length R → Closed (facts_of R) (λ r. r < length R)
unfolding facts_of
facts-closed {R} S least =
    record {
      least = least;
      names = λ r h. names-below (length R) (rule R r) (S.in_range r h);
      represents = λ r h. representative-below S r h;
      steps = λ s r h. toward-below S r h s;
      ends = λ s r h. last-below S r h s;
    }

-- so do the rows of a table that is known as those facts
pub rows-closes : {R : List Rule} {rank : ℕ → ℕ} (t : List ℕ) → Sound R rank → 0 < length R → row_count t ≡ length R → facts_in t ≡ facts_of R → Closes t
rows-closes {R} t S least count e =
    subst (λ (F : Facts). Closed F (In t)) (sym e) (subst (λ (n : ℕ). Closed (facts_of R) (λ r. r < n)) (sym count) (facts-closed S least))
