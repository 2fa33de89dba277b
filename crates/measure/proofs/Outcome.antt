-- Measure's answer and work, by the ways through its code: refused, or counted over the loaded rules and then cleared. Assumes nothing.
use Rattle.std.specs.Prelude.{Result, Ok, Err}
use Prim.Native.Nat.{ℕ, ◌*◌}
use mathlib.Core.Path.{◌≡◌, ap, sym, ◌∙◌}
use mathlib.Core.List.{List}
use Rattle.refusal.specs.declared.Refusal.{Refusal}
use Rattle.plan.specs.declared.Checked.{Checked}
use Rattle.record.specs.Record.{word_length}
use Rattle.plan.specs.Check.{checked, rules_of}
use Rattle.forest.specs.declared.Measured.{Measured}
use Rattle.forest.specs.Expression.{expression}
use Rattle.forest.specs.Forest.{forest}
use Rattle.forest.specs.Outcome.{work_words, enough_work, cleared, measured_from, measured, measured_work}
use Rattle.work_rows.proofs.Rows.{within_both}
use Rattle.work_rows.proofs.Work.{work-cleared}
use Rattle.work_load.specs.Prepared.{Loads, Prepared}
use Rattle.count_passes.proofs.Work.{Held, held}
use Rattle.count_all.specs.Rows.{Countable}
use Rattle.measure.specs.Answer.{Answered}

-- the answer and the work that measure gives
abbrev pub Outcome : List ℕ → List ℕ → Result Measured Refusal → List ℕ → Type 0
Outcome s work m t = (m ≡ measured s work) × (t ≡ measured_work s work)

-- loaded rows can be counted
pub countable : {s t : List ℕ} {n start : ℕ} → Held s n start t → Countable t n start
countable h = record { passable = record { ready = h.ready; room = h.room }; below = h.below }

module _ {s work t : List ℕ} {x : Result Checked Refusal} (b : Prepared s work t (checked s) x) where
  pub refused : {r : Refusal} → x ≡ Err r → Outcome s work (Err r) t
  unfolding measured measured_from measured_work
  refused {r} e = (ap (measured_from (rules_of s)) (sym e ∙ b.answer), b.refused r e)

  pub finished : {n start : ℕ} {m : Result Measured Refusal} {u v : List ℕ} → x ≡ Ok (record { n = n; start = start }) → Answered n start m t u → v ≡ cleared (word_length * work_words n) u
      → Outcome s work m v
  unfolding forest measured measured_from measured_work
  finished {n} {start} {m} {u} e a p =
      let h : Held s n start t = held b e in
      let l : Loads s work t n start = b.loaded n start e in (
        a.answer (expression (rules_of s)) h.unfolds h.closed ∙ ap (measured_from (rules_of s)) (sym e ∙ b.answer),
        p ∙ work-cleared (λ k. enough_work k work) (checked s) work n start l.accepted l.enough u (within_both l.arranged.within a.within),
      )
