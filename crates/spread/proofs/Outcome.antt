-- Spread's answer, work and output, by the ways through its code: refused, or answered over the loaded rules and then cleared.
-- Assumes nothing.
use Rattle.std.specs.Prelude.{Result, Ok, Err}
use Prim.Native.Nat.{ℕ, ◌*◌, ◌≤◌}
use native.Mathlib.Omega.{arith}
use mathlib.Core.Path.{◌≡◌, sym, ap, ◌∙◌}
use mathlib.Core.List.{List}
use lib.ListN.{length}
use Rattle.record.specs.declared.Format.{Format}
use Rattle.refusal.specs.declared.Refusal.{Refusal}
use Rattle.rule.specs.declared.Rule.{Rule}
use Rattle.plan.specs.declared.Checked.{Checked}
use Rattle.record.specs.Record.{word_length}
use Rattle.plan.specs.Check.{checked, rules_of, format_of, trailer_length}
use Rattle.plan.proofs.Sound.{checked-plan}
use Rattle.plan.specs.Written.{output_after}
use Rattle.forest.specs.Forest.{forest, text}
use Rattle.forest.specs.Outcome.{work_words, enough_work, cleared, measured_work, text_roomed, spread_from, spread, text_of, spread_output}
use Rattle.work_rows.specs.Rows.{first_rules}
use Rattle.work_rows.proofs.Rows.{within_both}
use Rattle.work_rows.proofs.Work.{work-cleared}
use Rattle.work_load.specs.Prepared.{Loads, Prepared}
use Rattle.count_passes.proofs.Work.{Held, held}
use Rattle.spread.specs.Answer.{Answerable, Answered}

-- the answer, the work and the output that spread gives
abbrev pub Outcome : List ℕ → List ℕ → List ℕ → Result ℕ Refusal → List ℕ → List ℕ → Type 0
Outcome s work out x work' out' = (x ≡ spread s work out) × (work' ≡ measured_work s work) × (out' ≡ spread_output s work out)

-- loaded rows are the plan's rules, with their order
pub answerable : {s t : List ℕ} {n start : ℕ} → Held s n start t → Answerable t n start
answerable {n = n} h =
    record {
      rank = _;
      sound = rw (← h.rules) at h.accepted.sound;
      order = h.ready.order;
      closed = rw h.rules h.accepted.ends;
      few = omega (arith, h.accepted.greatest);
      room = h.room;
    }

module _ {s work t : List ℕ} {x : Result Checked Refusal} (b : Prepared s work t (checked s) x) (out : List ℕ) where
  pub refused : {r : Refusal} → x ≡ Err r → Outcome s work out (Err r) t out
  unfolding spread spread_from spread_output output_after measured_work
  refused {r} e =
      let answer : Err r ≡ spread s work out = ap (spread_from (format_of s) (rules_of s) out) (sym e ∙ b.answer) in
      (answer, b.refused r e, ap (λ (y : Result ℕ Refusal). output_after y (text_of s (checked s)) out) answer)

  module _ {n start : ℕ} (e : x ≡ Ok (record { n = n; start = start })) where
    spread-is : spread s work out ≡ text_roomed (format_of s) (forest (rules_of s) start) out
    unfolding spread spread_from
    spread-is = ap (spread_from (format_of s) (rules_of s) out) (sym b.answer ∙ e)

    output-is : spread_output s work out ≡ output_after (spread s work out) (text (format_of s) (forest (rules_of s) start)) out
    unfolding spread_output text_of
    output-is = ap (λ (c : Result Checked Refusal). output_after (spread s work out) (text_of s c) out) (b.loaded n start e).accepted

    pub trailered : trailer_length ≤ length s
    trailered = (checked-plan s n start (b.loaded n start e).accepted).trailer

    pub finished : {f : Format} {y : Result ℕ Refusal} {u v out' : List ℕ} → f ≡ format_of s → Answered f n start y t u out out' → v ≡ cleared (word_length * work_words n) u
        → Outcome s work out y v out'
    unfolding measured_work
    finished {y = y} {u = u} q a₀ p =
        let a : Answered (format_of s) n start y t u out _ = rw q at a₀ in
        let h : Held s n start t = held b e in
        let l : Loads s work t n start = b.loaded n start e in
        let answer : y ≡ spread s work out = a.answer ∙ ap (λ (R : List Rule). text_roomed (format_of s) (forest R start) out) h.rules ∙ sym spread-is in (
          answer,
          p ∙ work-cleared (λ k. enough_work k work) (checked s) work n start l.accepted l.enough u (within_both l.arranged.within a.within),
          a.writes
              ∙ ap (λ (z : Result ℕ Refusal). output_after z (text (format_of s) (forest (first_rules t n) start)) out) answer
              ∙ ap (λ (R : List Rule). output_after (spread s work out) (text (format_of s) (forest R start)) out) h.rules
              ∙ sym output-is,
        )
