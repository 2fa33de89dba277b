-- Each step of a copy leaves what the next one asks: the rules of an accepted plan in the rows with their order, the words that tell what
-- may be seen of them, and the copy of the rows, which is one of the plan. Assumes nothing.
use Rattle.std.specs.Prelude.{Result}
use Rattle.refusal.specs.declared.Refusal.{Refusal}
use Prim.Native.Nat.{ℕ, ◌*◌, ◌≤◌}
use native.Mathlib.Omega.{arith}
use mathlib.Core.Bool.{Bool, true, false, cond}
use mathlib.Core.List.{List}
use mathlib.Core.Path.{◌≡◌, refl, sym, ap, subst, ◌∙◌}
use lib.ListN.{length}
use lib.Dec.{eqb}
use Rattle.record.specs.Format.{word_length}
use Rattle.rule.specs.declared.Rule.{Rule}
use Rattle.rule.specs.Sound.{Sound, Closed}
use Rattle.reach.specs.Order.{rank}
use Rattle.plan.specs.Check.{checked, rules_of, most_rules}
use Rattle.plan.proofs.Sound.{Plan, checked-plan}
use Rattle.forest.specs.Outcome.{work_words}
use Rattle.label_rows.specs.declared.LabelRow.{LabelRow}
use Rattle.work_rows.specs.Rows.{work_length, rule_in, first_rules, Within}
use Rattle.work_rows.proofs.Rows.{within_both, within_wider}
use Rattle.work_rows.proofs.Work.{enough-room, work-least, cleared-same, beyond-work}
use Rattle.work_load.specs.Prepared.{Arrangeable, Arranged}
use Rattle.work_load.proofs.Prepares.{loaded, itself}
use Rattle.count_passes.proofs.Column.{besides-rule}
use Rattle.count_passes.proofs.Ordered.{ready-besides, rules-besides}
use Rattle.count_passes.proofs.Work.{Held, held}
use Rattle.copy_variants.specs.Visible.{seen_by}
use Rattle.copy_variants.specs.Variants.{seen_in, most_copied}
use Rattle.copy_plan.proofs.Written.{copy-accepted, copy-rules}
use Rattle.copy_rows.specs.Table.{seen_at, SeenColumn}
use Rattle.label_annotate.specs.Annotated.{Annotatable, Annotated}
use Rattle.label_annotate.proofs.Rules.{sound-annotatable}
use Rattle.copy_write.specs.Write.{Copyable, CopyPut, CopyWritten}
use Rattle.copy.specs.Copy.{Copies}
use Rattle.copy.specs.Made.{Makeable}

bit-one : (b : Bool) → eqb (cond b 1 0) 1 ≡ b
bit-one true = refl
bit-one false = refl

module _ {s : List ℕ} {rows : List LabelRow} {n start : ℕ} {work out : List ℕ} (K : Makeable s rows n start work out) where
  pub arrangeable : Arrangeable s n work
  arrangeable = record { start = start; accepted = K.accepted; room = enough-room n work K.enough }

  plan : Plan most_rules s n start
  plan = checked-plan s n start K.accepted

  -- the rules are in the rows
  module _ {t : List ℕ} (a : Arranged (rules_of s) n work t) where
    rows-held : Held s n start t
    rows-held = held (loaded s work (checked s) n start K.accepted (itself s) K.enough a) refl

    pub annotatable : Annotatable rows n t
    annotatable =
        let room : work_length * n ≤ length t = rows-held.room in
        sound-annotatable (rules_of s) rows n t a.rows (rank (rules_of s)) plan.sound plan.rules K.sound (omega arith)

    -- the words tell what may be seen of them
    module _ (class : ℕ) {u : List ℕ} (w : Annotated rows class n t u) where
      same-rules : first_rules u n ≡ rules_of s
      same-rules = rules-besides w.besides (omega arith) ∙ rows-held.rules

      column : SeenColumn (seen_by rows class) u n
      unfolding seen_at
      column r below =
          ap (λ (k : ℕ). eqb k 1) (w.seen r below)
          ∙ bit-one (seen_in (seen_by rows class) (rule_in t r))
          ∙ ap (seen_in (seen_by rows class)) (sym (besides-rule w.besides (omega arith) r))

      pub copyable : Copyable n start u out
      copyable =
          let l : length u ≡ length t = w.besides.beyond.same_length in
          record {
            ready = ready-besides w.besides (omega arith) rows-held.ready;
            few = K.few;
            words = omega (arith, rows-held.words);
            rank = rank (rules_of s);
            sound = subst (λ (R : List Rule). Sound R (rank (rules_of s))) (sym same-rules) plan.sound;
            ends = subst (λ (R : List Rule). Closed R start) (sym same-rules) plan.ends;
            visible = seen_by rows class;
            column = column;
            space = K.space;
          }

      -- the copy of the rows is written
      pub made : {x : Result ℕ Refusal} {z out' : List ℕ} → CopyWritten n start u out x z out' → Copies s rows class n start work z out out' x
      made {x} {z} {out'} c =
          let p : CopyPut (seen_by rows class) (rules_of s) start out x out' = rw same-rules at (c.copies (seen_by rows class) column) in
          let few : length (rules_of s) ≤ most_copied = rw plan.rules K.few in
          let frame : Within 0 (work_length * n) work u = within_both a.within (beyond-work n w.besides.beyond) in
          record {
            rules = p.rules;
            top = p.top;
            copied = p.copied;
            accepts = copy-accepted p.copied few;
            reads = copy-rules p.copied few;
            answer = p.answer;
            writes = p.writes;
            clears = c.clears ∙ cleared-same (within_wider 0 (word_length * work_words n) (omega arith) (work-least n) frame);
          }
