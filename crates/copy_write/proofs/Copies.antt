-- The rows with their variants are a table of the variants of sound rules, so both passes may run over them and what they write are the
-- rules of a copy; with the trailer behind them these are the copy's bytes. Assumes nothing.
use Rattle.std.specs.Prelude.{Ok}
use Prim.Native.Nat.{ℕ, ◌+◌, ◌*◌, ◌≤◌, ◌<◌}
use native.Mathlib.Omega.{arith}
use mathlib.Core.Bool.{Bool}
use mathlib.Core.List.{List, ◌++◌, map}
use mathlib.Core.Path.{◌≡◌, sym, ap, subst, ◌∙◌}
use lib.ListN.{length, take, drop, get_or, length-map}
use Rattle.words.specs.Front.{in_front}
use Rattle.words.proofs.Front.{in_front-more}
use Rattle.record.specs.declared.Format.{Format}
use Rattle.record.specs.Format.{word_length, high_length, length_of_record}
use Rattle.record.specs.Records.{records_bytes}
use Rattle.record.proofs.RecordBytes.{length-records_bytes}
use Rattle.rule.specs.declared.Rule.{Rule}
use Rattle.rule.specs.Rule.{encode}
use Rattle.rule.specs.Sound.{rule, Sound, Closed}
use Rattle.plan.specs.Check.{trailer_length, trailer_bytes, plan_bytes}
use Rattle.plan.proofs.TrailerBytes.{length-trailer_bytes}
use Rattle.forest.specs.Outcome.{work_words, cleared}
use Rattle.forest.proofs.Unfold.{named-below}
use Rattle.work_rows.specs.Rows.{work_length, rule_in, first_rules, Within}
use Rattle.work_rows.specs.Order.{order_end, order_in}
use Rattle.work_rows.proofs.Rows.{within_both, within_wider}
use Rattle.work_rows.proofs.Kept.{first-length, first-rule}
use Rattle.work_rows.proofs.Work.{work-least, cleared-same, beyond-work}
use Rattle.count_passes.specs.Tally.{Ready}
use Rattle.count_passes.proofs.Ordered.{ready-besides, rules-besides, order-besides}
use Rattle.copy_variants.specs.declared.Variants.{Variants}
use Rattle.copy_variants.specs.Variants.{seen_in, variants_from, Varied, variants, variant_rules, threefold, whole_name}
use Rattle.copy_variants.proofs.Table.{from-same, varied}
use Rattle.copy_variants.proofs.Fit.{variants-sound}
use Rattle.copy_passes.specs.Passes.{Placing, copy_rules, copy_start}
use Rattle.copy_passes.specs.Copied.{Copied}
use Rattle.copy_passes.proofs.ThreePasses.{orders-placing, variants-placing, three-passes}
use Rattle.copy_plan.specs.Bytes.{copy_room, copy_bytes}
use Rattle.copy_plan.proofs.Written.{copy-length}
use Rattle.copy_rows.specs.Table.{seen_at, variants_at, SeenColumn, Recurs, VariedRows}
use Rattle.copy_marks.specs.Marks.{marks_end, number_in, variants_in, places_in, Markable, OnlyMarks, Marked}
use Rattle.copy_marks.specs.Written.{wide_bytes, Writable, Written as Records}
use Rattle.copy_marks.proofs.Marks.{kept-markable}
use Rattle.copy_marks.proofs.BothPasses.{both-passes}
use Rattle.copy_write.specs.Write.{Copyable, CopyPut, CopyWritten}

-- the trailer written behind the rules
behind-rules : (C : List Rule) (top : ℕ) (out : List ℕ)
    → take (length_of_record Format.Wide * length C) (in_front (wide_bytes C) out)
    ++ (trailer_bytes Format.Wide (length C) top ++ drop (length_of_record Format.Wide * length C + trailer_length) (in_front (wide_bytes C) out))
    ≡ in_front (copy_bytes C top) out
unfolding copy_bytes plan_bytes
behind-rules C top out =
    let l : length (map encode C) ≡ length C = length-map C encode in
    in_front-more (wide_bytes C) out (trailer_bytes Format.Wide (length C) top) (length_of_record Format.Wide * length C) trailer_length
    (length-records_bytes Format.Wide (map encode C) ∙ ap (λ (k : ℕ). length_of_record Format.Wide * k) l)
    (length-trailer_bytes Format.Wide (length C) top)
    ∙ rw l

module _ {n start : ℕ} {s out : List ℕ} (K : Copyable n start s out) {t : List ℕ} (X : VariedRows n s t) where
  abbrev R : List Rule
  R = first_rules s n

  long : length R ≡ n
  long = first-length s n

  -- the rows are a table of variants
  recurs : (v : ℕ → Bool) → SeenColumn v s n → Recurs s n (variants v R)
  recurs v column r below =
      varied v K.sound r (rw long below)
      ∙ ap (λ (x : Rule). variants_from (seen_in v x) r x (variants v R)) (first-rule s n r below)
      ∙ ap (λ (b : Bool). variants_from b r (rule_in s r) (variants v R)) (sym (column r below))

  made : (v : ℕ → Bool) → SeenColumn v s n → Varied v R (variants_at t)
  made v column r below =
      let h : (k : ℕ) → k < length R → variants_at t k ≡ variants v R k = λ k l. X.table (variants v R) (recurs v column) k (rw long at l) in
      h r below
      ∙ varied v K.sound r below
      ∙ from-same (seen_in v (rule R r)) r (rule R r) (variants v R) (variants_at t) (λ k m. sym (h k (named-below K.sound r k below m)))

  -- both passes may run over them
  pub markable : Markable t n
  markable =
      let e : length t ≡ length s = X.besides.beyond.same_length in
      let room : work_length * n ≤ word_length * work_words n = work-least n in
      let S : Sound (variant_rules (variants_at t) (length R)) (threefold K.rank) = variants-sound K.visible K.sound (variants_at t) (made K.visible K.column) in
      record {
        ready = ready-besides X.besides (omega arith) K.ready;
        few = K.few;
        room = omega (arith, K.words);
        ranged = rw long at S.in_range;
      }

  pub start-below : start < n
  start-below = let l : start < length R = K.ends.below in omega (arith, long)

  abbrev order : ℕ → ℕ
  order i = get_or (order_in t n) i 0

  -- the order of the rules, after the rows were given their variants
  placing : Placing R order K.ready.order.place
  placing = subst (λ (o : List ℕ). Placing R (λ i. get_or o i 0) K.ready.order.place) (sym (order-besides X.besides)) (orders-placing K.ready.order)

  -- the rules of the copy, and its start
  abbrev pub copy : List Rule
  copy = copy_rules (variants_at t) n order K.ready.order.place start

  abbrev pub copy_top : ℕ
  copy_top = copy_start (variants_at t) n order K.ready.order.place start

  pub copied : (v : ℕ → Bool) → SeenColumn v s n → Copied v R start copy copy_top
  copied v column = rw long at (three-passes v K.sound placing (variants_at t) (made v column) start K.ends)

  variant-places : Placing (variants_in t n) (places_in t n) (threefold K.ready.order.place)
  variant-places = rw long at (variants-placing K.visible K.sound placing (variants_at t) (made K.visible K.column))

  -- both passes
  module _ {u w out' : List ℕ} {m whole : ℕ} (same : whole ≡ whole_name start) (marked : Marked n whole t u) (P : Records n u out m w out') where
    M : Marked n (whole_name start) t u
    M = rw same at marked

    pub passed : (out' ≡ in_front (wide_bytes copy) out) × (m ≡ length copy) × (number_in w n (whole_name start) ≡ copy_top)
    passed = both-passes K.ready.order.place variant-places M P start-below

    -- the copy has room, and the trailer behind it
    pub few-rules : m ≤ 3 * n
    few-rules = let f : length copy ≤ 3 * length R = (copied K.visible K.column).few in let e : m ≡ length copy = passed.1 in omega (arith, long)

    -- what all that leaves: the bytes of the copy, and the work cleared
    pub finished : {top : ℕ} {z out'' : List ℕ} → top ≡ number_in w n whole
        → out'' ≡ take (length_of_record Format.Wide * m) out' ++ (trailer_bytes Format.Wide m top ++ drop (length_of_record Format.Wide * m + trailer_length) out')
        → z ≡ cleared (word_length * work_words n) w → CopyWritten n start s out (Ok (10 * m + trailer_length)) z out''
    finished {top} {z} {out''} e p q =
        let (front, counted, numbered) = passed in
        let frame : Within 0 (work_length * n) s w
        = within_both (beyond-work n X.besides.beyond) (within_wider 0 (work_length * n) (omega arith) (omega arith) (within_both M.only P.only)) in
        record {
          copies = λ v column.
              let c : Copied v R start copy copy_top = copied v column in
              record {
                rules = copy;
                top = copy_top;
                copied = c;
                answer = ap Ok (omega (arith, copy-length c (rw long K.few)));
                writes = rw (p, front, e, same, numbered, counted) (behind-rules copy copy_top out);
              };
          clears = q ∙ cleared-same (within_wider 0 (word_length * work_words n) (omega arith) (work-least n) frame);
        }
