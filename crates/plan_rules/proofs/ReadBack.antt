-- Records whose words fit are read back from their bytes as they were, and so are the rules that they were made from. Assumes nothing.
use Prim.Native.Nat.{ℕ, suc, ◌+◌, ◌/◌, ◌^◌, ◌≤◌, ◌<◌}
use native.Mathlib.Omega.{arith}
use mathlib.Core.Bool.{◌&&◌}
use mathlib.Core.List.{List, [], ◌∷◌, ◌++◌, map}
use mathlib.Core.Path.{◌≡◌, refl, ap, ap₂, ◌∙◌}
use lib.Dec.{T, ltb, leb→le, ltb→lt}
use lib.ListN.{length}
use Rattle.words.specs.Number.{bytes, base}
use Rattle.words.proofs.Laws.{number-bytes}
use Rattle.record.specs.declared.Format.{Format}
use Rattle.record.specs.declared.Record.{Record}
use Rattle.record.specs.Format.{word_length, high_length, length_of_record, most_label}
use Rattle.record.specs.Record.{record_at, record_bytes}
use Rattle.record.specs.Records.{records_from, records_bytes}
use Rattle.record.proofs.Records.{records-after}
use Rattle.record.proofs.RecordBytes.{length-record_bytes}
use Rattle.rule.specs.declared.Rule.{Rule}
use Rattle.rule.specs.Rule.{high_part, encode, every, labelled_to, rule_of, rules_in}
use Rattle.rule.specs.Sound.{rule}
use Rattle.rule.proofs.Decode.{decode-encode}
use Rattle.rule.proofs.Names.{T-left, T-right}

-- a record whose words fit into the format's bytes
pub record Small (f : Format) (w : Record) : Type 0 where
  pub kind : w.kind < base ^ word_length
  pub one : w.one < base ^ word_length
  pub two : w.two < base ^ word_length
  pub three : w.three < base ^ word_length
  pub high : w.high < base ^ high_length f

pub record-back : (f : Format) (w : Record) (rest : List ℕ) → Small f w → record_at f (record_bytes f w ++ rest) 0 ≡ w
unfolding record_at record_bytes bytes
record-back f w rest s = λ i.
    record {
      kind = number-bytes word_length w.kind [] (bytes word_length w.one ++ (bytes word_length w.two ++ (bytes word_length w.three ++ (bytes (high_length f) w.high ++ rest)))) 0 refl s.kind i;
      one = number-bytes word_length w.one (bytes word_length w.kind) (bytes word_length w.two ++ (bytes word_length w.three ++ (bytes (high_length f) w.high ++ rest))) 2 refl s.one i;
      two = number-bytes word_length w.two (bytes word_length w.kind ++ bytes word_length w.one) (bytes word_length w.three ++ (bytes (high_length f) w.high ++ rest)) 4 refl s.two i;
      three = number-bytes word_length w.three (bytes word_length w.kind ++ (bytes word_length w.one ++ bytes word_length w.two)) (bytes (high_length f) w.high ++ rest) 6 refl s.three i;
      high = number-bytes (high_length f) w.high (bytes word_length w.kind ++ (bytes word_length w.one ++ (bytes word_length w.two ++ bytes word_length w.three))) rest 8 refl s.high i;
    }

-- every record of a list is small
pub data AllSmall (f : Format) : List Record → Type 0 where
  none : AllSmall f []
  more : {w : Record} {ws : List Record} → Small f w → AllSmall f ws → AllSmall f (w ∷ ws)

pub records-back : (f : Format) {ws : List Record} → AllSmall f ws → records_from f (records_bytes f ws) 0 (length ws) ≡ ws
unfolding records_from records_bytes
records-back f AllSmall.none = refl
records-back f (AllSmall.more {w} {ws} s all) =
    ap₂ ◌∷◌ (record-back f w (records_bytes f ws) s)
    (ap (λ (k : ℕ). records_from f (record_bytes f w ++ records_bytes f ws) k (length ws)) (let e : 0 + length_of_record f ≡ length (record_bytes f w) + 0 = omega (arith, length-record_bytes f w) in e)
    ∙ records-after f (record_bytes f w) (records_bytes f ws) 0 (length ws)
    ∙ records-back f all)

-- the words of a rule that names rules below 65,536 and has a label of the format
high_small : (f : Format) (a : ℕ) → a ≤ most_label f → a / high_part < base ^ high_length f
unfolding most_label high_length
high_small Format.Narrow a l = omega (arith, l)
high_small Format.Wide a l = omega (arith, l)

none-small : (f : Format) → 0 < base ^ high_length f
unfolding high_length
none-small Format.Narrow = omega arith
none-small Format.Wide = omega arith

two-small : (b c : ℕ) → T (ltb b 65536 && ltb c 65536) → (b < 65536) × (c < 65536)
two-small b c e = (ltb→lt b 65536 (T-left (ltb b 65536) (ltb c 65536) e), ltb→lt c 65536 (T-right (ltb b 65536) (ltb c 65536) e))

pub encode-small : (f : Format) (x : Rule) → T (labelled_to (most_label f) x) → T (every (λ k. ltb k 65536) x) → Small f (encode x)
unfolding encode labelled_to every
encode-small f Rule.Empty l e = record { kind = omega arith; one = omega arith; two = omega arith; three = omega arith; high = none-small f }
encode-small f (Rule.Pair b c) l e = let (p, q) = two-small b c e in record { kind = omega arith; one = p; two = q; three = omega arith; high = none-small f }
encode-small f (Rule.Node a c) l e =
    record { kind = omega arith; one = omega arith; two = ltb→lt c 65536 e; three = omega arith; high = high_small f a (leb→le a (most_label f) l) }
encode-small f (Rule.Fill b c) l e = let (p, q) = two-small b c e in record { kind = omega arith; one = p; two = q; three = omega arith; high = none-small f }
encode-small f (Rule.Part a b c) l e =
    let (p, q) = two-small b c e in record { kind = omega arith; one = omega arith; two = p; three = q; high = high_small f a (leb→le a (most_label f) l) }
encode-small f (Rule.Join b c) l e = let (p, q) = two-small b c e in record { kind = omega arith; one = p; two = q; three = omega arith; high = none-small f }

module _ (f : Format) where
  pub encodes-small : (C : List Rule) → ((r : ℕ) → r < length C → T (labelled_to (most_label f) (rule C r))) → ((r : ℕ) → r < length C → T (every (λ k. ltb k 65536) (rule C r))) → AllSmall f (map encode C)
  unfolding rule
  encodes-small [] l e = AllSmall.none
  encodes-small (x ∷ C) l e =
      AllSmall.more (encode-small f x (l 0 (omega arith)) (e 0 (omega arith))) (encodes-small C (λ r h. l (suc r) (omega (arith, h))) (λ r h. e (suc r) (omega (arith, h))))

  pub rules-back : (C : List Rule) → ((r : ℕ) → r < length C → T (labelled_to (most_label f) (rule C r))) → rules_in f (map encode C) ≡ C
  unfolding rules_in rule rule_of
  rules-back [] l = refl
  rules-back (x ∷ C) l = ap₂ ◌∷◌ (ap rule_of (decode-encode f x (l 0 (omega arith)))) (rules-back C (λ r h. l (suc r) (omega (arith, h))))
