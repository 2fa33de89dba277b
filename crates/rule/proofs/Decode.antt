-- A record and the rule that it means determine each other: the table of kinds is read both ways, kind by kind.
-- A record that means a rule passes its kind's tests, so each word that the rule doesn't hold is 0. All over the format. Assumes nothing.
use Rattle.std.specs.Prelude.{Option, Some}
use Prim.Native.Nat.{ℕ, ◌*◌, ◌+◌, ◌/◌, ◌%◌, ◌≤◌, ◌<◌}
use mathlib.Core.Bool.{Bool, true, false, cond, ◌&&◌, and-eq-true_iff}
use mathlib.Core.Path.{◌≡◌, refl, sym, ap, subst}
use native.Mathlib.Omega.{arith}
use lib.Dec.{T, leb, eqb, leb→le, le→leb}
use borrow.Author.Tests.{le-leb, eqb-true}
use Rattle.record.specs.declared.Format.{Format}
use Rattle.record.specs.declared.Record.{Record}
use Rattle.record.specs.Format.{most_label}
use Rattle.record.proofs.Formats.{label-most}
use Rattle.rule.specs.declared.Rule.{Rule}
use Rattle.rule.specs.Rule.{largest_label, high_part, label_in, kind_empty, kind_pair, kind_node, kind_fill, kind_part, kind_join, whole, decode, encode, labelled_to, labelled}

-- a label from its two words, and its two words from it
label-split : (a : ℕ) → a % high_part + high_part * (a / high_part) ≡ a
label-split a = omega arith

low_word : (a b : ℕ) → a < high_part → (a + high_part * b) % high_part ≡ a
low_word a b l = omega arith

high_word : (a b : ℕ) → a < high_part → (a + high_part * b) / high_part ≡ b
high_word a b l = omega arith

module _ (f : Format) where
  -- the rule of a rule's record is the rule
  pub decode-encode : (r : Rule) → T (labelled_to (most_label f) r) → decode f (encode r) ≡ Some r
  unfolding decode encode labelled_to whole label_in
  decode-encode Rule.Empty h = refl
  decode-encode (Rule.Pair b c) h = refl
  decode-encode (Rule.Node a c) h = rw (label-split a, le-leb a (most_label f) (leb→le a (most_label f) h))
  decode-encode (Rule.Fill b c) h = refl
  decode-encode (Rule.Part a l r) h = rw (label-split a, le-leb a (most_label f) (leb→le a (most_label f) h))
  decode-encode (Rule.Join b c) h = refl

  -- a record w means the rule r
  pub record Means (w : Record) (r : Rule) : Type 0 where
    pub kind : (encode r).kind ≡ w.kind
    pub same : w.one < high_part → encode r ≡ w
    pub labels : T (labelled_to (most_label f) r)

words : (w : Record) {k a b c d : ℕ} → w.kind ≡ k → w.one ≡ a → w.two ≡ b → w.three ≡ c → w.high ≡ d → record { kind = k; one = a; two = b; three = c; high = d } ≡ w
words w p q s t u = λ i. record { kind = sym p i; one = sym q i; two = sym s i; three = sym t i; high = sym u i }

is-test : {b : Bool} → b ≡ true → T b
is-test e = subst T (sym e) tt

-- a higher bound
labelled-more : (r : Rule) (m n : ℕ) → m ≤ n → T (labelled_to m r) → T (labelled_to n r)
unfolding labelled_to
labelled-more Rule.Empty m n l h = tt
labelled-more (Rule.Pair b c) m n l h = tt
labelled-more (Rule.Node a c) m n l h = let s = leb→le a m h in le→leb a n (omega arith)
labelled-more (Rule.Fill b c) m n l h = tt
labelled-more (Rule.Part a b c) m n l h = let s = leb→le a m h in le→leb a n (omega arith)
labelled-more (Rule.Join b c) m n l h = tt

-- a kind's row of the table: its tests passed, and its rule has this record
module _ (f : Format) where
  row : (w : Record) (r : Rule) (b : Bool) (q : Rule) → (b ≡ true → Means f w q) → whole b q ≡ Some r → Means f w r
  unfolding whole
  row w r true q g h = subst (λ (x : Rule). Means f w x) (cc) (g refl)
  row w r false q g h = let z : ◌≡◌ {A = ℕ} 0 1 = cc in absurd (omega arith)

  -- the table is searched from kind 0 up
  searched : (w : Record) (r : Rule) (k : ℕ) (x y : Option Rule)
      → (w.kind ≡ k → x ≡ Some r → Means f w r)
      → (y ≡ Some r → Means f w r)
      → cond (eqb w.kind k) x y ≡ Some r
      → Means f w r
  searched w r k x y here later = by (eqb w.kind k) (λ e. here (eqb-true _ _ e))
    where
      by : (b : Bool) → (b ≡ true → x ≡ Some r → Means f w r) → cond b x y ≡ Some r → Means f w r
      by true g h = g refl h
      by false g h = later h

  -- kinds with two named rules in words 1 and 2
  pairwise : (w : Record) → (eqb w.three 0 && eqb w.high 0) ≡ true → (w.three ≡ 0) × (w.high ≡ 0)
  pairwise w t = let u = (and-eq-true_iff (eqb w.three 0) (eqb w.high 0)).0 t in (eqb-true _ _ u.0, eqb-true _ _ u.1)

  -- a record that decodes has its rule's words, and a label in range
  pub decode-means : (w : Record) (r : Rule) → decode f w ≡ Some r → Means f w r
  unfolding decode encode labelled_to label_in
  decode-means w r =
      searched w r kind_empty _ _
      (λ k. row w r (eqb w.one 0 && eqb w.two 0 && eqb w.three 0 && eqb w.high 0) Rule.Empty λ t.
      let s = (and-eq-true_iff (eqb w.one 0 && eqb w.two 0 && eqb w.three 0) (eqb w.high 0)).0 t in
      let u = (and-eq-true_iff (eqb w.one 0 && eqb w.two 0) (eqb w.three 0)).0 s.0 in
      let v = (and-eq-true_iff (eqb w.one 0) (eqb w.two 0)).0 u.0 in
      record { kind = sym k; same = λ l. words w k (eqb-true _ _ v.0) (eqb-true _ _ v.1) (eqb-true _ _ u.1) (eqb-true _ _ s.1); labels = tt })
      (searched w r kind_pair _ _
      (λ k. row w r (eqb w.three 0 && eqb w.high 0) (Rule.Pair w.one w.two) λ t.
      let u = pairwise w t in record { kind = sym k; same = λ l. words w k refl refl u.0 u.1; labels = tt })
      (searched w r kind_node _ _
      (λ k. row w r (leb (label_in w) (most_label f) && eqb w.three 0) (Rule.Node (label_in w) w.two) λ t.
      let u = (and-eq-true_iff (leb (label_in w) (most_label f)) (eqb w.three 0)).0 t in
      record {
        kind = sym k;
        same = λ l. words w k (sym (low_word w.one w.high l)) refl (eqb-true _ _ u.1) (sym (high_word w.one w.high l));
        labels = is-test u.0;
      })
      (searched w r kind_fill _ _
      (λ k. row w r (eqb w.three 0 && eqb w.high 0) (Rule.Fill w.one w.two) λ t.
      let u = pairwise w t in record { kind = sym k; same = λ l. words w k refl refl u.0 u.1; labels = tt })
      (searched w r kind_part _ _
      (λ k. row w r (leb (label_in w) (most_label f)) (Rule.Part (label_in w) w.two w.three) λ t.
      record {
        kind = sym k;
        same = λ l. words w k (sym (low_word w.one w.high l)) refl refl (sym (high_word w.one w.high l));
        labels = is-test t;
      })
      (searched w r kind_join _ _
      (λ k. row w r (eqb w.three 0 && eqb w.high 0) (Rule.Join w.one w.two) λ t.
      let u = pairwise w t in record { kind = sym k; same = λ l. words w k refl refl u.0 u.1; labels = tt })
      (λ h. let z : ◌≡◌ {A = ℕ} 0 1 = cc in absurd (omega arith)))))))

  -- of 16-bit words
  pub encode-decode : (w : Record) (r : Rule) → w.one < high_part → decode f w ≡ Some r → encode r ≡ w
  encode-decode w r l h = (decode-means w r h).same l

  pub decode-labelled_to : (w : Record) (r : Rule) → decode f w ≡ Some r → T (labelled_to (most_label f) r)
  decode-labelled_to w r h = (decode-means w r h).labels

  pub decode-labelled : (w : Record) (r : Rule) → decode f w ≡ Some r → T (labelled r)
  unfolding labelled
  decode-labelled w r h = labelled-more r (most_label f) largest_label (label-most f) (decode-labelled_to w r h)

  pub decode-kind : (w : Record) (r : Rule) → decode f w ≡ Some r → (encode r).kind ≡ w.kind
  decode-kind w r h = (decode-means w r h).kind
