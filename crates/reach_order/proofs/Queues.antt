-- The search with a queue. Assumes nothing.
use Rattle.std.specs.Prelude.{None, Some}
use Prim.Native.Nat.{ℕ, suc, ◌+◌, ◌*◌, ◌≤◌, ◌<◌}
use native.Mathlib.Omega.{arith}
use native.Mathlib.Numerals.{add-one}
use native.Mathlib.Decide.{ℕ_discrete, dec_lt}
use mathlib.Core.Bool.{Bool, true, false, false≢true}
use mathlib.Core.Logic.{inl, inr, ⊎_elim}
use Rattle.std.specs.Prelude.{Some}
use mathlib.Core.Path.{◌≡◌, refl, sym, ap, ◌∙◌}
use mathlib.Core.List.{List}
use lib.ListN.{length}
use lib.Dec.{ltb}
use borrow.Table.Steps.{cases}
use Rattle.record.specs.declared.Format.{Format}
use Rattle.words.specs.Number.{number}
use Rattle.words.specs.Front.{cleared}
use Rattle.words.specs.Within.{Within}
use Rattle.words.proofs.Within.{within_both, within_wider, within-cleared, cleared-number}
use Rattle.rule.specs.declared.Rule.{Rule}
use Rattle.rule.specs.Names.{Names}
use Rattle.rule.specs.Sound.{rule}
use Rattle.reach.specs.Reaches.{Reaches, named, reaches, lowest_cycle}
use Rattle.reach.specs.Order.{count}
use Rattle.reach.proofs.Counting.{up_to, count_none, count_most, count-below, count-more}
use Rattle.reach.proofs.Building.{stands_same}
use Rattle.reach.proofs.Lowest.{NoneBelow, none_more, lowest-some}
use Rattle.reach.proofs.Named.{names-below}
use Rattle.reach.proofs.Steps.{reaches-closed, reaches-from, reaches-below, reaches-extend, reaches-exact, named-below}
use Rattle.reach_order.specs.Named.{Named, names_of, In}
use Rattle.reach_order.specs.Room.{rules_at, mark_in, front_in, Ready, Placed}
use Rattle.reach_order.specs.Search.{unseen, opened, seen, Cyclic}
use Rattle.reach_order.specs.Queue.{Listable, Listed, Following}
use Rattle.reach_order.proofs.Finding.{names-exact}
use Rattle.reach_order.proofs.Placing.{ready-kept}
use Rattle.reach_order.proofs.Turns.{rules-length, grown-none, grown-both, placed-grown}

-- one of two rules
one_of : {a b k : ℕ} → In (Some (a, b)) k → (P : ℕ → Type 0) → P a → P b → P k
unfolding In
one_of i P p q = ⊎_elim (λ e. rw e p) (λ e. rw e q) i

first_of : (a b : ℕ) → In (Some (a, b)) a
unfolding In
first_of a b = inl refl

second-of : (a b : ℕ) → In (Some (a, b)) b
unfolding In
second-of a b = inr refl

-- one rule
module _ {n m k : ℕ} {t : List ℕ} (a : Listable (Some (k, k)) n m t) where
  pub listed_below : k < n
  listed_below = a.below k (first_of k k)

  pub listed-room : mark_in t k ≡ unseen → m < n
  listed-room e = rw a.counted at (count-below n (seen (mark_in t)) k listed_below (λ h. false≢true (sym (ap (λ (v : ℕ). ltb 0 v) e) ∙ h)))

  pub listed-seen : (mark_in t k ≡ unseen → ⊥) → Listed (Some (k, k)) n m m t t
  listed-seen ne = record {
    grown = grown-none n t;
    more = omega arith;
    counted = a.counted;
    kept = λ j l. refl;
    new = λ j g l. absurd (omega arith);
    queued = λ r l p q. absurd (p q);
    all = λ r i. one_of i (λ x. mark_in t x ≡ unseen → ⊥) ne ne;
  }

  pub listed-new : mark_in t k ≡ unseen → {u : List ℕ} → Placed n k opened (2 * n + 2 * m) t u → Listed (Some (k, k)) n m (m + 1) t u
  unfolding front_in
  listed-new e {u} p =
      let room : m < n = listed-room e in
      let own : mark_in u k ≡ unseen → ⊥ = λ z. omega (arith, p.own) in
      record {
        grown = placed-grown p;
        more = omega arith;
        counted =
            count-more n (seen (mark_in t)) (seen (mark_in u)) k listed_below (ap (λ (v : ℕ). ltb 0 v) e) (ap (λ (v : ℕ). ltb 0 v) p.own)
            (λ i l ne. ap (λ (v : ℕ). ltb 0 v) (p.others i l ne))
            ∙ ap suc a.counted
            ∙ sym (add-one m);
        kept = λ j l. p.words (2 * n + 2 * j) (omega arith) (λ h. absurd (omega arith));
        new = λ j g l. let q : j ≡ m = omega arith in rw (q, p.word) (first_of k k);
        queued = λ r l ne z.
            elim (ℕ_discrete r k) [
              | yes q ↦ (m, omega arith, p.word ∙ sym q)
              | no q ↦ absurd (ne (p.others r l q ∙ z))
            ];
        all = λ r i. one_of i (λ x. mark_in u x ≡ unseen → ⊥) own own;
      }

-- two rules
pub listable-one : {n m a b : ℕ} {t : List ℕ} {d : Named} → d ≡ Some (a, b) → Listable d n m t → Listable (Some (a, a)) n m t
listable-one {n} {m} {a} {b} e z = record {
  below = λ k i. let l : a < n = z.below a (rw e (first_of a b)) in one_of i (λ x. x < n) l l;
  fits = z.fits;
  counted = z.counted;
}

pub listable-two : {n m x a b : ℕ} {t u : List ℕ} {d : Named} → d ≡ Some (a, b) → Listable d n m t → Listed (Some (a, a)) n m x t u → Listable (Some (b, b)) n x u
listable-two {n} {m} {x} {a} {b} e z h = record {
  below = λ k i. let l : b < n = z.below b (rw e (second-of a b)) in one_of i (λ x. x < n) l l;
  fits = let l = h.grown.within.same_length in omega (arith, z.fits);
  counted = h.counted;
}

pub listed-none : {n m : ℕ} {t : List ℕ} {d : Named} → d ≡ None → Listable d n m t → Listed d n m m t t
unfolding In
listed-none {n} {m} {t} e z = rw e (record {
  grown = grown-none n t;
  more = omega arith;
  counted = z.counted;
  kept = λ j l. refl;
  new = λ j g l. absurd (omega arith);
  queued = λ r l p q. absurd (p q);
  all = λ r i. absurd i;
})

-- one of the two, where both are the same
into : (d : Named) (c k : ℕ) → In d c → In (Some (c, c)) k → In d k
into d c k h i = one_of i (In d) h h

pub listed-both : {n m x y a b : ℕ} {t u v : List ℕ} {d : Named} → d ≡ Some (a, b) → Listable d n m t → Listed (Some (a, a)) n m x t u → Listed (Some (b, b)) n x y u v
    → Listed d n m y t v
listed-both {n} {m} {x} {y} {a} {b} {t} {u} {v} e c p q = rw e (record {
  grown = grown-both p.grown q.grown;
  more = omega (arith, p.more, q.more);
  counted = q.counted;
  kept = λ j l. q.kept j (omega (arith, p.more)) ∙ p.kept j l;
  new = λ j g l.
      elim (dec_lt j x) [
        | yes h ↦ rw (q.kept j h) (into (Some (a, b)) a _ (first_of a b) (p.new j g h))
        | no h ↦ into (Some (a, b)) b _ (second-of a b) (q.new j (omega arith) l)
      ];
  queued = λ k l ne z.
      elim (ℕ_discrete (mark_in u k) unseen) [
        | yes w ↦ q.queued k l ne w
        | no w ↦ stands_same (front_in n u) (front_in n v) x y k q.more q.kept (p.queued k l w z)
      ];
  all = λ k i.
      one_of i (λ y. mark_in v y ≡ unseen → ⊥)
      (λ z. p.all a (first_of a a) (q.grown.saw a (c.below a (rw e (first_of a b))) z)) (q.all b (first_of b b));
})

-- the rules that rule r names
module _ {format : Format} {s : List ℕ} {first n r : ℕ} {t : List ℕ} {d : Named} (a : Ready format s first n t) (below : r < n) (found : d ≡ names_of (rule (rules_at format s first n) r)) where
  abbrev R : List Rule
  R = rules_at format s first n

  pub read_names : (k : ℕ) → In d k → Names (rule R r) k
  read_names k i = (names-exact (rule R r) k).1 (rw found at i)

  pub read_all : (k : ℕ) → Names (rule R r) k → In d k
  read_all k h = rw found ((names-exact (rule R r) k).0 h)

  pub read-lists : {m : ℕ} → count (seen (mark_in t)) n ≡ m → Listable d n m t
  read-lists e = record {
    below = λ k i. omega (arith, named-below R a.ranged r k (read_names k i), rules-length format s first n);
    fits = a.fits;
    counted = e;
  }

  -- the search begins with the rules that it names
  pub follow-begins : {x : ℕ} {u : List ℕ} → ((k : ℕ) → k < n → mark_in t k ≡ unseen) → Listed d n 0 x t u → Following R n r u x 0
  follow-begins blank h = record {
    far = omega arith;
    counted = h.counted;
    reached = λ j l. named (read_names _ (h.new j (omega arith) l));
    queued = λ k l ne. h.queued k l ne (blank k l);
    named = λ k g. h.all k (read_all k g);
    passed = λ j l. absurd (omega arith);
    closed = λ j k l. absurd (omega arith);
  }

-- the search goes on with the rule r that was taken
module _ {format : Format} {s : List ℕ} {first n i m taken : ℕ} {t : List ℕ} (a : Ready format s first n t) (f : Following (rules_at format s first n) n i t m taken) where
  pub follow-room : m ≤ n
  follow-room = omega (arith, f.counted, count_most n (seen (mark_in t)))

  module _ {r : ℕ} (Some : taken < m) (read : r ≡ number 2 t (2 * n + 2 * taken)) where
    taken_is : front_in n t taken ≡ r
    unfolding front_in
    taken_is = sym read

    taken-reached : Reaches (rules_at format s first n) i r
    taken-reached = rw taken_is at (f.reached taken Some)

    pub taken-below : r < n
    taken-below = omega (arith, reaches-below a.ranged taken-reached, rules-length format s first n)

    -- it is rule i
    pub follow-finds : r ≡ i → true ≡ reaches (rules_at format s first n) i i
    follow-finds e = sym ((reaches-exact (rules_at format s first n) a.ranged i i).1 (rw e at taken-reached))

    -- it isn't
    pub follow-more : {d : Named} {x : ℕ} {u : List ℕ} → (r ≡ i → ⊥) → d ≡ names_of (rule (rules_at format s first n) r) → Listed d n m x t u
        → Following (rules_at format s first n) n i u x (taken + 1)
    follow-more {d} {x} {u} other found h = record {
      far = omega (arith, h.more);
      counted = h.counted;
      reached = λ j l.
          elim (dec_lt j m) [
            | yes g ↦ rw (h.kept j g) (f.reached j g)
            | no g ↦ reaches-extend taken-reached (read_names a taken-below found _ (h.new j (omega arith) l))
          ];
      queued = λ k l ne.
          elim (ℕ_discrete (mark_in t k) unseen) [
            | yes w ↦ h.queued k l ne w
            | no w ↦ stands_same (front_in n t) (front_in n u) m x k h.more h.kept (f.queued k l w)
          ];
      named = λ k g z. f.named k g (stays i k g z);
      passed = λ j l. up_to taken j (omega arith) (λ y. front_in n u y ≡ i → ⊥) (λ b e. f.passed j b (sym (h.kept j (omega arith)) ∙ e))
          (λ e. other (sym taken_is ∙ sym (h.kept taken Some) ∙ e));
      closed = λ j k l. up_to taken j (omega arith) (λ y. Names (rule (rules_at format s first n) (front_in n u y)) k → mark_in u k ≡ unseen → ⊥)
          (λ b g z. f.closed j k b (rw (h.kept j (omega arith)) at g) (stays (front_in n u j) k g z))
          (λ g. h.all k (read_all a taken-below found k (rw (h.kept taken Some, taken_is) at g)));
    }
      where
        stays : (c k : ℕ) → Names (rule (rules_at format s first n) c) k → mark_in u k ≡ unseen → mark_in t k ≡ unseen
        stays c k g z = h.grown.saw k (omega (arith, named-below (rules_at format s first n) a.ranged c k g, rules-length format s first n)) z

  -- no rule is left: all that is reached has been seen
  module _ (past : m ≤ taken) where
    reached-seen : {b : ℕ} → Reaches (rules_at format s first n) i b → mark_in t b ≡ unseen → ⊥
    reached-seen c =
        reaches-closed (λ k. mark_in t k ≡ unseen → ⊥)
        (λ k b ne g. let (j, l, e) = f.queued k (omega (arith, names-below (rules_at format s first n) k b g, rules-length format s first n)) ne in
        f.closed j b (omega arith) (rw e g)) f.named c

    never : Reaches (rules_at format s first n) i i → ⊥
    never c = let (j, l, e) = f.queued i (omega (arith, reaches-from c, rules-length format s first n)) (reached-seen c) in f.passed j (omega arith) e

    pub follow-ends : false ≡ reaches (rules_at format s first n) i i
    follow-ends =
        sym (cases (reaches (rules_at format s first n) i i) (λ q. absurd (never ((reaches-exact (rules_at format s first n) a.ranged i i).0 q))) (λ q. q))

-- the search from rule i begins when the marks are cleared
module _ {format : Format} {s : List ℕ} {first n : ℕ} {t u : List ℕ} (a : Ready format s first n t) (e : u ≡ cleared (2 * n) t) where
  pub marks-within : Within 0 (4 * n) t u
  marks-within =
      let w : Within 0 (2 * n) t u = rw e (within-cleared (2 * n) t (omega (arith, a.fits))) in
      within_wider 0 (4 * n) (omega arith) (omega arith) w

  pub marks-ready : Ready format s first n u
  marks-ready = ready-kept a marks-within

  pub marks-blank : (k : ℕ) → k < n → mark_in u k ≡ unseen
  unfolding mark_in
  marks-blank k l = rw e (cleared-number 2 (2 * n) t (2 * k) (omega arith))

  pub marks-none : count (seen (mark_in u)) n ≡ 0
  marks-none = count_none n (seen (mark_in u)) (λ k l. ap (λ (v : ℕ). ltb 0 v) (marks-blank k l))

-- going up from rule 0
pub record Seeking (format : Format) (s : List ℕ) (first n : ℕ) (t₀ t : List ℕ) (i : ℕ) : Type 0 where
  pub none : NoneBelow (rules_at format s first n) i
  pub ready : Ready format s first n t
  pub within : Within 0 (4 * n) t₀ t

module _ {format : Format} {s : List ℕ} {first n : ℕ} {t₀ t u : List ℕ} {i : ℕ} {x : Bool} (v : Seeking format s first n t₀ t i)
    (h : (x ≡ reaches (rules_at format s first n) i i) × Within 0 (4 * n) t u) where
  -- rule i doesn't reach itself
  pub seeking-more : x ≡ false → Seeking format s first n t₀ u (i + 1)
  seeking-more e = record {
    none = rw (add-one i) (none_more (rules_at format s first n) v.ready.ranged i v.none (sym h.0 ∙ e));
    ready = ready-kept v.ready h.1;
    within = within_both v.within h.1;
  }

  -- and if it does, it is the lowest
  pub seeking-found : i < n → x ≡ true → (lowest_cycle (rules_at format s first n) ≡ Some i) × Within 0 (4 * n) t₀ u
  seeking-found below e =
      let ok = v.ready.ranged in
      let l : i < length (rules_at format s first n) = rw (rules-length format s first n) below in (
        (lowest-some (rules_at format s first n) ok i).1 (l, (reaches-exact (rules_at format s first n) ok i i).0 (sym h.0 ∙ e), v.none),
        within_both v.within h.1,
      )

-- some rule does: the search doesn't come to the end
pub seeking-ends : {format : Format} {s : List ℕ} {first n : ℕ} {t₀ t : List ℕ} {i : ℕ} → Seeking format s first n t₀ t i → n ≤ i → Cyclic (rules_at format s first n) → ⊥
seeking-ends {format} {s} {first} {n} v past (r, c) = v.none r (omega (arith, reaches-from c, rules-length format s first n)) c
