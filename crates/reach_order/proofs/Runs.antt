-- Turns one after another, and searches from one rule after another: the loops' invariants. Assumes nothing.
use Rattle.std.specs.Prelude.{Option, None, Some}
use Prim.Native.Nat.{ℕ, ◌+◌, ◌-◌, ◌*◌, ◌≤◌, ◌<◌}
use native.Mathlib.Omega.{arith}
use mathlib.Core.Bool.{Bool, true, false, false≢true}
use Rattle.std.specs.Prelude.{None}
use mathlib.Core.Path.{◌≡◌, sym, ap, subst, ◌∙◌}
use mathlib.Core.List.{List}
use lib.ListN.{length, get_or}
use borrow.Table.Steps.{cases}
use Rattle.record.specs.declared.Format.{Format}
use Rattle.words.specs.Number.{number}
use Rattle.words.specs.Front.{cleared}
use Rattle.words.specs.Words.{words_at}
use Rattle.words.proofs.Words.{length-words, word_at}
use Rattle.words.proofs.Within.{within_both, within-cleared, cleared-number}
use Rattle.rule.specs.declared.Rule.{Rule}
use Rattle.reach.specs.Order.{Acyclic, Orders}
use Rattle.reach.proofs.Counting.{up_to}
use Rattle.reach.proofs.Steps.{reaches-from}
use Rattle.reach.proofs.Building.{begun-same, begun-orders}
use Rattle.reach_order.specs.declared.Step.{Step}
use Rattle.reach_order.specs.Room.{rules_at, mark_in, front_in, back_in, Ready, Placed}
use Rattle.reach_order.specs.Search.{unseen, opened, Searching, Grown, Made, Turned, Ended, Found, Visited, Answered}
use Rattle.reach_order.proofs.Placing.{ready-kept}
use Rattle.reach_order.proofs.Searches.{search-none, search-more, search-open, search-all}
use Rattle.reach_order.proofs.Turns.{rules-length, grown-none, grown-both}

-- what a turn made
module _ {R : List Rule} {n top m : ℕ} {x : Step} {t u : List ℕ} (h : Turned R n top m x t u) where
  pub made-opened : x ≡ Step.Opened → Searching R n u (top + 1) m
  unfolding Made
  made-opened e = rw e at h.made

  pub made-closed : x ≡ Step.Closed → Searching R n u (top - 1) (m + 1)
  unfolding Made
  made-closed e = rw e at h.made

  pub run-cycle : {t₀ : List ℕ} → Grown n t₀ u → x ≡ Step.Cycle → Found R n None t₀ u
  unfolding Made Ended
  run-cycle g e = record { grown = g; ended = rw e at h.made }

abbrev pub Running : Format → List ℕ → ℕ → ℕ → List ℕ → List ℕ → ℕ → ℕ → Type 0
Running format s first n t₀ t top m = Ready format s first n t × Searching (rules_at format s first n) n t top m × Grown n t₀ t

pub run-again : {format : Format} {s : List ℕ} {first n : ℕ} {t₀ t u : List ℕ} {top m i j : ℕ} → Running format s first n t₀ t top m → Grown n t u → Searching (rules_at format s first n) n u i j
    → Running format s first n t₀ u i j
run-again (a, S, g) h T = (ready-kept a h.within, T, grown-both g h)

-- no rule is open
pub run-done : {R : List Rule} {n : ℕ} {t u : List ℕ} {top m : ℕ} → Grown n t u → Searching R n u top m → top ≤ 0 → Found R n (Some m) t u
unfolding Ended
run-done {R} {n} {u = u} {m = m} g S l = record { grown = g; ended = subst (λ (k : ℕ). Searching R n u k m) (omega arith) S }

-- the search from rule i: it was seen before, or it is the first on the stack
pub visited-before : {R : List Rule} {n i m : ℕ} {t : List ℕ} → Searching R n t 0 m → (mark_in t i ≡ unseen → ⊥) → Visited R n i (Some m) t t
unfolding Ended
visited-before {n = n} {t = t} S own = record { found = record { grown = grown-none n t; ended = S }; own = own }

pub visit-begins : {format : Format} {s : List ℕ} {first n i m at : ℕ} {t u : List ℕ} → Ready format s first n t → Searching (rules_at format s first n) n t 0 m → i < n → mark_in t i ≡ unseen
    → at ≡ 4 * n - 2 → Placed n i opened at t u → Ready format s first n u × Searching (rules_at format s first n) n u 1 m
unfolding back_in front_in
visit-begins {format} {s} {first} {n} {i} {m} {at} {t} {u} a S below fresh q p =
    let long : length (rules_at format s first n) ≡ n = rules-length format s first n in
    let g : 0 + m < n = rw long at (search-more S i (rw long below) fresh) in
    let pushed : back_in n u 0 ≡ i = (let w : 4 * n - 2 * 1 ≡ at = omega arith in ap (number 2 u) w ∙ p.word) in (
      ready-kept a p.within,
      search-open S (rw long below) fresh (λ j h. absurd (omega arith)) p.own (λ j h. p.others j (omega (arith, long)))
          pushed (λ j h. absurd (omega arith)) (λ j h. p.words (2 * n + 2 * j) (omega arith) (λ w. absurd (omega arith))),
    )

-- searches from the rules below i
pub record Visiting (format : Format) (s : List ℕ) (first n : ℕ) (t₀ t : List ℕ) (m i : ℕ) : Type 0 where
  pub running : Running format s first n t₀ t 0 m
  pub all : (k : ℕ) → k < i → mark_in t k ≡ unseen → ⊥

module _ {format : Format} {s : List ℕ} {first n : ℕ} {t₀ t u : List ℕ} {m i : ℕ} {x : Option ℕ} (v : Visiting format s first n t₀ t m i) (h : Visited (rules_at format s first n) n i x t u) where
  pub visiting-grown : Grown n t₀ u
  visiting-grown = grown-both v.running.2 h.found.grown

  pub visiting-more : {j : ℕ} → x ≡ Some j → i < n → Visiting format s first n t₀ u j (i + 1)
  unfolding Ended
  visiting-more e l = record {
    running = run-again v.running h.found.grown (rw e at h.found.ended);
    all = λ k b. up_to i k (omega arith) (λ y. mark_in u y ≡ unseen → ⊥) (λ c z. v.all k c (h.found.grown.saw k (omega arith) z)) h.own;
  }

  pub visiting-cycle : x ≡ None → Answered (rules_at format s first n) n false t₀ u
  unfolding Ended
  visiting-cycle e = record {
    within = visiting-grown.within;
    sorted = λ q. absurd (false≢true q);
    cyclic = λ q. rw e at h.found.ended;
  }

-- all rules are done
done-orders : (R : List Rule) (n : ℕ) (t : List ℕ) (m : ℕ) → length R ≡ n → Searching R n t 0 m → ((k : ℕ) → k < n → mark_in t k ≡ unseen → ⊥) → Orders R (words_at t (2 * n) n)
unfolding front_in
done-orders R n t m long S all =
    let e : m ≡ length R = search-all S (λ k l. all k (omega (arith, long))) in
    begun-orders R (words_at t (2 * n) n) (length-words t (2 * n) n ∙ sym long)
    (rw e at (begun-same R (front_in n t) (λ i. get_or (words_at t (2 * n) n) i 0) m (λ i l. word_at t (2 * n) n i (omega arith)) S.begun))

pub visiting-all : {format : Format} {s : List ℕ} {first n : ℕ} {t₀ t : List ℕ} {m i : ℕ} → Visiting format s first n t₀ t m i → n ≤ i → Answered (rules_at format s first n) n true t₀ t
visiting-all {format} {s} {first} {n} {t₀} {t} {m} v past = record {
  within = v.running.2.within;
  sorted = λ q. done-orders (rules_at format s first n) n t m (rules-length format s first n) v.running.1 (λ k l. v.all k (omega arith));
  cyclic = λ q. absurd (false≢true (sym q));
}

-- the search begins in a room that is cleared
pub order-begins : {format : Format} {s : List ℕ} {first n : ℕ} {t u : List ℕ} → Ready format s first n t → u ≡ cleared (4 * n) t → Ready format s first n u × Searching (rules_at format s first n) n u 0 0
unfolding mark_in
order-begins {format} {s} {first} {n} {t} {u} a e = (
  ready-kept a (rw e (within-cleared (4 * n) t a.fits)),
  search-none (rules_at format s first n) (mark_in u) (back_in n u) (front_in n u)
      (λ i l. rw e (cleared-number 2 (4 * n) t (2 * i) (omega (arith, rules-length format s first n)))),
)

pub order-answers : {format : Format} {s : List ℕ} {first n : ℕ} {t u v : List ℕ} {x : Bool} {R : List Rule} → Ready format s first n t → u ≡ cleared (4 * n) t → Answered R n x u v → Answered R n x t v
order-answers {n = n} {t = t} a e h = record {
  within = within_both (rw e (within-cleared (4 * n) t a.fits)) h.within;
  sorted = h.sorted;
  cyclic = h.cyclic;
}

pub answered-acyclic : {R : List Rule} {n : ℕ} {x : Bool} {t u : List ℕ} → Acyclic R → Answered R n x t u → x ≡ true
answered-acyclic {x = x} acyclic h = cases x (λ q. q) (λ q. let (r, c) = h.cyclic q in absurd (acyclic r (reaches-from c) c))
