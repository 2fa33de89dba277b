-- A turn in the room: the stack's top is the word that was read, and a rule that is opened or closed is placed where the stack or the order
-- ends, so that nothing else of them changes. Assumes nothing.
use Prim.Native.Nat.{ℕ, suc, ◌+◌, ◌-◌, ◌*◌, ◌≤◌, ◌<◌}
use native.Mathlib.Omega.{arith}
use native.Mathlib.Numerals.{add-one}
use mathlib.Core.Path.{◌≡◌, sym, ap, subst, ◌∙◌}
use mathlib.Core.List.{List}
use lib.ListN.{length}
use Rattle.record.specs.declared.Format.{Format}
use Rattle.words.specs.Number.{number}
use Rattle.words.proofs.Within.{within_none, within_both}
use Rattle.record.specs.Records.{records_from}
use Rattle.record.proofs.Records.{records-length}
use Rattle.rule.specs.declared.Rule.{Rule}
use Rattle.rule.specs.Names.{Names}
use Rattle.rule.specs.Sound.{rule}
use Rattle.rule.proofs.Rules.{length-rules_in}
use Rattle.reach.proofs.Steps.{named-below}
use Rattle.reach_order.specs.declared.Next.{Next}
use Rattle.reach_order.specs.declared.Step.{Step}
use Rattle.reach_order.specs.Named.{Named, names_of, In}
use Rattle.reach_order.specs.Room.{rules_at, mark_in, front_in, back_in, Marked, Ready, Placed}
use Rattle.reach_order.specs.Search.{unseen, opened, done, Searching, Chosen, Grown, Made, Turned}
use Rattle.reach_order.proofs.Finding.{names-exact}
use Rattle.reach_order.proofs.Searches.{search-most, search-more, search-cycle, search-open, search-close}

-- there are n rules
pub rules-length : (format : Format) (s : List ℕ) (first n : ℕ) → length (rules_at format s first n) ≡ n
rules-length format s first n = length-rules_in format (records_from format s first n) ∙ records-length format s first n

-- what has been seen stays so
pub grown-none : (n : ℕ) (t : List ℕ) → Grown n t t
grown-none n t = record { saw = λ i l e. e; within = within_none 0 (4 * n) t }

pub grown-both : {n : ℕ} {t u v : List ℕ} → Grown n t u → Grown n u v → Grown n t v
grown-both p q = record { saw = λ i l e. p.saw i l (q.saw i l e); within = within_both p.within q.within }

pub placed-grown : {n k v at : ℕ} {t u : List ℕ} → Placed n k (suc v) at t u → Grown n t u
placed-grown {n} {k} {v} {at} {t} {u} p = record {
  saw = λ i l e. sym (p.others i l (λ q. let z : mark_in u i ≡ suc v = ap (mark_in u) q ∙ p.own in omega arith)) ∙ e;
  within = p.within;
}

-- the stack and the order have room
pub search-room : {format : Format} {s : List ℕ} {first n : ℕ} {t : List ℕ} {top m : ℕ} → Ready format s first n t → Searching (rules_at format s first n) n t top m → top + m ≤ n
search-room {format} {s} {first} {n} a S = omega (arith, search-most S, rules-length format s first n)

-- a turn that begins: the top is rule r, and names d
pub record Top (format : Format) (s : List ℕ) (first n : ℕ) (t : List ℕ) (top m r : ℕ) (d : Named) : Type 0 where
  pub ready : Ready format s first n t
  pub search : Searching (rules_at format s first n) n t top m
  pub some : 0 < top
  pub read : r ≡ number 2 t (4 * n - 2 * top)
  pub found : d ≡ names_of (rule (rules_at format s first n) r)

pub top_read : (t : List ℕ) (n top at : ℕ) {r : ℕ} → r ≡ number 2 t at → at ≡ 4 * n - 2 * top → r ≡ number 2 t (4 * n - 2 * top)
top_read t n top at e q = e ∙ ap (number 2 t) q

pub top-begins : {format : Format} {s : List ℕ} {first n : ℕ} {t : List ℕ} {top m r at : ℕ} {d : Named}
    → Ready format s first n t × Searching (rules_at format s first n) n t top m × (0 < top) → r ≡ number 2 t at → at ≡ 4 * n - 2 * top
    → d ≡ names_of (rule (rules_at format s first n) r) → Top format s first n t top m r d
top-begins p e q found = record { ready = p.0; search = p.1; some = p.2; read = top_read _ _ _ _ e q; found = found }

-- the top, as a rule on the stack
pub top-word : {format : Format} {s : List ℕ} {first n : ℕ} {t : List ℕ} {top m r : ℕ} → Ready format s first n t → Searching (rules_at format s first n) n t top m → 0 < top → r ≡ number 2 t (4 * n - 2 * top) → back_in n t (top - 1) ≡ r
unfolding back_in
top-word {n = n} {t = t} {top = top} a S some e = let q : 4 * n - 2 * suc (top - 1) ≡ 4 * n - 2 * top = omega arith in ap (number 2 t) q ∙ sym e

pub top_below : {format : Format} {s : List ℕ} {first n : ℕ} {t : List ℕ} {top m r : ℕ} → Ready format s first n t → Searching (rules_at format s first n) n t top m → 0 < top → r ≡ number 2 t (4 * n - 2 * top) → r < n
top_below {format} {s} {first} {n} {top = top} a S some e = rw (top-word a S some e, rules-length format s first n) at (S.inside (top - 1) (omega arith))

module _ {format : Format} {s : List ℕ} {first n : ℕ} {t : List ℕ} {top m r : ℕ} {d : Named} (z : Top format s first n t top m r d) where
  abbrev R : List Rule
  R = rules_at format s first n

  word : back_in n t (top - 1) ≡ r
  word = top-word z.ready z.search z.some z.read

  room : top + m ≤ n
  room = search-room z.ready z.search

  long : length R ≡ n
  long = rules-length format s first n

  names : (k : ℕ) → In d k → Names (rule R r) k
  names k i = (names-exact (rule R r) k).1 (rw z.found at i)

  asks : (k : ℕ) → Names (rule R r) k → In d k
  asks k h = rw z.found ((names-exact (rule R r) k).0 h)

  small : (k : ℕ) → Names (rule R r) k → k < length R
  small k h = named-below R z.ready.ranged r k h

  pub turn-marks : Marked d t
  turn-marks k i = omega (arith, small k (names k i), long, z.ready.fits)

  -- a named rule is opened
  module _ {k : ℕ} {x : Next} (e : x ≡ Next.Open k) (chosen : Chosen (mark_in t) d x) where
    open_is : In d k × (mark_in t k ≡ unseen)
    unfolding Chosen
    open_is = rw e at chosen

    pub open-room : (k < n) × (top + m < n)
    open-room =
        let l : k < length R = small k (names k open_is.0) in
        let g : top + m < length R = search-more z.search k l open_is.1 in
        omega (arith, long)

    pub turn-opens : {at : ℕ} {u : List ℕ} → at ≡ 4 * n - 2 * top - 2 → Placed n k opened at t u → Turned R n top m Step.Opened t u
    unfolding Made back_in front_in
    turn-opens {at} {u} q p =
        let l : k < length R = small k (names k open_is.0) in
        let g : top + m < n = open-room.1 in
        let pushed : back_in n u top ≡ k = (let w : 4 * n - 2 * suc top ≡ at = omega arith in ap (number 2 u) w ∙ p.word) in
        record {
          grown = placed-grown p;
          made = rw add-one
              (search-open z.search l open_is.1
              (λ j h. let w : j ≡ top - 1 = omega arith in rw (w, word) (names k open_is.0))
              p.own (λ i h. p.others i (omega (arith, long)))
              pushed
              (λ j h. p.words (4 * n - 2 * suc j) (omega arith) (λ w. omega arith))
              (λ j h. p.words (2 * n + 2 * j) (omega arith) (λ w. absurd (omega arith))));
        }

  -- a named rule is open
  pub turn-stops : {x : Next} → x ≡ Next.Stop → Chosen (mark_in t) d x → Turned R n top m Step.Cycle t t
  unfolding Made Chosen
  turn-stops e chosen =
      let (k, i, o) = rw e at chosen in
      record {
        grown = grown-none n t;
        made = (k, search-cycle z.search (top - 1) k (omega (arith, z.some)) (small k (names k i)) (rw word (names k i)) o);
      }

  -- all named rules are done
  pub turn-closes : {x : Next} → x ≡ Next.Close → Chosen (mark_in t) d x → {at : ℕ} {u : List ℕ} → at ≡ 2 * n + 2 * m → Placed n r done at t u
      → Turned R n top m Step.Closed t u
  unfolding Made Chosen back_in front_in
  turn-closes e chosen {at} {u} q p =
      let f : (k : ℕ) → In d k → (mark_in t k ≡ unseen → ⊥) × (mark_in t k ≡ opened → ⊥) = rw e at chosen in
      let w : suc (top - 1) ≡ top = omega (arith, z.some) in
      let S : Searching R n t (suc (top - 1)) m = subst (λ (j : ℕ). Searching R n t j m) (sym w) z.search in
      record {
        grown = placed-grown p;
        made = rw add-one
            (search-close S word (λ k h. let (p, q) = f k (asks k h) in (small k h, p, q))
            p.own (λ i h. p.others i (omega (arith, long)))
            (ap (number 2 u) (sym q) ∙ p.word)
            (λ j h. p.words (2 * n + 2 * j) (omega arith) (λ g. absurd (omega arith)))
            (λ j h. p.words (4 * n - 2 * suc j) (omega (arith, room)) (λ g. omega (arith, room))));
      }
