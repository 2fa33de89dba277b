-- What `lowest_cycle` answers: going up from rule 0, with no rule below that reaches itself, the first that does is the lowest, and where
-- the rules end there is none. Only one answer can be so, which gives the way back. Assumes nothing.
use Prim.Native.Nat.{ℕ, zero, suc, ◌+◌, ◌<◌}
use mathlib.Core.Bool.{Bool, true, false, cond, false≢true}
use mathlib.Core.Logic.{◌↔◌}
use mathlib.Core.List.{List}
use Rattle.std.specs.Prelude.{Option, None, Some}
use mathlib.Core.Path.{◌≡◌, refl, sym, ap, subst, ◌∙◌}
use native.Mathlib.Decide.{dec_lt}
use native.Mathlib.Omega.{arith}
use lib.ListN.{length}
use Rattle.rule.specs.declared.Rule.{Rule}
use Rattle.reach.specs.Reaches.{Reaches, reaches, cycle_from, lowest_cycle}
use Rattle.reach.specs.Order.{Ranged, Acyclic}
use Rattle.reach.proofs.Counting.{up_to}
use Rattle.reach.proofs.Steps.{reaches-exact, reaches-from}

-- no rule below i reaches itself
abbrev pub NoneBelow : List Rule → ℕ → Type 0
NoneBelow R i = (k : ℕ) → k < i → Reaches R k k → ⊥

-- the answer is right
abbrev pub Lowest : List Rule → Option ℕ → Type 0
Lowest R None = Acyclic R
Lowest R (Some r) = (r < length R) × Reaches R r r × NoneBelow R r

only : (R : List Rule) (x y : Option ℕ) → Lowest R x → Lowest R y → x ≡ y
only R None None p q = refl
only R None (Some s) p (l, c, u) = absurd (p s l c)
only R (Some r) None (l, c, u) q = absurd (q r l c)
only R (Some r) (Some s) (l, c, u) (m, d, v) =
    ap Some (elim (dec_lt r s) [
      | yes h ↦ absurd (v r h c)
      | no h ↦ elim (dec_lt s r) [ yes g ↦ absurd (u s g d) | no g ↦ omega (arith, h, g) ]
    ])

-- one step of the search
pub cycle-here : (R : List Rule) (i m : ℕ) → reaches R i i ≡ true → cycle_from R i (suc m) ≡ Some i
unfolding cycle_from
cycle-here R i m h = rw h

pub cycle-on : (R : List Rule) (i m : ℕ) → reaches R i i ≡ false → cycle_from R i (suc m) ≡ cycle_from R (suc i) m
unfolding cycle_from
cycle-on R i m h = rw h

module _ (R : List Rule) (ok : Ranged R) where
  pub none_more : (i : ℕ) → NoneBelow R i → reaches R i i ≡ false → NoneBelow R (suc i)
  none_more i u h k l = up_to i k l (λ x. Reaches R x x → ⊥) (u k) (λ c. false≢true (sym h ∙ (reaches-exact R ok i i).1 c))

  -- from i on, with none below
  pub cycle-lowest : (i m : ℕ) → i + m ≡ length R → NoneBelow R i → Lowest R (cycle_from R i m)
  unfolding cycle_from
  cycle-lowest i zero e u = λ r l c. u r (omega (arith, e, l)) c
  cycle-lowest i (suc m) e u = by (reaches R i i) refl (λ v. cycle-lowest (suc i) m (omega (arith, e)) v)
    where
      by : (t : Bool) → reaches R i i ≡ t → (NoneBelow R (suc i) → Lowest R (cycle_from R (suc i) m)) → Lowest R (cond t (Some i) (cycle_from R (suc i) m))
      by true h f = (omega (arith, e), (reaches-exact R ok i i).0 h, u)
      by false h f = f (none_more i u h)

  pub lowest-is : (x : Option ℕ) → (lowest_cycle R ≡ x) ↔ Lowest R x
  unfolding lowest_cycle
  lowest-is x =
      let right = cycle-lowest 0 (length R) (omega arith) (λ k l c. absurd (omega (arith, l))) in
      ((λ e. subst (Lowest R) e right), λ h. only R (lowest_cycle R) x right h)

  pub lowest-none : (lowest_cycle R ≡ None) ↔ Acyclic R
  lowest-none = lowest-is None

  pub lowest-some : (r : ℕ) → (lowest_cycle R ≡ Some r) ↔ ((r < length R) × Reaches R r r × ((k : ℕ) → k < r → Reaches R k k → ⊥))
  lowest-some r = lowest-is (Some r)

  -- a rule that reaches itself, whichever: there is a lowest
  pub cycle-some : {r : ℕ} → Reaches R r r → (s : ℕ) × (lowest_cycle R ≡ Some s)
  cycle-some {r} c = by (lowest_cycle R) refl
    where
      by : (x : Option ℕ) → lowest_cycle R ≡ x → (s : ℕ) × (lowest_cycle R ≡ Some s)
      by None e = absurd (lowest-none.0 e r (reaches-from c) c)
      by (Some s) e = (s, e)
