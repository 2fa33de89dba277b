-- A forest is told by the list of its nodes with levels (document 02, Note 4): the children of a node are the nodes below its level that
-- follow it, up to the first that isn't. By recursion over the first forest, whatever follows both. Assumes nothing.
use Prim.Native.Nat.{ℕ, suc, ◌<◌}
use native.Mathlib.Omega.{arith}
use mathlib.Core.Path.{◌≡◌, refl, sym, ◌∙◌, ap}
use mathlib.Core.List.{List, [], ◌∷◌, ◌++◌, append_assoc, append-nil}
use Rattle.forest.specs.Forest.{Forest}
use Rattle.forest.specs.Compare.{listed}

-- nodes that are above a level, or none
pub data Above (d : ℕ) : List (ℕ × ℕ) → Type 0 where
  ended : Above d []
  higher : {a e : ℕ} {ns : List (ℕ × ℕ)} → e < d → Above d ((a, e) ∷ ns)

above_more : {d : ℕ} {ns : List (ℕ × ℕ)} → Above d ns → Above (suc d) ns
above_more ended = ended
above_more {d} (higher {e = e} l) = let m : e < suc d = omega arith in higher m

pub above_listed : (d : ℕ) (f : Forest ℕ) (ns : List (ℕ × ℕ)) → Above d ns → Above (suc d) (listed d f ++ ns)
unfolding listed
above_listed d Forest.none ns h = above_more h
above_listed d (Forest.tree a c f) ns h = let m : d < suc d = omega arith in higher m

-- none of them begins a tree at the level
above-none : {A : Type 0} {d : ℕ} {ns : List (ℕ × ℕ)} (b : ℕ) (ms : List (ℕ × ℕ)) → Above d ns → ns ≡ (b, d) ∷ ms → A
above-none b ms ended e = absurd (let z : ◌≡◌ {A = ℕ} 0 1 = cc in omega arith)
above-none {d = d} b ms (higher {a} {e = l} m) e =
    absurd (let q : ◌≡◌ {A = ℕ × ℕ} (a, l) (b, d) = cc in omega (arith, ap (λ (x : ℕ × ℕ). x.1) q))

-- whatever follows both
told : (f g : Forest ℕ) (d : ℕ) (ns ms : List (ℕ × ℕ)) → Above d ns → Above d ms → listed d f ++ ns ≡ listed d g ++ ms → (f ≡ g) × (ns ≡ ms)
unfolding listed
told Forest.none Forest.none d ns ms n m e = (refl, e)
told Forest.none (Forest.tree b k g) d ns ms n m e = above-none b ((listed (suc d) k ++ listed d g) ++ ms) n e
told (Forest.tree a c f) Forest.none d ns ms n m e = above-none a ((listed (suc d) c ++ listed d f) ++ ns) m (sym e)
told (Forest.tree a c f) (Forest.tree b k g) d ns ms n m e =
    let top : ◌≡◌ {A = ℕ × ℕ} (a, d) (b, d) = cc in
    let rest : (listed (suc d) c ++ listed d f) ++ ns ≡ (listed (suc d) k ++ listed d g) ++ ms = cc in
    let under =
    told c k (suc d) (listed d f ++ ns) (listed d g ++ ms) (above_listed d f ns n) (above_listed d g ms m)
    (sym (append_assoc (listed (suc d) c) (listed d f) ns) ∙ rest ∙ append_assoc (listed (suc d) k) (listed d g) ms) in
    let beside = told f g d ns ms n m under.1 in
    (λ i. Forest.tree (top i).0 (under.0 i) (beside.0 i), beside.1)

-- two forests with one list are one
pub listed-injective : (f g : Forest ℕ) (d : ℕ) → listed d f ≡ listed d g → f ≡ g
listed-injective f g d e =
    (told f g d [] [] Above.ended Above.ended (append-nil (listed d f) ∙ e ∙ sym (append-nil (listed d g)))).0
