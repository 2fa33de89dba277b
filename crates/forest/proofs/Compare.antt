-- What compare's answer obeys: a larger budget never changes a same or a differ, spent comes exactly where the count is above the budget,
-- and so always for a budget of 0; a place agrees with itself. Assumes nothing.
use Prim.Native.Nat.{ℕ, suc, ◌≤◌, ◌<◌}
use native.Mathlib.Omega.{arith}
use mathlib.Core.Logic.{◌↔◌, ◌⊎◌, inl, inr}
use mathlib.Core.Path.{◌≡◌, refl, sym, ◌∙◌, ap}
use mathlib.Core.Bool.{Bool, true, false, cond, false≢true}
use mathlib.Core.List.{List, [], ◌∷◌, ◌++◌}
use Rattle.std.specs.Prelude.{Option, None, Some, option_map, Result, Ok, Err}
use lib.ListN.{length, length-append}
use lib.Dec.{leb}
use borrow.Author.Tests.{leb-true, leb-false, le-leb, lt-leb, eq-eqb}
use Rattle.rule.specs.declared.Rule.{Rule}
use Rattle.refusal.specs.declared.Refusal.{Refusal}
use Rattle.plan.specs.declared.Checked.{Checked}
use Rattle.plan.specs.Check.{checked, rules_of}
use Rattle.forest.specs.declared.Compared.{Compared}
use Rattle.forest.specs.Forest.{Forest, forest, weigh, one}
use Rattle.forest.specs.Place.{Cells, Placed, placed_forest}
use Rattle.forest.specs.Reference.{Path, top, node_at, label_at}
use Rattle.forest.specs.Walk.{Begun, refused, at, cells_in, used_cells, path_of, place_at, cells_of, place_judged}
use Rattle.forest.specs.Compare.{listed, same_node, Found, found, first_tree, subtree_at, pairs_found, within, node_judged, compared_at, enough_compared, compared_from, compare}
use Rattle.forest.proofs.Cases.{by_bool}
use Rattle.forest.proofs.Forget.{label, placed_forest-forgets}
use Rattle.forest.proofs.Relabel.{label_at-relabel}
use Rattle.forest.proofs.Search.{path-cells}
use Rattle.forest.proofs.WalkedRule.{judged-holds}

-- a same or a differ
unfoldable pub settled : Result Compared Refusal → Bool
settled (Ok (Compared.Same k)) = true
settled (Ok (Compared.Differ k)) = true
settled (Ok (Compared.Spent k)) = false
settled (Err x) = false

-- an answer that isn't turned down is what was found
abbrev given : Compared → Result Compared Refusal
given x = Ok x

kept : Compared → Result Compared Refusal → Compared
kept x (Ok y) = y
kept x (Err e) = x

pub answer-exactly : {x y : Compared} {P : Type 0} → (x ≡ y) ↔ P → (◌≡◌ {A = Result Compared Refusal} (Ok x) (Ok y)) ↔ P
unfolding kept
answer-exactly {x} h = (λ e. h.0 (ap (kept x) e), λ p. ap Ok (h.1 p))

-- the count against the budget
pub within-enough : (b : ℕ) (x : Found) → x.1 ≤ b → within b x ≡ cond x.0 (Compared.Same x.1) (Compared.Differ x.1)
unfolding within
within-enough b x h = rw (le-leb x.1 b h)

pub within-spent : (b : ℕ) (x : Found) → b < x.1 → within b x ≡ Compared.Spent b
unfolding within
within-spent b x h = rw (lt-leb x.1 b h)

by-budget : {P : Type 0} (b : ℕ) (x : Found) → (x.1 ≤ b → P) → (b < x.1 → P) → P
by-budget b x f g = by_bool (leb x.1 b) (λ u. f (leb-true x.1 b u)) (λ u. g (leb-false x.1 b u))

verdict-settled : (t : Bool) (k : ℕ) → settled (Ok (cond t (Compared.Same k) (Compared.Differ k))) ≡ true
unfolding settled
verdict-settled true k = refl
verdict-settled false k = refl

settled-enough : (b : ℕ) (x : Found) → settled (Ok (within b x)) ≡ true → x.1 ≤ b
unfolding settled
settled-enough b x h =
    by-budget b x (λ l. l) (λ l. let q : false ≡ true = sym (ap settled (ap given (within-spent b x l))) ∙ h in absurd (false≢true q))

-- "A larger budget must never change a same or a differ."
pub within-larger : (b c : ℕ) (x : Found) → b ≤ c → settled (Ok (within b x)) ≡ true → within c x ≡ within b x
within-larger b c x l h =
    let k : x.1 ≤ b = settled-enough b x h in
    within-enough c x (omega arith) ∙ sym (within-enough b x k)

-- "Spent comes only if that number is above the budget, and then always; its count is the budget."
verdict-unspent : {A : Type 0} (t : Bool) (k b : ℕ) → cond t (Compared.Same k) (Compared.Differ k) ≡ Compared.Spent b → A
unfolding settled
verdict-unspent t k b e = absurd (false≢true (sym (ap settled (ap given e)) ∙ verdict-settled t k))

pub within-spent-exactly : (b : ℕ) (x : Found) → (within b x ≡ Compared.Spent b) ↔ (b < x.1)
within-spent-exactly b x =
    (λ e. by-budget b x (λ l. verdict-unspent x.0 x.1 b (sym (within-enough b x l) ∙ e)) (λ l. l), within-spent b x)

pub within-spent-count : (b k : ℕ) (x : Found) → within b x ≡ Compared.Spent k → k ≡ b
within-spent-count b k x e =
    by-budget b x (λ l. verdict-unspent x.0 x.1 k (sym (within-enough b x l) ∙ e))
    (λ l. let q : Compared.Spent b ≡ Compared.Spent k = sym (within-spent b x l) ∙ e in cc)

-- a same or a differ is the verdict with its count, and comes only up to the budget
verdict-told : (t v : Bool) (j k : ℕ) → cond t (Compared.Same j) (Compared.Differ j) ≡ cond v (Compared.Same k) (Compared.Differ k) → (t ≡ v) × (j ≡ k)
verdict-told true true j k e = (refl, cc)
verdict-told true false j k e = (cc, cc)
verdict-told false true j k e = (cc, cc)
verdict-told false false j k e = (refl, cc)

pub within-exactly : (b : ℕ) (x : Found) (v : Bool) (k : ℕ)
    → (within b x ≡ cond v (Compared.Same k) (Compared.Differ k)) ↔ ((x ≡ (v, k)) × (k ≤ b))
within-exactly b x v k = (
  λ e.
      by-budget b x
      (λ l.
      let q = verdict-told x.0 v x.1 k (sym (within-enough b x l) ∙ e) in
      (λ i. (q.0 i, q.1 i), omega (arith, q.1)))
      (λ l. verdict-unspent v k b (sym e ∙ within-spent b x l)),
  λ h. rw h.0 (within-enough b (v, k) h.1),
)

-- the same over compare itself
module _ (s work first second : List ℕ) (b c : ℕ) (l : b ≤ c) where
  larger-at : (R : List Rule) (x y : Begun) → settled (compared_at R b x y) ≡ true → compared_at R c x y ≡ compared_at R b x y
  unfolding compared_at
  larger-at R (refused x) y h = refl
  larger-at R (at n r p) (refused y) h = refl
  larger-at R (at n r p) (at m t q) h = ap Ok (within-larger b c (pairs_found (subtree_at (forest R r) p) (subtree_at (forest R t) q)) l h)

  larger-from : (k : Result Checked Refusal) → settled (compared_from s work first second b k) ≡ true
      → compared_from s work first second c k ≡ compared_from s work first second b k
  unfolding compared_from
  larger-from (Err x) h = refl
  larger-from (Ok z) h = go (enough_compared work first second z.n) h
    where
      x : Begun
      x = node_judged (place_judged (rules_of s) z.n z.start first)

      y : Begun
      y = node_judged (place_judged (rules_of s) z.n z.start second)

      answer : ℕ → Bool → Result Compared Refusal
      answer k t = cond t (compared_at (rules_of s) k x y) (Err Refusal.Lent)

      go : (t : Bool) → settled (answer b t) ≡ true → answer c t ≡ answer b t
      go true g = larger-at (rules_of s) x y g
      go false g = refl

  pub larger : settled (compare s work first second b) ≡ true → compare s work first second c ≡ compare s work first second b
  unfolding compare
  larger h = larger-from (checked s) h

-- a plan that is accepted, with enough lent, and two cursors that stand at the nodes at p of rule r's forest and at q of rule t's
pub record Comparable (s work first second : List ℕ) (n start r t : ℕ) (p q : Path) : Type 0 where
  pub accepted : checked s ≡ Ok (record { n = n; start = start })
  pub lent : enough_compared work first second n ≡ true
  pub one : node_judged (place_judged (rules_of s) n start first) ≡ at n r p
  pub two : node_judged (place_judged (rules_of s) n start second) ≡ at n t q

module _ {s work first second : List ℕ} {n start r t : ℕ} {p q : Path} (h : Comparable s work first second n start r t p q) (b : ℕ) where
  -- then the answer is the budget's
  pub compares : compare s work first second b ≡ Ok (within b (pairs_found (subtree_at (forest (rules_of s) r) p) (subtree_at (forest (rules_of s) t) q)))
  unfolding compare compared_from compared_at
  compares = rw (h.accepted, h.lent, h.one, h.two)

  pub spent-exactly : (compare s work first second b ≡ Ok (Compared.Spent b)) ↔ (b < (pairs_found (subtree_at (forest (rules_of s) r) p) (subtree_at (forest (rules_of s) t) q)).1)
  spent-exactly = rw compares (answer-exactly (within-spent-exactly b (pairs_found (subtree_at (forest (rules_of s) r) p) (subtree_at (forest (rules_of s) t) q))))

-- a path that is judged is that of a node of the forest
judged-at : (x : Begun) (n r : ℕ) (p : Path) → node_judged x ≡ at n r p → (x ≡ at n r p) × (p ≡ [] → ⊥)
unfolding node_judged
judged-at (refused x) n r p e = (cc, λ q. let z : ◌≡◌ {A = ℕ} 0 1 = cc in omega arith)
judged-at (at m t []) n r p e = (cc, λ q. let z : ◌≡◌ {A = ℕ} 0 1 = cc in omega arith)
judged-at (at m t (i ∷ o)) n r p e = (e, λ q. let z : ◌≡◌ {A = ℕ} 0 1 = cc in omega arith)

path-node : (G : Forest Placed) (cs : Cells) (p : Path) → path_of G cs ≡ Some p → (p ≡ [] → ⊥) → (a : Placed) × (label_at G p ≡ Some a)
unfolding path_of place_at cells_of
path-node G [] p e f = absurd (f (cc))
path-node G (c ∷ cs) p e f = go (label_at G p) refl (path-cells G (c ∷ cs) p e)
  where
    go : (x : Option Placed) → label_at G p ≡ x → cells_of (label_at G p) ≡ c ∷ cs → (a : Placed) × (label_at G p ≡ Some a)
    go None u g = absurd (let h : [] ≡ c ∷ cs = sym (ap cells_of u) ∙ g in let z : ◌≡◌ {A = ℕ} 0 1 = cc in omega arith)
    go (Some a) u g = (a, u)

pub judged-node : (R : List Rule) (n start r : ℕ) (cursor : List ℕ) (p : Path) → node_judged (place_judged R n start cursor) ≡ at n r p
    → (a : ℕ) × (label_at (forest R r) p ≡ Some a)
judged-node R n start r cursor p e =
    let j = judged-at (place_judged R n start cursor) n r p e in
    let x = path-node (placed_forest R r) (cells_in cursor (used_cells cursor)) p (judged-holds R n start n r cursor p j.0).leads j.1 in (
      x.0.0,
      ap (λ (g : Forest ℕ). label_at g p) (sym (placed_forest-forgets R r))
          ∙ label_at-relabel label (placed_forest R r) p
          ∙ ap (option_map label) x.1,
    )

-- the subtree at a node has the node, so a comparison counts at least one
pub node-listed : (d : ℕ) (g : Forest ℕ) (a : ℕ) → top g ≡ Some a → (xs : List (ℕ × ℕ)) × (listed d (first_tree g) ≡ (a, d) ∷ xs)
unfolding top first_tree listed
node-listed d Forest.none a e = absurd (let z : ◌≡◌ {A = ℕ} 0 1 = cc in omega arith)
node-listed d (Forest.tree b c f) a e = (_, begins _ (cc))
  where
    begins : (xs : List (ℕ × ℕ)) → b ≡ a → (b, d) ∷ xs ≡ (a, d) ∷ xs
    begins xs h = ap (λ (x : ℕ). (x, d) ∷ xs) h

pub found-least : (x : ℕ × ℕ) (xs ys : List (ℕ × ℕ)) → 1 ≤ (found (x ∷ xs) ys).1
unfolding found
found-least x xs [] = omega arith
found-least x xs (y ∷ ys) = by_bool (same_node x y) (λ u. rw u (omega arith)) (λ u. rw u (omega arith))

pub pairs-least : (g f : Forest ℕ) (p : Path) (a : ℕ) → label_at g p ≡ Some a → 1 ≤ (pairs_found (subtree_at g p) f).1
unfolding pairs_found label_at subtree_at
pairs-least g f p a e =
    let h = node-listed 0 (node_at g p) a e in
    rw h.1 (found-least (a, 0) h.0 (listed 0 f))

-- a budget of 0 is always spent
pub spent-zero : {s work first second : List ℕ} {n start r t : ℕ} {p q : Path} → Comparable s work first second n start r t p q
    → compare s work first second 0 ≡ Ok (Compared.Spent 0)
spent-zero {s} {first = first} {n = n} {start = start} {r = r} {t = t} {p = p} {q = q} h =
    let a = judged-node (rules_of s) n start r first p h.one in
    (spent-exactly h 0).1 (pairs-least (forest (rules_of s) r) (subtree_at (forest (rules_of s) t) q) p a.0 a.1)

-- a list agrees with itself, to its end
node-same : (x : ℕ × ℕ) → same_node x x ≡ true
unfolding same_node
node-same x = simp (eq-eqb x.0 x.0 refl, eq-eqb x.1 x.1 refl)

pub found-same : (xs : List (ℕ × ℕ)) → found xs xs ≡ (true, length xs)
unfolding found
found-same [] = refl
found-same (x ∷ xs) = rw (node-same x, found-same xs)

-- the same place twice is the same, or spent
pub compares-same : {s work cursor : List ℕ} {n start r : ℕ} {p : Path} → Comparable s work cursor cursor n start r r p p → (b : ℕ)
    → (compare s work cursor cursor b ≡ Ok (Compared.Same (length (listed 0 (subtree_at (forest (rules_of s) r) p))))) ⊎ (compare s work cursor cursor b ≡ Ok (Compared.Spent b))
unfolding pairs_found
compares-same {s} {r = r} {p = p} h b =
    let xs : List (ℕ × ℕ) = listed 0 (subtree_at (forest (rules_of s) r) p) in
    let x : Found = (true, length xs) in
    let e = compares h b ∙ ap (λ (y : Found). given (within b y)) (found-same xs) in
    by-budget b x (λ l. inl (e ∙ ap Ok (within-enough b x l))) (λ l. inr (e ∙ ap Ok (within-spent b x l)))

-- a list has a pair for each node
pub listed-length : (d : ℕ) (g : Forest ℕ) → length (listed d g) ≡ weigh one g
unfolding listed weigh
listed-length d Forest.none = refl
listed-length d (Forest.tree a c f) =
    let below = listed-length (suc d) c in
    let after = listed-length d f in
    rw (length-append (listed (suc d) c) (listed d f)) (omega arith)
