-- The parts of a node's subtree say what the subtree says, in any spelling: the subtree is the node's value with what stands in its hole,
-- and each crumb of a spine is spelled before and after what it stands around. Assumes nothing.
use Prim.Native.Nat.{ℕ, ◌≤◌}
use mathlib.Core.Path.{◌≡◌, refl, sym, ◌∙◌, ap, ap₂}
use mathlib.Core.List.{List, [], ◌∷◌, ◌++◌, append_assoc, append-nil}
use Rattle.std.specs.Prelude.{Some}
use Rattle.forest.specs.Expression.{Expression, rule_number}
use Rattle.forest.specs.Algebra.{Hedge, ◌⟨◌⟩, value}
use Rattle.forest.specs.Forest.{trees}
use Rattle.forest.specs.Spelling.{Spelling, spelled}
use Rattle.forest.specs.Compare.{subtree_at}
use Rattle.forest.specs.Reference.{Path, label_at}
use Rattle.forest.specs.Place.{Side}
use Rattle.forest.specs.Good.{Sort, Good}
use Rattle.forest.specs.Position.{Position, located_of}
use Rattle.forest.proofs.Values.{closed-⟨⟩, value-holes}
use Rattle.forest.proofs.Spelled.{spelled-fill}
use Rattle.forest.proofs.Subtrees.{filling, Crumbs, Stander, node-subtree}
use Rattle.count_passes.specs.Says.{whole, before, after, spoken}
use Rattle.count_passes.proofs.Meaning.{spoken-spelled}
use Rattle.spread_step.proofs.Tasks.{text-part}
use Rattle.spread_stack.specs.Stack.{tasks_spoken}
use Rattle.compare_tokens.specs.Parts.{Part, around, in_hole, subtree_parts, parts_spoken, part_tasks}

module _ (x : Spelling) where
  pub parts-append : (ys zs : List Part) → parts_spoken x (ys ++ zs) ≡ parts_spoken x ys ++ parts_spoken x zs
  unfolding parts_spoken
  parts-append [] zs = refl
  parts-append (y ∷ ys) zs =
      ap (λ (l : List ℕ). spoken x y.0 y.1 ++ l) (parts-append ys zs)
      ∙ sym (append_assoc (spoken x y.0 y.1) (parts_spoken x ys) (parts_spoken x zs))

  -- an expression around parts that say what a forest does
  around-spoken : {e : Expression} (g : Hedge) (ys : List Part) → Good Sort.spine e → parts_spoken x ys ≡ spelled x (trees g)
      → parts_spoken x (around (e, before) (e, after) ys) ≡ spelled x (trees (value e ⟨ g ⟩))
  unfolding parts_spoken
  around-spoken {e} g ys k h =
      let t = spoken-spelled x k in
      rw (parts-append ys ((e, after) ∷ []), append-nil (spoken x e after), h, t.0, t.1)
      (sym (spelled-fill x k g))

  -- what stands in a hole
  pub hole-spoken : (z : Position) → Crumbs z → parts_spoken x (in_hole z) ≡ spelled x (trees (filling z))
  unfolding in_hole filling parts_spoken spelled trees
  hole-spoken (Position.start e) k = refl
  hole-spoken (Position.node_row r a c z) k = refl
  hole-spoken (Position.part_row s r a b c z) k = refl
  hole-spoken (Position.pair_side s r b c z) k = refl
  hole-spoken (Position.node_spine r a c z) k = refl
  hole-spoken (Position.fill_spine r b c z) k = append-nil (spoken x c whole) ∙ spoken-spelled x k
  hole-spoken (Position.join_side Side.left r b c z) k = around-spoken (filling z) (in_hole z) k.0 (hole-spoken z k.1)
  hole-spoken (Position.join_side Side.right r b c z) k = hole-spoken z k.1

  parts-stand : {e : Expression} (z : Position) → Stander e → Crumbs z → parts_spoken x (subtree_parts e z) ≡ spelled x (trees (value e ⟨ filling z ⟩))
  unfolding subtree_parts parts_spoken
  parts-stand z (Stander.node {r} {a} {c} g) k =
      append-nil (spoken x (Expression.node r a c) whole)
      ∙ spoken-spelled x g
      ∙ ap (λ (h : Hedge). spelled x (trees h)) (sym (closed-⟨⟩ (value (Expression.node r a c)) (filling z) (value-holes g)))
  parts-stand z (Stander.part g) k = around-spoken (filling z) (in_hole z) g (hole-spoken z k)

  -- the subtree at a node is what its parts say
  pub subtree-spoken : {w : Expression} → Good Sort.row w → {e : Expression} {z : Position} (p : Path) → label_at (located_of w) p ≡ Some (e, z)
      → spelled x (subtree_at (trees (value w)) p) ≡ parts_spoken x (subtree_parts e z)
  subtree-spoken g {e} {z} p q =
      let s = node-subtree g p q in
      ap (spelled x) s.whole ∙ sym (parts-stand z s.stands s.crumbs)

-- a part that is what E gives for its rule's number
pub record Wordable (E : ℕ → Expression) (y : Part) : Type 0 where
  pub known : E (rule_number y.0) ≡ y.0
  pub small : y.1 ≤ after

abbrev pub AllWordable : (ℕ → Expression) → List Part → Type 0
AllWordable E [] = Unit {0}
AllWordable E (y ∷ ys) = Wordable E y × AllWordable E ys

-- then its task says what it says
pub tasks-parts : (x : Spelling) (E : ℕ → Expression) (ys : List Part) → AllWordable E ys → tasks_spoken x E (part_tasks ys) ≡ parts_spoken x ys
unfolding tasks_spoken parts_spoken
tasks-parts x E [] h = refl
tasks-parts x E (y ∷ ys) h =
    ap₂ ◌++◌ (text-part x E (rule_number y.0) y.1 h.0.small ∙ ap (λ (e : Expression). spoken x e y.1) h.0.known) (tasks-parts x E ys h.1)
