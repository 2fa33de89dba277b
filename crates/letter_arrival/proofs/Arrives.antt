-- Arriving at a node: the case that a change is, what its writers ask and leave, and the label once the cells are written. Assumes nothing.
use Prim.Native.Nat.{ℕ, ◌+◌, ◌≤◌, ◌<◌}
use native.Mathlib.Omega.{arith}
use mathlib.Core.Path.{◌≡◌, refl, sym, ap, subst, ◌∙◌}
use mathlib.Core.List.{List}
use lib.ListN.{length}
use Rattle.forest.specs.Place.{Cells, Side}
use Rattle.forest.specs.Letter.{Letter}
use Rattle.forest.specs.Walk.{cells_in}
use Rattle.model.specs.Facts.{Facts}
use Rattle.model.specs.Model.{Node, opened}
use Rattle.model.specs.Walk.{label}
use Rattle.facts.specs.Facts.{In, facts_in}
use Rattle.facts.specs.Closes.{Closes}
use Rattle.place_cells.specs.Cells.{Lies}
use Rattle.row_links.specs.Links.{Linkable, Linked, Relinked, opens_row}
use Rattle.row_links.proofs.Linking.{linkable-fewer, relinked-none}
use Rattle.move_parts.specs.declared.Change.{Change}
use Rattle.move_parts.specs.Moves.{above_top, Turns, Turning}
use Rattle.move_parts.specs.Change.{turned_at, entered, letter_side, spine_side, entry_side, change_node, keep_of, Able, AbleRoot, AbleChild, AbleSibling, AbleParent, AbleStay}
use Rattle.letter_arrival.specs.declared.Landing.{Landing}
use Rattle.letter_arrival.specs.declared.Standing.{Standing}
use Rattle.letter_arrival.specs.Arrived.{Settling, Stood, Settled, Arriving, Arrived}
use Rattle.letter_arrival.proofs.Puts.{entered-longer}
use Rattle.letter_arrival.proofs.Settles.{Kept, links-here, kept, turning-still, room, settled-turn, settled-beside, settled-tree, settled-kept, opens-here, row_room, settled-row, settling-fewer, settling-on, kept_on, settled_on}

-- the case that a change is
pub arriving : {t s : List ℕ} {k : ℕ} {l : Letter} {x y : Change} → x ≡ y → Arriving t s k l x → Arriving t s k l y
arriving {t} {s} {k} {l} e h = subst (Arriving t s k l) e h

settled_case : {t : List ℕ} (F : Facts) (l : Letter) {x y : Change} {s s' : List ℕ} {r : Standing} → x ≡ y
    → Settled t (change_node F l y s) s s' r → Settled t (change_node F l x s) s s' r
settled_case {t} F l {s = s} {s' = s'} {r = r} e z = subst (λ (y : Change). Settled t (change_node F l y s) s s' r) (sym e) z

-- what it asks, of any letter
able-turn : (t s : List ℕ) (l : Letter) (k v : ℕ) → Able t s l (Change.Turn k v) → Turning t s k (spine_side l) v
unfolding Able AbleRoot AbleChild AbleSibling AbleParent AbleStay spine_side
able-turn t s (Letter.root d) k v a = absurd a
able-turn t s (Letter.child d) k v a = a
able-turn t s (Letter.sibling d) k v a = a
able-turn t s Letter.parent k v a = a
able-turn t s Letter.stay k v a = absurd a

able-tree : (t s : List ℕ) (l : Letter) (k v : ℕ) → Able t s l (Change.Tree k v) → Turning t s k (letter_side l) v
unfolding Able AbleRoot AbleChild AbleSibling AbleParent AbleStay letter_side
able-tree t s (Letter.root d) k v a = absurd a
able-tree t s (Letter.child d) k v a = absurd a
able-tree t s (Letter.sibling d) k v a = a
able-tree t s Letter.parent k v a = absurd a
able-tree t s Letter.stay k v a = absurd a

able-beside : (t s : List ℕ) (l : Letter) (k v n o : ℕ) → Able t s l (Change.Beside k v n o) → Turning t s k Side.left v × In t o
unfolding Able AbleRoot AbleChild AbleSibling AbleParent AbleStay
able-beside t s (Letter.root d) k v n o a = absurd a
able-beside t s (Letter.child d) k v n o a = absurd a
able-beside t s (Letter.sibling d) k v n o a = a
able-beside t s Letter.parent k v n o a = absurd a
able-beside t s Letter.stay k v n o a = absurd a

able-row : (t s : List ℕ) (l : Letter) (k n o : ℕ) → Able t s l (Change.Row k n o) → In t o
unfolding Able AbleRoot AbleChild AbleSibling AbleParent AbleStay
able-row t s (Letter.root d) k n o a = a
able-row t s (Letter.child d) k n o a = a
able-row t s (Letter.sibling d) k n o a = a
able-row t s Letter.parent k n o a = absurd a
able-row t s Letter.stay k n o a = absurd a

able-spine : (t s : List ℕ) (l : Letter) (k a : ℕ) → Able t s l (Change.Spine k a) → In t a
unfolding Able AbleRoot AbleChild AbleSibling AbleParent AbleStay
able-spine t s (Letter.root d) k a h = absurd h
able-spine t s (Letter.child d) k a h = h
able-spine t s (Letter.sibling d) k a h = h
able-spine t s Letter.parent k a h = absurd h
able-spine t s Letter.stay k a h = absurd h

-- the links of the cells that it keeps
module _ {t s : List ℕ} {k : ℕ} {l : Letter} {x y : Change} (h : Arriving t s k l x) (e : x ≡ y) where
  pub keeping : Linkable t s k × Linked t s (cells_in s k) × (keep_of y ≤ k)
  keeping = links-here (arriving e h).settles

  pub keeps : {s' : List ℕ} → Linked t s' (cells_in s' (keep_of y)) × Relinked t k s s' → Kept t s (keep_of y) s'
  keeps z = kept h.settles.here z.0 z.1

  -- of none, and of all
  pub keeping_none : Linkable t s 0
  keeping_none = linkable-fewer 0 (omega arith) h.settles.linkable

  pub keeps-none : keep_of x ≡ 0 → {s' : List ℕ} → Linked t s' (cells_in s' 0) × Relinked t 0 s s' → Kept t s (keep_of y) s'
  keeps-none none z = let m : keep_of y ≡ 0 = ap keep_of (sym e) ∙ none in rw m (kept (omega arith) z.0 z.1)

  pub keeps-all : keep_of x ≡ k → Kept t s (keep_of y) s
  keeps-all all = let m : keep_of y ≡ k = ap keep_of (sym e) ∙ all in kept h.settles.here (rw m h.settles.linked) (relinked-none t s k)

-- from these, the writers' needs and what they leave: of a turn, a tree beside, a tree, cells that stay, a row, and a row beside
module _ {t s s' : List ℕ} {k keep : ℕ} {l : Letter} {x : Change} (h : Arriving t s k l x) (q : Kept t s keep s') where
  module _ {v : ℕ} (e : x ≡ Change.Turn keep v) where
    turn-settles : Settling t s k keep (length (turned_at (facts_in t) (spine_side l) v (cells_in s keep)).1)
    unfolding change_node keep_of
    turn-settles = (arriving e h).settles

    turn-turns : Turning t s keep (spine_side l) v
    turn-turns = able-turn t s l keep v (arriving e h).able

    pub turn-asks : Turns t s' keep (spine_side l) × (v ≡ above_top t s' keep (spine_side l))
        × Lies s' (length (turned_at (facts_in t) (spine_side l) v (cells_in s' keep)).1)
    turn-asks =
        let turns = turning-still turn-settles q.behind turn-turns in
        (turns.0, turns.1, room (turned_at (facts_in t) (spine_side l) v) turn-settles q.behind)

    pub turn-made : {u : List ℕ} {r : Standing} → Stood (turned_at (facts_in t) (spine_side l) v (cells_in s' keep)) s' u r
        → Settled t (change_node (facts_in t) l x s) s u r
    unfolding change_node
    turn-made w = settled_case (facts_in t) l e (settled-turn (facts_in t) q turn-settles turn-turns w)

  module _ {v : ℕ} (e : x ≡ Change.Tree keep v) where
    beside : Cells → Node
    beside cs = opened (facts_in t) (turned_at (facts_in t) (letter_side l) v cs).0 (turned_at (facts_in t) (letter_side l) v cs).1

    tree-settles : Settling t s k keep (length (beside (cells_in s keep)).1)
    unfolding change_node keep_of beside
    tree-settles = (arriving e h).settles

    tree-turns : Turning t s keep (letter_side l) v
    tree-turns = able-tree t s l keep v (arriving e h).able

    pub tree-asks : let y = turned_at (facts_in t) (letter_side l) v (cells_in s' keep) in
        Turning t s' keep (letter_side l) v × Lies s' (length (opened (facts_in t) y.0 y.1).1)
    unfolding beside
    tree-asks = (turning-still tree-settles q.behind tree-turns, room beside tree-settles q.behind)

    pub tree-made : {u : List ℕ} {r : Standing} → let y = turned_at (facts_in t) (letter_side l) v (cells_in s' keep) in
        Stood (opened (facts_in t) y.0 y.1) s' u r → Settled t (change_node (facts_in t) l x s) s u r
    unfolding change_node beside
    tree-made w = settled_case (facts_in t) l e (settled-beside (facts_in t) q tree-settles tree-turns w)

  module _ {a : ℕ} (e : x ≡ Change.Spine keep a) where
    spine-settles : Settling t s k keep (length (opened (facts_in t) a (cells_in s keep)).1)
    unfolding change_node keep_of
    spine-settles = (arriving e h).settles

    pub spine-asks : Closes t × In t a × Lies s' (length (opened (facts_in t) a (cells_in s' keep)).1)
    spine-asks = (h.rows, able-spine t s l keep a (arriving e h).able, room (opened (facts_in t) a) spine-settles q.behind)

    pub spine-made : {u : List ℕ} {r : Standing} → Stood (opened (facts_in t) a (cells_in s' keep)) s' u r → Settled t (change_node (facts_in t) l x s) s u r
    unfolding change_node
    spine-made w = settled_case (facts_in t) l e (settled-tree (facts_in t) q a spine-settles w)

  pub kept-made : {a : ℕ} → x ≡ Change.Kept keep a → Settled t (change_node (facts_in t) l x s) s s' (record { used = keep; rule = a })
  unfolding change_node keep_of
  kept-made {a} e = settled_case (facts_in t) l e (settled-kept a (arriving e h).settles q)

  module _ {n o : ℕ} (e : x ≡ Change.Row keep n o) where
    row-settles : Settling t s k keep (length (entered (facts_in t) (entry_side l) n o (cells_in s keep)).1)
    unfolding change_node keep_of
    row-settles = (arriving e h).settles

    pub row_small : keep + 2 < 65536
    row_small = (opens-here (facts_in t) (entry_side l) n o row-settles q (keep + 2) (omega arith) (omega arith)).0.small

    module _ (i : ℕ) (some : 0 < i) (low : i ≤ keep + 2) where
      pub row_opens : Linkable t s' i × (0 < i)
      row_opens = opens-here (facts_in t) (entry_side l) n o row-settles q i some low

      pub row-asks : {u : List ℕ} → u ≡ opens_row t i s'
          → Closes t × In t o × Lies u (length (entered (facts_in t) (entry_side l) n o (cells_in u keep)).1)
      row-asks j = (h.rows, able-row t s l keep n o (arriving e h).able, row_room (facts_in t) (entry_side l) n o row-settles q i some low j)

    pub row_made : {u w : List ℕ} {r : Standing} → u ≡ opens_row t (keep + 1) s' → Stood (entered (facts_in t) (entry_side l) n o (cells_in u keep)) u w r
        → Settled t (change_node (facts_in t) l x s) s w r
    unfolding change_node
    row_made j z = settled_case (facts_in t) l e (settled-row (facts_in t) (entry_side l) n o row-settles q j z)

  module _ {v n o : ℕ} (e : x ≡ Change.Beside keep v n o) where
    past : Cells → Node
    past cs = turned_at (facts_in t) Side.left v cs

    next : Cells → Node
    next cs = entered (facts_in t) (entry_side l) n o cs

    beside-settles : Settling t s k keep (length (next (past (cells_in s keep)).1).1)
    unfolding change_node keep_of past next
    beside-settles = (arriving e h).settles

    past-settles : Settling t s k keep (length (past (cells_in s keep)).1)
    unfolding next
    past-settles = settling-fewer _ (entered-longer (facts_in t) (entry_side l) n o (past (cells_in s keep)).1) beside-settles

    beside-able : Turning t s keep Side.left v × In t o
    beside-able = able-beside t s l keep v n o (arriving e h).able

    pub past-asks : Turns t s' keep Side.left × (v ≡ above_top t s' keep Side.left)
        × Lies s' (length (turned_at (facts_in t) Side.left v (cells_in s' keep)).1)
    unfolding past
    past-asks =
        let turns = turning-still past-settles q.behind beside-able.0 in
        (turns.0, turns.1, room past past-settles q.behind)

    module _ {s'' : List ℕ} {at : Standing} (z : Stood (turned_at (facts_in t) Side.left v (cells_in s' keep)) s' s'' at) where
      past-made : Settled t (past (cells_in s keep)) s s'' at
      unfolding past
      past-made = settled-turn (facts_in t) q past-settles beside-able.0 z

      next-settles : Settling t s'' at.used at.used (length (next (cells_in s'' at.used)).1)
      next-settles = settling-on next past-made beside-settles past-settles.there

      next-kept : Kept t s'' at.used s''
      next-kept = kept_on next past-made beside-settles past-settles.there

      pub beside-small : at.used + 2 < 65536
      unfolding next
      beside-small = (opens-here (facts_in t) (entry_side l) n o next-settles next-kept (at.used + 2) (omega arith) (omega arith)).0.small

      module _ (i : ℕ) (some : 0 < i) (low : i ≤ at.used + 2) where
        pub beside-opens : Linkable t s'' i × (0 < i)
        unfolding next
        beside-opens = opens-here (facts_in t) (entry_side l) n o next-settles next-kept i some low

        pub beside-asks : {u : List ℕ} → u ≡ opens_row t i s''
            → Closes t × In t o × Lies u (length (entered (facts_in t) (entry_side l) n o (cells_in u at.used)).1)
        unfolding next
        beside-asks j = (h.rows, beside-able.1, row_room (facts_in t) (entry_side l) n o next-settles next-kept i some low j)

      pub beside-made : {u w : List ℕ} {r : Standing} → u ≡ opens_row t (at.used + 1) s''
          → Stood (entered (facts_in t) (entry_side l) n o (cells_in u at.used)) u w r → Settled t (change_node (facts_in t) l x s) s w r
      unfolding change_node past next
      beside-made j y =
          settled_case (facts_in t) l e
          (settled_on next past-made beside-settles past-settles.there (settled-row (facts_in t) (entry_side l) n o next-settles next-kept j y))

-- the cases that a letter doesn't have
module _ (t s : List ℕ) where
  pub never-root : (d : Side) (x : Change) → ((k n o : ℕ) → x ≡ Change.Row k n o → ⊥) → Able t s (Letter.root d) x → ⊥
  unfolding Able AbleRoot
  never-root d (Change.Kept k r) hr a = a
  never-root d (Change.Turn k v) hr a = a
  never-root d (Change.Tree k v) hr a = a
  never-root d (Change.Beside k v n o) hr a = a
  never-root d (Change.Row k n o) hr a = hr k n o refl
  never-root d (Change.Spine k b) hr a = a

  pub never-child : (d : Side) (x : Change) → ((k v : ℕ) → x ≡ Change.Turn k v → ⊥) → ((k n o : ℕ) → x ≡ Change.Row k n o → ⊥) → ((k b : ℕ) → x ≡ Change.Spine k b → ⊥) → Able t s (Letter.child d) x → ⊥
  unfolding Able AbleChild
  never-child d (Change.Kept k r) ht hr hs a = a
  never-child d (Change.Turn k v) ht hr hs a = ht k v refl
  never-child d (Change.Tree k v) ht hr hs a = a
  never-child d (Change.Beside k v n o) ht hr hs a = a
  never-child d (Change.Row k n o) ht hr hs a = hr k n o refl
  never-child d (Change.Spine k b) ht hr hs a = hs k b refl

  pub never-parent : (x : Change) → ((k r : ℕ) → x ≡ Change.Kept k r → ⊥) → ((k v : ℕ) → x ≡ Change.Turn k v → ⊥) → Able t s Letter.parent x → ⊥
  unfolding Able AbleParent
  never-parent (Change.Kept k r) hk ht a = hk k r refl
  never-parent (Change.Turn k v) hk ht a = ht k v refl
  never-parent (Change.Tree k v) hk ht a = a
  never-parent (Change.Beside k v n o) hk ht a = a
  never-parent (Change.Row k n o) hk ht a = a
  never-parent (Change.Spine k b) hk ht a = a

  pub never-stay : (x : Change) → ((k r : ℕ) → x ≡ Change.Kept k r → ⊥) → Able t s Letter.stay x → ⊥
  unfolding Able AbleStay
  never-stay (Change.Kept k r) hk a = hk k r refl
  never-stay (Change.Turn k v) hk a = a
  never-stay (Change.Tree k v) hk a = a
  never-stay (Change.Beside k v n o) hk a = a
  never-stay (Change.Row k n o) hk a = a
  never-stay (Change.Spine k b) hk a = a

-- a walk that stands at a node has its rule, and arrives there with its label
pub stood-rule : {x : Node} {s s' : List ℕ} {z : Standing} → Stood x s s' z → (t : List ℕ) → In t x.0 → In t z.rule
stood-rule p t h = rw p.there h

module _ {t : List ℕ} {x : Node} {s s' : List ℕ} {z : Standing} (p : Settled t x s s' z) where
  pub settled-rule : In t x.0 → In t z.rule
  settled-rule h = rw p.there h

  pub arrived : {r : Landing} → r ≡ record { at = z; answer = label ((facts_in t).rule z.rule) } → Arrived t x s s' r
  arrived e =
      record {
        settled = subst (λ (l : Landing). Settled t x s s' l.at) (sym e) p;
        answered = ap (λ (l : Landing). l.answer) e ∙ ap (λ (y : Standing). label ((facts_in t).rule y.rule)) p.there;
      }
