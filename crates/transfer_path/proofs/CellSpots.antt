-- The spot that the cells of a position tell is the position's: a step begins a right run or grows one by a step, which the run's depths
-- count; a row and a spine are opened at what stands there. So the path that a place's cells tell is that of its node. Assumes nothing.
use Prim.Native.Nat.{ℕ, zero, suc, ◌+◌, ◌-◌}
use native.Mathlib.Omega.{arith}
use mathlib.Core.Path.{◌≡◌, refl, sym, ◌∙◌, ap, ap₂}
use mathlib.Core.Bool.{false}
use mathlib.Core.List.{[], ◌∷◌}
use Rattle.std.specs.Prelude.{Option, None, Some}
use Rattle.std.proofs.lemmas.Option.{none-some, same_Some}
use Rattle.rule.specs.declared.Rule.{Rule}
use Rattle.forest.specs.Expression.{Expression, rule_number}
use Rattle.forest.specs.Forest.{Forest}
use Rattle.forest.specs.Place.{Cells, Side, cell_row, cell_spine, cell_run, row_of_part, row_of_node, is_empty, representative, step}
use Rattle.forest.specs.Sides.{pick}
use Rattle.forest.specs.Reference.{Path, label_at}
use Rattle.forest.specs.Good.{Sort, Good, Known}
use Rattle.forest.specs.Position.{Position, Located, located_of, cells, continues, Named, Where, At}
use Rattle.forest.proofs.Sides.{picked}
use Rattle.forest.proofs.Unique.{same-position}
use Rattle.model.specs.Facts.{Facts}
use Rattle.model.specs.Run.{Node, along}
use Rattle.model.specs.Pieces.{standing}
use Rattle.model.specs.Same.{Same}
use Rattle.model.proofs.Cells.{Steps, Top, Grows, top-grows, top-standing, step-begins, step-grows}
use Rattle.model.proofs.Fit.{Fit, Tells, tells, shape, pair-steps, join-steps}
use Rattle.model.proofs.Standing.{Here, whole, says, pair-says}
use Rattle.transfer_path.specs.Spot.{Spot, path_to, tops, through, opening, spot}
use Rattle.transfer_path.specs.CellSpot.{left_tops, row_before, row_spot, spine_spot, step_spot, right_steps, steps_between, cell_spot, spot_in, path_in}
use Rattle.transfer_path.proofs.Spots.{spot-path, opening-row, opening-part}

-- what the cells tell, by the kind of the last
module _ (F : Facts) (E : ℕ → Expression) where
  cell_row_lem : (d v : ℕ) (cs : Cells) → spot_in F E ((cell_row, d, v, 0) ∷ cs) ≡ row_spot F E d cs (spot_in F E cs)
  unfolding spot_in cell_spot
  cell_row_lem d v cs = refl

  cell-spine : (a : ℕ) (cs : Cells) → spot_in F E ((cell_spine, a, 0, 0) ∷ cs) ≡ spine_spot E (F.rule (standing F cs)) (spot_in F E cs)
  unfolding spot_in cell_spot
  cell-spine a cs = refl

  cell-left : (a v : ℕ) (cs : Cells) → spot_in F E ((cell_run Side.left, a, v, 0) ∷ cs) ≡ spot_in F E cs
  unfolding spot_in cell_spot cell_run
  cell-left a v cs = refl

  cell-right : (a v : ℕ) (cs : Cells) → spot_in F E ((cell_run Side.right, a, v, 0) ∷ cs) ≡ right_steps F E (steps_between F a v) a (spot_in F E cs)
  unfolding spot_in cell_spot cell_run
  cell-right a v cs = refl

  -- a left step stays
  step_left : (a v : ℕ) (cs : Cells) → Grows F Side.left a cs → spot_in F E (step Side.left a v cs) ≡ spot_in F E cs
  step_left a v cs (Grows.begins h) = rw (step-begins Side.left a v cs h) (cell-left a v cs)
  step_left a v cs (Grows.grows {x} {t} j e d) = rw step-grows (cell-left x v t ∙ sym (cell-left x a t))

  -- a right step goes on from where the cells led
  step_right : (a v : ℕ) (cs : Cells) → Steps F Side.right a v → Grows F Side.right a cs
      → spot_in F E (step Side.right a v cs) ≡ step_spot E (F.rule a) (spot_in F E cs)
  unfolding steps_between right_steps along
  step_right a v cs g (Grows.begins h) =
      rw (step-begins Side.right a v cs h)
      (cell-right a v cs
      ∙ ap (λ j. right_steps F E j a (spot_in F E cs)) (let e : F.depth Side.right a - F.depth Side.right v ≡ suc zero = omega (arith, g.deep) in e))
  step_right a v cs g (Grows.grows {x} {t} j e d) =
      rw step-grows
      (cell-right x v t
      ∙ ap (λ i. right_steps F E i x (spot_in F E t))
      (let e : F.depth Side.right x - F.depth Side.right v ≡ suc (suc j) = omega (arith, g.deep) in e)
      ∙ ap₂ (λ (b : ℕ) y. step_spot E (F.rule b) y) e
      (ap (λ i. right_steps F E i x (spot_in F E t)) (let e : suc j ≡ F.depth Side.right x - F.depth Side.right a = omega arith in e)
      ∙ sym (cell-right x a t)))

-- whatever stands at a position, and what continues it, is what E gives for its rule
abbrev pub KnownAt : (ℕ → Expression) → Expression → Position → Type 0
KnownAt E e z = Known E e × ((c : Expression) → continues z ≡ Some c → Known E c)

module _ (E : ℕ → Expression) where
  pub known-number : {e : Expression} → Known E e → E (rule_number e) ≡ e
  unfolding rule_number
  known-number (Known.empty q) = q
  known-number (Known.pair q kb kc) = q
  known-number (Known.node q kc) = q
  known-number (Known.fill q kb kc) = q
  known-number (Known.part q kb kc) = q
  known-number (Known.join q kb kc) = q

  ends_there : (c : Expression) → None ≡ Some c → Known E c
  ends_there c q = absurd (none-some c q)

  known-pair : (s : Side) {r : ℕ} {b c : Expression} → Known E (Expression.pair r b c) → Known E (pick s b c)
  known-pair s {b = b} {c = c} (Known.pair q kb kc) = picked (Known E) s b c kb kc

  known-node : {r a : ℕ} {c : Expression} → Known E (Expression.node r a c) → Known E c
  known-node (Known.node q kc) = kc

  known-arm : (s : Side) {r a : ℕ} {b c : Expression} → Known E (Expression.part r a b c) → Known E (pick s b c)
  known-arm s {b = b} {c = c} (Known.part q kb kc) = picked (Known E) s b c kb kc

  known-fill : {r : ℕ} {b c : Expression} (z : Position) → Known E (Expression.fill r b c) → KnownAt E b (Position.fill_spine r b c z)
  unfolding continues
  known-fill {c = c} z (Known.fill q kb kc) = (kb, λ d e. rw (same_Some c d e) at kc)

  known-join : (s : Side) {r : ℕ} {b c : Expression} (z : Position) → Known E (Expression.join r b c) → ((d : Expression) → continues z ≡ Some d → Known E d)
      → KnownAt E (pick s b c) (Position.join_side s r b c z)
  unfolding continues pick
  known-join Side.left z (Known.join q kb kc) f = (kb, ends_there)
  known-join Side.right z (Known.join q kb kc) f = (kc, f)

  pub known_at : {w : Expression} → Known E w → {k : Where} {e : Expression} {z : Position} → At w k e z → KnownAt E e z
  unfolding continues pick
  known_at x At.start = (x, ends_there)
  known_at x (At.side s h u v) = (known-pair s (known_at x h).0, ends_there)
  known_at x (At.only_right h u) = (known-pair Side.right (known_at x h).0, (known_at x h).1)
  known_at x (At.only_left h u v) = (known-pair Side.left (known_at x h).0, (known_at x h).1)
  known_at x (At.tree_node h) = known_at x h
  known_at x (At.tree_fill h) = known_at x h
  known_at x (At.node h) = ((known_at x h).0, ends_there)
  known_at x (At.under h) = (known-node (known_at x h).0, ends_there)
  known_at x (At.fill {z = z} h) = known-fill z (known_at x h).0
  known_at x (At.join {z = z} s h) = known-join s z (known_at x h).0 (known_at x h).1
  known_at x (At.part h) = known_at x h
  known_at x (At.arm s h) = (known-arm s (known_at x h).0, ends_there)
  known_at x (At.hole {e = e} h q) = ((known_at x h).1 e q, (known_at x h).1)

  -- a row opened over cells
  row-over : (F : Facts) (d v : ℕ) (cs : Cells) → Top F v cs → (x : Spot) → row_spot F E d cs x ≡ (row_before E (F.rule v) d, path_to x)
  unfolding row_spot
  row-over F d v [] t x = elim t [ ]
  row-over F d v (c ∷ cs) t x = ap (λ p. (row_before E (F.rule p) d, path_to x)) (top-standing F v (c ∷ cs) t)

  spine-over : (F : Facts) (v : ℕ) (cs : Cells) → Top F v cs → (x : Spot) → spine_spot E (F.rule (standing F cs)) x ≡ spine_spot E (F.rule v) x
  spine-over F v cs t x = ap (λ p. spine_spot E (F.rule p) x) (top-standing F v cs t)

-- a path without a node is above the forest
named-above : {A : Type 0} {g : Forest A} (p : Path) → Named g p → label_at g p ≡ None → [] ≡ p
named-above p Named.above q = refl
named-above p (Named.node e) q = absurd (none-some _ (sym q ∙ e))

-- what the rules at a position add to a spot is what their expressions do
module _ (F : Facts) (E : ℕ → Expression) where
  pair_step : {r : ℕ} {b c : Expression} → Tells F (Expression.pair r b c) → Known E (Expression.pair r b c) → (x : Spot)
      → step_spot E (F.rule r) x ≡ (x.0 + tops b, x.1)
  unfolding step_spot shape rule_number
  pair_step t (Known.pair q kb kc) x = rw t.rule (ap (λ e. (x.0 + tops e, x.1)) (known-number E kb))

  join_step : {r : ℕ} {b c : Expression} → Tells F (Expression.join r b c) → Known E (Expression.join r b c) → (x : Spot)
      → step_spot E (F.rule r) x ≡ through b x
  unfolding step_spot shape rule_number
  join_step t (Known.join q kb kc) x = rw t.rule (ap (λ e. through e x) (known-number E kb))

  part-spine-spot : {r a : ℕ} {b c : Expression} → Here F (Expression.part r a b c) → Known E (Expression.part r a b c) → (x : Spot)
      → spine_spot E (F.rule r) x ≡ through (Expression.part r a b c) x
  unfolding spine_spot shape rule_number through
  part-spine-spot (Here.part t gb gc) (Known.part q kb kc) x = rw t.rule (ap (λ e. (tops e, path_to x)) (known-number E kb))

  right-before : {r a : ℕ} {b c : Expression} → Here F (Expression.part r a b c) → Known E (Expression.part r a b c)
      → row_before E (F.rule r) (row_of_part Side.right) ≡ suc (tops b)
  unfolding row_before left_tops row_of_part shape rule_number
  right-before (Here.part t gb gc) (Known.part q kb kc) = rw t.rule (ap (λ e. suc (tops e)) (known-number E kb))

  node-spine-spot : {r a : ℕ} {c : Expression} → Tells F (Expression.node r a c) → (x : Spot) → spine_spot E (F.rule r) x ≡ x
  unfolding spine_spot shape rule_number
  node-spine-spot t x = rw t.rule

  fill-spine-spot : {r : ℕ} {b c : Expression} → Tells F (Expression.fill r b c) → (x : Spot) → spine_spot E (F.rule r) x ≡ x
  unfolding spine_spot shape rule_number
  fill-spine-spot t x = rw t.rule

  -- before the trees of a node's row, and of an L, nothing stands
  node-before : (q : Rule) → row_before E q row_of_node ≡ 0
  unfolding row_before row_of_part
  node-before q = refl

  left-before : (q : Rule) → row_before E q (row_of_part Side.left) ≡ 0
  unfolding row_before row_of_part
  left-before q = refl

  module _ {w : Expression} (fit : Fit F Sort.row w) (known : Known E w) where
    part-on : {r a : ℕ} {b c : Expression} {z : Position} → At w Where.here (Expression.part r a b c) z → At w Where.spine (Expression.part r a b c) z
    part-on (At.part h) = h

    -- a tree's spine is opened where the tree stands
    tree-spot : {e : Expression} {z : Position} → At w Where.tree e z → (x : Spot) → spine_spot E (F.rule (standing F (cells z))) x ≡ opening z x
    unfolding representative rule_number
    tree-spot {z = z} (At.tree_node {r} {a} {c} h) x =
        spine-over E F r (cells z) (says F w fit Where.row (Expression.node r a c) z h) x
        ∙ node-spine-spot (tells F Sort.row (Expression.node r a c) (whole F w fit Where.row (Expression.node r a c) z h)) x
        ∙ sym (opening-row h x)
    tree-spot {z = z} (At.tree_fill {r} {b} {c} h) x =
        spine-over E F r (cells z) (says F w fit Where.row (Expression.fill r b c) z h) x
        ∙ fill-spine-spot (tells F Sort.row (Expression.fill r b c) (whole F w fit Where.row (Expression.fill r b c) z h)) x
        ∙ sym (opening-row h x)
    tree-spot {z = z} (At.hole {r} {a} {b} {c} h q) x =
        spine-over E F r (cells z) (says F w fit Where.here (Expression.part r a b c) z h) x
        ∙ part-spine-spot (whole F w fit Where.here (Expression.part r a b c) z h).0 (known_at E known h).0 x
        ∙ sym (opening-part (part-on h) x)

    -- one more crumb of each kind
    under-spot : {r a : ℕ} {c : Expression} {z : Position} → At w Where.here (Expression.node r a c) z → spot_in F E (cells z) ≡ spot z
        → spot_in F E (cells (Position.node_row r a c z)) ≡ spot (Position.node_row r a c z)
    unfolding cells spot rule_number
    under-spot {r} {a} {c} {z} h ih =
        cell_row_lem F E row_of_node (representative c) (cells z)
        ∙ row-over E F row_of_node r (cells z) (says F w fit Where.here (Expression.node r a c) z h) (spot_in F E (cells z))
        ∙ ap₂ (λ (i : ℕ) (x : Spot). (i, path_to x)) (node-before (F.rule r)) ih

    arm-spot : {r a : ℕ} {b c : Expression} {z : Position} (s : Side) → At w Where.here (Expression.part r a b c) z → spot_in F E (cells z) ≡ spot z
        → spot_in F E (cells (Position.part_row s r a b c z)) ≡ spot (Position.part_row s r a b c z)
    unfolding cells spot rule_number pick
    arm-spot {r} {a} {b} {c} {z} Side.left h ih =
        cell_row_lem F E (row_of_part Side.left) (representative b) (cells z)
        ∙ row-over E F (row_of_part Side.left) r (cells z) (says F w fit Where.here (Expression.part r a b c) z h) (spot_in F E (cells z))
        ∙ ap₂ (λ (i : ℕ) (x : Spot). (i, path_to x)) (left-before (F.rule r)) ih
    arm-spot {r} {a} {b} {c} {z} Side.right h ih =
        cell_row_lem F E (row_of_part Side.right) (representative c) (cells z)
        ∙ row-over E F (row_of_part Side.right) r (cells z) (says F w fit Where.here (Expression.part r a b c) z h) (spot_in F E (cells z))
        ∙ ap₂ (λ (i : ℕ) (x : Spot). (i, path_to x)) (right-before (whole F w fit Where.here (Expression.part r a b c) z h).0 (known_at E known h).0) ih

    side-spot : {r : ℕ} {b c : Expression} {z : Position} (s : Side) → At w Where.row (Expression.pair r b c) z → is_empty b ≡ false → is_empty c ≡ false
        → spot_in F E (cells z) ≡ spot z → spot_in F E (cells (Position.pair_side s r b c z)) ≡ spot (Position.pair_side s r b c z)
    unfolding cells spot pick
    side-spot {r} {b} {c} {z} Side.left h u v ih =
        step_left F E r (representative b) (cells z) (top-grows F Side.left r (cells z) (pair-says F w fit r b c z h u v)) ∙ ih
    side-spot {r} {b} {c} {z} Side.right h u v ih =
        let g : Fit F Sort.row (Expression.pair r b c) = whole F w fit Where.row (Expression.pair r b c) z h in
        step_right F E r (representative c) (cells z) (pair-steps F Side.right r b c g u v)
        (top-grows F Side.right r (cells z) (pair-says F w fit r b c z h u v))
        ∙ pair_step (tells F Sort.row (Expression.pair r b c) g) (known_at E known h).0 (spot_in F E (cells z))
        ∙ ap (λ (x : Spot). (x.0 + tops b, x.1)) ih

    join-spot : {r : ℕ} {b c : Expression} {z : Position} (s : Side) → At w Where.spine (Expression.join r b c) z
        → spot_in F E (cells z) ≡ spot z → spot_in F E (cells (Position.join_side s r b c z)) ≡ spot (Position.join_side s r b c z)
    unfolding cells spot pick rule_number
    join-spot {r} {b} {c} {z} Side.left h ih =
        step_left F E r (rule_number b) (cells z) (top-grows F Side.left r (cells z) (says F w fit Where.spine (Expression.join r b c) z h)) ∙ ih
    join-spot {r} {b} {c} {z} Side.right h ih =
        let g : Fit F Sort.spine (Expression.join r b c) = (whole F w fit Where.spine (Expression.join r b c) z h).0 in
        step_right F E r (rule_number c) (cells z) (join-steps F Side.right r b c g)
        (top-grows F Side.right r (cells z) (says F w fit Where.spine (Expression.join r b c) z h))
        ∙ join_step (tells F Sort.spine (Expression.join r b c) g) (known_at E known h).0 (spot_in F E (cells z))
        ∙ ap (through b) ih

    -- the cells of a position tell its spot
    pub cell-spot : {k : Where} {e : Expression} {z : Position} → At w k e z → spot_in F E (cells z) ≡ spot z
    unfolding cells spot
    cell-spot At.start = cell_row_lem F E row_of_node (representative w) [] ∙ (unfold row_spot in refl)
    cell-spot (At.side s h u v) = side-spot s h u v (cell-spot h)
    cell-spot (At.only_right h u) = cell-spot h
    cell-spot (At.only_left h u v) = cell-spot h
    cell-spot (At.tree_node h) = cell-spot h
    cell-spot (At.tree_fill h) = cell-spot h
    cell-spot (At.node {r} {z = z} h) = cell-spine F E r (cells z) ∙ tree-spot h (spot_in F E (cells z)) ∙ ap (opening z) (cell-spot h)
    cell-spot (At.under h) = under-spot h (cell-spot h)
    cell-spot (At.fill {r} {z = z} h) = cell-spine F E r (cells z) ∙ tree-spot h (spot_in F E (cells z)) ∙ ap (opening z) (cell-spot h)
    cell-spot (At.join s h) = join-spot s h (cell-spot h)
    cell-spot (At.part h) = cell-spot h
    cell-spot (At.arm s h) = arm-spot s h (cell-spot h)
    cell-spot (At.hole h q) = cell-spot h

    path-in : (v : ℕ) (cs : Cells) → Top F v cs → path_in F E cs ≡ path_to (spot_in F E cs)
    unfolding path_in
    path-in v [] t = elim t [ ]
    path-in v (c ∷ cs) t = refl

    -- the path that a place's cells tell is that of the node which the place stands at
    pub place-path : {p : Path} {n : Node} → Good Sort.row w → Named (located_of w) p → Same w (label_at (located_of w) p) n → path_in F E n.1 ≡ p
    unfolding path_in
    place-path {p} {n} g named same = go (label_at (located_of w) p) n refl same
      where
        go : (y : Option Located) (n : Node) → label_at (located_of w) p ≡ y → Same w y n → path_in F E n.1 ≡ p
        go y n q Same.above = named-above p named q
        go y n q (Same.at {e} {z} h) =
            path-in (rule_number e) (cells z) (says F w fit Where.here e z h) ∙ ap path_to (cell-spot h) ∙ same-position g (path_to (spot z)) p (spot-path g h) q
