-- What the code reads is the definition's branch, since the numbers are below 65,535 and so are told exactly; and the branch leads where it says:
-- the children of a node are the trees of its row, or of its L, the hole's and those of its R, and behind the last there is none. Assumes nothing.
use Prim.Native.Nat.{ℕ, suc, ◌+◌, ◌-◌, min, ◌≤◌, ◌<◌}
use native.Mathlib.Omega.{arith}
use mathlib.Core.Path.{◌≡◌, refl, sym, ap, ◌∙◌}
use mathlib.Core.List.{List, [], ◌∷◌}
use Rattle.std.specs.Prelude.{None, Option, Some}
use lib.ListN.{length}
use lib.Dec.{eqb, ltb}
use borrow.Author.Tests.{lt-ltb, le-ltb, eq-eqb, ne_eqb, ltb-true, ltb-false, eqb-true, eqb-false}
use Rattle.rule.specs.declared.Rule.{Rule}
use Rattle.forest.specs.Expression.{Expression, rule_number}
use Rattle.forest.specs.Good.{Sort, Good, Known}
use Rattle.forest.specs.Place.{Cells, Side, cell_row, row_of_node, row_of_part, representative}
use Rattle.forest.specs.Sides.{pick}
use Rattle.forest.specs.Position.{Position, Where, At, cells, located_of}
use Rattle.forest.specs.Reference.{Path, label_at}
use Rattle.forest.specs.Walk.{cells_in}
use Rattle.forest.proofs.Bound.{length-step}
use Rattle.forest.proofs.Cases.{by_bool}
use Rattle.forest.proofs.Unfold.{closed-row}
use Rattle.model.specs.Facts.{Facts}
use Rattle.model.specs.Run.{Node}
use Rattle.model.proofs.Fit.{shape}
use Rattle.model.proofs.Standing.{Here, whole}
use Rattle.facts.proofs.Rules.{NoNode, NoPart}
use Rattle.facts.specs.Facts.{facts_in, In}
use Rattle.facts.specs.Closes.{Names}
use Rattle.place_cells.proofs.Stack.{cells-none}
use Rattle.place_cells.proofs.Writes.{length-cells}
use Rattle.letter_arrival.specs.declared.Standing.{Standing}
use Rattle.letter_moves.proofs.Stands.{walked-in}
use Rattle.tops_rows.specs.Tops.{tops_at}
use Rattle.transfer_path.specs.Follow.{most_place}
use Rattle.transfer_path.specs.Spot.{Spot, path_to, tops, spot}
use Rattle.transfer_path.proofs.Spots.{roots, node-children, part-children, past-children}
use Rattle.transfer_path.proofs.CellSpots.{known-number, known_at}
use Rattle.transfer_climb.specs.Climb.{meaning, CountedRows}
use Rattle.transfer_climb.proofs.Rows.{told}
use Rattle.transfer_reach.specs.Reach.{Followable, RowAt, HoleAt}
use Rattle.transfer_reach.proofs.Short.{walked-fit}
use Rattle.transfer_reach.proofs.Turning.{known}
use Rattle.transfer_follow.specs.declared.Branch.{Branch}
use Rattle.transfer_follow.specs.Levels.{in_row, in_part, under_rule, branch_at, Found, Leads, FoundAt}

-- what is read is the definition's
module _ {t : List ℕ} (g : CountedRows t) {c i v : ℕ} (h : In t c) (few : i < most_place) (read : v ≡ tops_at t c) where
  trees : v ≡ min (tops (meaning t c)) most_place
  trees = told g h read

  fewer : i < v → i < tops (meaning t c)
  fewer l = let m = trees in omega arith

  exact : v ≤ i → v ≡ tops (meaning t c)
  exact l = let m = trees in omega arith

  pub row-there : (number : ℕ) → i < v → Some (Branch.Row number c i) ≡ in_row (meaning t) number c i
  unfolding in_row
  row-there number l = rw (lt-ltb i (tops (meaning t c)) (fewer l))

  pub row-missing : (number : ℕ) → v ≤ i → None ≡ in_row (meaning t) number c i
  unfolding in_row
  row-missing number l = let q = exact l in rw (le-ltb i (tops (meaning t c)) (omega arith))

  module _ (right : ℕ) where
    pub part_left_lem : i < v → Some (Branch.Row (row_of_part Side.left) c i) ≡ in_part (meaning t) c right i
    unfolding in_part
    part_left_lem l = rw (lt-ltb i (tops (meaning t c)) (fewer l))

    pub part-hole : i ≡ v → (Some Branch.Hole) ≡ in_part (meaning t) c right i
    unfolding in_part
    part-hole e =
        let q : v ≡ tops (meaning t c) = exact (omega arith) in
        rw (le-ltb i (tops (meaning t c)) (omega arith), eq-eqb i (tops (meaning t c)) (omega arith))

    pub part_right : v ≤ i → (i ≡ v → ⊥) → {b : Option Branch} → b ≡ in_row (meaning t) (row_of_part Side.right) right (i - v - 1)
        → b ≡ in_part (meaning t) c right i
    unfolding in_part
    part_right l n e =
        let q : v ≡ tops (meaning t c) = exact l in
        rw (le-ltb i (tops (meaning t c)) (omega arith), ne_eqb i (tops (meaning t c)) (λ z. n (z ∙ sym q))) (rw q at e)

module _ (E : ℕ → Expression) (F : Facts) (at : Standing) (start i : ℕ) {b : Option Branch} where
  pub branch-roots : at.used ≡ 0 → b ≡ in_row E row_of_node start i → b ≡ branch_at E F at start i
  unfolding branch_at
  branch-roots e q = rw (eq-eqb at.used 0 e) q

  pub branch-under : {x : Rule} → (at.used ≡ 0 → ⊥) → x ≡ F.rule at.rule → b ≡ under_rule E x i → b ≡ branch_at E F at start i
  unfolding branch_at
  branch-under n e q = rw (ne_eqb at.used 0 n, sym e) q

pub under-other : (E : ℕ → Expression) (x : Rule) (i : ℕ) → NoNode x → NoPart x → None ≡ under_rule E x i
unfolding under_rule
under-other E Rule.Empty i hn hp = refl
under-other E (Rule.Pair b c) i hn hp = refl
under-other E (Rule.Node a c) i hn hp = absurd (hn a c refl)
under-other E (Rule.Fill b c) i hn hp = refl
under-other E (Rule.Part a b c) i hn hp = absurd (hp a b c refl)
under-other E (Rule.Join b c) i hn hp = refl

-- a node has cells
spine-some : {w e : Expression} {z : Position} → At w Where.spine e z → 0 < length (cells z)
unfolding cells
spine-some (At.fill h) = omega arith
spine-some (At.join {r} {b} {c} {z = y} s h) =
    let some = spine-some h in
    let more = (length-step s r (rule_number (pick s b c)) (cells y)).0 in
    omega arith

pub node-some : {w e : Expression} {z : Position} → At w Where.here e z → 0 < length (cells z)
unfolding cells
node-some (At.node h) = omega arith
node-some (At.part h) = spine-some h

module _ {t s : List ℕ} {start : ℕ} (f : Followable t s start) where
  abbrev w : Expression
  w = meaning t start

  walked-good : Good Sort.row w
  walked-good = closed-row f.rows.sound f.rows.closed

  zero_more : (i : ℕ) (y : Path) → ◌≡◌ {A = Spot} (0 + i, y) (i, y)
  zero_more i y = ap (λ (j : ℕ). (j, y)) (let e : 0 + i ≡ i = omega arith in e)

  -- what the rows say of a node
  here-rule : {e : Expression} → Here (facts_in t) e → (facts_in t).rule (rule_number e) ≡ shape e
  here-rule (Here.node h gc) = h.rule
  here-rule (Here.part h gb gc) = h.rule

  module _ {e : Expression} {z : Position} (h : At w Where.here e z) where
    rule-is : (facts_in t).rule (rule_number e) ≡ shape e
    rule-is = here-rule (whole (facts_in t) w (walked-fit f.rows) Where.here e z h).0

    known-here : Known (meaning t) e
    known-here = (known_at (meaning t) (known f.counted (walked-in f.rows)) h).0

  named_in : {r : ℕ} {x : Rule} → In t r → (facts_in t).rule r ≡ x → Names (In t) x
  named_in {r} h e = rw e at (f.counted.closes.names r h)

  node-inside : {r a : ℕ} {c : Expression} → Known (meaning t) (Expression.node r a c) → meaning t (rule_number c) ≡ c
  node-inside (Known.node q k) = known-number (meaning t) k

  part-inside : {r a : ℕ} {b c : Expression} → Known (meaning t) (Expression.part r a b c) → (meaning t (rule_number b) ≡ b) × (meaning t (rule_number c) ≡ c)
  part-inside (Known.part q kb kc) = (known-number (meaning t) kb, known-number (meaning t) kc)

  module _ (k : ℕ) where
    -- a row leads to its tree, or has none there
    row-leads : (number c i : ℕ) (z : Position) (x : Spot) → In t c → i < most_place → At w Where.row (meaning t c) z
        → cells z ≡ (cell_row, number, representative (meaning t c), 0) ∷ cells_in s k → ((spot z).0 + i, (spot z).1) ≡ x
        → (tops (meaning t c) ≤ i → label_at (located_of w) (path_to x) ≡ None) → Leads t s k start x (in_row (meaning t) number c i)
    unfolding Leads in_row
    row-leads number c i z x h few a e q past =
        by_bool (ltb i (tops (meaning t c)))
        (λ u. rw u
        (record { followable = f; inside = h; few = few; position = z; stands = a; below = ltb-true i (tops (meaning t c)) u; cells_are = e; spot_is = q }))
        (λ u. rw u (past (ltb-false i (tops (meaning t c)) u)))

    -- among the roots
    roots-lead : (i : ℕ) → i < most_place → k ≡ 0 → Leads t s k start (i, []) (in_row (meaning t) row_of_node start i)
    unfolding cells spot
    roots-lead i few none_used =
        row-leads row_of_node start i (Position.start w) (i, []) (walked-in f.rows) few At.start
        (ap (λ (cs : Cells). (cell_row, row_of_node, representative w, 0) ∷ cs) (sym (cells-none s k none_used))) (zero_more i [])
        (λ l. past-children (located_of w) [] i (let many = roots walked-good in omega arith))

    -- under a node
    module _ {r a : ℕ} {c : Expression} {z : Position} (h : At w Where.here (Expression.node r a c) z) (inside : In t r) (there : cells z ≡ cells_in s k) where
      node-leads : (i : ℕ) → i < most_place → Leads t s k start (i, path_to (spot z)) (under_rule (meaning t) (Rule.Node a (rule_number c)) i)
      unfolding under_rule cells spot shape rule_number Names
      node-leads i few =
          let q = node-inside (known-here h) in
          row-leads row_of_node (rule_number c) i (Position.node_row r a c z) (i, path_to (spot z)) (named_in inside (rule-is h)) few (rw q (At.under h))
          (rw q (ap (λ (cs : Cells). (cell_row, row_of_node, representative c, 0) ∷ cs) there)) (zero_more i (path_to (spot z)))
          (λ l. past-children (located_of w) (path_to (spot z)) i (let many = node-children walked-good h in let same = ap tops q in omega arith))

    -- under a part
    module _ {r a : ℕ} {b c : Expression} {z : Position} (h : At w Where.here (Expression.part r a b c) z) (inside : In t r)
        (there : cells z ≡ cells_in s k) where
      sides-in : In t (rule_number b) × In t (rule_number c)
      unfolding shape rule_number Names
      sides-in = named_in inside (rule-is h)

      left-leads : (i : ℕ) → i < most_place → i < tops (meaning t (rule_number b))
          → RowAt t s k (row_of_part Side.left) (rule_number b) i start (i, path_to (spot z))
      unfolding cells spot pick
      left-leads i few l =
          let q = (part-inside (known-here h)).0 in
          record {
            followable = f;
            inside = sides-in.0;
            few = few;
            position = Position.part_row Side.left r a b c z;
            stands = rw q (At.arm Side.left h);
            below = l;
            cells_are = rw q (ap (λ (cs : Cells). (cell_row, row_of_part Side.left, representative b, 0) ∷ cs) there);
            spot_is = zero_more i (path_to (spot z));
          }

      hole-leads : (i : ℕ) → i ≡ tops (meaning t (rule_number b)) → HoleAt t s k start (i, path_to (spot z))
      hole-leads i e =
          let q = (part-inside (known-here h)).0 in
          record {
            followable = f;
            number = r;
            label = a;
            left = b;
            right = c;
            position = z;
            here = h;
            cells_are = there;
            spot_is = ap (λ (j : ℕ). (j, path_to (spot z))) (sym (e ∙ ap tops q));
          }

      right-leads : (i : ℕ) → i < most_place → tops (meaning t (rule_number b)) < i
          → Leads t s k start (i, path_to (spot z)) (in_row (meaning t) (row_of_part Side.right) (rule_number c) (i - tops (meaning t (rule_number b)) - 1))
      unfolding cells spot pick
      right-leads i few l =
          let q = part-inside (known-here h) in
          let left = ap tops q.0 in
          let same = ap tops q.1 in
          let rest = i - tops (meaning t (rule_number b)) - 1 in
          row-leads (row_of_part Side.right) (rule_number c) rest (Position.part_row Side.right r a b c z) (i, path_to (spot z)) sides-in.1 (omega arith)
          (rw q.1 (At.arm Side.right h)) (rw q.1 (ap (λ (cs : Cells). (cell_row, row_of_part Side.right, representative c, 0) ∷ cs) there))
          (ap (λ (j : ℕ). (j, path_to (spot z))) (let e : suc (tops b) + rest ≡ i = omega arith in e))
          (λ m. past-children (located_of w) (path_to (spot z)) i (let many = part-children walked-good h in omega arith))

      part-leads : (i : ℕ) → i < most_place → Leads t s k start (i, path_to (spot z)) (under_rule (meaning t) (Rule.Part a (rule_number b) (rule_number c)) i)
      unfolding under_rule in_part Leads
      part-leads i few =
          let before = tops (meaning t (rule_number b)) in
          by_bool (ltb i before) (λ u. rw u (left-leads i few (ltb-true i before u)))
          (λ u. by_bool (eqb i before) (λ v. rw (u, v) (hole-leads i (eqb-true i before v)))
          (λ v. rw (u, v) (right-leads i few (let low = ltb-false i before u in let apart = eqb-false i before v in let r : before < i = omega arith in r))))

    under-leads : {e : Expression} {z : Position} → At w Where.here e z → In t (rule_number e) → cells z ≡ cells_in s k → (i : ℕ) → i < most_place
        → Leads t s k start (i, path_to (spot z)) (under_rule (meaning t) ((facts_in t).rule (rule_number e)) i)
    unfolding shape rule_number
    under-leads (At.node h) inside there i few = rw (rule-is (At.node h)) (node-leads (At.node h) inside there i few)
    under-leads (At.part h) inside there i few = rw (rule-is (At.part h)) (part-leads (At.part h) inside there i few)

    no_cells : cells_in s k ≡ [] → k ≡ 0
    no_cells e = sym (length-cells s k) ∙ ap length e

    found-leads : {y : Path} {n : Node} {p : ℕ} → Found w y n → n ≡ (p, cells_in s k) → In t p → (i : ℕ) → i < most_place
        → Leads t s k start (i, y) (branch_at (meaning t) (facts_in t) (record { used = k; rule = p }) start i)
    unfolding branch_at
    found-leads {p = p} Found.above e inside i few =
        let none_used = no_cells (sym (ap (λ (m : Node). m.1) e)) in
        rw (eq-eqb k 0 none_used) (roots-lead i few none_used)
    found-leads {p = p} (Found.node {x} {n} q) e inside i few =
        let same = sym q.node_is ∙ e in
        let there : cells q.position ≡ cells_in s k = ap (λ (m : Node). m.1) same in
        let rule : rule_number q.expression ≡ p = ap (λ (m : Node). m.0) same in
        let some = node-some q.here in
        let long = ap length there ∙ length-cells s k in
        rw (ne_eqb k 0 (λ z. let n : ⊥ = omega arith in n), sym q.spot_is, sym rule) (under-leads q.here (rw (sym rule) at inside) there i few)

-- where the branch leads
pub branch_leads : {t s : List ℕ} {at : Standing} {start : ℕ} {y : Path} → FoundAt t s at start y → (i : ℕ) → i < most_place
    → Leads t s at.used start (i, y) (branch_at (meaning t) (facts_in t) at start i)
branch_leads {at = at} o i few = found-leads o.followable at.used o.found refl o.inside i few
