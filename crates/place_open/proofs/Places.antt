-- A stored place on the rows of a plan's rules: turned down, or a place of the walked rule's forest. Assumes nothing.
use Rattle.std.specs.Prelude.{Result, Ok, Err}
use Prim.Native.Nat.{ℕ, zero, suc, ◌+◌, ◌-◌, ◌*◌, ◌≤◌, ◌<◌}
use native.Mathlib.Omega.{arith}
use mathlib.Core.Path.{◌≡◌, sym, ap, subst, ◌∙◌}
use mathlib.Core.Bool.{Bool, true, false, ◌&&◌, and-eq-true_iff}
use mathlib.Core.List.{List}
use lib.ListN.{length}
use lib.Dec.{ltb, eqb}
use borrow.Author.Tests.{leb-true, lt-ltb, le-ltb}
use Rattle.rule.specs.declared.Rule.{Rule}
use Rattle.rule.specs.Rule.{encode, closed}
use Rattle.rule.specs.Sound.{rule, kind_in, Closed}
use Rattle.refusal.specs.declared.Refusal.{Refusal}
use Rattle.forest.specs.Reference.{Path}
use Rattle.forest.specs.Walk.{cell_length, cursor_words, cell_at, cells_in, used_cells, rule_word, rule_named, walked_rule, is_closed, headed, Begun, place_in, place_judged}
use Rattle.forest.proofs.WalkedRule.{walked-closed}
use Rattle.model.specs.Facts.{Facts, facts_of}
use Rattle.model.specs.Model.{standing}
use Rattle.model.specs.Stored.{accepts}
use Rattle.work_rows.proofs.Kept.{first-length}
use Rattle.facts.specs.Facts.{row_count, facts_in}
use Rattle.place_cells.specs.Cells.{Lies}
use Rattle.place_cells.proofs.Stack.{cells-none, cells-top}
use Rattle.place_store.specs.declared.Head.{Head}
use Rattle.place_store.specs.Head.{head_of}
use Rattle.letter_arrival.specs.declared.Standing.{Standing}
use Rattle.letter_moves.specs.Standing.{rules_kept, WalkedRows, Placed}
use Rattle.place_open.specs.declared.Opened.{Opened}
use Rattle.place_open.specs.Open.{placed, closed_in, Openable, Stood, OpensAt, Opens}
use Rattle.place_open.proofs.Begin.{stood-valid, begins, begins-not}

-- cells that are a place
pub placed-above : (F : Facts) (r : ℕ) (s : List ℕ) (k : ℕ) → k ≡ 0 → true ≡ placed F r (cells_in s k)
unfolding placed
placed-above F r s k e = rw (cells-none s k e)

pub placed-node : (F : Facts) (r : ℕ) (s : List ℕ) (k : ℕ) → 0 < k → accepts F r (cells_in s k) ≡ placed F r (cells_in s k)
unfolding placed
placed-node F r s k h = rw (cells-top s k h)

-- the rule that a word names
pub names-start : (start w : ℕ) → w ≡ 0 → start ≡ rule_named start w
unfolding rule_named
names-start start w e = rw e

pub names-rule : (start w : ℕ) → 0 < w → w - 1 ≡ rule_named start w
unfolding rule_named
names-rule start zero h = absurd (omega arith)
names-rule start (suc r) h = omega arith

-- it can be walked if it is one of n, and closed
pub none-beyond : (F : Facts) (n r : ℕ) → n ≤ r → false ≡ closed_in F n r
unfolding closed_in
none-beyond F n r h = rw (le-ltb r n h)

pub closed-within : (F : Facts) (n r : ℕ) {x : Rule} → r < n → x ≡ F.rule r → closed (encode x).kind ≡ closed_in F n r
unfolding closed_in
closed-within F n r h e = rw (lt-ltb r n h, e)

-- cell 0 lies in the cursor
pub head-lies : {r n : ℕ} {t s : List ℕ} → Openable r n t s → cell_length ≤ length s
unfolding cursor_words
head-lies j = let room = j.room in omega arith

-- the number of used cells, and the walked rule, as they are read
module _ (s : List ℕ) {x : Head} (e : x ≡ head_of (cell_at s 0)) where
  pub used : x.used ≡ used_cells s
  unfolding used_cells
  used = ap (λ (y : Head). y.used) e

  pub walks : (start : ℕ) {r : ℕ} → r ≡ rule_named start x.word → r ≡ walked_rule start s
  unfolding walked_rule rule_word
  walks start h = h ∙ ap (λ (y : Head). rule_named start y.word) e

-- the two answers
module _ (t s : List ℕ) (n start : ℕ) where
  at-answer : Result Opened Refusal → Type 0
  at-answer (Ok x) = OpensAt t n start s x.walked x.at
  at-answer (Err w) = Unit {0}

  opens_not : {why : Refusal} → place_judged (rules_kept t) n start s ≡ Begun.refused why → Opens t n start s (Err why)
  unfolding at-answer
  opens_not e = record { at = λ r h q. subst at-answer q tt; refused = λ w q. e ∙ ap Begun.refused cc }

  opens_at : {r : ℕ} {h : Standing} → OpensAt t n start s r h → Opens t n start s (Ok (record { walked = r; at = h }))
  unfolding at-answer
  opens_at o = record { at = λ r' h' q. subst at-answer q o; refused = λ w q. cc }

module _ {start n : ℕ} {t s : List ℕ} (J : Openable start n t s) {r : ℕ} (named : r ≡ walked_rule start s) where
  abbrev R : List Rule
  R = rules_kept t

  -- the rows tell whether the rule can be walked
  closed_same : closed_in (facts_in t) n r ≡ is_closed R r
  unfolding closed_in is_closed kind_in facts_of rule
  closed_same =
      ap (λ (F : Facts). ltb r n && closed (encode (F.rule r)).kind) J.rows.facts_are
      ∙ ap (λ (m : ℕ). ltb r m && closed (kind_in R r)) (sym (first-length t (row_count t) ∙ J.count))

  judged-in : place_judged R n start s ≡ place_in R n r s
  unfolding place_judged
  judged-in = ap (λ (x : ℕ). place_in R n x s) (sym named)

  -- a rule that can't be walked, or a cell 0 that isn't in order
  pub not-headed : (closed_in (facts_in t) n r && headed n s) ≡ false → Opens t n start s (Err Refusal.Place)
  unfolding place_in
  not-headed h =
      let e : is_closed R r && headed n s ≡ false = ap (λ (b : Bool). b && headed n s) (sym closed_same) ∙ h in
      opens_not t s n start (judged-in ∙ rw e)

  module _ (h : (closed_in (facts_in t) n r && headed n s) ≡ true) where
    in_order : headed n s ≡ true
    in_order = ((and-eq-true_iff (closed_in (facts_in t) n r) (headed n s)).0 h).1

    can_walk : Closed R r
    can_walk = walked-closed R r (sym closed_same ∙ ((and-eq-true_iff (closed_in (facts_in t) n r) (headed n s)).0 h).0)

    -- the rows are those of the walked rule
    pub walked-rows : WalkedRows r t
    walked-rows =
        record { rank = J.rows.rank; sound = J.rows.sound; closed = can_walk; facts_are = J.rows.facts_are; climbs = J.rows.climbs }

    module _ (k : ℕ) (u : k ≡ used_cells s) where
      -- the used cells lie in the cursor
      pub used-lies : Lies s k
      unfolding headed cursor_words
      used-lies =
          let room = J.room in
          let past_two = ((and-eq-true_iff (eqb (cell_at s 0).2 0) _).0 in_order).1 in
          let few : 4 * (used_cells s + 1) ≤ 16 * (n + 1) = leb-true _ _ ((and-eq-true_iff (eqb (cell_at s 0).3 0) _).0 past_two).1 in
          omega arith

      pub not-placed : placed (facts_in t) r (cells_in s k) ≡ false → Opens t n start s (Err Refusal.Place)
      not-placed q =
          opens_not t s n start (judged-in ∙ begins-not J.rows.sound can_walk n s k in_order u (rw J.rows.facts_are at q))

      module _ (p : ℕ) (q : placed (facts_in t) r (cells_in s k) ≡ true) (at : p ≡ standing (facts_in t) (cells_in s k)) where
        found : (y : Path) × Stood R r y (standing (facts_of R) (cells_in s k), cells_in s k) × (place_in R n r s ≡ Begun.at n r y)
        found = begins J.rows.sound can_walk n s k in_order u (rw J.rows.facts_are at q)

        here : Stood R r found.0 (p, cells_in s k)
        here =
            let e : standing (facts_of R) (cells_in s k) ≡ p = ap (λ (F : Facts). standing F (cells_in s k)) (sym J.rows.facts_are) ∙ sym at in
            subst (λ (v : ℕ). Stood R r found.0 (v, cells_in s k)) e found.1

        pub placed-here : Placed r t s k p
        unfolding cursor_words
        placed-here =
            let room = J.room in
            let many = J.count in
            record { rows = walked-rows; room = omega arith; valid = stood-valid J.rows.sound can_walk found.0 (p, cells_in s k) here }

        pub opened : Opens t n start s (Ok (record { walked = r; at = (record { used = k; rule = p }) }))
        opened = opens_at t s n start (record { place = placed-here; path = found.0; stood = here; begun = judged-in ∙ found.2 })
