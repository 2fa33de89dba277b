-- At a place of the walked rule's forest, or above it: what the moves ask for holds, each letter has room for its cells, and it
-- leads to such a place again. Assumes nothing.
use Prim.Native.Nat.{ℕ, ◌+◌, ◌*◌, ◌≤◌, ◌<◌}
use native.Mathlib.Omega.{arith}
use mathlib.Core.Path.{◌≡◌, refl, sym, ap, subst, ◌∙◌}
use mathlib.Core.List.{List, [], ◌∷◌, cons≢nil}
use Rattle.std.specs.Prelude.{Option, None, Some}
use Rattle.std.proofs.lemmas.Option.{none-some}
use lib.ListN.{length}
use Rattle.forest.specs.Place.{Cells}
use Rattle.forest.specs.Letter.{Letter}
use Rattle.forest.specs.Walk.{cell_length, cells_in, nowhere, answer_word}
use Rattle.model.specs.Model.{Node}
use Rattle.model.specs.Walk.{from_node, move, moved, answer}
use Rattle.model.proofs.Rules.{Agrees, facts-agree}
use Rattle.model.proofs.Ranged.{Numbers}
use Rattle.facts.specs.Facts.{row_count, In, facts_in}
use Rattle.work_rows.specs.Rows.{row_length}
use Rattle.work_rows.proofs.Rows.{within_none}
use Rattle.work_rows.proofs.Kept.{first-length}
use Rattle.letter_arrival.specs.declared.Landing.{Landing}
use Rattle.facts.specs.Closes.{Closes}
use Rattle.move_parts.specs.Moves.{Held, Kept, node_has, Each, Fits}
use Rattle.place_cells.specs.Cells.{Lies, most_cells, place_length}
use Rattle.move_parts.specs.declared.Change.{Change}
use Rattle.move_parts.specs.Change.{change_node, Able, keep_of}
use Rattle.row_links.specs.Links.{Linkable, Linked}
use Rattle.row_links.proofs.Linking.{linkable-fewer, linkable-kept}
use Rattle.letter_arrival.specs.Arrived.{Arriving, Arrived}
use Rattle.place_cells.proofs.Stack.{cells-none, cells-top}
use Rattle.place_cells.proofs.Writes.{length-cells}
use Rattle.move_parts.proofs.Kept.{child-kept, sibling-kept, parent-kept, root_kept}
use Rattle.letter_moves.specs.Standing.{Valid, rules_kept, WalkedRows, Placed, Stands, Stepped}
use Rattle.letter_moves.proofs.Valid.{valid-moved, valid-short, valid-numbers, valid-rule}
use Rattle.letter_moves.proofs.Holding.{numbers_fit, rows-closes}

module _ {r : ℕ} {t : List ℕ} (T : WalkedRows r t) where
  count : length (rules_kept t) ≡ row_count t
  count = first-length t (row_count t)

  -- what its rows name has rows
  pub rows-held : Closes t
  rows-held = let b = T.closed.below in rows-closes t T.sound (omega arith) (sym count) T.facts_are

  pub walked-in : In t r
  walked-in = let b = T.closed.below in let c = count in omega arith

  agrees : (k : ℕ) → k < length (rules_kept t) → Agrees (facts_in t) (rules_kept t) k
  agrees k h = rw T.facts_are (facts-agree (rules_kept t) k)

  -- a valid place is short, and names rules that have rows
  short : (n : Node) → Valid (rules_kept t) r n → length n.1 ≤ 3 * row_count t
  short n v = let a = valid-short T.sound T.closed (facts_in t) agrees n v in let c = count in omega arith

  numbers : (n : Node) → Valid (rules_kept t) r n → Each (Fits (In t)) n.1
  numbers n v =
      numbers_fit (In t) rows-held.least
      (subst (λ (m : ℕ). Numbers (λ y. y < m) n.1) count (valid-numbers T.sound T.closed (facts_in t) agrees n v))

  rule-in : (n : Node) → Valid (rules_kept t) r n → (n.1 ≡ [] → ⊥) → In t n.0
  rule-in n v e = let b = valid-rule T.sound T.closed (facts_in t) agrees n v e in let c = count in omega arith

  -- 3 × n cells and cell 0 are the room of a place
  few : (n : Node) → Valid (rules_kept t) r n → cell_length * (length n.1 + 1) ≤ place_length (row_count t)
  few n v = let a = short n v in omega arith

  fits : (s : List ℕ) → place_length (row_count t) ≤ length s → (n : Node) → Valid (rules_kept t) r n → Lies s (length n.1)
  fits s room n v = let a = few n v in omega arith

  next : (l : Letter) (n : Node) → Valid (rules_kept t) r n → Valid (rules_kept t) r (moved (facts_in t) r l n)
  next l n v = valid-moved T.sound T.closed (facts_in t) agrees l n v

no_cells : (s : List ℕ) (k : ℕ) → cells_in s k ≡ [] → k ≡ 0
no_cells s k e = sym (length-cells s k) ∙ ap length e

-- a letter other than a and z moves only from a node
pub from-none : (s : List ℕ) (k : ℕ) (y : Option Node) → k ≡ 0 → None ≡ from_node (cells_in s k) y
unfolding from_node
from-none s k y e = rw (cells-none s k e)

pub from-cells : (s : List ℕ) (k : ℕ) (y : Option Node) → (k ≡ 0 → ⊥) → y ≡ from_node (cells_in s k) y
unfolding from_node
from-cells s k y h = rw (cells-top s k (omega arith))

from-kept : (P : ℕ → Type 0) (cs : Cells) (y : Option Node) → ((cs ≡ [] → ⊥) → Kept P y) → Kept P (from_node cs y)
unfolding Kept from_node
from-kept P [] y k = tt
from-kept P (c ∷ cs) y k = k (λ e. cons≢nil e)

module _ {r : ℕ} {t s : List ℕ} {k p : ℕ} (S : Placed r t s k p) where
  -- what the moves ask for
  pub held : Held t s k
  held =
      let few = length-cells s k in
      let l : Lies s (length (cells_in s k)) = fits S.rows s S.room (p, cells_in s k) S.valid in
      record { rows = rows-held S.rows; climbs = S.rows.climbs; lies = omega arith; cells = numbers S.rows (p, cells_in s k) S.valid }

  pub stands-few : cell_length * (k + 1) ≤ place_length (row_count t)
  stands-few = let many = length-cells s k in let f = few S.rows (p, cells_in s k) S.valid in omega arith

  pub at-rule : (k ≡ 0 → ⊥) → In t p
  at-rule more = rule-in S.rows (p, cells_in s k) S.valid (λ e. more (no_cells s k e))

  here : (cells_in s k ≡ [] → ⊥) → node_has (In t) (p, cells_in s k)
  here e = (rule-in S.rows (p, cells_in s k) S.valid e, numbers S.rows (p, cells_in s k) S.valid)

  move-kept : (l : Letter) → Kept (In t) (move (facts_in t) r l (p, cells_in s k))
  unfolding move Kept
  move-kept (Letter.root side) = root_kept (facts_in t) (In t) (rows-held S.rows) side r (walked-in S.rows)
  move-kept (Letter.child side) = from-kept (In t) (cells_in s k) _ (λ e. child-kept (facts_in t) (In t) (rows-held S.rows) side (p, cells_in s k) (here e))
  move-kept (Letter.sibling side) = from-kept (In t) (cells_in s k) _ (λ e. sibling-kept (facts_in t) (In t) (rows-held S.rows) side (p, cells_in s k) (here e))
  move-kept Letter.parent = from-kept (In t) (cells_in s k) _ (λ e. parent-kept (facts_in t) (In t) (rows-held S.rows) (p, cells_in s k) (here e))
  move-kept Letter.stay = from-kept (In t) (cells_in s k) _ (λ e. here e)

  -- a letter that leads to a node has room for its cells, and its rule has a row
  module _ (l : Letter) {x : Node} (e : move (facts_in t) r l (p, cells_in s k) ≡ Some x) where
    valid-node : Valid (rules_kept t) r x
    unfolding moved
    valid-node = rw e at (next S.rows l (p, cells_in s k) S.valid)

    move-short : length x.1 ≤ most_cells (row_count t)
    move-short = short S.rows x valid-node

    move_in : In t x.0
    unfolding Kept
    move_in = (rw e at (move-kept l)).0

module _ {r : ℕ} {t s : List ℕ} {k p : ℕ} (S : Stands r t s k p) where
  here-few : k ≤ most_cells (row_count t)
  here-few = let many = length-cells s k in let f = short S.placed.rows (p, cells_in s k) S.placed.valid in omega arith

  pub here-linkable : Linkable t s k
  here-linkable = linkable-fewer k here-few S.linkable

  -- what the writing of a letter's change asks
  pub arriving : (l : Letter) {x : Change} {y : Option Node} → move (facts_in t) r l (p, cells_in s k) ≡ y
      → (y ≡ Some (change_node (facts_in t) l x s)) × Able t s l x × (keep_of x ≤ k) → Arriving t s k l x
  arriving l m h =
      record {
        rows = rows-held S.placed.rows;
        able = h.1;
        rule = move_in S.placed l (m ∙ h.0);
        settles = record { linkable = S.linkable; here = here-few; there = move-short S.placed l (m ∙ h.0); keeps = h.2; linked = S.linked };
      }

  -- what it comes to
  pub stepped-node : (l : Letter) {x : Node} → move (facts_in t) r l (p, cells_in s k) ≡ Some x → {s' : List ℕ} {y : Landing} → Arrived t x s s' y → Stepped r t l k p s s' y
  unfolding moved answer answer_word
  stepped-node l {x} e {s'} z =
      record {
        node = rw (e, z.settled.there) (λ i. (x.0, z.settled.cells i));
        answered = rw e z.answered;
        stays = λ q. absurd (none-some x (sym q ∙ e));
        within = z.settled.within;
        linked = rw z.settled.there (subst (Linked t s') (sym z.settled.cells) z.settled.linked);
      }

  -- one that leads nowhere leaves the place
  pub stepped-nowhere : (l : Letter) → move (facts_in t) r l (p, cells_in s k) ≡ None → Stepped r t l k p s s (record { at = record { used = k; rule = p }; answer = nowhere })
  unfolding moved answer answer_word
  stepped-nowhere l e = record { node = rw e; answered = rw e; stays = λ q. refl; within = within_none cell_length (length t + row_length) s; linked = S.linked }

  pub stepped_kept : (l : Letter) {x : Landing} → x ≡ record { at = record { used = k; rule = p }; answer = nowhere } → move (facts_in t) r l (p, cells_in s k) ≡ None → Stepped r t l k p s s x
  stepped_kept l e q = rw e (stepped-nowhere l q)

  -- and where it stands
  pub stands_after : (l : Letter) {s' : List ℕ} {x : Landing} → Stepped r t l k p s s' x → Stands r t s' x.at.used x.at.rule
  stands_after l {s'} {x} z =
      let same = z.within.same_length in
      let room = S.placed.room in
      record {
        placed = record {
          rows = S.placed.rows;
          room = omega arith;
          valid = subst (λ (n : Node). Valid (rules_kept t) r n) (sym z.node) (next S.placed.rows l (p, cells_in s k) S.placed.valid);
        };
        linkable = linkable-kept same S.linkable;
        linked = z.linked;
      }
