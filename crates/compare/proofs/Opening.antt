-- A place that is opened is a node's exactly where it has cells; both places opened, the first refusal is the answer. Assumes nothing.
use Prim.Native.Nat.{ℕ, zero, suc, ◌<◌}
use native.Mathlib.Omega.{arith}
use mathlib.Core.Path.{◌≡◌, refl, ap, subst, ◌∙◌}
use mathlib.Core.List.{List, [], ◌∷◌, cons≢nil}
use Rattle.std.specs.Prelude.{None, Result, Ok, Err}
use Rattle.refusal.specs.declared.Refusal.{Refusal}
use Rattle.forest.specs.Expression.{expression}
use Rattle.forest.specs.Forest.{Forest}
use Rattle.forest.specs.Position.{Located, Named, located_of}
use Rattle.forest.specs.Reference.{Path, label_at, node_at, top}
use Rattle.forest.specs.Walk.{Begun, cells_in, place_judged}
use Rattle.forest.specs.Compare.{node_judged, compared_at}
use Rattle.model.specs.Run.{Node}
use Rattle.letter_arrival.specs.declared.Standing.{Standing}
use Rattle.letter_moves.specs.Standing.{rules_kept}
use Rattle.place_open.specs.declared.Opened.{Opened}
use Rattle.place_open.specs.Open.{OpensAt}
use Rattle.place_open.proofs.Above.{same_above, equal_cells}
use Rattle.compare.specs.Places.{NodeAt, NodeOpens, StandsAt, BothOpen}

-- a node has cells in the cursor
cells-in-some : (s : List ℕ) (k : ℕ) → 0 < k → cells_in s k ≡ [] → ⊥
unfolding cells_in
cells-in-some s zero l q = omega arith
cells-in-some s (suc k) l q = cons≢nil q

-- a path that is judged
node-judged : (g : Forest Located) (n r : ℕ) (p : Path) → (label_at g p ≡ None → ⊥) → node_judged (Begun.at n r p) ≡ Begun.at n r p
unfolding node_judged label_at node_at top
node-judged g n r [] f = absurd (f refl)
node-judged g n r (i ∷ p) f = refl

above-judged : (g : Forest Located) (n r : ℕ) (p : Path) → Named g p → label_at g p ≡ None → node_judged (Begun.at n r p) ≡ Begun.refused Refusal.Place
unfolding node_judged
above-judged g n r p Named.above q = refl
above-judged g n r p (Named.node e) q = absurd (let z : ◌≡◌ {A = ℕ} 0 1 = cc in omega arith)

module _ {t : List ℕ} {n start : ℕ} {s : List ℕ} {r : ℕ} {h : Standing} (o : OpensAt t n start s r h) where
  abbrev walked : Forest Located
  walked = located_of (expression (rules_kept t) r)

  abbrev here : Node
  here = (h.rule, cells_in s h.used)

  pub opens-node : 0 < h.used → NodeAt t n start s r h
  opens-node l =
      record {
        opens = o;
        least = l;
        judged =
            ap node_judged o.begun
            ∙ node-judged walked n r o.path (λ q. cells-in-some s h.used l (equal_cells (label_at walked o.path) here o.stood.same q));
      }

  pub opens-above : h.used ≡ 0 → node_judged (place_judged (rules_kept t) n start s) ≡ Begun.refused Refusal.Place
  unfolding cells_in
  opens-above q =
      ap node_judged o.begun
      ∙ above-judged walked n r o.path o.stood.named (same_above (label_at walked o.path) here o.stood.same (ap (cells_in s) q))

-- what the answer says of one place
module _ (t s : List ℕ) (n start : ℕ) where
  node-answer : Result Opened Refusal → Type 0
  node-answer (Ok x) = NodeAt t n start s x.walked x.at
  node-answer (Err w) = Unit {0}

  pub node-not : {why : Refusal} → node_judged (place_judged (rules_kept t) n start s) ≡ Begun.refused why → NodeOpens t n start s (Err why)
  unfolding node-answer
  node-not e = record { at = λ r h q. subst node-answer q tt; refused = λ w q. e ∙ ap Begun.refused cc }

  pub node_opens : {r : ℕ} {h : Standing} → NodeAt t n start s r h → NodeOpens t n start s (Ok (record { walked = r; at = h }))
  unfolding node-answer
  node_opens o = record { at = λ r' h' q. subst node-answer q o; refused = λ w q. cc }

  -- a place that is refused stays refused
  pub refused-node : {why : Refusal} → place_judged (rules_kept t) n start s ≡ Begun.refused why → node_judged (place_judged (rules_kept t) n start s) ≡ Begun.refused why
  unfolding node_judged
  refused-node e = ap node_judged e

-- and of both
module _ (t first second : List ℕ) (n start : ℕ) where
  both-answer : Result (Standing × Standing) Refusal → Type 0
  both-answer (Ok (h, g)) = StandsAt t n start first h × StandsAt t n start second g
  both-answer (Err w) = Unit {0}

  pub both-open : {h g : Standing} {r q : ℕ} → NodeAt t n start first r h → NodeAt t n start second q g → BothOpen t n start first second (Ok (h, g))
  unfolding both-answer
  both-open {r = r} {q = q} x y =
      record { at = λ h' g' e. subst both-answer e (record { walked = r; node = x }, record { walked = q; node = y }); refused = λ w b e. cc }

  both-not : {why : Refusal}
      → ((b : ℕ) → compared_at (rules_kept t) b (node_judged (place_judged (rules_kept t) n start first)) (node_judged (place_judged (rules_kept t) n start second)) ≡ Err why)
      → BothOpen t n start first second (Err why)
  unfolding both-answer
  both-not f = record { at = λ h g e. subst both-answer e tt; refused = λ w b e. f b ∙ ap Err cc }

  pub first-not : {why : Refusal} → node_judged (place_judged (rules_kept t) n start first) ≡ Begun.refused why → BothOpen t n start first second (Err why)
  unfolding compared_at
  first-not e = both-not (λ b. rw e)

  pub second-not : {why : Refusal} {r : ℕ} {h : Standing} → NodeAt t n start first r h → node_judged (place_judged (rules_kept t) n start second) ≡ Begun.refused why
      → BothOpen t n start first second (Err why)
  unfolding compared_at
  second-not x e = both-not (λ b. rw (x.judged, e))
