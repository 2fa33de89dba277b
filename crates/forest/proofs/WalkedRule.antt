-- The rule that word 1 of cell 0 names (document 02, Note 10): a rule can be walked exactly if it is closed and in range; a word that names
-- one is small, so that it fits its two bytes; and the start rule is named by 0, or by its number plus one. A place that 10 doesn't refuse
-- is one of that rule's forest. Assumes nothing.
use Prim.Native.Nat.{ℕ, zero, suc, ◌≤◌, ◌<◌}
use native.Mathlib.Omega.{arith}
use mathlib.Core.Path.{◌≡◌, refl, ◌∙◌}
use mathlib.Core.Bool.{Bool, true, false, cond, ◌&&◌, and-eq-true_iff}
use mathlib.Core.List.{List}
use Rattle.std.specs.Prelude.{Option, None, Some}
use lib.ListN.{length}
use lib.Dec.{ltb}
use borrow.Author.Tests.{ltb-true, lt-ltb}
use Rattle.rule.specs.declared.Rule.{Rule}
use Rattle.rule.specs.Rule.{closed}
use Rattle.rule.specs.Sound.{kind_in, Closed}
use Rattle.judge.proofs.Fit.{is-test}
use Rattle.refusal.specs.declared.Refusal.{Refusal}
use Rattle.forest.specs.Place.{placed_forest}
use Rattle.forest.specs.Reference.{Path}
use Rattle.forest.specs.Walk.{Begun, refused, at, cells_in, used_cells, rule_word, rule_named, walked_rule, is_closed, headed, path_of, stored, place_in, place_judged}
use Rattle.forest.proofs.Cases.{is_true}

module _ (R : List Rule) (r : ℕ) where
  pub closed-walked : Closed R r → is_closed R r ≡ true
  unfolding is_closed
  closed-walked c = (and-eq-true_iff (ltb r (length R)) (closed (kind_in R r))).1 (lt-ltb r (length R) c.below, is_true (closed (kind_in R r)) c.closed_kind)

  pub walked-closed : is_closed R r ≡ true → Closed R r
  unfolding is_closed
  walked-closed e =
      let h = (and-eq-true_iff (ltb r (length R)) (closed (kind_in R r))).0 e in
      record { below = ltb-true r (length R) h.0; closed_kind = is-test h.1 }

-- the word is 0, or one more than the number of a rule
pub word_small : (start w m : ℕ) → rule_named start w < m → w ≤ m
unfolding rule_named
word_small start zero m h = omega arith
word_small start (suc r) m h = omega arith

pub start-by-zero : (start : ℕ) (s : List ℕ) → rule_word s ≡ 0 → walked_rule start s ≡ start
unfolding walked_rule rule_named
start-by-zero start s e = rw e

pub named-by-number : (start r : ℕ) (s : List ℕ) → rule_word s ≡ suc r → walked_rule start s ≡ r
unfolding walked_rule rule_named
named-by-number start r s e = rw e

-- what a cursor has that holds a place: it names rule r, which can be walked, cell 0 passes its test, and the cells are those at path p
pub record Holds (R : List Rule) (n start m r : ℕ) (cursor : List ℕ) (p : Path) : Type 0 where
  pub count : m ≡ n
  pub walks : walked_rule start cursor ≡ r
  pub can_walk : is_closed R r ≡ true
  pub in_order : headed n cursor ≡ true
  pub leads : path_of (placed_forest R r) (cells_in cursor (used_cells cursor)) ≡ Some p

pub judged-holds : (R : List Rule) (n start m r : ℕ) (cursor : List ℕ) (p : Path) → place_judged R n start cursor ≡ at m r p → Holds R n start m r cursor p
unfolding place_judged place_in stored
judged-holds R n start m r cursor p e = go (is_closed R w) (headed n cursor) (path_of (placed_forest R w) (cells_in cursor (used_cells cursor))) refl refl refl e
  where
    w : ℕ
    w = walked_rule start cursor

    go : (c h : Bool) (x : Option Path) → is_closed R w ≡ c → headed n cursor ≡ h → path_of (placed_forest R w) (cells_in cursor (used_cells cursor)) ≡ x
        → cond (c && h) (stored n w x) (refused Refusal.Place) ≡ at m r p → Holds R n start m r cursor p
    go true true (Some q) c h x g =
        let same : w ≡ r = cc in
        record { count = cc; walks = same; can_walk = rw same at c; in_order = h; leads = (rw same at x) ∙ cc }
    go true true None c h x g = absurd (let z : ◌≡◌ {A = ℕ} 0 1 = cc in omega arith)
    go true false x c h y g = absurd (let z : ◌≡◌ {A = ℕ} 0 1 = cc in omega arith)
    go false h x c i y g = absurd (let z : ◌≡◌ {A = ℕ} 0 1 = cc in omega arith)
