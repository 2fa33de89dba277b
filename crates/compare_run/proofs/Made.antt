-- What the functions of a turn answered, put together: each answer is one kind of turn. Assumes nothing.
use Prim.Native.Nat.{ℕ, ◌+◌, ◌-◌, min}
use mathlib.Core.Path.{◌≡◌, sym, ap, subst, ◌∙◌}
use mathlib.Core.Bool.{false}
use mathlib.Core.List.{List}
use Rattle.spread_step.specs.declared.Step.{Step}
use Rattle.spread_stack.specs.Stack.{AllPushed}
use Rattle.compare_nodes.specs.Columns.{Countable, task_nodes_in}
use Rattle.compare_run.specs.declared.Progress.{Progress}
use Rattle.compare_run.specs.declared.Token.{Token}
use Rattle.compare_run.specs.Turn.{top_step, next_token, top_token, token_nodes, progress, Readable, TurnMade, skipped, first_replaced, second_replaced, parted, both_replaced}

-- a task that can be read has a row to count its nodes by
pub countable : {t : List ℕ} {v : ℕ} → Readable t v → Countable t v
countable h some ruled = (h some ruled).room

pub readable-at : {t : List ℕ} {v u : ℕ} → v ≡ u → Readable t u → Readable t v
readable-at q h = rw q h

pub countable-top : {t : List ℕ} {v u : ℕ} → v ≡ u → Readable t u → Countable t v
countable-top q h = countable (readable-at q h)

-- the token of a step that was found
token-at : (s : List ℕ) (v : ℕ) {p : Token} {y : Step} → y ≡ top_step s v → p ≡ next_token v y.said → top_token s v ≡ p
token-at s v e q = sym (q ∙ ap (λ (z : Step). next_token v z.said) e)

-- and its tasks
pushed_at : {from k m j : ℕ} {x y : Step} {s t : List ℕ} → x ≡ y → k ≡ m → AllPushed from k x j s t → AllPushed from m y j s t
pushed_at e q h = rw (e, q) at h

module _ {first second budget : ℕ} {at : Progress} {v w : ℕ} {s : List ℕ} where
  module _ {x y : Step} {p q : Token} (ex : x ≡ top_step s v) (ey : y ≡ top_step s w) (ep : p ≡ next_token v x.said) (eq : q ≡ next_token w y.said) where
    pub made-first : {j k : ℕ} {t : List ℕ} → p ≡ Token.Silent → k ≡ at.one - 1 → AllPushed first k x j s t
        → TurnMade first second budget at v w s (progress j at.two at.agree at.count) t
    made-first z e h = first_replaced (token-at s v ex ep ∙ z) (pushed_at ex e h)

    pub made-second : {j k : ℕ} {t : List ℕ} → q ≡ Token.Silent → k ≡ at.two - 1 → AllPushed second k y j s t
        → TurnMade first second budget at v w s (progress at.one j at.agree at.count) t
    made-second z e h = second_replaced (token-at s w ey eq ∙ z) (pushed_at ey e h)

    pub made-parted : (p ≡ Token.Silent → q ≡ Token.Silent) → (q ≡ Token.Silent → ⊥) → (p ≡ q → ⊥)
        → TurnMade first second budget at v w s (progress 0 0 false (at.count + 1)) s
    made-parted z l n =
        parted (λ e. l (z (sym (token-at s v ex ep) ∙ e))) (λ e. l (sym (token-at s w ey eq) ∙ e))
        (λ e. n (sym (token-at s v ex ep) ∙ e ∙ token-at s w ey eq))

    pub made-both : {j k i m c : ℕ} {t u : List ℕ} → (v ≡ w → ⊥) → (q ≡ Token.Silent → ⊥) → p ≡ q → i ≡ at.one - 1 → AllPushed first i x j s t
        → m ≡ at.two - 1 → AllPushed second m y k t u → c ≡ at.count + token_nodes p
        → TurnMade first second budget at v w s (progress j k at.agree c) u
    made-both {j} {k} {c = c} {u = u} n l e f h g i b =
        subst (λ (c : ℕ). TurnMade first second budget at v w s (progress j k at.agree c) u)
        (ap (λ (r : Token). at.count + token_nodes r) (token-at s v ex ep) ∙ sym b)
        (both_replaced n (λ z. l (sym e ∙ sym (token-at s v ex ep) ∙ z)) (token-at s v ex ep ∙ e ∙ sym (token-at s w ey eq)) (pushed_at ex f h) (pushed_at ey g i))

-- the tasks on top that were read
pub made-skipped-top : {first second budget v w i j : ℕ} {at x : Progress} {s : List ℕ} → v ≡ i → w ≡ j → v ≡ w
    → x ≡ progress (at.one - 1) (at.two - 1) at.agree (min (at.count + task_nodes_in s v) (budget + 1)) → TurnMade first second budget at i j s x s
made-skipped-top p q e h = rw (h, p) (skipped (sym p ∙ e ∙ q))

pub made_at : {first second budget v w i j : ℕ} {at x : Progress} {s t : List ℕ} → v ≡ i → w ≡ j → TurnMade first second budget at v w s x t
    → TurnMade first second budget at i j s x t
made_at p q h = rw (p, q) at h
