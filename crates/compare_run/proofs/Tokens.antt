-- Tokens: what each says of a stack's tokens, and what two of them say of the first difference; a count above the budget is
-- spent whatever follows. Assumes nothing.
use Prim.Native.Nat.{ℕ, suc, ◌+◌, ◌≤◌, ◌<◌, min}
use native.Mathlib.Omega.{arith}
use mathlib.Core.Path.{◌≡◌, refl, sym, ap, ◌∙◌}
use mathlib.Core.Bool.{Bool, true, false, ◌&&◌}
use mathlib.Core.List.{List, [], ◌∷◌, ◌++◌}
use lib.Dec.{leb}
use borrow.Author.Tests.{leb-true, leb-false, lt-leb}
use Rattle.forest.specs.declared.Compared.{Compared}
use Rattle.forest.specs.Compare.{Found, within}
use Rattle.forest.specs.Spelling.{in_tokens}
use Rattle.forest.proofs.Cases.{by_bool}
use Rattle.spread_step.specs.declared.Said.{Said}
use Rattle.spread_step.specs.Step.{said_in}
use Rattle.compare_tokens.specs.Tokens.{differs, ahead}
use Rattle.compare_tokens.proofs.Skips.{differs-left-ends, differs-right-ends, differs-here, differs-closing, differs-opening, ahead_none}
use Rattle.compare_run.specs.declared.Token.{Token}
use Rattle.compare_run.specs.Turn.{said_token, token_nodes}

-- the tokens of a stack, from the next one and those of what its top comes to
unfoldable pub heard : Token → List ℕ → List ℕ
heard Token.Silent ts = ts
heard Token.Ended ts = []
heard Token.Closes ts = 0 ∷ ts
heard (Token.Opens a) ts = suc a ∷ ts

pub said-heard : (y : Said) (ts : List ℕ) → said_in in_tokens y ++ ts ≡ heard (said_token y) ts
unfolding said_in in_tokens said_token heard
said-heard Said.Nothing ts = refl
said-heard (Said.Opening a) ts = refl
said-heard Said.Closing ts = refl

pub heard-silent : {p : Token} (ts : List ℕ) → p ≡ Token.Silent → heard p ts ≡ ts
unfolding heard
heard-silent ts q = rw q

-- two tokens that differ
pub heard-apart : (p q : Token) (ts us : List ℕ) → (p ≡ Token.Silent → ⊥) → (q ≡ Token.Silent → ⊥) → (p ≡ q → ⊥)
    → differs (heard p ts) (heard q us) ≡ (false, 1)
unfolding heard
heard-apart Token.Silent q ts us a b n = absurd (a refl)
heard-apart Token.Ended Token.Silent ts us a b n = absurd (b refl)
heard-apart Token.Ended Token.Ended ts us a b n = absurd (n refl)
heard-apart Token.Ended Token.Closes ts us a b n = differs-left-ends 0 us
heard-apart Token.Ended (Token.Opens y) ts us a b n = differs-left-ends (suc y) us
heard-apart Token.Closes Token.Silent ts us a b n = absurd (b refl)
heard-apart Token.Closes Token.Ended ts us a b n = differs-right-ends 0 ts
heard-apart Token.Closes Token.Closes ts us a b n = absurd (n refl)
heard-apart Token.Closes (Token.Opens y) ts us a b n = differs-here 0 (suc y) ts us (λ e. omega (arith, e))
heard-apart (Token.Opens x) Token.Silent ts us a b n = absurd (b refl)
heard-apart (Token.Opens x) Token.Ended ts us a b n = differs-right-ends (suc x) ts
heard-apart (Token.Opens x) Token.Closes ts us a b n = differs-here (suc x) 0 ts us (λ e. omega (arith, e))
heard-apart (Token.Opens x) (Token.Opens y) ts us a b n =
    differs-here (suc x) (suc y) ts us (λ e. n (ap Token.Opens (let z : x ≡ y = omega (arith, e) in z)))

-- the same token
pub heard-same : (p : Token) (ts us : List ℕ) → (p ≡ Token.Silent → ⊥) → (p ≡ Token.Ended → ⊥)
    → differs (heard p ts) (heard p us) ≡ ahead (token_nodes p) (differs ts us)
unfolding heard token_nodes
heard-same Token.Silent ts us a b = absurd (a refl)
heard-same Token.Ended ts us a b = absurd (b refl)
heard-same Token.Closes ts us a b = differs-closing ts us ∙ sym (ahead_none (differs ts us))
heard-same (Token.Opens x) ts us a b = differs-opening x ts us

-- no token that a step says is the end
pub silent-ended : Token.Silent ≡ Token.Ended → ⊥
silent-ended q = let z : ◌≡◌ {A = ℕ} 0 1 = cc in omega (arith, z)

pub said-some : (y : Said) → said_token y ≡ Token.Ended → ⊥
unfolding said_token
said-some Said.Nothing q = silent-ended q
said-some (Said.Opening a) q = let z : ◌≡◌ {A = ℕ} 0 1 = cc in omega (arith, z)
said-some Said.Closing q = let z : ◌≡◌ {A = ℕ} 0 1 = cc in omega (arith, z)

-- what follows pairs of which so many agreed
unfoldable pub since : Bool → ℕ → Found → Found
since b c x = (b && x.0, c + x.1)

pub since-ahead : (b : Bool) (c m : ℕ) (x : Found) → since b c (ahead m x) ≡ since b (c + m) x
unfolding since
since-ahead b c m x = let e : c + (m + x.1) ≡ c + m + x.1 = omega arith in ap (λ (k : ℕ). (b && x.0, k)) e

and-false : (b : Bool) → b && false ≡ false
and-false true = refl
and-false false = refl

pub since-differs : (b : Bool) (c : ℕ) → since b c (false, 1) ≡ since false (c + 1) (true, 0)
unfolding since
since-differs b c = let e : c + 1 ≡ c + 1 + 0 = omega arith in rw (and-false b) (ap (λ (k : ℕ). (false, k)) e)

and-true : (b : Bool) → b && true ≡ b
and-true true = refl
and-true false = refl

pub since-same : (b : Bool) (c : ℕ) → since b c (true, 0) ≡ (b, c)
unfolding since
since-same b c = let e : c + 0 ≡ c = omega arith in rw (and-true b, e)

pub since-start : (x : Found) → since true 0 x ≡ x
unfolding since
since-start x = ahead_none x

-- above the budget it is spent
pub spent : (budget : ℕ) (x : Found) → budget < x.1 → within budget x ≡ Compared.Spent budget
unfolding within
spent budget x l = rw (lt-leb x.1 budget l)

pub spent-since : (budget : ℕ) (b : Bool) (c : ℕ) (x : Found) → budget < c → within budget (since b c x) ≡ within budget (b, c)
unfolding since
spent-since budget b c x l = spent budget (b && x.0, c + x.1) (omega arith) ∙ sym (spent budget (b, c) l)

-- so a count may stop there
pub capped-since : (budget limit : ℕ) (b : Bool) (c m : ℕ) (x : Found) → budget < limit
    → within budget (since b (min (c + min m limit) (budget + 1)) x) ≡ within budget (since b (c + m) x)
capped-since budget limit b c m x small =
    by_bool (leb (c + m) budget)
    (λ u. let l : c + m ≤ budget = leb-true (c + m) budget u in let e : min (c + min m limit) (budget + 1) ≡ c + m = omega arith in rw e)
    (λ u.
    let l : budget < c + m = leb-false (c + m) budget u in
    let e : min (c + min m limit) (budget + 1) ≡ budget + 1 = omega arith in
    rw e
    (spent-since budget b (budget + 1) x (omega arith)
    ∙ spent budget (b, budget + 1) (omega arith)
    ∙ sym (spent-since budget b (c + m) x l ∙ spent budget (b, c + m) l)))
