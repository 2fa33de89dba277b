-- The sorts of expressions, as a derivation to recurse on: what stands in a row, a tree, and what stands in a spine.
use Rattle.std.specs.Prelude.{ℕ, ◌≡◌}
use Rattle.forest.specs.Expression.{Expression}

pub data Sort : Type 0 where
  row : Sort
  tree : Sort
  spine : Sort

pub data Good : Sort → Expression → Type 0 where
  empty : {r : ℕ} → Good Sort.row (Expression.empty r)
  pair : {r : ℕ} {b c : Expression} → Good Sort.row b → Good Sort.row c → Good Sort.row (Expression.pair r b c)
  grown : {e : Expression} → Good Sort.tree e → Good Sort.row e
  node : {r a : ℕ} {c : Expression} → Good Sort.row c → Good Sort.tree (Expression.node r a c)
  fill : {r : ℕ} {b c : Expression} → Good Sort.spine b → Good Sort.tree c → Good Sort.tree (Expression.fill r b c)
  part : {r a : ℕ} {b c : Expression} → Good Sort.row b → Good Sort.row c → Good Sort.spine (Expression.part r a b c)
  join : {r : ℕ} {b c : Expression} → Good Sort.spine b → Good Sort.spine c → Good Sort.spine (Expression.join r b c)

-- e is what E gives for its rule's number, and so is every expression inside it
pub data Known (E : ℕ → Expression) : Expression → Type 0 where
  empty : {r : ℕ} → E r ≡ Expression.empty r → Known E (Expression.empty r)
  pair : {r : ℕ} {b c : Expression} → E r ≡ Expression.pair r b c → Known E b → Known E c → Known E (Expression.pair r b c)
  node : {r a : ℕ} {c : Expression} → E r ≡ Expression.node r a c → Known E c → Known E (Expression.node r a c)
  fill : {r : ℕ} {b c : Expression} → E r ≡ Expression.fill r b c → Known E b → Known E c → Known E (Expression.fill r b c)
  part : {r a : ℕ} {b c : Expression} → E r ≡ Expression.part r a b c → Known E b → Known E c → Known E (Expression.part r a b c)
  join : {r : ℕ} {b c : Expression} → E r ≡ Expression.join r b c → Known E b → Known E c → Known E (Expression.join r b c)
