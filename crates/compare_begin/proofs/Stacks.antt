-- Tasks put around others, and one task laid down: words written outside a stack leave its tasks, and a stack that begins a word lower has
-- that word as its last task. Assumes nothing.
use Prim.Native.Nat.{ℕ, zero, suc, ◌+◌, ◌*◌, ◌^◌, ◌≤◌, ◌<◌}
use native.Mathlib.Numerals.{add-two}
use native.Mathlib.Omega.{arith}
use mathlib.Core.Path.{◌≡◌, refl, sym, ap, ap₂, ◌∙◌}
use mathlib.Core.List.{List, [], ◌∷◌, ◌++◌}
use lib.ListN.{length}
use Rattle.words.specs.Number.{base, number}
use Rattle.words.specs.Put.{put}
use Rattle.words.proofs.Laws.{length-put, put_same, put_other}
use Rattle.record.specs.Record.{word_length}
use Rattle.work_rows.specs.Rows.{Within}
use Rattle.work_rows.proofs.Rows.{within_none, within_both, within_wider, within-number, within-number-put}
use Rattle.spread_stack.specs.Stack.{tasks_in}
use Rattle.compare_tokens.specs.Parts.{around}
use Rattle.compare_begin.specs.declared.Begun.{Begun}
use Rattle.compare_begin.specs.Stack.{tasks_of, Room, Grown, Laid}

pub tasks-length : (t : List ℕ) (from k : ℕ) → length (tasks_in t from k) ≡ k
unfolding tasks_in
tasks-length t from zero = refl
tasks-length t from (suc k) = ap suc (tasks-length t from k)

-- tasks outside of what has changed
pub tasks-kept : {a e : ℕ} {s t : List ℕ} → Within a e s t → (from k : ℕ) → (a < from + word_length * k → e ≤ from) → tasks_in t from k ≡ tasks_in s from k
unfolding tasks_in
tasks-kept w from zero apart = refl
tasks-kept {a} {e} w from (suc k) apart =
    ap₂ ◌∷◌
    (within-number w word_length (from + word_length * k) (λ l. let f : e ≤ from = apart (omega arith) in omega arith))
    (tasks-kept w from k (λ l. apart (omega arith)))

-- the lowest word is the last task
tasks-under : (t : List ℕ) (from k : ℕ) → tasks_in t from (suc k) ≡ tasks_in t (from + word_length) k ++ (number word_length t from ∷ [])
unfolding tasks_in
tasks-under t from zero = let e : from + word_length * 0 ≡ from = omega arith in ap (λ (j : ℕ). number word_length t j ∷ []) e
tasks-under t from (suc k) =
    let e : from + word_length * suc k ≡ from + word_length + word_length * k = omega arith in
    ap₂ ◌∷◌ (ap (number word_length t) e) (tasks-under t from k)

-- two words put around k tasks
module _ (s : List ℕ) (from k v w : ℕ) (fits : from + word_length + word_length * k + word_length ≤ length s) (small : v < base ^ 2) (small-too : w < base ^ 2) where
  under : List ℕ
  under = put word_length s from w

  both : List ℕ
  both = put word_length under (from + word_length + word_length * k) v

  under-long : length under ≡ length s
  unfolding under
  under-long = length-put word_length s from w

  both-within : Within from (from + word_length * (k + 2)) s both
  unfolding under both
  both-within =
      within_both (within-number-put word_length s from w from (from + word_length * (k + 2)) (omega arith) (omega arith))
      (within-number-put word_length _ (from + word_length + word_length * k) v from (from + word_length * (k + 2)) (omega arith) (omega arith))

  lowest : number word_length both from ≡ w
  unfolding under both
  lowest =
      put_other word_length word_length (put word_length s from w) (from + word_length + word_length * k) v from (λ l. absurd (omega arith))
      ∙ put_same word_length s from w (omega arith) small-too

  highest : number word_length both (from + word_length * suc k) ≡ v
  unfolding both
  highest =
      let e : from + word_length * suc k ≡ from + word_length + word_length * k = omega arith in
      ap (number word_length both) e ∙ put_same word_length under (from + word_length + word_length * k) v (omega (arith, under-long)) small

  between : tasks_in both (from + word_length) k ≡ tasks_in s (from + word_length) k
  unfolding under both
  between =
      tasks-kept (within-number-put word_length (put word_length s from w) (from + word_length + word_length * k) v (from + word_length + word_length * k) (from + word_length + word_length * k + word_length) (omega arith) (omega arith))
      (from + word_length) k (λ l. absurd (omega arith))
      ∙ tasks-kept (within-number-put word_length s from w from (from + word_length) (omega arith) (omega arith)) (from + word_length) k (λ l. omega arith)

  both-tasks : tasks_in both from (k + 2) ≡ around v w (tasks_in s (from + word_length) k)
  unfolding tasks_in
  both-tasks =
      rw (add-two k)
      (ap₂ ◌∷◌ highest (tasks-under both from k ∙ ap₂ (λ (xs : List ℕ) (y : ℕ). xs ++ (y ∷ [])) between lowest))

pub grown-around : {s t : List ℕ} (x : Begun) (from v w : ℕ) → from + 2 ≡ x.from → Room 0 (x.tasks + 2) x s → v < base ^ 2 → w < base ^ 2
    → t ≡ put word_length (put word_length s from w) (x.from + word_length * x.tasks) v
    → Grown (around v w (tasks_of s x)) x (record { from = from; tasks = x.tasks + 2 }) s t
unfolding both under
grown-around {s} {t} x from v w e room small small-too q =
    let fits : from + word_length + word_length * x.tasks + word_length ≤ length s = omega (arith, room.above) in
    let same : t ≡ both s from x.tasks v w fits small small-too = q ∙ ap (λ (j : ℕ). put word_length (put word_length s from w) (j + word_length * x.tasks) v) (sym e) in
    rw same
    (record {
      tasks = both-tasks s from x.tasks v w fits small small-too ∙ ap (λ (j : ℕ). around v w (tasks_in s j x.tasks)) e;
      alike = omega arith;
      lower = omega arith;
      within = both-within s from x.tasks v w fits small small-too;
    })

-- one task, and none
pub laid_one : {s t : List ℕ} (at v : ℕ) → at + word_length ≤ length s → v < base ^ 2 → t ≡ put word_length s at v
    → Laid at (v ∷ []) (record { from = at; tasks = 1 }) s t
unfolding tasks_in
laid_one {s} at v fits small q =
    rw q
    (record {
      tasks = let e : at + word_length * 0 ≡ at = omega arith in ap (λ (j : ℕ). j ∷ []) (ap (number word_length (put word_length s at v)) e ∙ put_same word_length s at v fits small);
      least = omega arith;
      most = omega arith;
      lower = omega arith;
      within = within-number-put word_length s at v at (at + word_length * 1) (omega arith) (omega arith);
    })

pub laid_none : {vs : List ℕ} (at : ℕ) (s : List ℕ) → vs ≡ [] → Laid at vs (record { from = at; tasks = 0 }) s s
unfolding tasks_in
laid_none at s q =
    record {
      tasks = sym q;
      least = omega arith;
      most = omega arith;
      lower = omega arith;
      within = within_none at (at + word_length * 0) s;
    }

-- a stack that has not grown, one that has grown twice, and one that has grown since it was laid down
pub grown-none : {vs : List ℕ} (x : Begun) (s : List ℕ) → tasks_of s x ≡ vs → Grown vs x x s s
grown-none x s q = record { tasks = q; alike = refl; lower = omega arith; within = within_none x.from (x.from + word_length * x.tasks) s }

pub grown-both : {vs ws : List ℕ} {x y z : Begun} {s t u : List ℕ} → Grown vs x y s t → Grown ws y z t u → Grown ws x z s u
grown-both {y = y} {z = z} g h =
    record {
      tasks = h.tasks;
      alike = h.alike ∙ g.alike;
      lower = omega (arith, g.lower, h.lower);
      within = within_both (within_wider z.from (z.from + word_length * z.tasks) h.lower (omega (arith, h.alike, h.lower)) g.within) h.within;
    }

pub laid-grown : {at : ℕ} {vs ws : List ℕ} {x y : Begun} {s t u : List ℕ} → Laid at vs x s t → Grown ws x y t u → Laid at ws y s u
laid-grown {y = y} g h =
    record {
      tasks = h.tasks;
      least = omega (arith, g.least, h.alike);
      most = omega (arith, g.most, h.alike);
      lower = omega (arith, g.lower, h.lower);
      within = within_both (within_wider y.from (y.from + word_length * y.tasks) h.lower (omega (arith, h.alike, h.lower)) g.within) h.within;
    }

-- the same tasks by another name
pub grown-to : {vs ws : List ℕ} {x y : Begun} {s t : List ℕ} → vs ≡ ws → Grown vs x y s t → Grown ws x y s t
grown-to q h = rw q at h

pub laid-to : {at : ℕ} {vs ws : List ℕ} {y : Begun} {s t : List ℕ} → vs ≡ ws → Laid at vs y s t → Laid at ws y s t
laid-to q h = rw q at h
