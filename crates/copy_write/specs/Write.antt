-- The client's copy of the rules in the rows of work (document 02, Note 6): what is asked of the rows, and what is then written.
use Rattle.std.specs.Prelude.{ℕ, ◌*◌, ◌≤◌, Bool, ◌≡◌, List, length, Result, Ok}
use Rattle.refusal.specs.declared.Refusal.{Refusal}
use Rattle.words.specs.Front.{in_front}
use Rattle.record.specs.Format.{word_length}
use Rattle.rule.specs.declared.Rule.{Rule}
use Rattle.rule.specs.Sound.{Sound, Closed}
use Rattle.forest.specs.Outcome.{work_words, cleared}
use Rattle.work_rows.specs.Rows.{first_rules}
use Rattle.count_passes.specs.Tally.{Ready}
use Rattle.copy_variants.specs.Variants.{most_copied}
use Rattle.copy_passes.specs.Copied.{Copied}
use Rattle.copy_plan.specs.Bytes.{copy_room, copy_bytes}
use Rattle.copy_rows.specs.Table.{SeenColumn}

-- few sound rules in the rows, with their order behind; words that tell which labels may be seen; room for the copy
pub record Copyable (n start : ℕ) (t out : List ℕ) : Type 0 where
  pub ready : Ready t n
  pub few : n ≤ most_copied
  pub words : word_length * work_words n ≤ length t
  pub rank : ℕ → ℕ
  pub sound : Sound (first_rules t n) rank
  pub ends : Closed (first_rules t n) start
  pub visible : ℕ → Bool
  pub column : SeenColumn visible t n
  pub space : copy_room n ≤ length out

-- some rules that are a copy of R stand as a plan at the front of out, and x is its length
pub record CopyPut (v : ℕ → Bool) (R : List Rule) (start : ℕ) (out : List ℕ) (x : Result ℕ Refusal) (out' : List ℕ) : Type 0 where
  pub rules : List Rule
  pub top : ℕ
  pub copied : Copied v R start rules top
  pub answer : x ≡ Ok (length (copy_bytes rules top))
  pub writes : out' ≡ in_front (copy_bytes rules top) out

-- the copy for whom the words tell what may be seen; the work is cleared
pub record CopyWritten (n start : ℕ) (s out : List ℕ) (x : Result ℕ Refusal) (t out' : List ℕ) : Type 0 where
  pub copies : (v : ℕ → Bool) → SeenColumn v s n → CopyPut v (first_rules s n) start out x out'
  pub clears : t ≡ cleared (word_length * work_words n) s
