-- What the program's functions ask and ensure: what is left to print before a candidate is looked at.
use Rattle.std.specs.Prelude.{ℕ, ◌-◌, ◌*◌, ◌/◌, ◌%◌, ◌≤◌, ◌<◌, ◌≡◌, true, ◌&&◌, List, length, drop}
use Rattle.plan_list.specs.Listed.{candidates, place_of, candidate, plain, wordless, kept}
use Rattle.plan_list.specs.Lines.{lines_of, list_output}

-- before candidate i, of the output so many bytes are printed: the lines of those kept from i on are left
pub record Left (i done : ℕ) : Type 0 where
  pub rest : drop done list_output ≡ lines_of (kept (candidates - i) i)
  pub few : done ≤ 69 * i

-- the bytes of candidate i, whose labels are 0
pub record Candidate (i : ℕ) (plan : List ℕ) : Type 0 where
  pub within : i < candidates
  pub same : plan ≡ candidate i
  pub labels : (wordless (place_of i / 3 / 48) && plain (place_of i / 3 % 48)) ≡ true
  pub long : length plan ≤ 34
