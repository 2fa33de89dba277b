-- Both tops are read and their tokens compared; each answer is one kind of turn (`Made`). Assumes nothing.
use Rattle.std.proofs.Common.{rules}
use Rattle.compare_run.proofs.Made.{readable-at, countable-top, made-first, made-second, made-parted, made-both}
use Rattle.compare_run.proofs.unlike.Goals as goal

pub step_of-x-requires : goal.step_of-x-requires
step_of-x-requires c = readable-at c.requires.1 c.requires.0.reads_one

pub step_of-y-requires : goal.step_of-y-requires
step_of-y-requires c = readable-at c.requires.2 c.requires.0.reads_two

pub first_turns-requires : goal.first_turns-requires
first_turns-requires c = (countable-top c.requires.1 c.requires.0.reads_one, countable-top c.requires.2 c.requires.0.reads_two)

pub returns-then-first_turns : goal.returns-then-first_turns
returns-then-first_turns c = made-first c.step_of-x.ensures c.step_of-y.ensures c.next_token-p.ensures c.next_token-q.ensures
    (c.first_turns.ensures.0 c.if-first_turns.true) c.saturating_sub.ensures c.push_all.ensures

pub returns-then-eq : goal.returns-then-eq
returns-then-eq c = made-second c.step_of-x.ensures c.step_of-y.ensures c.next_token-p.ensures c.next_token-q.ensures
    (search rules) c.saturating_sub-then-eq.ensures c.push_all-then-eq.ensures

pub returns-then-ne : goal.returns-then-ne
returns-then-ne c = made-parted c.step_of-x.ensures c.step_of-y.ensures c.next_token-p.ensures c.next_token-q.ensures
    (c.first_turns.ensures.1 c.if-first_turns.false) (search rules) (search rules)

pub counted-requires : goal.counted-requires
counted-requires c = c.requires.0.counted

pub returns : goal.returns
returns c = made-both c.step_of-x.ensures c.step_of-y.ensures c.next_token-p.ensures c.next_token-q.ensures
    c.requires.3 (search rules) (search rules) c.saturating_sub-2.ensures c.push_all-2.ensures c.saturating_sub-3.ensures c.push_all-3.ensures c.counted.ensures
