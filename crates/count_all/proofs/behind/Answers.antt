-- Behind the rows, a word a rule and the order: 36 bytes a rule, then 16 for each rule before. Assumes nothing.
use Rattle.std.proofs.Common.{arith}
use Rattle.count_all.proofs.behind.Goals as goal

pub overflow_mul-result : goal.overflow_mul-result
overflow_mul-result c = omega arith

pub overflow_mul-result-2 : goal.overflow_mul-result-2
overflow_mul-result-2 c = omega arith

pub overflow_mul-result-3 : goal.overflow_mul-result-3
overflow_mul-result-3 c = omega arith

pub overflow_add-result : goal.overflow_add-result
overflow_add-result c = omega arith

pub returns : goal.returns
returns c = omega arith
