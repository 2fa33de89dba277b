-- The tasks of both subtrees are put on their stacks, the rows are counted and given their tasks, and the stacks are compared. Assumes
-- nothing.
use Rattle.compare.proofs.Subtrees.{first-begins, second-begins, nodes-ready, tasks-ready, comparable, compared}
use Rattle.compare.proofs.compare_subtrees.Goals as goal

pub begin-a-requires : goal.begin-a-requires
begin-a-requires c = first-begins c.requires

pub begin-b-requires : goal.begin-b-requires
begin-b-requires c = second-begins c.requires c.begin-a.ensures

pub nodes_rows-requires : goal.nodes_rows-requires
nodes_rows-requires c = nodes-ready c.requires c.begin-a.ensures c.begin-b.ensures

pub task_rows-requires : goal.task_rows-requires
task_rows-requires c = tasks-ready c.requires c.begin-a.ensures c.begin-b.ensures c.nodes_rows.ensures

pub run-requires : goal.run-requires
run-requires c = comparable c.requires c.begin-a.ensures c.begin-b.ensures c.nodes_rows.ensures c.task_rows.ensures

pub returns : goal.returns
returns c = compared c.requires c.begin-a.ensures c.begin-b.ensures c.nodes_rows.ensures c.task_rows.ensures c.run.ensures
