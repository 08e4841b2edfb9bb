use Rattle.std.proofs.Common.{◌≡◌, ◌≤◌, ◌<◌, length}
use Rattle.open_list.specs.Entry.{list_len, KeepsNodes}
use Rattle.open_list.specs.Heaps.{HaveOpen}
use Rattle.open_list.proofs.heap.merge.Given as goal

abbrev pub invariant-loop-todo : goal.invariant-loop-todo
invariant-loop-todo g l = record {
  lists : HaveOpen g.N.Ranked.before l.entries l.todo l.root;
  alone : list_len l.entries l.root ≡ 1;
  within : l.root < length l.entries;
  kept : KeepsNodes l.initial.entries l.entries;
  steps : l.initial.steps ≤ l.steps;
}

abbrev pub decreases-loop-todo : goal.decreases-loop-todo
decreases-loop-todo g l = list_len l.entries l.todo
