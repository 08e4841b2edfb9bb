use Rattle.std.proofs.Common.{arith}
use Rattle.open_list.proofs.Forests.{first_within, kept_on}
use Rattle.open_list.proofs.heap.pair_up.Goals as goal

pub shift-todo-requires-clause-within : goal.shift-todo-requires-clause-within
shift-todo-requires-clause-within g c =
    first_within g.N.Ranked.before _ _ _ c.loop-todo.invariant.lists c.loop-todo-test.true

pub next_of-todo-requires : goal.next_of-todo-requires
next_of-todo-requires g c =
    first_within g.N.Ranked.before _ _ _ c.shift-todo.ensures.lists c.if-todo.true

pub join-done-requires-clause-one_in : goal.join-done-requires-clause-one_in
join-done-requires-clause-one_in g c =
    let within = first_within g.N.Ranked.before _ _ _ c.loop-todo.invariant.lists c.loop-todo-test.true in
    omega arith

pub join-done-requires-clause-other_in : goal.join-done-requires-clause-other_in
join-done-requires-clause-other_in g c =
    first_within g.N.Ranked.before _ _ _ c.shift-todo.ensures.lists c.if-todo.true

pub loop-todo-preserved-then-todo : goal.loop-todo-preserved-then-todo
loop-todo-preserved-then-todo g c =
    let joined = c.join-done.ensures.joined in
    record {
      lists = rw c.next_of-todo.ensures joined.lists;
      kept = kept_on (kept_on c.loop-todo.invariant.kept c.shift-todo.ensures.kept) joined.kept;
      steps = omega arith;
    }
