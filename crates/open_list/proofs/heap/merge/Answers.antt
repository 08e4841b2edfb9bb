use Rattle.std.proofs.Common.{refl, subst, arith, ◌∙◌}
use Rattle.open_list.specs.declared.entry.TheConstants.{NONE}
use Rattle.open_list.specs.Heaps.{HaveOpen}
use Rattle.open_list.proofs.Forests.{first_within, swapped, list_len-none, kept_on}
use Rattle.open_list.proofs.heap.merge.Goals as goal

pub shift-todo-requires-clause-lists : goal.shift-todo-requires-clause-lists
shift-todo-requires-clause-lists g c = swapped g.N.Ranked.before _ _ _ c.requires

pub shift-todo-requires-clause-within : goal.shift-todo-requires-clause-within
shift-todo-requires-clause-within g c =
    let before = g.N.Ranked.before in
    first_within before _ _ _ (swapped before _ _ _ c.requires) c.if-first-eq-NONE.false

pub next_of-todo-requires : goal.next_of-todo-requires
next_of-todo-requires g c =
    first_within g.N.Ranked.before _ _ _ c.loop-todo.invariant.lists c.loop-todo-test.true

pub join-root-requires-clause-lists : goal.join-root-requires-clause-lists
join-root-requires-clause-lists g c = c.loop-todo.invariant.lists

pub join-root-requires-clause-other_in : goal.join-root-requires-clause-other_in
join-root-requires-clause-other_in g c =
    first_within g.N.Ranked.before _ _ _ c.loop-todo.invariant.lists c.loop-todo-test.true

pub loop-todo-init : goal.loop-todo-init
loop-todo-init g c =
    let before = g.N.Ranked.before in
    let lists = swapped before _ _ _ c.requires in
    let alone = list_len-none before c.args.entries.now c.requires.small in
    let within = first_within before _ _ _ lists c.if-first-eq-NONE.false in
    record {
      lists = c.shift-todo.ensures.lists;
      alone = omega arith;
      within = omega arith;
      kept = record { nodes = refl; open_at = refl };
      steps = omega arith;
    }

pub loop-todo-preserved : goal.loop-todo-preserved
loop-todo-preserved g c =
    let joined = c.join-root.ensures.joined in
    record {
      lists = rw c.next_of-todo.ensures joined.lists;
      alone = joined.as_long ∙ c.loop-todo.invariant.alone;
      within = joined.within;
      kept = kept_on c.loop-todo.invariant.kept joined.kept;
      steps = omega arith;
    }

pub returns-clause-steps : goal.returns-clause-steps
returns-clause-steps g c = omega arith

pub returns-then-first-eq-NONE-clause-heap : goal.returns-then-first-eq-NONE-clause-heap
returns-then-first-eq-NONE-clause-heap g c =
    let before = g.N.Ranked.before in
    record {
      all_open = subst (HaveOpen before c.args.entries.now NONE) c.if-first-eq-NONE.true c.requires;
      alone = omega (arith, list_len-none before c.args.entries.now c.requires.small);
    }

pub returns-then-first-eq-NONE-clause-kept : goal.returns-then-first-eq-NONE-clause-kept
returns-then-first-eq-NONE-clause-kept g c = record { nodes = refl; open_at = refl }
