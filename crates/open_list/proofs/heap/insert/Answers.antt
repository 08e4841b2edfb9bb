use Rattle.std.proofs.Common.{ℕ, subst, arith}
use Rattle.open_list.specs.Heaps.{AreBeside}
use Rattle.open_list.proofs.Forests.{first_within, swapped}
use Rattle.open_list.proofs.Turns.{beside_none}
use Rattle.open_list.proofs.heap.insert.Goals as goal

pub returns-then-root-eq-NONE-clause-heap : goal.returns-then-root-eq-NONE-clause-heap
returns-then-root-eq-NONE-clause-heap g c =
    let before = g.N.Ranked.before in
    beside_none before _ _ (subst (λ (k : ℕ).
    AreBeside before c.args.entries.now k c.args.id) c.if-root-eq-NONE.true c.requires.beside)
    (λ none. omega (arith, c.requires.beside.lists.small))

pub join-requires-clause-one_in : goal.join-requires-clause-one_in
join-requires-clause-one_in g c =
    let before = g.N.Ranked.before in
    first_within before _ _ _ (swapped before _ _ _ c.requires.beside.lists) c.if-root-eq-NONE.false
