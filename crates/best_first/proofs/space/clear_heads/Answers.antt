use Rattle.std.proofs.Common.{ℕ, List, subst, sym, length}
use Rattle.grid_moves.specs.declared.Cell.{Cell}
use Rattle.best_first.specs.declared.state.Layout.{Layout}
use Rattle.best_first.specs.Index.{IsExact, AreLed, cell_of_node}
use Rattle.best_first.specs.Node.{state_of}
use Rattle.best_first.specs.Space.{IsPlaced}
use Rattle.best_first.specs.State.{state_of_place}
use Rattle.best_first.proofs.Forgetting.{led_by_nodes}
use Rattle.best_first.proofs.Offering.{in_cell}
use Rattle.best_first.proofs.space.clear_heads.Goals as goal

pub clear_by_nodes-requires-clause-led : goal.clear_by_nodes-requires-clause-led
clear_by_nodes-requires-clause-led c =
    let i = c.args.index.now in
    let nodes = c.args.pool.now.nodes in
    subst (λ (hs : List ℕ). AreLed (cell_of_node c.args.width nodes) 0 (length nodes) hs)
    (sym c.as_mut_slice.ensures.value) (led_by_nodes c.args.width nodes i.heads.items i.records.items
    (subst (λ (y : Layout). IsExact y c.args.width nodes i.heads.items i.records.items) c.in-ByCell.is
    c.requires.exact))

pub clear_by_nodes-requires-clause-inside : goal.clear_by_nodes-requires-clause-inside
clear_by_nodes-requires-clause-inside c = λ id n h.
    let i = c.args.index.now in
    subst (λ (d : Cell). IsPlaced c.args.width (length c.as_mut_slice.result.now) d)
    (in_cell i.layout (state_of_place n.place))
    (subst (λ (hs : List ℕ). IsPlaced c.args.width (length hs) (state_of i.layout n).cell)
    (sym c.as_mut_slice.ensures.value)
    (c.requires.exact.inside id n h))
