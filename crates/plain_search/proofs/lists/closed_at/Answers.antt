use Rattle.std.proofs.Common.{◌<◌, ◌∙◌, ℕ, ap, subst}
use Rattle.std.specs.Prelude.{Option, Some, None}
use Rattle.std.specs.Option.{option_and_then}
use Rattle.root2_cost.specs.declared.Cost.{Cost}
use Rattle.grid_moves.specs.declared.Cell.{Cell}
use Rattle.grid_moves.specs.Grid.{cell_numbered}
use Rattle.plain_search.specs.Lists.{if_below}
use Rattle.plain_search.proofs.Listing.{told, told_few}
use Rattle.plain_search.proofs.Numbering.{few_numbers}
use Rattle.plain_search.proofs.lists.closed_at.Goals as goal

pub if_below-requires : goal.if_below-requires
if_below-requires g c =
    told_few (g.T.Terrain.grid c.args.t.now) c.args.ends.from c.requires.from
    c.args.costs.now c.requires.costs
    c.args.number c.requires.known c.width.ensures.whole c.in-Some.cost c.in-Some.is

pub cell_numbered-requires-clause-on : goal.cell_numbered-requires-clause-on
cell_numbered-requires-clause-on g c =
    few_numbers (g.T.Terrain.grid c.args.t.now) c.width.ensures.whole c.args.number c.width.result
    c.width.ensures.is (subst (λ (n : ℕ). c.args.number < n) c.requires.costs.as_many c.requires.known)

pub returns-in-Some : goal.returns-in-Some
returns-in-Some g c =
    let grid = g.T.Terrain.grid c.args.t.now in
    c.if_below.ensures
    ∙ ap (λ (d : Cell). if_below c.args.ends.to c.args.bound d c.in-Some.cost)
    (c.cell_numbered.ensures ∙ ap (λ (w : ℕ). cell_numbered w c.args.number) c.width.ensures.is)
    ∙ ap (λ (o : Option Cost). option_and_then (if_below c.args.ends.to c.args.bound
    (cell_numbered grid.width c.args.number)) o)
    (told grid c.args.ends.from c.requires.from c.args.costs.now c.requires.costs c.args.number
    c.requires.known (Some c.in-Some.cost) c.in-Some.is)

pub returns-in-None : goal.returns-in-None
returns-in-None g c =
    let grid = g.T.Terrain.grid c.args.t.now in
    ap (λ (o : Option Cost). option_and_then (if_below c.args.ends.to c.args.bound
    (cell_numbered grid.width c.args.number)) o)
    (told grid c.args.ends.from c.requires.from c.args.costs.now c.requires.costs c.args.number
    c.requires.known None c.in-None.is)
