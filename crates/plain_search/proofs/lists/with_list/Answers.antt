use Rattle.std.proofs.Common.{List, subst, sym}
use Rattle.root2_cost.specs.declared.Cost.{Cost}
use Rattle.grid_moves.specs.declared.Cell.{Cell}
use Rattle.plain_search.specs.Lists.{AreClosed, AreReached}
use Rattle.plain_search.proofs.Listing.{closed_are, reached_are}
use Rattle.plain_search.proofs.lists.with_list.Goals as goal

pub returns-in_ok-closed-in-Some-clause-lists : goal.returns-in_ok-closed-in-Some-clause-lists
returns-in_ok-closed-in-Some-clause-lists g c =
    let grid = g.T.Terrain.grid c.args.t.now in
    let e = c.in_ok-closed-in-Some.ensures in (
      e,
      subst (λ (l : List (Cell × Cost)). AreClosed grid c.args.ends.from c.args.ends.to
          c.in-Some.field-0.cost l) (sym e)
          (closed_are grid c.args.ends.from c.requires.from c.args.ends.to c.in-Some.field-0.cost),
    )

pub returns-in_ok-reached-in-None-clause-lists : goal.returns-in_ok-reached-in-None-clause-lists
returns-in_ok-reached-in-None-clause-lists g c =
    let grid = g.T.Terrain.grid c.args.t.now in
    let e = c.in_ok-reached-in-None.ensures in (
      e,
      subst (λ (l : List Cell). AreReached grid c.args.ends.from l) (sym e)
          (reached_are grid c.args.ends.from c.requires.from),
    )
