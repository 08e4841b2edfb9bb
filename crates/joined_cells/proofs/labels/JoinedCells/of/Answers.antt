use Rattle.std.proofs.Common.{ℕ, List, sym, subst, arith}
use Rattle.std.proofs.lemmas.List.{with_items_is}
use Rattle.joined_cells.specs.Joined.{TellsJoined}
use Rattle.joined_cells.proofs.Labelling.{tells_joined}
use Rattle.joined_cells.proofs.labels.JoinedCells.of.Goals as goal

pub returns : goal.returns
returns g c =
    subst (λ (ls : List ℕ). TellsJoined (g.T.Terrain.grid c.args.t.now) (record {
      width = c.width-width.result;
      height = c.height-height.result;
      labels = ls;
    })) (sym (with_items_is c.in_ok-labels.labels c.flood_all.new.labels (omega arith)))
    (tells_joined (g.T.Terrain.grid c.args.t.now) c.flood_all.new.labels c.in_ok-flood_all.ensures.settled
    c.in_ok-flood_all.ensures.labelled c.width-width.result c.height-height.result c.width-width.ensures.is
    c.height-height.ensures.is)
