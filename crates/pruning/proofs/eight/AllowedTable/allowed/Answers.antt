use Rattle.std.proofs.Common.{ap, ◌∙◌}
use Rattle.grid_moves.specs.declared.Corner.{Corner}
use Rattle.pruning.specs.Eight.{ring_of}
use Rattle.pruning.specs.Ring.{allowed_on}
use Rattle.pruning.proofs.Eights.{at_eight}
use Rattle.pruning.proofs.eight.AllowedTable.allowed.Goals as goal

pub returns : goal.returns
returns c =
    c.index.ensures
    ∙ at_eight c.self.inside.corner c.self.inside.lists.items c.arrival_number.result c.args.eight c.args.by _
    c.self.invariant c.arrival_number.ensures.few c.requires.eight c.arrival_number.ensures.number
    ∙ ap (λ (rule : Corner). allowed_on rule (ring_of c.args.eight) c.args.by) c.self.view_is
