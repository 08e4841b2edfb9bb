use Rattle.std.proofs.Common.{◌∙◌, ap, sym}
use Rattle.grid_moves.specs.Layers.{Layers}
use Rattle.scen_maker.specs.Settling.{settled_of}
use Rattle.scen_maker.specs.declared.costs.Settled.{Settled}
use Rattle.jps_run.specs.Rulings.{ruling_by}
use Rattle.jps_run.proofs.replies.judge.ruling_on.Goals as goal

pub ruling_by-requires-clause-settled : goal.ruling_by-requires-clause-settled
ruling_by-requires-clause-settled g c = c.in_ok-settled.ensures.settled
    ∙ ap (λ (ls : Layers). settled_of ls c.args.entry) (sym c.settle.ensures.unchanged)

pub returns-clause-ruling : goal.returns-clause-ruling
returns-clause-ruling g c = c.ruling_by.ensures
    ∙ ap (λ (ls : Layers). ruling_by c.args.claimed.now ls c.in_ok-settled.settled) c.settle.ensures.unchanged
    ∙ ap (λ (s : Settled). ruling_by c.args.claimed.now c.args.costs.now s) c.in_ok-settled.ensures.settled
