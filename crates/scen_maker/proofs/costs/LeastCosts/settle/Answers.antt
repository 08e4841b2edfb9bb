use Rattle.std.proofs.Common.{rules, ◌≡◌}
use Rattle.scen_maker.proofs.Searching.{settled_apart}
use Rattle.scen_maker.proofs.costs.LeastCosts.settle.Goals as goal

pub returns-in-Err-Apart-clause-settled : goal.returns-in-Err-Apart-clause-settled
returns-in-Err-Apart-clause-settled g c =
    let e = c.in-Err-Apart in
    let from : e.field-0-0.from ≡ e.from = rw e.field-0-is at e.from-is in
    let to : e.field-0-0.to ≡ e.to = rw e.field-0-is at e.to-is in
    rw (e.from-is, e.to-is) (rw (from, to) at (settled_apart c.args.self.now c.args.entry e.field-0-0
    (search rules) (rw (e.field-0-is, c.layers-layers.ensures.is) at e.ensures)))
