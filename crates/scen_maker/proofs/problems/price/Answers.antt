use Rattle.scen_maker.proofs.Posed.{ends_free, ends_inside, never_none}
use Rattle.scen_maker.proofs.problems.price.Goals as goal

pub between-requires : goal.between-requires
between-requires g c = record {
  inside = ends_inside c.args.costs.now c.requires.layers c.args.ends.from c.args.ends.to c.requires.walk;
  free = ends_free c.args.costs.now c.requires.layers c.args.ends.from c.args.ends.to c.requires.walk;
}

pub unreachable-requires : goal.unreachable-requires
unreachable-requires g c =
    never_none c.args.costs.now c.args.ends.from c.args.ends.to c.requires.walk c.in_ok-cost.field-0
    c.in_ok-cost.ensures.least c.in-None.is
