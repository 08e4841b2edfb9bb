use Rattle.std.proofs.Common.{rules, subst}
use Rattle.edit_replay.specs.Kept.{IsFinderOn}
use Rattle.edit_replay.proofs.Following.{finder_on}
use Rattle.edit_replay.proofs.parts.Parts.search.Goals as goal

pub jump-requires-clause-finder : goal.jump-requires-clause-finder
jump-requires-clause-finder g c = subst
    (λ h. IsFinderOn c.free-is_water.result h c.in-Jumps.finder) (search rules)
    (finder_on c.free-is_water.result c.args.self.now.layers c.in-Jumps.finder (search rules))
