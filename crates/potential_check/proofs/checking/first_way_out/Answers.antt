use Rattle.std.proofs.Common.{◌∙◌, ap, refl}
use Rattle.potential_check.specs.Certificate.{are_listed}
use Rattle.potential_check.proofs.Judging.{way_out_is}
use Rattle.potential_check.proofs.Ranked.{cells-members}
use Rattle.potential_check.proofs.checking.first_way_out.Goals as goal

pub first_climb-requires : goal.first_climb-requires
first_climb-requires c = record {
  grid = c.requires.whole;
  listed = ap (are_listed c.args.g.now.width c.args.g.now.height)
      (cells-members c.as_slice.result.now ∙ c.as_slice.ensures) ∙ c.requires.listed;
  low = refl;
}

pub returns : goal.returns
returns c =
    c.first_climb.ensures
    ∙ way_out_is c.args.g.now c.as_slice.result.now c.args.cells.now c.as_slice.ensures
