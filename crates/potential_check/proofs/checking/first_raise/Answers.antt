use Rattle.std.proofs.Common.{◌∙◌, ap, List}
use Rattle.std.specs.List.{list_all}
use Rattle.std.proofs.lemmas.Bool.{and_from}
use Rattle.root2_cost.specs.declared.Cost.{Cost}
use Rattle.grid_moves.specs.declared.Cell.{Cell}
use Rattle.potential_check.specs.Certificate.{are_listed, cells_of, is_small}
use Rattle.potential_check.proofs.Judging.{raise_is}
use Rattle.potential_check.proofs.Ranked.{cells-ranked}
use Rattle.potential_check.proofs.checking.first_raise.Goals as goal

pub first_climb-requires : goal.first_climb-requires
first_climb-requires c = record {
  grid = c.requires.whole;
  listed = ap (are_listed c.args.g.now.width c.args.g.now.height)
      (cells-ranked c.as_slice.result.now ∙ ap cells_of c.as_slice.ensures) ∙ c.requires.listed;
  low = and_from _ _ c.requires.cost
      (ap (λ (es : List (Cell × Cost)). list_all (λ entry. is_small entry.1) es) c.as_slice.ensures
      ∙ c.requires.values);
}

pub returns : goal.returns
returns c =
    c.first_climb.ensures
    ∙ raise_is c.args.g.now c.args.cost c.args.t c.as_slice.result.now c.args.values.now c.requires.whole
    c.as_slice.ensures c.requires.cost c.requires.goal c.requires.values
