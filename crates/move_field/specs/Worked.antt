-- Worked rows of the field, by computing.
use Rattle.std.specs.Prelude.{◌≡◌, codes, refl}
use Rattle.plain_search.specs.Costs.{begins, least_cost}
use Rattle.grid_moves.specs.declared.Corner.TheVariants.{Never, One, Both}
use Rattle.grid_moves.specs.Grid.{grid_of}
use Rattle.move_field.specs.Field.{field_text}

-- on the open map of 3 columns and 3 rows, to its middle
pub open_map : field_text (grid_of 3 3 (codes ".........") Never) (record { x = 1; y = 1 })
    ≡ codes "345\n2*6\n107\n"
unfolding field_text begins least_cost
open_map = refl

-- of two first moves the one of least number is told: to the lower right of `.../...`, east before south-east
pub least_number : field_text (grid_of 3 2 (codes "......") Never) (record { x = 2; y = 1 })
    ≡ codes "234\n22*\n"
unfolding field_text begins least_cost
least_number = refl

-- on `.@./...` no move leads from the wall, and round it a corner may be cut under the rules `one` and `both`
pub round_the_wall : field_text (grid_of 3 2 (codes ".@....") Never) (record { x = 2; y = 0 })
    ≡ codes "4-*\n220\n"
unfolding field_text begins least_cost
round_the_wall = refl

pub round_the_wall-one : field_text (grid_of 3 2 (codes ".@....") One) (record { x = 2; y = 0 })
    ≡ codes "3-*\n210\n"
unfolding field_text begins least_cost
round_the_wall-one = refl

-- on `.@/@.` a walk leads past two blocked cells under the rule `both` alone
pub no_way : field_text (grid_of 2 2 (codes ".@@.") One) (record { x = 1; y = 1 }) ≡ codes "--\n-*\n"
unfolding field_text begins least_cost
no_way = refl

pub between_walls : field_text (grid_of 2 2 (codes ".@@.") Both) (record { x = 1; y = 1 }) ≡ codes "3-\n-*\n"
unfolding field_text begins least_cost
between_walls = refl
