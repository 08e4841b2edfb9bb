-- Corner rules by numbers, and a grid under another corner rule.
use Rattle.std.specs.Prelude.{◌≡◌, ℕ, nat_eq, refl, if◌then◌else◌}
use Rattle.grid_moves.specs.declared.Corner.{Corner}
use Rattle.grid_moves.specs.declared.Corner.TheVariants.{Never, One, Both}
use Rattle.grid_moves.specs.Grid.{GridData}
use Rattle.grid_moves.specs.Examples.{pillar}

-- no corner is cut, one blocked cell may be passed, or two
abbrev pub rule_of_number : ℕ → Corner
rule_of_number n = if nat_eq n 0 then Never else if nat_eq n 1 then One else Both

-- the same cells are free
abbrev pub ruled_by : Corner → GridData → GridData
ruled_by rule g = record { width = g.width; height = g.height; corner = rule; free = g.free }

pub second_rule : rule_of_number 1 ≡ One
second_rule = refl

pub pillar_by_one : ruled_by One (pillar Never) ≡ pillar One
pillar_by_one = refl
