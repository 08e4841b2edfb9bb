use Rattle.std.proofs.Common.{arith}
use Rattle.std.proofs.lemmas.Bool.Decides.{nat_tests}
use Rattle.std.proofs.Common.{ℕ, List, ◌∙◌}
use Rattle.map_text.specs.Map.{Map}
use Rattle.map_maker.proofs.Drawn.{cells_made}
use Rattle.map_maker.proofs.making.make.Goals as goal

map_of_cells : ℕ → ℕ → List ℕ → Map
map_of_cells w h cells = record { width = w; height = h; cells = cells }

pub invariant_of-result : goal.invariant_of-result
invariant_of-result c =
    let made = cells_made c.args.seed c.args.w c.args.h c.args.percent c.kinds_of-kinds.result c.of.result
    c.seed_from_u64-generator.result c.requires.width c.requires.height c.kinds_of-kinds.ensures
    c.seed_from_u64-generator.ensures (c.of.ensures ∙ c.in_ok-cells.ensures) in
    record { whole = made.is_map }

pub returns : goal.returns
unfolding map_of_cells
returns c = grind (arith, nat_tests)
