-- The certificate between two cells of a grid, as a function.
use Rattle.std.specs.Prelude.{◌≡◌, ℕ, List, Option, Some, None, codes, refl}
use Rattle.std.specs.Fmt.{digits}
use Rattle.grid_moves.specs.declared.Cell.{Cell}
use Rattle.grid_moves.specs.declared.Corner.TheVariants.{Never}
use Rattle.grid_moves.specs.Grid.{GridData, grid_of}
use Rattle.path_points.specs.declared.points.Walk.{Walk}
use Rattle.search_run.specs.Made.{run_of}
use Rattle.best_first.specs.Made.{found_of, states_at, states_in_row, states_on_map}
use Rattle.plain_search.specs.Answer.{plain_found}
use Rattle.plain_search.specs.Costs.{least_cost}
use Rattle.plain_search.specs.Lists.{closed_of, reached_of}
use Rattle.potential_check.specs.declared.certificate.Claim.{Claim}
use Rattle.potential_check.specs.declared.certificate.Claim.TheVariants.{Least, NoWalk}
use Rattle.potential_make.specs.Written.{certificate_text}

-- what is claimed of a walk, with the closed cells, or where there is none, with the reached ones
abbrev pub claim_on : GridData → Cell → Cell → Option Walk → Claim
claim_on g s t (Some w) = Least w.cost w.points (closed_of g s t w.cost)
claim_on g s t None = NoWalk (reached_of g s)

-- the text of what is claimed of the walks from s to t, where this walk was found, or none
abbrev pub certificate_on : GridData → Cell → Cell → Option Walk → List ℕ
certificate_on g s t walk = certificate_text g.width g.height s t (claim_on g s t walk)

-- the claim on the walks from s to t: the plain engine's walk, or that there is none
unfoldable pub made_claim : GridData → Cell → Cell → Claim
made_claim g s t = claim_on g s t (plain_found g s t).walk

-- the certificate from s to t is the text of that claim
unfoldable pub made_certificate : GridData → Cell → Cell → List ℕ
made_certificate g s t = certificate_text g.width g.height s t (made_claim g s t)

-- a worked row: in `.@@.` one cell is reached
pub one_reached : made_certificate (grid_of 2 2 (codes ".@@.") Never) (record { x = 0; y = 0 })
    (record { x = 1; y = 1 }) ≡ codes "jps-cert 1\nsize 2 2\nends 0 0 1 1\nnone\nin 0 0\nend\n"
unfolding made_certificate made_claim reached_of digits least_cost plain_found found_of run_of states_at
    states_in_row states_on_map
one_reached = refl
