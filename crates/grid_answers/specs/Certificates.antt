-- What `prove` and `check` print.
use Rattle.std.specs.Prelude.{◌≡◌, ℕ, ◌&&◌, if◌then◌else◌, List, ◌++◌, codes, decimal, refl}
use Rattle.std.specs.Prelude.{Option, Some, None, Result, Ok, Err}
use Rattle.std.specs.Option.{option_map_or}
use Rattle.grid_moves.specs.declared.Cell.{Cell}
use Rattle.grid_moves.specs.Layers.{Layers, in_one_layer, is_on_map, query_grid, shore}
use Rattle.grid_moves.specs.Reply.{are_free_ends}
use Rattle.cell_lines.specs.Cells.{cell_text}
use Rattle.path_points.specs.declared.points.Walk.{Walk}
use Rattle.potential_check.specs.declared.verdict.Proof.{Proof}
use Rattle.potential_check.specs.declared.verdict.Proof.TheVariants as proof
use Rattle.potential_check.specs.declared.verdict.Reject.{Reject}
use Rattle.potential_check.specs.declared.verdict.Reject.TheVariants as reject
use Rattle.potential_make.specs.Made.{certificate_on, made_certificate}

-- the line that says why nothing is proved of the walks from s to t: an end lies outside, or is neither land
-- nor water, or one is land and the other water
abbrev pub why_unproved : Layers → Cell → Cell → Option (List ℕ)
why_unproved ls s t = if is_on_map ls s && is_on_map ls t
    then (if are_free_ends ls s t
    then (if in_one_layer ls s t then None else Some (codes "apart\n")) else Some (codes "blocked\n"))
    else Some (codes "outside\n")

-- what is printed for a query from s to t, where this walk was found on its grid, or none: that line, or else
-- the certificate
abbrev pub proof_by : Layers → Cell → Cell → Option Walk → List ℕ
proof_by ls s t walk = option_map_or (λ line. line) (why_unproved ls s t)
    (certificate_on (query_grid ls s) s t walk)

-- and where the plain engine finds it
unfoldable pub proof_answer : Layers → Cell → Cell → List ℕ
proof_answer ls s t = option_map_or (λ line. line) (why_unproved ls s t)
    (made_certificate (query_grid ls s) s t)

-- and the status
unfoldable pub proof_status : Layers → Cell → Cell → ℕ
proof_status ls s t = option_map_or (λ line. 1) (why_unproved ls s t) 0

-- the line of what an accepted certificate proves
abbrev pub proof_line : Proof → List ℕ
proof_line (proof.Least cost) =
    codes "accepted least " ++ decimal cost.a ++ codes " " ++ decimal cost.b ++ codes "\n"
proof_line proof.NoWalk = codes "accepted none\n"

-- two cells, parted by a space
abbrev pub move_text : Cell → Cell → List ℕ
move_text u v = cell_text u ++ codes " " ++ cell_text v

-- the line of the first clause that a certificate fails
abbrev pub reject_line : Reject → List ℕ
reject_line reject.Size = codes "refused size\n"
reject_line reject.Ends = codes "refused ends\n"
reject_line (reject.Walk i) = codes "refused walk " ++ decimal i ++ codes "\n"
reject_line reject.Start = codes "refused start\n"
reject_line reject.Goal = codes "refused goal\n"
reject_line (reject.Move u v) = codes "refused move " ++ move_text u v ++ codes "\n"
reject_line (reject.Open u v) = codes "refused open " ++ move_text u v ++ codes "\n"

-- the line of what a certificate comes to
abbrev pub verdict_line : Result Proof Reject → List ℕ
verdict_line (Ok proof) = proof_line proof
verdict_line (Err why) = reject_line why

-- and the status
abbrev pub verdict_status : Result Proof Reject → ℕ
verdict_status (Ok proof) = 0
verdict_status (Err why) = 1

-- worked rows on the map `.WW/.WW`: from the land into the water
pub into_the_water : proof_answer shore (record { x = 0; y = 0 }) (record { x = 1; y = 0 }) ≡ codes "apart\n"
unfolding proof_answer
into_the_water = refl

pub into_the_water_bad : proof_status shore (record { x = 0; y = 0 }) (record { x = 1; y = 0 }) ≡ 1
unfolding proof_status
into_the_water_bad = refl
