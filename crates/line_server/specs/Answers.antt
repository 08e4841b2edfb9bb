-- What answers the lines of a session.
use Rattle.std.specs.Prelude.{◌≡◌, ◌⊎◌, ◌&&◌, ⊤, ℕ, nat_lt, true, if◌then◌else◌, List, [], ◌∷◌, ◌++◌, codes}
use Rattle.std.specs.Prelude.{map, refl}
use Rattle.std.proofs.Common.{inl, inr}
use Rattle.grid_moves.specs.declared.Cell.{Cell}
use Rattle.grid_moves.specs.declared.Corner.TheVariants.{Never}
use Rattle.grid_moves.specs.declared.Ground.TheVariants as ground
use Rattle.grid_moves.specs.Layers.{Layers, is_free_ground, is_on_map, layers_of, query_grid}
use Rattle.edit_replay.specs.Edited.{Edit, edit_at, edit_reply, edited, edited_layer}
use Rattle.edit_replay.specs.declared.reply.Reply.TheVariants as reply
use Rattle.word_list.specs.declared.request.Show.{Show}
use Rattle.word_list.specs.declared.request.Show.TheVariants.{Points}
use Rattle.reply_lines.specs.Lines.{edit_line}
use Rattle.reply_lines.specs.Replies.{Replies, is_walk, query_line}
use Rattle.grid_answers.specs.Framed.{framed_costs, framed_field}
use Rattle.nearest_cell.specs.Nearest.{first_nearest, nearest_of}
use Rattle.line_feed.specs.declared.feed.FedLine.{FedLine}
use Rattle.line_server.specs.declared.asked.Asked.{Asked}
use Rattle.line_server.specs.declared.asked.Asked.TheVariants as asked
use Rattle.line_server.specs.Asked.{asked_by, edits_by, may_want}

abbrev pub cell_at : ℕ → ℕ → Cell
cell_at x y = record { x = x; y = y }

-- of the cells to which the replies are walks, the nearest one to a goal
abbrev pub nearest_by : Replies → Layers → Cell → Cell → Cell
nearest_by replies ls s goal = nearest_of (λ c. is_walk (replies ls s c)) (query_grid ls s) s goal

-- the line of the query to that cell; or why there is none: the goal may be blocked, or in the other layer
abbrev pub near_line : Replies → Show → Layers → Cell → Cell → List ℕ
near_line replies show ls s goal =
    if is_on_map ls s && is_on_map ls goal
    then (if is_free_ground ls s then query_line replies show ls s (nearest_by replies ls s goal)
    else codes "blocked\n")
    else codes "outside\n"

-- the answer to what a line asks on these grids: whole lines, or nothing
abbrev pub answer_to : Replies → Show → Layers → Asked → List ℕ
answer_to replies show ls asked.Nothing = []
answer_to replies show ls asked.Refused = codes "refused T1\n"
answer_to replies show ls asked.TooLong = codes "refused T2\n"
answer_to replies show ls (asked.Edit x y to) = edit_line (edit_reply ls (edit_at x y to))
answer_to replies show ls (asked.Query sx sy gx gy) = query_line replies show ls
    (cell_at sx sy) (cell_at gx gy)
answer_to replies show ls (asked.Near sx sy gx gy) = near_line replies show ls (cell_at sx sy) (cell_at gx gy)
answer_to replies show ls (asked.Field x y) = framed_field ls (cell_at x y)
answer_to replies show ls (asked.Costs x y) = framed_costs ls (cell_at x y)

-- the answer to each of these lines, on the grids as these edits and those before it leave them
abbrev pub answers_to : Replies → Show → Layers → List Edit → List Asked → List (List ℕ)
answers_to replies show ls edits [] = []
answers_to replies show ls edits (a ∷ more) =
    answer_to replies show (edited ls edits) a ∷ answers_to replies show ls (edits ++ edits_by a) more

-- the text is the answer; or that memory was refused, where some is taken
abbrev pub Answers : Replies → Show → Layers → Asked → List ℕ → Type 0
Answers replies show ls a text = (text ≡ answer_to replies show ls a)
    ⊎ ((may_want a ≡ true) × (text ≡ codes "memory\n"))

-- each of these texts answers its line, on the grids as these edits and those before it leave them
abbrev pub AreAnswers : Replies → Show → Layers → List Edit → List Asked → List (List ℕ) → Type 0
AreAnswers replies show ls edits [] [] = ⊤
AreAnswers replies show ls edits [] (text ∷ texts) = ⊥
AreAnswers replies show ls edits (a ∷ more) [] = ⊥
AreAnswers replies show ls edits (a ∷ more) (text ∷ texts) =
    Answers replies show (edited ls edits) a text
    × AreAnswers replies show ls (edits ++ edits_by a) more texts

-- what some lines ask for, and the edits that they make
abbrev pub all_asked : List FedLine → List Asked
all_asked lines = map asked_by lines

abbrev pub edits_of : List Asked → List Edit
edits_of [] = []
edits_of (a ∷ more) = edits_by a ++ edits_of more

-- worked rows, where no query finds a walk: each line is answered on the grids that the edits before it
-- leave, and one that is refused changes nothing
abbrev none_found : Replies
none_found ls s t = reply.None []

abbrev row_of_three : Layers
row_of_three = layers_of Never 3 1 (codes ".@.")

pub edits_in_turn : answers_to none_found Points row_of_three []
    (asked.Edit 0 0 ground.Blocked ∷ asked.Refused ∷ asked.Edit 0 0 ground.Blocked
    ∷ asked.TooLong ∷ asked.Nothing
    ∷ asked.Edit 3 0 ground.Land ∷ asked.Query 0 0 2 0 ∷ [])
    ≡ codes "ok\n" ∷ codes "refused T1\n" ∷ codes "same\n" ∷ codes "refused T2\n" ∷ [] ∷ codes "outside\n"
    ∷ codes "none\n" ∷ []
unfolding edited_layer
edits_in_turn = refl

-- `near` from outside, to a goal outside, and from a blocked cell
pub near_outside : answer_to none_found Points row_of_three (asked.Near 3 0 0 0) ≡ codes "outside\n"
near_outside = refl

pub near_to_outside : answer_to none_found Points row_of_three (asked.Near 1 0 0 1) ≡ codes "outside\n"
near_to_outside = refl

pub near_from_a_block : answer_to none_found Points row_of_three (asked.Near 1 0 0 0) ≡ codes "blocked\n"
near_from_a_block = refl

-- `near` from a cell that walks lead to no other from; and on `..@..`,
-- where they lead to the columns before the block
pub near_itself : answer_to none_found Points row_of_three (asked.Near 0 0 2 0) ≡ codes "none\n"
unfolding nearest_of first_nearest
near_itself = refl

abbrev row_of_five : Layers
row_of_five = layers_of Never 5 1 (codes "..@..")

abbrev walks_left : Replies
walks_left ls s t =
    if nat_lt t.x 2 then reply.Walk (s ∷ t ∷ []) (record { a = 1; b = 0 }) [] else reply.None []

pub near_the_block : answer_to walks_left Points row_of_five (asked.Near 0 0 4 0)
    ≡ query_line walks_left Points row_of_five (cell_at 0 0) (cell_at 1 0)
unfolding nearest_of first_nearest
near_the_block = refl

-- memory may be refused where some is taken, and there alone
pub query_wants : Answers none_found Points row_of_three (asked.Query 0 0 2 0) (codes "memory\n")
query_wants = inr (refl, refl)

pub query_answered : Answers none_found Points row_of_three (asked.Query 0 0 2 0) (codes "none\n")
query_answered = inl refl
