-- The lines that answer a query or an edit.
use Rattle.std.specs.Prelude.{ℕ, List, [], ◌∷◌, ◌++◌, codes, decimal, unwrap_or, true, ◌≡◌, refl, ⊤}
use Rattle.root2_cost.specs.declared.Cost.{Cost}
use Rattle.cell_lines.specs.Cells.{point_text, state_text, texts_of}
use Rattle.grid_moves.specs.declared.Cell.{Cell}
use Rattle.grid_moves.specs.Points.{unfolding_of, is_lined}
use Rattle.edit_replay.specs.declared.reply.Reply.{Reply}
use Rattle.edit_replay.specs.declared.reply.Reply.TheVariants as reply
use Rattle.edit_replay.specs.declared.reply.EditReply.{EditReply}
use Rattle.edit_replay.specs.declared.reply.EditReply.TheVariants as edit
use Rattle.word_list.specs.declared.request.Show.{Show}
use Rattle.word_list.specs.declared.request.Show.TheVariants.{Points, Cells, Trace, Taken}

-- the cells that are shown of a walk: its points, or each cell of their unfolding; the points of a right
-- reply unfold
abbrev pub shown_cells : Show → List Cell → List Cell
shown_cells Points points = points
shown_cells Trace points = points
shown_cells Taken points = points
shown_cells Cells points = unwrap_or (unfolding_of points) []

-- `walk a b` and these cells
abbrev pub walk_text : Cost → List Cell → List ℕ
walk_text cost cells =
    codes "walk " ++ decimal cost.a ++ codes " " ++ decimal cost.b ++ texts_of point_text cells

-- ` taken` and the states that the search took, where they are shown
abbrev pub taken_text : ℕ → Show → List ℕ → List ℕ
taken_text width Points taken = []
taken_text width Cells taken = []
taken_text width Taken taken = []
taken_text width Trace taken = codes " taken" ++ texts_of (state_text width) taken

-- the line of the reply to a query, on a map of this width
abbrev pub reply_line : ℕ → Show → Reply → List ℕ
reply_line width show reply.Outside = codes "outside\n"
reply_line width show reply.Blocked = codes "blocked\n"
reply_line width show (reply.None taken) = codes "none" ++ taken_text width show taken ++ codes "\n"
reply_line width show (reply.Walk points cost taken) =
    walk_text cost (shown_cells show points) ++ taken_text width show taken ++ codes "\n"

-- the points of a walk unfold
abbrev pub Unfolds : Reply → Type 0
Unfolds reply.Outside = ⊤
Unfolds reply.Blocked = ⊤
Unfolds (reply.None taken) = ⊤
Unfolds (reply.Walk points cost taken) = is_lined points ≡ true

-- the line of the reply to an edit
abbrev pub edit_line : EditReply → List ℕ
edit_line edit.Done = codes "ok\n"
edit_line edit.Same = codes "same\n"
edit_line edit.Outside = codes "outside\n"

-- what is shown of a walk from one cell to the next but one
abbrev along : List Cell
along = record { x = 0; y = 0 } ∷ record { x = 2; y = 0 } ∷ []

pub points_along : shown_cells Trace along ≡ along
points_along = refl

pub cells_along : shown_cells Cells along
    ≡ record { x = 0; y = 0 } ∷ record { x = 1; y = 0 } ∷ record { x = 2; y = 0 } ∷ []
cells_along = refl

-- ends in two layers, where nothing is searched
pub none_taken : reply_line 3 Trace (reply.None []) ≡ codes "none taken\n"
none_taken = refl
