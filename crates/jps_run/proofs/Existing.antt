-- Each reply is right, however queries are answered.
use Rattle.std.proofs.Common.{◌≡◌, true, sym, subst}
use Rattle.std.specs.Prelude.{Result, Ok, Err, IfOk}
use Rattle.std.proofs.lemmas.Bool.{and_parts}
use Rattle.grid_moves.specs.declared.Cell.{Cell}
use Rattle.grid_moves.specs.Grid.{GridData, is_free}
use Rattle.grid_moves.specs.Layers.{Layers, query_grid}
use Rattle.path_points.specs.Least.{IsLeastOrNone}
use Rattle.edit_replay.proofs.Replying.{founds_are, right_where}
use Rattle.edit_replay.specs.Replies.{IsShort, answer_of}
use Rattle.edit_replay.specs.declared.reply.Reply.{Reply}
use Rattle.first_moves.proofs.Led.{led_is}
use Rattle.first_moves.specs.Follow.{led_walk}
use Rattle.goal_boxes.proofs.Answering as boxed
use Rattle.word_list.specs.declared.request.SmallEngine.TheVariants.{Boxes, Moves}
use Rattle.call_files.specs.Reading.{AreSmall}
use Rattle.reply_lines.specs.Lines.{Unfolds}
use Rattle.jps_run.specs.Replies.{AreRight, By, by_session, by_small}
use Rattle.jps_run.specs.Who.{found_by, replies_by}
use Rattle.jps_run.proofs.Replying.{followed_least, small-short}
use Rattle.reply_lines.proofs.Unfolding.{replied_unfolds}

-- what is found between free cells is a least walk, or none exactly where no walk leads there
pub found_least : (by : By) (g : GridData) (s t : Cell) → is_free g s ≡ true → is_free g t ≡ true
    → IsLeastOrNone g s t (found_by by g s t).walk
found_least (by_session engine) g s t from to = (founds_are engine).least g s t from
found_least (by_small Boxes) g s t from to = boxed.answers_are.least g s t from
found_least (by_small Moves) g s t from to = followed_least g s t (led_walk g s t) (led_is g s t from)

-- so each reply is right
pub replies_right : AreRight replies_by
replies_right by ls s t =
    let g = query_grid ls s in
    right_where ls s t (found_by by g s t)
    (λ one. let ends = and_parts (is_free g s) (is_free g t) one in found_least by g s t ends.0 ends.1)

-- and unfolds
pub reply_unfolds : (by : By) (ls : Layers) (s t : Cell) (r : Reply) → r ≡ replies_by by ls s t → Unfolds r
reply_unfolds by ls s t r is =
    subst Unfolds (sym is) (replied_unfolds ls s t (replies_by by ls s t) (replies_right by ls s t))

-- on a small map it is short
pub result-short : {E : Type 0} (result : Result Reply E) (by : By) (ls : Layers) (s t : Cell) → AreSmall ls
    → IfOk result (λ reply. reply ≡ replies_by by ls s t) → IfOk result (λ r. IsShort (answer_of r))
result-short (Err error) by ls s t small is = tt
result-short (Ok reply) by ls s t small is = subst (λ (r : Reply). IsShort (answer_of r)) (sym is)
    (small-short ls s t (replies_by by ls s t) small (replies_right by ls s t))
