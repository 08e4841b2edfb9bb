-- What `draw` prints.
use Rattle.std.proofs.Common.{◌≡◌, ◌∙◌, ◌≤◌, ◌*◌, refl, ap, subst, ◌∷◌, [], ℕ, false, ◌&&◌, arith}
use Rattle.std.specs.Prelude.{IfOk, OnOk, Result, Ok, Err, Option, None, Some, codes}
use Rattle.io_edge.specs.Known.{Outflow}
use Rattle.grid_moves.specs.declared.Cell.{Cell}
use Rattle.grid_moves.specs.Layers.{is_on_map}
use Rattle.map_text.specs.Map.{Map}
use Rattle.map_text.specs.Faults.{plain}
use Rattle.edit_replay.specs.Counting.{RoseByStates, RoseWithin, fewest_of, most_of}
use Rattle.edit_replay.specs.Session.{SessionData}
use Rattle.edit_replay.specs.declared.reply.Reply.{Reply}
use Rattle.edit_replay.specs.declared.reply.Reply.TheVariants as reply
use Rattle.word_list.specs.declared.request.Show.{Show}
use Rattle.jps_run.specs.Pictures.{IsPictured, drawing_of, drawing_status}
use Rattle.line_work.specs.Sending.{AreLines}
use Rattle.line_work.specs.declared.printed.Printed.{Printed}
use Rattle.jps_run.specs.Rising.{RoseForQuery}
use Rattle.jps_run.specs.Session.{session_replies}
use Rattle.edit_replay.specs.ReplyOf.{reply_finding}
use Rattle.jps_run.specs.Who.{reply_to, who_is}
use Rattle.jps_run.specs.declared.replies.drawing.Canvas.{Canvas}
use Rattle.line_work.proofs.Pieces.{nothing}

-- the statuses are 0 and 1
pub small_drawing : (r : Reply) → drawing_status r ≤ 1
small_drawing reply.Outside = omega arith
small_drawing reply.Blocked = omega arith
small_drawing (reply.None taken) = omega arith
small_drawing (reply.Walk points cost taken) = omega arith

-- an end outside is answered so, and nothing is counted
outside_reply : (d : SessionData) (s t : Cell) → (is_on_map d.layers s && is_on_map d.layers t) ≡ false
    → reply.Outside ≡ session_replies d d.layers s t
unfolding reply_finding
outside_reply d s t e = rw e refl

pub outside_text : {E : Type 0} (result : Result Printed E) (d : SessionData) (m : Map) (s t : Cell)
    (show : Show)
    → (is_on_map d.layers s && is_on_map d.layers t) ≡ false
    → IfOk result (λ p. p.text.items ≡ codes "outside\n")
    → IfOk result (λ p. p.text.items ≡ drawing_of m s t show (reply_to (who_is d) s t))
outside_text (Err error) d m s t show off text = tt
outside_text (Ok p) d m s t show off text =
    text ∙ ap (λ (r : Reply). drawing_of m s t show r) (outside_reply d s t off)

pub outside_status : {E : Type 0} (result : Result Printed E) (d : SessionData) (s t : Cell)
    → (is_on_map d.layers s && is_on_map d.layers t) ≡ false → IfOk result (λ p. p.status ≡ 1)
    → IfOk result (λ p. p.status ≡ drawing_status (reply_to (who_is d) s t))
outside_status (Err error) d s t off status = tt
outside_status (Ok p) d s t off status =
    status ∙ ap (λ (r : Reply). drawing_status r) (outside_reply d s t off)

pub outside_counted : {T E : Type 0} (result : Result T E) (d : SessionData) (s t : Cell) (steps : ℕ)
    → (is_on_map d.layers s && is_on_map d.layers t) ≡ false
    → OnOk result (RoseForQuery (who_is d) s t steps steps)
outside_counted (Err error) d s t steps e = tt
outside_counted (Ok done) d s t steps e = record {
  fewest = subst (λ (r : Reply). RoseByStates (fewest_of d.engine) steps steps r) (outside_reply d s t e)
      (omega arith);
  most = subst (λ (r : Reply). RoseWithin (most_of d.engine) steps steps r) (outside_reply d s t e)
      (uncounted (most_of d.engine));
}
  where
    uncounted : (most : Option ℕ) → RoseWithin most steps steps reply.Outside
    uncounted None = tt
    uncounted (Some known) = let none : 0 * known ≡ 0 = omega arith in omega arith

-- for want of memory nothing of a picture was written
pub nothing_drawn : (canvas : Canvas) (s t : Cell) (show : Show) (out : Outflow)
    → AreLines (IsPictured canvas s t show) out out
nothing_drawn canvas s t show out =
    let r : Reply = session_replies canvas.session canvas.session.layers s t in
    record {
      lines = drawing_of (plain canvas.map) s t show r ∷ [];
      status = drawing_status r;
      whole = record { all = refl; code = refl };
      count = 0;
      short = omega arith;
      wrote = nothing out.written;
    }
