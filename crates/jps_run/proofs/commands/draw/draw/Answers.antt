use Rattle.std.proofs.Common.{refl, sym, ◌∙◌, subst, inr, [], ◌∷◌}
use Rattle.std.specs.Prelude.{Option}
use Rattle.grid_moves.specs.declared.Cell.{Cell}
use Rattle.map_text.specs.Map.{Map}
use Rattle.edit_replay.specs.Session.{SessionData}
use Rattle.word_list.specs.Request.{asking}
use Rattle.word_list.specs.declared.rows.Command.TheVariants as command
use Rattle.map_text.specs.Faults.{map_of}
use Rattle.jps_run.specs.Calls.{call_with, output_of}
use Rattle.jps_run.specs.Counting.{RoseForSearch, Search, search_of}
use Rattle.jps_run.specs.Parts.{Prints, Output}
use Rattle.jps_run.specs.Pictures.{drawing}
use Rattle.jps_run.specs.Rising.{RoseForQuery}
use Rattle.jps_run.specs.Session.{session_replies, session_on}
use Rattle.jps_run.specs.Who.{reply_to, who_is}
use Rattle.jps_run.specs.declared.work.Work.TheVariants as work
use Rattle.jps_run.proofs.Opening.{value-read, work-of}
use Rattle.jps_run.proofs.Pictured.{small_drawing}
use Rattle.jps_run.proofs.commands.draw.draw.Goals as goal

pub returns-clause-opened : goal.returns-clause-opened
unfolding output_of search_of
returns-clause-opened g c =
    let e = c.ends_of-ends.result in
    let s : Cell = record { x = e.sx; y = e.sy } in
    let t : Cell = record { x = e.gx; y = e.gy } in
    let set = c.args.settings in
    let r = c.in_ok-canvas.ensures.read in
    let output : Map → SessionData → Output = λ m d. drawing (session_replies d) set.show m d.layers s t in
    record {
      texts = r.text ∷ [];
      accepted = rw (← c.name-map.ensures) (r.accepted, tt);
      is = work-of (call_with (asking command.Draw c.args.request) set) (r.text ∷ [])
          (work.Draw c.in_ok-canvas.canvas e set.show) (output r.spelled.map (session_on set r.spelled.map))
          (value-read (map_of r.text) r.spelled.map _ r.spelled.spelled ∙ rw (
            ← c.ends_of-ends.ensures.sx,
            ← c.ends_of-ends.ensures.sy,
            ← c.ends_of-ends.ensures.gx,
            ← c.ends_of-ends.ensures.gy,
          ) refl) (small_drawing (reply_to (who_is (session_on set r.spelled.map)) s t)) tt
          (λ lines status w. subst
          (λ (d : SessionData). Prints (output r.spelled.map d) lines status) r.spelled.is.1
          (subst (λ (m : Map). Prints (output m c.in_ok-canvas.canvas.session) lines
          status) r.spelled.is.0 w))
          (λ old new rose. inr (subst (λ (o : Option Search). RoseForSearch o old new)
          (sym (value-read (map_of r.text) r.spelled.map _ r.spelled.spelled)) (rw (
            ← c.ends_of-ends.ensures.sx,
            ← c.ends_of-ends.ensures.sy,
            ← c.ends_of-ends.ensures.gx,
            ← c.ends_of-ends.ensures.gy,
          ) (subst (λ (d : SessionData). RoseForQuery (who_is d) s t old new) r.spelled.is.1 rose))));
    }
