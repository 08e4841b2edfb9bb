use Rattle.std.proofs.Common.{◌∙◌, refl, sym, subst, inr, ◌∷◌, ℕ, List, arith}
use Rattle.std.specs.Prelude.{Option}
use Rattle.grid_moves.specs.declared.Cell.{Cell}
use Rattle.word_list.specs.Request.{asking}
use Rattle.word_list.specs.declared.rows.Command.TheVariants as command
use Rattle.jps_run.specs.Answers.{query_line}
use Rattle.map_text.specs.Faults.{map_of}
use Rattle.jps_run.specs.Calls.{call_with, output_of}
use Rattle.jps_run.specs.Counting.{RoseForSearch, Search, search_of}
use Rattle.jps_run.specs.Parts.{Prints, printed}
use Rattle.jps_run.specs.Session.{who_on}
use Rattle.jps_run.proofs.Opening.{value-read, work-of}
use Rattle.jps_run.specs.Rising.{RoseForQuery}
use Rattle.jps_run.specs.Who.{Who, replies_by}
use Rattle.jps_run.proofs.commands.query.query.Goals as goal

pub returns-clause-opened : goal.returns-clause-opened
unfolding output_of search_of
returns-clause-opened g c =
    let e = c.ends_of-ends.result in
    let s : Cell = record { x = e.sx; y = e.sy } in
    let t : Cell = record { x = e.gx; y = e.gy } in
    let set = c.args.settings in
    let r = c.in_ok-basis.ensures.read in
    let work = c.in_ok-work.ensures in
    let line : Who → List ℕ = λ who. query_line (replies_by who.by) set.show who.layers s t in
    record {
      texts = r.text ∷ r.loaded;
      accepted = rw (← c.name-map.ensures) r.accepted;
      is = work-of (call_with (asking command.Query c.args.request) set) (r.text ∷ r.loaded) c.in_ok-work.work
          (printed (line (who_on set r.is.map)) 0)
          (value-read (map_of r.text) r.is.map _ r.is.spelled ∙ rw (
            ← c.ends_of-ends.ensures.sx,
            ← c.ends_of-ends.ensures.sy,
            ← c.ends_of-ends.ensures.gx,
            ← c.ends_of-ends.ensures.gy,
          ) refl) (omega arith) work.can
          (λ lines status w. subst (λ (who : Who). Prints (printed (line who) 0) lines status) r.is.is.0
          (work.right lines status w))
          (λ old new rose. inr (subst (λ (o : Option Search). RoseForSearch o old new)
          (sym (value-read (map_of r.text) r.is.map _ r.is.spelled)) (rw (
            ← c.ends_of-ends.ensures.sx,
            ← c.ends_of-ends.ensures.sy,
            ← c.ends_of-ends.ensures.gx,
            ← c.ends_of-ends.ensures.gy,
          ) (subst (λ (who : Who). RoseForQuery who s t old new) r.is.is.0 (work.counted old new rose)))));
    }
