use Rattle.std.proofs.Common.{refl, sym, ap, ◌∙◌, inl, [], ◌∷◌, ℕ, List, arith}
use Rattle.std.specs.Prelude.{Some}
use Rattle.grid_moves.specs.declared.Cell.{Cell}
use Rattle.grid_moves.specs.Layers.{Layers}
use Rattle.grid_answers.specs.BoxLines.{boxes_answer}
use Rattle.word_list.specs.Request.{asking}
use Rattle.word_list.specs.declared.rows.Command.TheVariants as command
use Rattle.map_text.specs.Faults.{map_of}
use Rattle.jps_run.specs.Calls.{call_with, output_of}
use Rattle.jps_run.specs.Parts.{printed}
use Rattle.jps_run.specs.declared.work.Work.TheVariants as work
use Rattle.jps_run.proofs.Opening.{texted, value-read, work-of}
use Rattle.jps_run.proofs.commands.boxes.boxes.Goals as goal

pub returns-clause-opened : goal.returns-clause-opened
unfolding output_of
returns-clause-opened g c =
    let r = c.in_ok-small.ensures.read in
    let text = c.in_ok-text.text in
    let s : Cell = record { x = c.number-x.result; y = c.number-y.result } in
    record {
      texts = r.text ∷ [];
      accepted = rw (← c.name-map.ensures) (r.accepted, tt);
      is = work-of (call_with (asking command.Boxes c.args.request) c.args.settings)
          (r.text ∷ []) (work.Print text 0)
          (printed text.items 0)
          (value-read (map_of r.text) r.spelled.map _ r.spelled.spelled
          ∙ rw (← c.number-x.ensures, ← c.number-y.ensures)
          (sym (ap (λ (t : List ℕ). Some (printed t 0)) (c.in_ok-text.ensures
          ∙ ap (λ (ls : Layers). boxes_answer ls s) r.spelled.is.layers))))
          (omega arith) tt (texted text.items 0) (λ old new rose. inl refl);
    }
