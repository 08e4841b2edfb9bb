use Rattle.std.proofs.Common.{refl, ap, ◌∙◌, inl, [], ◌∷◌, arith}
use Rattle.grid_moves.specs.declared.Cell.{Cell}
use Rattle.grid_moves.specs.Layers.{Layers}
use Rattle.grid_answers.specs.Distances.{costs_answer}
use Rattle.call_files.specs.Layered.{layers_on}
use Rattle.word_list.specs.Request.{asking}
use Rattle.word_list.specs.declared.rows.Command.TheVariants as command
use Rattle.map_text.specs.Faults.{map_of}
use Rattle.jps_run.specs.Calls.{call_with, output_of}
use Rattle.jps_run.specs.declared.work.Work.TheVariants as work
use Rattle.jps_run.proofs.Opening.{value-read, work-of}
use Rattle.jps_run.proofs.commands.costs.costs.Goals as goal

pub returns-clause-opened : goal.returns-clause-opened
unfolding output_of
returns-clause-opened g c =
    let r = c.in_ok-layers.ensures.read in
    let s : Cell = record { x = c.number-x.result; y = c.number-y.result } in
    record {
      texts = r.text ∷ [];
      accepted = rw (← c.name-map.ensures) (r.accepted, tt);
      is = work-of (call_with (asking command.Costs c.args.request) c.args.settings) (r.text ∷ [])
          (work.Costs c.in_ok-lines.lines)
          (record { lines = costs_answer (layers_on c.args.settings r.spelled.map) s; status = 0 })
          (value-read (map_of r.text) r.spelled.map _ r.spelled.spelled
          ∙ rw (← c.number-x.ensures, ← c.number-y.ensures) refl)
          (omega arith) tt
          (λ lines status w.
          let are = c.in_ok-lines.ensures lines status w in
          record { all = are.1 ∙ ap (λ (ls : Layers). costs_answer ls s) r.spelled.is; code = are.0 })
          (λ old new rose. inl refl);
    }
