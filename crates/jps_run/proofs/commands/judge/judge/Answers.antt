use Rattle.std.proofs.Common.{refl, ◌∙◌, subst, inl, [], ◌∷◌, arith}
use Rattle.grid_moves.specs.Layers.{Layers}
use Rattle.call_files.specs.Layered.{layers_on}
use Rattle.word_list.specs.Request.{asking}
use Rattle.word_list.specs.declared.rows.Command.TheVariants as command
use Rattle.map_text.specs.Faults.{map_of}
use Rattle.jps_run.specs.Calls.{call_with, output_of}
use Rattle.jps_run.specs.Parts.{Prints}
use Rattle.jps_run.specs.Rulings.{judge_output, rulings_of}
use Rattle.jps_run.proofs.Judged.{small_judge_status}
use Rattle.jps_run.proofs.Opening.{value-read, work-of}
use Rattle.jps_run.proofs.commands.judge.judge.Goals as goal

pub returns-clause-opened : goal.returns-clause-opened
unfolding output_of
returns-clause-opened g c =
    let r = c.in_ok-costs.ensures.read in
    let case = c.in_ok-costs.field-0 in
    let entries = case.entries.items in
    let claimed = case.walks.items in
    let ls = layers_on c.args.settings r.costs.map in
    record {
      texts = r.text ∷ r.second ∷ r.third ∷ [];
      accepted = rw (← c.name-map.ensures, ← c.name-scen.ensures, ← c.name-walks.ensures) r.accepted;
      is = work-of (call_with (asking command.Judge c.args.request) c.args.settings)
          (r.text ∷ r.second ∷ r.third ∷ []) _ (judge_output ls entries claimed)
          (value-read (map_of r.text) r.costs.map _ r.costs.spelled
          ∙ value-read _ entries _ r.entries.0 ∙ value-read _ claimed _ r.walks.0)
          (small_judge_status (rulings_of ls entries claimed))
          (record { fit = r.walks.1; none = c.new.ensures; enough = omega (arith, r.walks.2) })
          (λ lines status w. subst
          (λ (k : Layers). Prints (judge_output k entries claimed) lines status) r.costs.is w)
          (λ old new rose. inl refl);
    }
