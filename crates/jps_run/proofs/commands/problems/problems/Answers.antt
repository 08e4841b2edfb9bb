use Rattle.std.proofs.Common.{refl, sym, ap, ◌∙◌, inl, [], ◌∷◌, ℕ, List}
use Rattle.std.specs.Prelude.{Some}
use Rattle.grid_moves.specs.Layers.{Layers}
use Rattle.scen_maker.specs.Problems.{problems_status, problems_text}
use Rattle.scen_maker.proofs.Posed.{small_problems_status}
use Rattle.call_files.specs.Layered.{layers_on}
use Rattle.word_list.specs.Request.{asking}
use Rattle.word_list.specs.declared.rows.Command.TheVariants as command
use Rattle.map_text.specs.Faults.{map_of}
use Rattle.jps_run.specs.Calls.{call_with, output_of}
use Rattle.jps_run.specs.Parts.{Output, printed}
use Rattle.jps_run.specs.declared.work.Work.TheVariants as work
use Rattle.jps_run.proofs.Opening.{texted, value-read, work-of}
use Rattle.jps_run.proofs.commands.problems.problems.Goals as goal

pub returns-clause-opened : goal.returns-clause-opened
unfolding output_of
returns-clause-opened g c =
    let seed = c.seed-seed.result in
    let count = c.count-count.result in
    let r = c.in_ok-costs.ensures.read in
    let p = c.in_ok-printed.printed in
    let made : Layers → List ℕ → Output = λ ls word.
    printed (problems_text ls word seed count) (problems_status ls seed count) in
    record {
      texts = r.text ∷ [];
      accepted = rw (← c.name-map.ensures) (r.accepted, tt);
      is = work-of (call_with (asking command.Problems c.args.request) c.args.settings) (r.text ∷ [])
          (work.Print p.text p.status) (printed p.text.items p.status)
          (value-read (map_of r.text) r.spelled.map _ r.spelled.spelled
          ∙ rw (← c.name-map.ensures, ← c.seed-seed.ensures, ← c.count-count.ensures.spelled)
          (ap (λ (word : List ℕ). Some (made (layers_on c.args.settings r.spelled.map) word))
          (sym c.as_bytes.ensures.value)
          ∙ ap (λ (ls : Layers). Some (made ls c.as_bytes.result.now)) (sym r.spelled.is)
          ∙ rw (c.in_ok-printed.ensures.text, c.in_ok-printed.ensures.status) refl))
          (rw (c.in_ok-printed.ensures.status) (small_problems_status c.in_ok-costs.costs seed count)) tt
          (texted p.text.items p.status) (λ old new rose. inl refl);
    }
