use Rattle.std.proofs.Common.{refl, sym, ap, ◌∙◌, inl, [], ◌∷◌}
use Rattle.std.specs.Prelude.{Some}
use Rattle.grid_moves.specs.Grid.{GridData}
use Rattle.grid_moves.specs.Layers.{Layers, query_grid}
use Rattle.potential_check.specs.Answers.{certificate_answer}
use Rattle.potential_check.specs.Text.{certificate_of, plain}
use Rattle.grid_answers.specs.Certificates.{verdict_line, verdict_status}
use Rattle.grid_answers.proofs.Printing.{small_verdict}
use Rattle.word_list.specs.Request.{asking}
use Rattle.word_list.specs.declared.rows.Command.TheVariants as command
use Rattle.jps_run.specs.Calls.{call_with, output_of}
use Rattle.jps_run.specs.Parts.{Output, printed}
use Rattle.jps_run.specs.declared.work.Work.TheVariants as work
use Rattle.jps_run.proofs.Opening.{both-read, texted, work-of}
use Rattle.jps_run.proofs.commands.check.check.Goals as goal

pub returns-clause-opened : goal.returns-clause-opened
unfolding output_of
returns-clause-opened g c =
    let r = c.in_ok-both.ensures.read in
    let cert = c.in_ok-both.both.1 in
    let p = c.in_ok-text.field-0 in
    let grid = c.query_grid-grid.ensures ∙ ap (λ (ls : Layers). query_grid ls cert.start) r.spelled.is in
    let verdict : GridData → Output = λ g.
    printed (verdict_line (certificate_answer g (plain cert)))
    (verdict_status (certificate_answer g (plain cert))) in
    record {
      texts = r.text ∷ r.more ∷ [];
      accepted = rw (← c.name-map.ensures, ← c.name-cert.ensures) r.accepted;
      is = work-of (call_with (asking command.Check c.args.request) c.args.settings) (r.text ∷ r.more ∷ [])
          (work.Print p.text p.status) (printed p.text.items p.status)
          (both-read r.text [] r.spelled.map r.more certificate_of (plain cert) _
          r.spelled.spelled r.spelled_more
          ∙ ap (λ (g : GridData). Some (verdict g)) (sym grid)
          ∙ rw (c.in_ok-text.ensures.text, c.in_ok-text.ensures.status) refl)
          (rw (c.in_ok-text.ensures.status)
          (small_verdict (certificate_answer c.query_grid-grid.result.now (plain cert))))
          tt (texted p.text.items p.status) (λ old new rose. inl refl);
    }
