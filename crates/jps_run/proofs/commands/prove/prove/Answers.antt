use Rattle.std.proofs.Common.{refl, sym, ap, ◌∙◌, inl, [], ◌∷◌}
use Rattle.std.specs.Prelude.{Some}
use Rattle.grid_moves.specs.declared.Cell.{Cell}
use Rattle.grid_moves.specs.Layers.{Layers}
use Rattle.grid_answers.proofs.Printing.{small_proof}
use Rattle.edit_replay.specs.declared.engine.Engine.TheVariants as engine
use Rattle.word_list.specs.Request.{asking}
use Rattle.word_list.specs.declared.rows.Command.TheVariants as command
use Rattle.map_text.specs.Faults.{map_of}
use Rattle.jps_run.specs.Calls.{call_with, output_of}
use Rattle.jps_run.specs.Parts.{Output, printed}
use Rattle.jps_run.specs.Proving.{proving}
use Rattle.jps_run.specs.Who.{by_session, replies_by}
use Rattle.jps_run.specs.declared.work.Work.TheVariants as work
use Rattle.jps_run.proofs.Opening.{texted, value-read, work-of}
use Rattle.jps_run.proofs.Proved.{proving-plain}
use Rattle.jps_run.proofs.commands.prove.prove.Goals as goal

pub returns-clause-opened : goal.returns-clause-opened
unfolding output_of
returns-clause-opened g c =
    let e = c.ends_of-ends.result in
    let s : Cell = record { x = e.sx; y = e.sy } in
    let t : Cell = record { x = e.gx; y = e.gy } in
    let r = c.in_ok-layers.ensures.read in
    let p = c.in_ok-text.field-0 in
    let proof : Layers → Output = λ ls. proving (replies_by (by_session engine.Plain)) ls s t in
    record {
      texts = r.text ∷ [];
      accepted = rw (← c.name-map.ensures) (r.accepted, tt);
      is = work-of (call_with (asking command.Prove c.args.request) c.args.settings) (r.text ∷ [])
          (work.Print p.text p.status) (printed p.text.items p.status)
          (value-read (map_of r.text) r.spelled.map _ r.spelled.spelled ∙ rw (
            ← c.ends_of-ends.ensures.sx,
            ← c.ends_of-ends.ensures.sy,
            ← c.ends_of-ends.ensures.gx,
            ← c.ends_of-ends.ensures.gy,
          ) (ap (λ (ls : Layers). Some (proof ls)) (sym r.spelled.is)
          ∙ ap (λ (o : Output). Some o) (proving-plain c.in_ok-layers.layers s t)
          ∙ rw (c.in_ok-text.ensures.text, c.in_ok-text.ensures.status) refl))
          (rw (c.in_ok-text.ensures.status) (small_proof c.in_ok-layers.layers s t)) tt
          (texted p.text.items p.status) (λ old new rose. inl refl);
    }
