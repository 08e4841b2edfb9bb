use Rattle.std.proofs.Common.{◌≡◌, refl, sym, ap, ◌∙◌, inl, List, [], ◌++◌, ℕ, map, string_bytes, arith}
use Rattle.std.specs.Prelude.{Some}
use Rattle.word_list.specs.Kinds.{percent_at, seed_at, side_at}
use Rattle.map_text.specs.Faults.{plain}
use Rattle.map_text.specs.Writing.{canonical_text}
use Rattle.map_maker.specs.Making.{made_map}
use Rattle.word_list.specs.Request.{asking}
use Rattle.word_list.specs.declared.rows.Command.TheVariants as command
use Rattle.jps_run.specs.Calls.{call_with, output_of}
use Rattle.jps_run.specs.Parts.{printed}
use Rattle.jps_run.specs.declared.work.Work.TheVariants as work
use Rattle.jps_run.proofs.Opening.{texted, work-of}
use Rattle.jps_run.proofs.commands.make.make.Goals as goal

pub returns : goal.returns
unfolding output_of
returns c =
    let ws = map string_bytes c.args.request.words.now in
    let text = canonical_text (made_map (seed_at ws 0) (side_at ws 1) (side_at ws 2) (percent_at ws 3)) in
    let is : c.write_map.new.out.items ≡ text
    = c.in_ok-write_map.ensures.text
    ∙ ap (λ (before : List ℕ). before ++ canonical_text (plain c.in_ok-map.map)) c.new-text.ensures.items
    ∙ ap canonical_text c.in_ok-map.ensures
    ∙ rw (
      c.seed-seed.ensures,
      c.side-w.ensures.spelled,
      c.side-h.ensures.spelled,
      c.percent-percent.ensures,
    ) refl in
    work-of (call_with (asking command.Make c.args.request) c.args.settings) []
    (work.Print c.write_map.new.out 0)
    (printed c.write_map.new.out.items 0) (ap (λ (t : List ℕ). Some (printed t 0)) (sym is)) (omega arith) tt
    (texted c.write_map.new.out.items 0) (λ old new rose. inl refl)
