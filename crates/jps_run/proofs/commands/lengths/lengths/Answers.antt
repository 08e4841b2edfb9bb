use Rattle.std.proofs.Common.{◌≡◌, refl, ap, ◌∙◌, inl, [], ◌∷◌, ℕ, List}
use Rattle.grid_moves.specs.Layers.{Layers}
use Rattle.scen_lines.specs.Line.{version_line}
use Rattle.scen_maker.specs.Lengths.{length_lines, lengths_answer, lengths_status}
use Rattle.scen_maker.proofs.Listed.{small_lengths_status}
use Rattle.scen_text.specs.Faults.{scen_of}
use Rattle.call_files.specs.Layered.{layers_on}
use Rattle.word_list.specs.Request.{asking}
use Rattle.word_list.specs.declared.rows.Command.TheVariants as command
use Rattle.jps_run.specs.Calls.{call_with, output_of}
use Rattle.jps_run.proofs.Opening.{both-read, work-of}
use Rattle.jps_run.proofs.commands.lengths.lengths.Goals as goal

pub returns-clause-opened : goal.returns-clause-opened
unfolding output_of
returns-clause-opened g c =
    let r = c.in_ok-both.ensures.read in
    let made = c.in_ok-both.both in
    let entries = made.1.entries.items in
    let ls = layers_on c.args.settings r.spelled.map in
    let same : length_lines made.0 made.1.text.items entries ≡ length_lines ls r.more entries
    = ap (λ (l : Layers). length_lines l made.1.text.items entries) r.spelled.is
    ∙ ap (λ (t : List ℕ). length_lines ls t entries) r.spelled_more.1 in
    record {
      texts = r.text ∷ r.more ∷ [];
      accepted = rw (← c.name-map.ensures, ← c.name-scen.ensures) r.accepted;
      is = work-of (call_with (asking command.Lengths c.args.request) c.args.settings)
          (r.text ∷ r.more ∷ []) _
          (record {
            lines = lengths_answer ls r.more entries;
            status = lengths_status (length_lines ls r.more entries);
          })
          (both-read r.text [] r.spelled.map r.more scen_of entries _ r.spelled.spelled r.spelled_more.0.0)
          (small_lengths_status (length_lines ls r.more entries)) refl
          (λ lines status w. record {
            all = w.all ∙ ap (λ (l : List (List ℕ)). version_line ∷ l) (w.whole.are ∙ same);
            code = w.whole.same_status ∙ ap lengths_status same;
          }) (λ old new rose. inl refl);
    }
