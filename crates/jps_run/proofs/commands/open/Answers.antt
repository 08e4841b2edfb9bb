use Rattle.std.proofs.Common.{refl, sym, ap, subst, inl, ℕ, List, [], arith}
use Rattle.std.specs.Prelude.{Some}
use Rattle.word_list.specs.Request.{asking}
use Rattle.word_list.specs.declared.rows.Command.{Command}
use Rattle.word_list.specs.declared.rows.Command.TheVariants as command
use Rattle.jps_run.specs.Opened.{IsWorkOn}
use Rattle.jps_run.specs.Calls.{call_with, output_of}
use Rattle.jps_run.specs.Parts.{printed}
use Rattle.jps_run.specs.declared.work.Work.TheVariants as work
use Rattle.jps_run.proofs.Opening.{texted, work-of}
use Rattle.jps_run.proofs.commands.open.Goals as goal

pub returns-in-Help-clause-opened : goal.returns-in-Help-clause-opened
unfolding output_of
returns-in-Help-clause-opened g c =
    let set = c.args.settings in
    let request = c.args.request in
    let text = c.help_text.result in
    subst (λ (command : Command). IsWorkOn (call_with (asking command request) set)
    (g.F.Files.disk c.args.files.now).holds (work.Say text))
    (sym c.in-Help.is) (record {
      texts = [];
      accepted = tt;
      is = work-of (call_with (asking command.Help request) set) [] (work.Say text) (printed text.now 0)
          (ap (λ (t : List ℕ). Some (printed t 0)) (sym c.help_text.ensures)) (omega arith) tt
          (texted text.now 0) (λ old new rose. inl refl);
    })

pub returns-in-Version-clause-opened : goal.returns-in-Version-clause-opened
unfolding output_of
returns-in-Version-clause-opened g c =
    let set = c.args.settings in
    let request = c.args.request in
    let text = c.version_text.result in
    subst (λ (command : Command). IsWorkOn (call_with (asking command request) set)
    (g.F.Files.disk c.args.files.now).holds (work.Say text))
    (sym c.in-Version.is) (record {
      texts = [];
      accepted = tt;
      is = work-of (call_with (asking command.Version request) set) [] (work.Say text) (printed text.now 0)
          (ap (λ (t : List ℕ). Some (printed t 0)) (sym c.version_text.ensures)) (omega arith) tt
          (texted text.now 0) (λ old new rose. inl refl);
    })
