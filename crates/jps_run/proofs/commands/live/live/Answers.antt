use Rattle.std.proofs.Common.{refl, map, string_bytes}
use Rattle.std.specs.Option.{option_copied}
use Rattle.call_files.specs.MapFiles.{map_files}
use Rattle.call_files.specs.Reading.{IsMadeOf, open_stops}
use Rattle.line_work.proofs.Stopping.{ends-on, follow-same}
use Rattle.word_list.specs.Kinds.{word_at}
use Rattle.word_list.specs.Request.{asking}
use Rattle.word_list.specs.declared.rows.Command.TheVariants as command
use Rattle.jps_run.specs.Answering.{AreAnswersOn}
use Rattle.jps_run.specs.Calls.{call_with}
use Rattle.jps_run.specs.Opened.{IsListener}
use Rattle.jps_run.proofs.commands.live.live.Goals as goal

pub returns-clause-opened : goal.returns-clause-opened
returns-clause-opened g c =
    let set = c.args.settings in
    let disk = g.F.Files.disk c.args.files.now in
    let name = word_at (map string_bytes c.args.request.words.now) 0 in
    let files = map_files set name (option_copied c.args.request.tables) in
    let stops = open_stops disk (g.F.Files.disk c.open_answers.new.files) files in
    ends-on (IsMadeOf (AreAnswersOn set) disk.holds files)
    (IsListener (call_with (asking command.Live c.args.request) set) disk.holds) stops stops
    c.open_answers.result
    (λ job r. record {
      reads = refl;
      on = record {
        is = refl;
        text = r.text;
        behind = r.loaded;
        accepted = r.accepted;
        read = r.is.map;
        spelled = r.is.spelled;
        such = r.is.is;
      };
    }) (follow-same stops) (rw (c.name.ensures) at c.open_answers.ensures.read)
