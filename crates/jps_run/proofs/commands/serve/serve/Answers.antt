use Rattle.std.proofs.Common.{◌∙◌, refl, map, string_bytes}
use Rattle.std.specs.Option.{option_copied}
use Rattle.call_files.specs.MapFiles.{map_files}
use Rattle.call_files.specs.Reading.{IsMadeOf, open_stops}
use Rattle.line_work.proofs.Stopping.{follow-same, passed}
use Rattle.word_list.specs.Kinds.{word_at}
use Rattle.jps_run.specs.Answering.{AreAnswersOn}
use Rattle.jps_run.proofs.commands.serve.serve.Goals as goal

pub returns-in_err-job-clause-opened : goal.returns-in_err-job-clause-opened
returns-in_err-job-clause-opened g c =
    let name = word_at (map string_bytes c.args.request.words.now) 0 in
    let files = map_files c.args.settings name (option_copied c.args.request.tables) in
    let stops = open_stops (g.F.Files.disk c.args.files.now)
    (g.F.Files.disk c.open_answers.new.files) files in
    passed _ stops stops c.from_residual.result c.in_err-job.field-0.0 c.from_residual.ensures.1
    (rw (c.name.ensures) at c.in_err-job.ensures.read) (follow-same stops)

pub returns-clause-opened : goal.returns-clause-opened
returns-clause-opened g c =
    let name = word_at (map string_bytes c.args.request.words.now) 0 in
    let files = map_files c.args.settings name (option_copied c.args.request.tables) in
    let r : IsMadeOf (AreAnswersOn c.args.settings) (g.F.Files.disk c.args.files.now).holds
    files c.in_ok-job.job
    = (rw (c.name.ensures) at c.in_ok-job.ensures.read) in
    record {
      reads = refl;
      on = record {
        is = refl;
        text = r.text;
        behind = r.loaded;
        accepted = r.accepted;
        read = r.is.map;
        spelled = r.is.spelled;
        such = record {
          session = c.in_ok-server.ensures.session ∙ r.is.is.session;
          show = c.in_ok-server.ensures.show ∙ r.is.is.show;
          begun = c.in_ok-server.ensures.begun;
        };
      };
    }
