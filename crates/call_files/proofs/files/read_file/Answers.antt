use Rattle.std.proofs.Common.{subst}
use Rattle.io_edge.specs.Whole.{IsWhole}
use Rattle.call_files.specs.Kinds.{limit_of}
use Rattle.call_files.specs.declared.kind.TextKind.{TextKind}
use Rattle.call_files.proofs.Readings.{file-read}
use Rattle.call_files.proofs.files.read_file.Goals as goal

pub returns-clause-read : goal.returns-clause-read
returns-clause-read g c =
    let held = (g.F.Files.disk c.args.files.now).holds c.args.name.now in
    let context = c.args.context.now in
    let kind = g.T.Text.kind_of_text context in
    file-read (g.T.Text.is_behind context) (g.T.Text.spells context) kind held c.in_ok-text.text.items
    ((g.F.Files.disk c.args.files.now).faults c.args.name.now)
    ((g.F.Files.disk c.read_text.new.files).faults c.args.name.now)
    c.of_text.result
    (subst (λ (k : TextKind). IsWhole held (limit_of k) c.in_ok-text.text.items) c.kind.ensures
    c.in_ok-text.ensures.read) c.of_text.ensures
