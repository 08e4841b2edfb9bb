use Rattle.std.proofs.Common.{◌∙◌, ap, sym, subst, true, false}
use Rattle.text_line.specs.Left.{Left}
use Rattle.potential_check.specs.declared.fault.CertFault.TheVariants.{Line}
use Rattle.potential_check.specs.Text.{AreShort, at_size, at_version}
use Rattle.potential_check.proofs.LinesLeft.{reads_absent, reads_fault, reads_on, short_next, short_text}
use Rattle.potential_check.proofs.LinesLeft.{tells_on, text_read}
use Rattle.potential_check.proofs.Listing.{line_number, version_fault, version_goes, version_test}
use Rattle.potential_check.proofs.reading.read.Goals as goal

pub returns-in_default : goal.returns-in_default
returns-in_default c =
    text_read c.args.text.now c.of-lines.result c.of-lines.ensures
    ∙ reads_absent at_version c.of-lines.result c.next.new.self (Line 1) c.in_default.ensures.steps
    (line_number c.of-lines.result.number 1 (ap (λ (left : Left). left.number) c.of-lines.ensures))

pub returns-then-ne : goal.returns-then-ne
returns-then-ne c =
    let other = version_test c.in-Some.line.bytes.now c.as_slice.result.now c.ne.result c.as_slice.ensures
    true
    c.ne.ensures c.if-ne.true in
    text_read c.args.text.now c.of-lines.result c.of-lines.ensures
    ∙ reads_fault at_version c.of-lines.result c.next.new.self c.in-Some.line (Line 1) c.in-Some.ensures.steps
    (version_fault c.in-Some.line.bytes.now c.of-lines.result.number other
    ∙ line_number c.of-lines.result.number 1 (ap (λ (left : Left). left.number) c.of-lines.ensures))

pub read_size-requires-clause-short : goal.read_size-requires-clause-short
read_size-requires-clause-short c =
    (short_next c.of-lines.result c.next.new.self c.in-Some.line c.in-Some.ensures.steps
    (subst (λ (left : Left). AreShort left) (sym c.of-lines.ensures) (short_text c.args.text.now
    c.requires))).0

pub returns : goal.returns
returns c =
    let same = version_test c.in-Some.line.bytes.now c.as_slice.result.now c.ne.result c.as_slice.ensures
    false
    c.ne.ensures c.if-ne.false in
    tells_on c.read_size.result _ _
    (text_read c.args.text.now c.of-lines.result c.of-lines.ensures
    ∙ reads_on at_version at_size c.of-lines.result c.next.new.self c.in-Some.line c.in-Some.ensures.steps
    (version_goes c.in-Some.line.bytes.now same)) c.read_size.ensures
