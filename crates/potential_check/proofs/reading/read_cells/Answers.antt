use Rattle.std.proofs.Common.{◌+◌, ◌∙◌, ap, sym, arith, false, List, ◌++◌, ◌∷◌, [], ℕ, refl}
use Rattle.std.proofs.lemmas.Result.{err_from_is_err_and}
use Rattle.std.specs.List.{list_all}
use Rattle.grid_moves.specs.declared.Cell.{Cell}
use Rattle.potential_check.specs.declared.fault.CertFault.{CertFault}
use Rattle.potential_check.specs.Certificate.{lies_inside}
use Rattle.potential_check.specs.Forms.{member_on}
use Rattle.potential_check.specs.Text.{State, in_cells, next, read_left, step_fault}
use Rattle.potential_check.proofs.LinesLeft.{ascend_to, ascend_to-pushed, reads_fault, reads_on, short_next}
use Rattle.potential_check.proofs.Listing.{end_is, err_tells, list_fault, list_goes, listed_is}
use Rattle.potential_check.proofs.Words.{all_pushed}
use Rattle.potential_check.proofs.reading.read_cells.Goals as goal

pub certificate-requires-clause-claim : goal.certificate-requires-clause-claim
certificate-requires-clause-claim c =
    listed_is c.args.head.width c.args.head.height c.loop-line.least c.loop-line.cells
    c.loop-line.invariant.inside c.loop-line.invariant.ascend

pub returns-in_err-at : goal.returns-in_err-at
returns-in_err-at c =
    let line = c.in-Some.line in
    let other = end_is line.bytes.now c.as_slice.result.now c.eq.result c.as_slice.ensures false c.eq.ensures
    c.if-eq.false in
    let here : State = in_cells c.args.head c.loop-line.least c.loop-line.cells in
    let fault : CertFault = c.in_err-at.field-0.0 in
    let broken = list_fault member_on (λ cell. cell) c.args.head (in_cells c.args.head) c.loop-line.least
    c.loop-line.cells line.bytes.now (rw other refl) c.in-Some-member_on.cell c.loop-line.number fault
    (sym c.member_on.ensures ∙ c.in-Some-member_on.is)
    c.in_err-at.ensures in
    let begun = ap (λ (cells : List Cell). read_left (in_cells c.args.head 0 cells) c.args.lines)
    (sym c.new-cells.ensures) in
    let read = begun ∙ c.loop-line.invariant.read
    ∙ reads_fault here c.loop-line.lines c.next.new.self line fault c.in-Some.ensures.steps
    (ap (λ (n : ℕ). step_fault (next here line.bytes.now) n) (sym c.loop-line.invariant.number) ∙ broken) in
    let p = err_from_is_err_and c.from_residual.result c.from_residual.ensures.1 in
    rw (p.1, p.2) (err_tells fault _ read)

pub loop-line-preserved : goal.loop-line-preserved
loop-line-preserved c =
    let line = c.in-Some.line in
    let cell = c.in-Some-member_on.cell in
    let head = c.args.head in
    let cells = c.loop-line.cells in
    let other = end_is line.bytes.now c.as_slice.result.now c.eq.result c.as_slice.ensures false c.eq.ensures
    c.if-eq.false in
    let here : State = in_cells head c.loop-line.least cells in
    let grown = c.in_ok-push.ensures.pushed in
    let places = c.in_ok-at.ensures in
    let goes_on = list_goes member_on (λ cell. cell) head (in_cells head) c.loop-line.least cells
    line.bytes.now (rw other refl) cell c.loop-line.number
    c.in_ok-at.at c.push.new.self (sym c.member_on.ensures ∙ c.in-Some-member_on.is) places grown in
    let more = short_next c.loop-line.lines c.next.new.self line c.in-Some.ensures.steps
    c.loop-line.invariant.short in
    record {
      read = c.loop-line.invariant.read
          ∙ reads_on here _ c.loop-line.lines c.next.new.self line c.in-Some.ensures.steps goes_on;
      number = ap (λ n. n + 1) c.loop-line.invariant.number ∙ sym c.in-Some.ensures.steps.2;
      short = more.0;
      inside = ap (λ (l : List Cell). list_all (lies_inside head.width head.height) l) grown
          ∙ all_pushed (lies_inside head.width head.height) cells cell c.loop-line.invariant.inside places.0;
      ascend = ap (λ (l : List Cell). ascend_to head.width 0 l (c.in_ok-at.at + 1)) grown
          ∙ ap (λ (n : ℕ). ascend_to head.width 0 (cells ++ cell ∷ []) (n + 1)) places.2
          ∙ ascend_to-pushed head.width 0 c.loop-line.least cells cell c.loop-line.invariant.ascend
          (omega (arith, places.1, places.2));
    }
