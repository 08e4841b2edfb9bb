use Rattle.std.proofs.Common.{◌+◌, ◌∙◌, ap, sym, arith, true, false, List, ◌++◌, ◌∷◌, [], ℕ, refl}
use Rattle.std.proofs.lemmas.Result.{err_from_is_err_and}
use Rattle.std.specs.List.{list_all}
use Rattle.root2_cost.specs.declared.Cost.{Cost}
use Rattle.grid_moves.specs.declared.Cell.{Cell}
use Rattle.potential_check.specs.declared.certificate.Claim.TheVariants.{Least}
use Rattle.potential_check.specs.declared.fault.CertFault.{CertFault}
use Rattle.potential_check.specs.declared.fault.CertFault.TheVariants.{Line}
use Rattle.potential_check.specs.Forms.{value_on}
use Rattle.potential_check.specs.Certificate.{cells_of, is_small, lies_inside}
use Rattle.potential_check.specs.Text.{Plain, State, ended, in_values, next, read_left, step_fault}
use Rattle.potential_check.proofs.LinesLeft.{ascend_to, ascend_to-pushed, reads_absent, reads_fault, reads_on}
use Rattle.potential_check.proofs.LinesLeft.{short_next, tells_on}
use Rattle.potential_check.proofs.Listing.{cells_of-pushed, claim_is, end_is, err_tells, line_number}
use Rattle.potential_check.proofs.Listing.{list_fault, list_goes, list_none, values_end}
use Rattle.potential_check.proofs.Words.{all_pushed}
use Rattle.potential_check.proofs.reading.read_values.Goals as goal

pub certificate-requires-clause-claim : goal.certificate-requires-clause-claim
certificate-requires-clause-claim c =
    claim_is c.args.head.width c.args.head.height c.loop-line.least c.args.cost c.loop-line.points
    c.loop-line.values c.requires.cost c.loop-line.invariant.may c.loop-line.invariant.low
    c.loop-line.invariant.inside c.loop-line.invariant.ascend

pub returns-then-eq : goal.returns-then-eq
returns-then-eq c =
    let line = c.in-Some.line in
    let last = end_is line.bytes.now c.as_slice.result.now c.eq.result c.as_slice.ensures true c.eq.ensures
    c.if-eq.true in
    let here : State =
    in_values c.args.head c.args.cost c.loop-line.points c.loop-line.least c.loop-line.values in
    let whole : Plain = record {
      head = c.args.head;
      claim = Least c.args.cost c.loop-line.points c.loop-line.values;
    } in
    let on = reads_on here (ended whole) c.loop-line.lines c.next.new.self line c.in-Some.ensures.steps
    (values_end c.args.head c.args.cost c.loop-line.points c.loop-line.least c.loop-line.values
    line.bytes.now last) in
    tells_on c.read_end.result _ _ (ap (λ (values : List (Cell × Cost)). read_left (in_values c.args.head
    c.args.cost c.args.points 0 values)
    c.args.lines) (sym c.new-values.ensures)
    ∙ c.loop-line.invariant.read ∙ on
    ∙ ap (λ (p : Plain). read_left (ended p) c.next.new.self) (sym c.certificate.ensures)) c.read_end.ensures

pub returns-in_default-value_on : goal.returns-in_default-value_on
returns-in_default-value_on c =
    let line = c.in-Some.line in
    let other = end_is line.bytes.now c.as_slice.result.now c.eq.result c.as_slice.ensures false c.eq.ensures
    c.if-eq.false in
    let here : State =
    in_values c.args.head c.args.cost c.loop-line.points c.loop-line.least c.loop-line.values in
    ap (λ (values : List (Cell × Cost)). read_left (in_values c.args.head c.args.cost c.args.points 0 values)
    c.args.lines) (sym c.new-values.ensures)
    ∙ c.loop-line.invariant.read
    ∙ reads_fault here c.loop-line.lines c.next.new.self line (Line c.loop-line.number)
    c.in-Some.ensures.steps
    (list_none value_on (λ entry. entry.0) c.args.head
    (in_values c.args.head c.args.cost c.loop-line.points) c.loop-line.least c.loop-line.values
    line.bytes.now (rw other refl) c.loop-line.lines.number (sym c.value_on.ensures.value ∙
    c.in_default-value_on.is)
    ∙ line_number _ _ (sym c.loop-line.invariant.number))

pub returns-in_err-at : goal.returns-in_err-at
returns-in_err-at c =
    let line = c.in-Some.line in
    let other = end_is line.bytes.now c.as_slice.result.now c.eq.result c.as_slice.ensures false c.eq.ensures
    c.if-eq.false in
    let here : State =
    in_values c.args.head c.args.cost c.loop-line.points c.loop-line.least c.loop-line.values in
    let fault : CertFault = c.in_err-at.field-0.0 in
    let broken = list_fault value_on (λ entry. entry.0) c.args.head
    (in_values c.args.head c.args.cost c.loop-line.points) c.loop-line.least c.loop-line.values
    line.bytes.now (rw other refl) c.in-Some-value_on.entry c.loop-line.number fault
    (sym c.value_on.ensures.value ∙ c.in-Some-value_on.is) c.in_err-at.ensures in
    let read = ap (λ (values : List (Cell × Cost)). read_left (in_values c.args.head c.args.cost
    c.args.points 0 values)
    c.args.lines) (sym c.new-values.ensures)
    ∙ c.loop-line.invariant.read
    ∙ reads_fault here c.loop-line.lines c.next.new.self line fault c.in-Some.ensures.steps
    (ap (λ (n : ℕ). step_fault (next here line.bytes.now) n) (sym c.loop-line.invariant.number) ∙ broken) in
    let p = err_from_is_err_and c.from_residual.result c.from_residual.ensures.1 in
    rw (p.1, p.2) (err_tells fault _ read)

pub loop-line-preserved : goal.loop-line-preserved
loop-line-preserved c =
    let line = c.in-Some.line in
    let entry = c.in-Some-value_on.entry in
    let head = c.args.head in
    let values = c.loop-line.values in
    let other = end_is line.bytes.now c.as_slice.result.now c.eq.result c.as_slice.ensures false c.eq.ensures
    c.if-eq.false in
    let here : State = in_values head c.args.cost c.loop-line.points c.loop-line.least values in
    let grown = c.in_ok-push.ensures.pushed in
    let places = c.in_ok-at.ensures in
    let goes_on = list_goes value_on (λ entry. entry.0) head (in_values head c.args.cost c.loop-line.points)
    c.loop-line.least values line.bytes.now (rw other refl) entry c.loop-line.number c.in_ok-at.at
    c.push.new.self
    (sym c.value_on.ensures.value ∙ c.in-Some-value_on.is) places grown in
    let more = short_next c.loop-line.lines c.next.new.self line c.in-Some.ensures.steps
    c.loop-line.invariant.short in
    let cells = ap cells_of grown ∙ cells_of-pushed values entry in
    record {
      read = c.loop-line.invariant.read
          ∙ reads_on here _ c.loop-line.lines c.next.new.self line c.in-Some.ensures.steps goes_on;
      number = ap (λ n. n + 1) c.loop-line.invariant.number ∙ sym c.in-Some.ensures.steps.2;
      short = more.0;
      may = c.loop-line.invariant.may;
      low = ap (λ (l : List (Cell × Cost)). list_all (λ entry. is_small entry.1) l) grown
          ∙ all_pushed (λ entry. is_small entry.1) values entry c.loop-line.invariant.low
          c.in-Some-value_on.ensures.small;
      inside = ap (λ (l : List Cell). list_all (lies_inside head.width head.height) l) cells
          ∙ all_pushed (lies_inside head.width head.height) (cells_of values) entry.0
          c.loop-line.invariant.inside places.0;
      ascend = ap (λ (l : List Cell). ascend_to head.width 0 l (c.in_ok-at.at + 1)) cells
          ∙ ap (λ (n : ℕ). ascend_to head.width 0 (cells_of values ++ entry.0 ∷ []) (n + 1)) places.2
          ∙ ascend_to-pushed head.width 0 c.loop-line.least (cells_of values) entry.0
          c.loop-line.invariant.ascend (omega (arith, places.1, places.2));
    }

pub returns : goal.returns
returns c =
    let here : State =
    in_values c.args.head c.args.cost c.loop-line.points c.loop-line.least c.loop-line.values in
    ap (λ (values : List (Cell × Cost)). read_left (in_values c.args.head c.args.cost c.args.points 0 values)
    c.args.lines) (sym c.new-values.ensures)
    ∙ c.loop-line.invariant.read
    ∙ reads_absent here c.loop-line.lines c.next.new.self (Line c.loop-line.number) c.in_default.ensures.steps
    (line_number _ _ (sym c.loop-line.invariant.number))
