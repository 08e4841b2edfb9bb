use Rattle.std.proofs.Common.{◌∙◌, sym, arith}
use Rattle.cell_lines.proofs.Parted.{at_cut, at_end, at_most, at_other, value_low}
use Rattle.cell_lines.proofs.reading.first_number.Goals as goal
use Rattle.cell_lines.proofs.reading.first_number.Goals.{then-count-most-via-then-count-most}
use Rattle.cell_lines.proofs.reading.first_number.Goals.{then-count-most-via-else-count-most+then-not-is_ascii_digit}

pub returns-else-count-eq0-clause-number : goal.returns-else-count-eq0-clause-number
returns-else-count-eq0-clause-number c =
    at_cut c.args.byte c.args.most c.requires.byte c.args.text.now c.loop-count.count c.loop-count.value
    c.loop-count.invariant.read c.loop-count-test.true c.if-next-byte.true c.if-count-eq0.false

pub returns-else-count-eq0-clause-bound : goal.returns-else-count-eq0-clause-bound
returns-else-count-eq0-clause-bound c =
    value_low c.args.most c.loop-count.count c.loop-count.value c.loop-count.invariant.small
    c.loop-count.invariant.few

pub returns-then-count-most-clause-number : goal.returns-then-count-most-clause-number
returns-then-count-most-clause-number c = elim c.then-count-most.branch [
  | then-count-most-via-then-count-most w ↦
      at_most c.args.byte c.args.most c.requires.byte c.args.text.now c.loop-count.count c.loop-count.value
      c.loop-count.invariant.read c.loop-count-test.true c.if-next-byte.false w.if-count-most.true
  | then-count-most-via-else-count-most+then-not-is_ascii_digit w ↦
      at_other c.args.byte c.args.most c.requires.byte c.args.text.now c.loop-count.count c.loop-count.value
      c.loop-count.invariant.read c.loop-count-test.true c.if-next-byte.false
      (sym w.is_ascii_digit.ensures.value ∙ w.if-not-is_ascii_digit.true)
]

pub overflow_mul-value : goal.overflow_mul-value
overflow_mul-value c =
    let low = value_low 8 c.loop-count.count c.loop-count.value c.loop-count.invariant.small
    (omega (arith, c.loop-count.invariant.few, c.if-count-most.false, c.requires.most)) in
    omega arith

pub overflow_add-value : goal.overflow_add-value
overflow_add-value c =
    let low = value_low 8 c.loop-count.count c.loop-count.value c.loop-count.invariant.small
    (omega (arith, c.loop-count.invariant.few, c.if-count-most.false, c.requires.most)) in
    omega (arith, c.from.ensures)

pub returns-else-all-eq0-clause-number : goal.returns-else-all-eq0-clause-number
returns-else-all-eq0-clause-number c =
    at_end c.args.byte c.args.most c.requires.byte c.args.text.now c.loop-count.count c.loop-count.value
    c.loop-count.invariant.read (omega arith) (λ none. omega arith)

pub returns-else-all-eq0-clause-bound : goal.returns-else-all-eq0-clause-bound
returns-else-all-eq0-clause-bound c =
    value_low c.args.most c.loop-count.count c.loop-count.value c.loop-count.invariant.small
    c.loop-count.invariant.few
