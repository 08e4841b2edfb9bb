use Rattle.cell_lines.proofs.Parted.{more_words}
use Rattle.cell_lines.proofs.reading.two_numbers.Goals as goal

pub returns-in-Some-clause-numbers : goal.returns-in-Some-clause-numbers
returns-in-Some-clause-numbers c =
    more_words c.args.byte c.args.most c.args.text.now c.in_ok-two.two c.in_ok-two.rest c.in-Some.field-0
    c.in_ok-two.ensures.numbers c.in-Some.is
