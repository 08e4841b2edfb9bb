use Rattle.jump_block.specs.declared.straight.Axis.TheVariants.{Row, Column}
use Rattle.jump_block.specs.Source.{by_line}
use Rattle.jump_block.proofs.Directions.{start_on}
use Rattle.jump_block.proofs.straight.Bits.start.Goals as goal

pub returns-in-Row-clause-starts : goal.returns-in-Row-clause-starts
returns-in-Row-clause-starts c =
    let s = c.requires.stands in
    let start = start_on c.args.self.now s.0 c.args.at s.1 s.2 Row in
    (by_line s.0 Row, rw (c.from.ensures, c.from-2.ensures) start)

pub returns-in-Column-clause-starts : goal.returns-in-Column-clause-starts
returns-in-Column-clause-starts c =
    let s = c.requires.stands in
    let start = start_on c.args.self.now s.0 c.args.at s.1 s.2 Column in
    (by_line s.0 Column, rw (c.from.ensures, c.from-2.ensures) start)
