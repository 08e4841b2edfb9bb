use Rattle.std.proofs.Common.{◌+◌, ◌-◌, arith}
use Rattle.jump_block.proofs.Rings.{three_in_word}
use Rattle.jump_block.proofs.cells.three_beside.Goals as goal

pub returns-then-first-lt62-clause-shown : goal.returns-then-first-lt62-clause-shown
returns-then-first-lt62-clause-shown g c = λ count positions free shows.
    record {
      middle = three_in_word (free c.args.line) c.args.first _ _ (omega arith)
          (c.three-words.ensures.middle count positions free shows) c.from_bit.ensures;
      before = three_in_word (free (c.args.line - 1)) c.args.first _ _ (omega arith)
          (c.three-words.ensures.before count positions free shows) c.from_bit-then-first-lt62.ensures;
      after = three_in_word (free (c.args.line + 1)) c.args.first _ _ (omega arith)
          (c.three-words.ensures.after count positions free shows) c.from_bit-then-first-lt62-2.ensures;
    }

pub returns-else-first-lt62-clause-shown : goal.returns-else-first-lt62-clause-shown
returns-else-first-lt62-clause-shown g c = λ count positions free shows.
    record {
      middle = c.three_apart.ensures.shown count positions free shows;
      before = c.three_apart-else-first-lt62.ensures.shown count positions free shows;
      after = c.three_apart-else-first-lt62-2.ensures.shown count positions free shows;
    }
