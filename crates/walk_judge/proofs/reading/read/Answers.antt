use Rattle.std.proofs.Common.{◌≡◌, ◌∙◌, ap, arith, length}
use Rattle.text_line.specs.Left.{Left}
use Rattle.text_line.specs.Lines.{lines_of}
use Rattle.walk_judge.proofs.Progress.{few_lines, walks_begun}
use Rattle.walk_judge.proofs.reading.read.Goals as goal

pub loop-line-init : goal.loop-line-init
loop-line-init c =
    let all : c.into_iter-line-iterator.result ≡ record { lines = lines_of c.args.text.now; number = 1 } =
    c.into_iter-line-iterator.ensures.into_iter_gives ∙ c.of-line-items.ensures in
    let many = ap (λ (l : Left). length l.lines) all in
    record {
      read = walks_begun c.args.text.now c.args.entries c.new-walks.result.items
          c.into_iter-line-iterator.result c.new-walks.ensures.items all;
      few = omega (arith, few_lines c.args.text.now);
    }
