use Rattle.std.proofs.Common.{◌≡◌, ◌++◌, subst}
use Rattle.std.specs.Prelude.{OnOk, codes, decimal}
use Rattle.cell_lines.proofs.Writing.{and-then}
use Rattle.jps_run.proofs.replies.ruling.put_bad.Goals as goal

pub returns : goal.returns
returns c =
    and-then c.put_number.result c.args.out.now.items c.put.new.out.items c.put_number.new.out.items
    (codes "refused walk ") (decimal c.args.bad) c.in_ok-put.ensures.ok
    (subst (λ n. OnOk c.put_number.result (c.put_number.new.out.items ≡ c.put.new.out.items ++ decimal n))
    c.from.ensures c.put_number.ensures.ok)
