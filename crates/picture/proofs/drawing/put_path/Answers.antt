use Rattle.std.specs.Prelude.{◌++◌, codes}
use Rattle.picture.proofs.Texts.{then, then_ok}
use Rattle.picture.proofs.drawing.put_path.Goals as goal

pub returns : goal.returns
returns c =
    let head = codes "<path transform=\"translate(0 .5)\" shape-rendering=\"crispEdges\" stroke=\"" in
    let colour = c.args.colour.now in
    then_ok c.put-3.result c.args.out.now.items c.put-2.new.out.items c.put-3.new.out.items (head ++ colour)
    (codes "\" d=\"")
    (then c.args.out.now.items c.put.new.out.items c.put-2.new.out.items head colour c.in_ok-put.ensures.ok
    c.in_ok-put-2.ensures.ok)
    c.put-3.ensures.ok
