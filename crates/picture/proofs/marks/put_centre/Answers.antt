use Rattle.std.specs.Prelude.{codes}
use Rattle.picture.specs.Picture.{named_text}
use Rattle.picture.proofs.Texts.{then_ok}
use Rattle.picture.proofs.marks.put_centre.Goals as goal

pub returns : goal.returns
returns c =
    then_ok c.put_named-2.result c.args.out.now.items c.put_named.new.out.items c.put_named-2.new.out.items
    (named_text (codes "<circle cx=\"") c.args.c.x) (named_text (codes ".5\" cy=\"") c.args.c.y)
    c.in_ok-put_named.ensures c.put_named-2.ensures
