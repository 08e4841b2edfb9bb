use Rattle.open_list.proofs.Forests.{shifted}
use Rattle.open_list.proofs.links.shift.Goals as goal

pub returns : goal.returns
returns g c =
    rw (c.set_next.ensures, c.next_of-rest.ensures)
    (shifted g.N.Ranked.before _ _ c.args.done c.requires.lists c.requires.within)
