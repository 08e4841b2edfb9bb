use Rattle.open_list.proofs.Detached.{prev_of-within, is_detached}
use Rattle.open_list.proofs.links.detach.Goals as goal

pub relink-requires : goal.relink-requires
relink-requires g c =
    rw c.prev_of-prev.ensures
    (prev_of-within g.N.Ranked.before _ _ _ c.requires.heap c.requires.is_open c.requires.below)

pub returns : goal.returns
returns g c =
    rw (
      c.set_next.ensures,
      c.set_prev.ensures,
      c.relink.ensures,
      c.next_of-next.ensures,
      c.prev_of-prev.ensures,
    )
    (is_detached g.N.Ranked.before _ _ _ c.requires.heap c.requires.is_open c.requires.below)
