use Rattle.open_list.proofs.Adoption.{one_wins, other_wins}
use Rattle.open_list.proofs.links.join.Goals as goal
use Rattle.open_list.proofs.links.join.Goals.{then-is_before, else-is_before}

pub returns-clause-joined : goal.returns-clause-joined
returns-clause-joined g c =
    let before = g.N.Ranked.before in
    let es = c.args.entries.now in
    elim c.if-is_before.branch [
      | then-is_before w ↦
          rw (c.adopt.ensures, w.winner-is, c.next_of-next.ensures)
          (other_wins before es _ _ c.requires.lists c.requires.one_in c.requires.other_in
          g.met.N.Ranked.order _ c.is_before.ensures.compared w.if-is_before.true)
      | else-is_before w ↦
          rw (c.adopt.ensures, w.winner-is, c.next_of-next.ensures)
          (one_wins before es _ _ c.requires.lists c.requires.one_in c.requires.other_in
          _ c.is_before.ensures.compared w.if-is_before.false)
    ]
