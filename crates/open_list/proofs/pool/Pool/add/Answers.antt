use Rattle.std.proofs.Common.{◌∙◌, sym, arith}
use Rattle.std.proofs.lemmas.List.{map_push}
use Rattle.open_list.proofs.Changes.{back}
use Rattle.open_list.proofs.Turns.{beside_added}
use Rattle.open_list.proofs.pool.Pool.add.Goals as goal

pub insert-self-inside-requires-clause-beside : goal.insert-self-inside-requires-clause-beside
insert-self-inside-requires-clause-beside g c =
    let room = rw (← c.self.view_is) at c.requires.room in
    rw (c.as_mut_slice.ensures.value, c.push_reserved.ensures.items)
    (beside_added g.N.Ranked.before _ _ _ c.self.invariant (omega arith) _
    (sym (c.len-id.ensures ∙ c.self.inside.entries.ok.0)))

pub invariant_of-self : goal.invariant_of-self
invariant_of-self g c =
    rw (back c.insert-self-inside.new.entries c.push_reserved.new.self.items _ c.push_reserved.new.self.ok.0
    (c.insert-self-inside.auto.entries ∙ c.as_mut_slice.ensures.len))
    c.insert-self-inside.ensures.heap

pub returns-clause-nodes : goal.returns-clause-nodes
returns-clause-nodes g c =
    rw (
      back c.insert-self-inside.new.entries c.push_reserved.new.self.items _ c.push_reserved.new.self.ok.0
          (c.insert-self-inside.auto.entries ∙ c.as_mut_slice.ensures.len),
      c.insert-self-inside.ensures.kept.nodes,
      c.as_mut_slice.ensures.value,
      c.push_reserved.ensures.items,
      ← c.self.view_is,
    ) (map_push _ _ _)

pub returns-clause-open_at : goal.returns-clause-open_at
returns-clause-open_at g c =
    rw (
      back c.insert-self-inside.new.entries c.push_reserved.new.self.items _ c.push_reserved.new.self.ok.0
          (c.insert-self-inside.auto.entries ∙ c.as_mut_slice.ensures.len),
      c.insert-self-inside.ensures.kept.open_at,
      c.as_mut_slice.ensures.value,
      c.push_reserved.ensures.items,
      ← c.self.view_is,
    ) (map_push _ _ _)
