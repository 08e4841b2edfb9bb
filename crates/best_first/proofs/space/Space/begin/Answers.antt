use Rattle.std.proofs.Common.{◌≡◌, ◌∙◌, ◌≤◌, ap, refl, length, ℕ, List, [], arith}
use Rattle.open_list.specs.OpenList.{OpenList}
use Rattle.best_first.specs.declared.node.Node.{Node}
use Rattle.best_first.specs.declared.state.Layout.{Layout}
use Rattle.best_first.specs.Index.{AreReset, AreParts}
use Rattle.best_first.specs.State.{start_at}
use Rattle.best_first.proofs.Parts.{parts_blank, parts_added}
use Rattle.best_first.proofs.Rooms.{room_stays}
use Rattle.best_first.proofs.space.Space.begin.Goals as goal

-- heads that were set back stay so
reset_kept : {first mid last : Layout} {old new : List ℕ} → AreReset first old → new ≡ old → last ≡ mid
    → mid ≡ first → AreReset last new
reset_kept reset same kept before = rw (same, kept, before) reset

pub invariant_of-self : goal.invariant_of-self
invariant_of-self g c = record {
  parts = parts_blank _
      (reset_kept c.forget.ensures.reset (ap (λ (v : _). v.items) c.grow.ensures.heads) c.grow.ensures.layout
      c.forget.ensures.layout)
      (ap (λ (p : OpenList Node). p.nodes) c.grow.ensures.rest_kept ∙ c.forget.ensures.nodes)
      (c.grow.ensures.records ∙ c.forget.ensures.records)
      (grind (arith, c.forget.ensures.as_many, c.self.invariant.parts.few_cells));
  room = c.grow.ensures.has;
}

pub invariant_of-self-2 : goal.invariant_of-self-2
invariant_of-self-2 g c =
    let i = c.grow.new.index in
    let few : length i.heads.items ≤ 16777216 =
    grind (arith, c.forget.ensures.as_many, c.self.invariant.parts.few_cells) in
    let none : AreParts i.layout c.args.width [] i.heads.items i.records.items = parts_blank _
    (reset_kept c.forget.ensures.reset (ap (λ (v : _). v.items) c.grow.ensures.heads) c.grow.ensures.layout
    c.forget.ensures.layout) refl (c.grow.ensures.records ∙ c.forget.ensures.records) few in
    let places : length i.heads.items ≡ c.args.self.now.places = grind arith in
    let before : length c.grow.new.pool.nodes ≡ 0 = ap (λ (ns : List Node). length ns)
    (ap (λ (p : OpenList Node). p.nodes) c.grow.ensures.rest_kept ∙ c.forget.ensures.nodes) in
    let after : length c.add_first.new.pool.nodes ≡ 1 =
    ap (λ (ns : List Node). length ns) c.add_first.ensures.nodes in
    rw c.put.ensures.layout (record {
      parts = parts_added none c.node_for.result (start_at c.args.start) c.requires.narrow
          (rw places c.requires.placed) (ap (λ (n : Node). n.place) c.node_for.ensures) refl
          c.add_first.ensures.nodes refl (rw c.number_of.ensures at c.put.ensures.put) c.put.ensures.each;
      room = room_stays c.grow.ensures.has (omega (arith, before, after, c.add_first.ensures.spare))
          (omega (arith, c.put.ensures.capacity));
    })
