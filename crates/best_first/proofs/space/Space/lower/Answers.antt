use Rattle.std.proofs.Common.{◌≡◌, ◌∙◌, sym, ap, length, List, arith}
use Rattle.std.proofs.lemmas.List.{length-set}
use Rattle.std.specs.Prelude.{slice_get}
use Rattle.open_list.specs.OpenList.{OpenList}
use Rattle.best_first.specs.declared.node.Node.{Node}
use Rattle.best_first.specs.Node.{state_of}
use Rattle.best_first.specs.Space.{SpaceData}
use Rattle.best_first.specs.Table.{is_bettered}
use Rattle.best_first.proofs.Parts.{parts_replaced}
use Rattle.best_first.proofs.Rooms.{room_stays}
use Rattle.best_first.proofs.space.Space.lower.Goals as goal

pub invariant_of-self : goal.invariant_of-self
invariant_of-self g c =
    let i = c.self.inside in
    let nodes = ap (λ (p : OpenList Node). p.nodes) c.lower.ensures.changed in
    let as_many : length c.lower.new.self.nodes ≡ length i.pool.nodes =
    ap (λ (ns : List Node). length ns) nodes ∙ length-set i.pool.nodes c.args.id c.args.node in
    let spare = ap (λ (p : OpenList Node). p.spare) c.lower.ensures.changed in
    record {
      parts = parts_replaced c.self.invariant.parts c.args.id c.args.node
          (ap (λ (s : SpaceData). is_bettered s.table.nodes c.args.id c.args.node.key) c.self.view_is
          ∙ c.requires.less)
          (λ old h. ap (λ (s : SpaceData). state_of s.layout old) c.self.view_is
          ∙ c.requires.same old
          (ap (λ (s : SpaceData). slice_get s.table.nodes c.args.id) (sym c.self.view_is) ∙ h)
          ∙ ap (λ (s : SpaceData). state_of s.layout c.args.node) (sym c.self.view_is))
          nodes;
      room = room_stays c.self.invariant.room (omega (arith, as_many, spare)) (omega arith);
    }
