use Rattle.std.proofs.Common.{◌≡◌, ◌∙◌, ◌+◌, ◌-◌, ◌≤◌, ap, sym, length, ℕ, suc, arith}
use Rattle.std.specs.Prelude.{None, vec_len}
use Rattle.grid_moves.specs.Grid.{cell_number}
use Rattle.best_first.specs.Index.{records_for}
use Rattle.best_first.specs.Space.{IsPlaced}
use Rattle.best_first.specs.State.{state_in}
use Rattle.best_first.specs.Table.{lookup}
use Rattle.best_first.proofs.Parts.{parts_added, parts_few, parts_fewer}
use Rattle.best_first.proofs.Rooms.{room_stays, record_fits, one_longer}
use Rattle.best_first.proofs.space.Space.add.Goals as goal

pub add-id-requires : goal.add-id-requires
add-id-requires g c =
    let r = c.self.invariant.room.for_nodes in
    record { room = grind arith }

pub put-requires-clause-room : goal.put-requires-clause-room
put-requires-clause-room g c =
    let i = c.self.inside in
    let fits : length i.pool.nodes + 1 ≤ i.room = grind arith in
    let few = parts_fewer c.self.invariant.parts in
    record_fits (vec_len i.index.records) c.self.invariant.room fits (omega (arith, i.index.records.ok.0))

pub overflow_add-id : goal.overflow_add-id
overflow_add-id g c =
    let f = parts_few c.self.invariant.parts in
    omega (arith, c.add-id.ensures.id)

pub put-requires-clause-next : goal.put-requires-clause-next
put-requires-clause-next g c =
    let number : c.add-id.result + 1 - 1 ≡ length c.self.inside.pool.nodes =
    omega (arith, c.add-id.ensures.id) in
    c.self.invariant.parts.exact.each
    ∙ ap (λ (n : ℕ). records_for c.self.inside.index.layout n) (sym number)

pub invariant_of-self : goal.invariant_of-self
invariant_of-self g c =
    let i = c.self.inside in
    let placed : IsPlaced i.width (length i.index.heads.items) c.args.state.cell = grind arith in
    let narrow : i.width ≤ 4096 = grind arith in
    let new : lookup i.index.layout i.pool.nodes (state_in i.index.layout c.args.state) ≡ None =
    grind arith in
    let number : c.args.number ≡ cell_number i.width c.args.state.cell = grind arith in
    let entry : c.add-id.result + 1 ≡ suc (length i.pool.nodes) = grind arith in
    let longer = one_longer _ _ _ c.add-id.ensures.nodes in
    rw c.put.ensures.layout (record {
      parts = parts_added c.self.invariant.parts c.args.node c.args.state narrow placed c.requires.made new
          c.add-id.ensures.nodes entry (rw number at c.put.ensures.put) c.put.ensures.each;
      room = room_stays c.self.invariant.room (omega (arith, longer, c.add-id.ensures.spare))
          (omega (arith, c.put.ensures.capacity));
    })
