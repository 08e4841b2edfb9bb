use Rattle.std.proofs.Common.{◌≡◌, Bool, true, false, ◌&&◌, refl}
use Rattle.grid_moves.specs.declared.Cell.{Cell}
use Rattle.grid_moves.specs.Layers.{is_on_map}
use Rattle.map_text.specs.Faults.{plain}
use Rattle.jps_run.proofs.Pictured.{outside_counted, outside_status, outside_text}
use Rattle.jps_run.proofs.replies.drawing.drawn.Goals as goal

first : (a b : Bool) → a ≡ false → (a && b) ≡ false
first false b e = refl
first true b e = absurd (cc)

second : (a b : Bool) → b ≡ false → (a && b) ≡ false
second true b e = e
second false b e = refl

pub returns-in_default-clause-text : goal.returns-in_default-clause-text
returns-in_default-clause-text g c =
    let e = c.args.ends in
    let s : Cell = record { x = e.sx; y = e.sy } in
    let t : Cell = record { x = e.gx; y = e.gy } in
    let d = c.args.session.now in
    outside_text c.said.result d (plain c.args.map.now) s t c.args.show
    (first (is_on_map d.layers s) (is_on_map d.layers t) c.in_default.ensures)
    c.said.ensures.text

pub returns-in_default-clause-status : goal.returns-in_default-clause-status
returns-in_default-clause-status g c =
    let e = c.args.ends in
    let s : Cell = record { x = e.sx; y = e.sy } in
    let t : Cell = record { x = e.gx; y = e.gy } in
    let d = c.args.session.now in
    outside_status c.said.result d s t
    (first (is_on_map d.layers s) (is_on_map d.layers t) c.in_default.ensures) c.said.ensures.status

pub returns-in_default-clause-counted : goal.returns-in_default-clause-counted
returns-in_default-clause-counted g c =
    let e = c.args.ends in
    let s : Cell = record { x = e.sx; y = e.sy } in
    let t : Cell = record { x = e.gx; y = e.gy } in
    let d = c.args.session.now in
    outside_counted c.said.result d s t c.args.steps.now
    (first (is_on_map d.layers s) (is_on_map d.layers t) c.in_default.ensures)

pub returns-in_default-cell_at-clause-text : goal.returns-in_default-cell_at-clause-text
returns-in_default-cell_at-clause-text g c =
    let e = c.args.ends in
    let s : Cell = record { x = e.sx; y = e.sy } in
    let t : Cell = record { x = e.gx; y = e.gy } in
    let d = c.args.session.now in
    outside_text c.said-in_default-cell_at.result d (plain c.args.map.now) s t c.args.show
    (second (is_on_map d.layers s) (is_on_map d.layers t) c.in_default-cell_at.ensures)
    c.said-in_default-cell_at.ensures.text

pub returns-in_default-cell_at-clause-status : goal.returns-in_default-cell_at-clause-status
returns-in_default-cell_at-clause-status g c =
    let e = c.args.ends in
    let s : Cell = record { x = e.sx; y = e.sy } in
    let t : Cell = record { x = e.gx; y = e.gy } in
    let d = c.args.session.now in
    outside_status c.said-in_default-cell_at.result d s t
    (second (is_on_map d.layers s) (is_on_map d.layers t) c.in_default-cell_at.ensures)
    c.said-in_default-cell_at.ensures.status

pub returns-in_default-cell_at-clause-counted : goal.returns-in_default-cell_at-clause-counted
returns-in_default-cell_at-clause-counted g c =
    let e = c.args.ends in
    let s : Cell = record { x = e.sx; y = e.sy } in
    let t : Cell = record { x = e.gx; y = e.gy } in
    let d = c.args.session.now in
    outside_counted c.said-in_default-cell_at.result d s t c.args.steps.now
    (second (is_on_map d.layers s) (is_on_map d.layers t) c.in_default-cell_at.ensures)
