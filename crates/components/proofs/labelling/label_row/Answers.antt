use Rattle.std.proofs.Common.{arith, sym, ◌∙◌}
use Rattle.grid_moves.specs.declared.Cell.{Cell}
use Rattle.components.specs.Stored.{class_in}
use Rattle.components.proofs.Before.{cell_blank, cell_passed, cell_told, row_told}
use Rattle.components.proofs.Storing.{blank_label}
use Rattle.components.proofs.labelling.label_row.Goals as goal
use Rattle.components.proofs.labelling.label_row.Goals.{then-free, else-free}

pub add-used-requires-clause-blank : goal.add-used-requires-clause-blank
add-used-requires-clause-blank g c =
    let here : Cell = record { x = c.loop-x.x; y = c.args.y } in
    blank_label c.args.shape c.loop-x.used c.loop-x.labels c.loop-x.classes c.loop-x.invariant.stored here
    (cell_blank (g.T.Terrain.grid c.args.t.now) c.args.shape.eight here
    (class_in c.args.shape c.loop-x.labels c.loop-x.classes)
    (class_in c.args.shape c.loop-x.labels c.loop-x.classes) c.loop-x.invariant.told)

pub loop-x-preserved : goal.loop-x-preserved
loop-x-preserved g c =
    let here : Cell = record { x = c.loop-x.x; y = c.args.y } in
    elim c.if-free.branch [
      | then-free w ↦ rw (w.labels-is, w.classes-is, w.used-is) (record {
        stored = w.add-used.ensures.stored;
        few = let f = w.add-used.ensures.few in let k = c.loop-x.invariant.few in omega arith;
        told = cell_told (g.T.Terrain.grid c.args.t.now) c.args.shape.eight here
            (class_in c.args.shape c.loop-x.labels c.loop-x.classes)
            (class_in c.args.shape w.add-used.new.labels w.add-used.new.classes) c.loop-x.invariant.told
            (sym c.free.ensures ∙ w.if-free.true) w.add-used.ensures.adds;
      })
      | else-free w ↦ rw (w.labels-is, w.classes-is, w.used-is) (record {
        stored = c.loop-x.invariant.stored;
        few = let k = c.loop-x.invariant.few in omega arith;
        told = cell_passed (g.T.Terrain.grid c.args.t.now) c.args.shape.eight here
            (class_in c.args.shape c.loop-x.labels c.loop-x.classes)
            (class_in c.args.shape c.loop-x.labels c.loop-x.classes) c.loop-x.invariant.told
            (sym c.free.ensures ∙ w.if-free.false);
      })
    ]

pub returns-clause-told : goal.returns-clause-told
returns-clause-told g c = row_told (g.T.Terrain.grid c.args.t.now) c.args.shape.eight
    (class_in c.args.shape c.loop-x.labels c.loop-x.classes) c.args.y c.loop-x.x (omega arith)
    c.loop-x.invariant.told
