use Rattle.std.proofs.Common.{ap, ◌∙◌, sym}
use Rattle.grid_moves.specs.declared.Cell.{Cell}
use Rattle.grid_moves.specs.declared.Ground.{Ground}
use Rattle.grid_moves.specs.Grid.{is_ground}
use Rattle.grid_moves.specs.Layers.{ground_at, is_on_map, layers_with}
use Rattle.grid_moves.proofs.Layering.{same_ground}
use Rattle.edit_replay.proofs.Editing.{edits_done, edits_outside, edits_same}
use Rattle.edit_replay.specs.Kept.{stands_for}
use Rattle.edit_replay.specs.Session.{SessionData}
use Rattle.edit_replay.specs.Edited.{Edit, edit_at}
use Rattle.edit_replay.proofs.parts.Parts.edit.Goals as goal

pub returns-in_default-clause-edited : goal.returns-in_default-clause-edited
returns-in_default-clause-edited g c =
    edits_outside (stands_for c.args.self.now) (edit_at c.args.x c.args.y c.args.to) c.requires.layers
    c.args.steps.now c.in_default.ensures

pub returns-then-eq-clause-edited : goal.returns-then-eq-clause-edited
returns-then-eq-clause-edited g c =
    let d : SessionData = stands_for c.args.self.now in
    let e : Edit = edit_at c.args.x c.args.y c.args.to in
    let found = c.in-Some.ensures in
    let ground = c.ground_at.ensures ∙ ap (λ (u : Cell). ground_at d.layers u) found.0 in
    edits_same d e c.requires.layers
    (ap (λ (u : Cell). is_on_map d.layers u) (sym found.0) ∙ found.1) c.args.steps.now
    (ap (λ (v : Ground). is_ground v c.args.to) (sym ground)
    ∙ sym (c.eq.ensures ∙ same_ground c.args.to c.ground_at.result) ∙ c.if-eq.true)

pub returns-clause-edited : goal.returns-clause-edited
returns-clause-edited g c =
    let d : SessionData = stands_for c.args.self.now in
    let e : Edit = edit_at c.args.x c.args.y c.args.to in
    let found = c.in-Some.ensures in
    let ground = c.ground_at.ensures ∙ ap (λ (u : Cell). ground_at d.layers u) found.0 in
    edits_done d e c.requires.layers (ap (λ (u : Cell). is_on_map d.layers u) (sym found.0) ∙ found.1)
    (stands_for c.set.new.self) c.args.steps.now c.set.new.steps
    (ap (λ (v : Ground). is_ground v c.args.to) (sym ground)
    ∙ sym (c.eq.ensures ∙ same_ground c.args.to c.ground_at.result) ∙ c.if-eq.false)
    (c.set.ensures.layers ∙ ap (λ (u : Cell). layers_with d.layers u c.args.to) found.0)
    c.set.ensures.engine c.set.ensures.counted
