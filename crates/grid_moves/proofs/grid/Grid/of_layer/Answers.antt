use Rattle.std.proofs.Common.{◌≡◌, length, List, Bool, ap, sym, subst, ◌∙◌, arith}
use Rattle.std.proofs.lemmas.List.{length-replicate, with_items_is}
use Rattle.std.specs.Prelude.{false}
use Rattle.grid_moves.specs.Grid.{GridData, layer_of}
use Rattle.grid_moves.specs.Padded.{IsPadded, grid_in}
use Rattle.grid_moves.proofs.Padding.{grid_in_is, grid_in_padded, padded_layer}
use Rattle.grid_moves.proofs.grid.Grid.of_layer.Goals as goal

pub invariant_of-result : goal.invariant_of-result
invariant_of-result c =
    let a = c.args in
    let places = c.in_ok-places.places in
    let grid : GridData = layer_of a.kind a.corner a.width a.height a.cells.now in
    let many : length places.items ≡ c.places.result =
    ap length c.in_ok-places.ensures ∙ length-replicate c.places.result false in
    let long : length c.fill.new.cells ≡ places.len =
    let e = c.fill.ensures.long in let f = c.places.ensures in let ok = places.ok.0 in omega arith in
    subst (λ (cells : List Bool). IsPadded (grid_in a.width a.height a.corner cells) cells)
    (sym (with_items_is places c.fill.new.cells long))
    (grid_in_padded grid c.fill.new.cells (padded_layer a.kind a.corner a.width a.height a.cells.now
    c.fill.new.cells c.requires.cells c.fill.ensures.long c.fill.ensures.stored))

pub returns : goal.returns
returns c =
    let a = c.args in
    let places = c.in_ok-places.places in
    let grid : GridData = layer_of a.kind a.corner a.width a.height a.cells.now in
    let many : length places.items ≡ c.places.result =
    ap length c.in_ok-places.ensures ∙ length-replicate c.places.result false in
    let long : length c.fill.new.cells ≡ places.len =
    let e = c.fill.ensures.long in let f = c.places.ensures in let ok = places.ok.0 in omega arith in
    ap (λ (cells : List Bool). grid_in a.width a.height a.corner cells)
    (with_items_is places c.fill.new.cells long)
    ∙ grid_in_is grid c.fill.new.cells (padded_layer a.kind a.corner a.width a.height a.cells.now
    c.fill.new.cells c.requires.cells c.fill.ensures.long c.fill.ensures.stored)
