use Rattle.std.proofs.Common.{◌+◌, ◌-◌, ◌*◌, ◌≤◌, ◌≡◌, length, arith, ◌∙◌, refl, suc}
use Rattle.grid_moves.specs.declared.Corner.TheVariants.{Never}
use Rattle.grid_moves.specs.Grid.{is_free, layer_of}
use Rattle.grid_moves.proofs.Padding.{one_filled, place_inside, row_made}
use Rattle.grid_moves.proofs.Parts.{long_with}
use borrow.Rule.Slice.PartMut.{mid_len}
use Rattle.grid_moves.proofs.grid.fill.Goals as goal

pub loop-y-preserved : goal.loop-y-preserved
loop-y-preserved c =
    let w = c.args.width in
    let h = c.args.height in
    let y = c.loop-y.y in
    let place = c.place_of-to.result in
    let row = c.fill_row.new.row in
    let bytes = c.args.bytes.now in
    let long : length c.loop-y.cells ≡ _ = c.loop-y.invariant.long in
    let is = c.place_of-to.ensures in
    let last = place_inside w h w (suc y) (omega arith) (omega arith) in
    let inside : place + w ≤ length c.loop-y.cells = omega arith in
    let wide : place + w - place ≡ w = omega arith in
    let many : length row ≡ place + w - place =
    c.fill_row.ensures.long ∙ mid_len place (place + w) c.loop-y.cells inside in
    record {
      long = long_with place (place + w) c.loop-y.cells row (omega arith) inside many ∙ long;
      filled = one_filled w h (is_free (layer_of c.args.kind Never w h bytes)) y (place + w - place)
          c.loop-y.cells row c.loop-y-test.true wide long (many ∙ wide)
          (row_made c.args.kind Never w h bytes c.requires.bytes y c.loop-y-test.true
          (y * w) (y * w + w - y * w)
          refl (omega arith) row (many ∙ wide) c.fill_row.ensures.flags)
          c.loop-y.invariant.filled place is;
    }
