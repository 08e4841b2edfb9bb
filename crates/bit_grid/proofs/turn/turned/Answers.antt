use Rattle.std.proofs.Common.{◌≡◌, ℕ, ◌+◌, ◌-◌, ◌*◌, ◌/◌, ◌%◌, ◌<◌, arith, length, sym, subst, ◌∙◌}
use Rattle.bit_grid.specs.Turn.{AreWordsTo, IsStrip}
use Rattle.bit_grid.proofs.Turning.{strip_bit}
use Rattle.bit_grid.proofs.turn.turned.Goals as goal

pub loop-column-preserved : goal.loop-column-preserved
loop-column-preserved c =
    let column : ℕ = c.loop-column.column in
    let group : ℕ = column / 8 in
    let at : group * 8 + column % 8 ≡ column = omega arith in
    let same : column + 1 - 1 ≡ column = omega arith in
    let room = c.take_bytes_for.ensures.long ∙ c.loop-column.invariant.room in
    let strip : IsStrip c.take_bytes_for.new.strip c.args.words.now c.args.lines c.args.per_line group =
    c.take_bytes_for.ensures.taken c.args.words.now c.args.lines c.args.per_line c.gather_for.ensures.gathered
    (λ h. let earlier : (column - 1) / 8 ≡ group = omega arith in
    let some : 0 < column = omega arith in
    subst (λ (n : ℕ). IsStrip c.loop-column.strip c.args.words.now c.args.lines c.args.per_line n) earlier
    (c.loop-column.invariant.strip some)) in
    record {
      room = room;
      deep = c.gather_for.ensures.long ∙ c.loop-column.invariant.deep;
      long = let more = c.in_ok-push_line.ensures.long in
          let so_far = c.loop-column.invariant.long in
          omega (arith, more, so_far);
      down = λ h. subst (λ (n : ℕ). AreWordsTo (length c.gather_for.new.down) c.gather_for.new.down
          c.args.words.now c.args.lines c.args.per_line (n / 64)) (sym same) c.gather_for.ensures.gathered;
      strip = λ h. subst (λ (n : ℕ). IsStrip c.take_bytes_for.new.strip c.args.words.now c.args.lines
          c.args.per_line (n / 8)) (sym same) strip;
      behind = λ free whole. c.in_ok-push_line.ensures.shown (λ column row. free row column)
          column c.loop-column.invariant.long
          (λ l h. strip_bit c.take_bytes_for.new.strip c.args.words.now c.args.lines c.args.per_line
          group free
          strip whole (omega arith) l (column % 8) column (rw room h) (omega arith) at)
          (c.loop-column.invariant.behind free whole);
    }
