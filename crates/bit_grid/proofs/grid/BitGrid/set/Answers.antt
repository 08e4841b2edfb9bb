use Rattle.std.proofs.Common.{sym, subst}
use Rattle.grid_moves.proofs.Edited.{is_grid-with}
use Rattle.bit_grid.specs.Bits.{BitData, AreBitsOf}
use Rattle.bit_grid.proofs.Showing.{shows_alike, is_free-edited, is_free-edited_turned}
use Rattle.bit_grid.proofs.grid.BitGrid.set.Goals as goal

pub returns : goal.returns
returns c = record {
  edited = λ g are inside.
      let before = subst (λ (b : BitData). AreBitsOf b g) (sym c.self.view_is) are in
      record {
        whole = is_grid-with g c.args.c c.args.free before.whole;
        wide = before.wide;
        high = before.high;
        rule = before.rule;
        rows = shows_alike c.set.new.self _ _ _ _
            (λ line position. rw (c.from.ensures, c.from-2.ensures)
            (is_free-edited g c.args.c c.args.free before.whole inside position line))
            (c.set.ensures.edited _ _ _ before.rows);
        columns = shows_alike c.set-2.new.self _ _ _ _
            (λ line position. rw (c.from.ensures, c.from-2.ensures)
            (is_free-edited_turned g c.args.c c.args.free before.whole inside line position))
            (c.set-2.ensures.edited _ _ _ before.columns);
      };
}
