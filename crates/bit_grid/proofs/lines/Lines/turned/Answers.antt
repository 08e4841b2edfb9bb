use Rattle.std.proofs.Common.{ℕ, ◌+◌, ◌*◌, List, arith, ap, sym, subst}
use Rattle.bit_grid.specs.Bits.{LineData, Shows}
use Rattle.bit_grid.specs.Turn.{IsWhole}
use Rattle.bit_grid.proofs.Turning.{whole_of, turned_shown}
use Rattle.bit_grid.proofs.lines.Lines.turned.Goals as goal

pub returns : goal.returns
returns c = λ free shows beyond.
    let rows : LineData =
    record {
      lines = c.self.inside.lines;
      blocks = c.self.inside.blocks;
      words = c.self.inside.words.items;
    } in
    let shown = subst (λ (l : LineData). Shows l c.args.cells c.args.columns free)
    (sym c.self.view_is) shows in
    let whole = subst (λ (ws : List ℕ). IsWhole ws c.self.inside.lines (c.self.inside.blocks * 8) free)
    (sym c.deref.ensures.value) (whole_of rows c.args.cells c.args.columns free shown beyond) in
    let cells = c.from.ensures in
    let enough = c.blocks_for-blocks.ensures.enough in
    let few = c.blocks_for-blocks.ensures.few in
    turned_shown c.args.columns c.args.cells c.blocks_for-blocks.result (c.from-lines.result + 2)
    c.in_ok-words.words.items free (ap (λ (n : ℕ). n + 2) c.from-lines.ensures)
    (omega (arith, cells, enough)) (omega (arith, cells, few)) c.in_ok-words.ensures.as_many
    (c.in_ok-words.ensures.turned free whole)
