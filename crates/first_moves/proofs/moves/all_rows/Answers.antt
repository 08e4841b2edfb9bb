use Rattle.std.proofs.Common.{◌≡◌, ◌+◌, ◌∙◌, ◌<◌, ◌*◌, subst, ℕ, arith}
use Rattle.first_moves.proofs.Rows.{count_more, rows_more}
use Rattle.first_moves.proofs.moves.all_rows.Goals as goal

none_more : (m n : ℕ) → m ≡ n → m ≡ n + 0
none_more m n h = omega arith

pub loop-x-init : goal.loop-x-init
loop-x-init g c = record {
  wide = c.loop-y.invariant.wide;
  high = c.loop-y.invariant.high;
  count = none_more _ _ c.loop-y.invariant.count;
  rows = c.loop-y.invariant.rows;
}

pub at-requires-clause-width : goal.at-requires-clause-width
at-requires-clause-width g c = c.loop-x.invariant.wide

pub at-requires-clause-height : goal.at-requires-clause-height
at-requires-clause-height g c = c.loop-x.invariant.high

pub at-requires-clause-few : goal.at-requires-clause-few
at-requires-clause-few g c = c.requires.few

pub loop-x-preserved : goal.loop-x-preserved
loop-x-preserved g c = record {
  wide = c.at.ensures.width ∙ c.loop-x.invariant.wide;
  high = c.at.ensures.height ∙ c.loop-x.invariant.high;
  count = count_more c.loop-x.rows.items c.push_item.new.items.items c.in_ok-row.row
      (c.loop-y.y * (g.T.Terrain.grid c.args.t.now).width) c.loop-x.x c.in_ok-push_item.ensures.pushed
      c.loop-x.invariant.count;
  rows = rows_more (g.T.Terrain.grid c.args.t.now) c.loop-x.rows.items c.push_item.new.items.items
      c.in_ok-row.row
      (record { x = c.loop-x.x; y = c.loop-y.y }) c.in_ok-push_item.ensures.pushed c.loop-x.invariant.count
      (subst (λ (n : ℕ). c.loop-x.x < n) c.width-width.ensures.is c.loop-x-test.true)
      c.loop-x.invariant.rows c.in_ok-row.ensures.row;
}

pub returns-clause-rows : goal.returns-clause-rows
returns-clause-rows g c = c.loop-y.invariant.rows
