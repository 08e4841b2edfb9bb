use Rattle.std.proofs.Common.{◌*◌, ◌≤◌, ◌∙◌, subst, sym}
use Rattle.std.specs.Prelude.{IfOk}
use Rattle.first_moves.specs.Row.{AreMoves}
use Rattle.grid_moves.specs.Grid.{GridData}
use Rattle.word_list.specs.declared.request.SmallEngine.TheVariants.{Moves}
use Rattle.jps_run.specs.Who.{IsFoundReply, by_small}
use Rattle.jps_run.proofs.Answerers.{end-free, on-land, on-water, start-free}
use Rattle.jps_run.proofs.replies.answerer.MoveLibrary.follow.Goals as goal

pub follow_moves-requires : goal.follow_moves-requires
follow_moves-requires g c =
    let ls = c.args.self.now.layers in
    let grid = c.water-then-free.result.now in
    let here = on-water ls grid c.water.result.now c.args.from c.water.ensures c.water-then-free.ensures
    (sym c.free.ensures ∙ c.if-free.true) in
    let back = sym c.water-then-free.ensures in
    record {
      moves = subst (λ (k : GridData). AreMoves k c.args.self.now.water) back c.requires.water;
      few = subst (λ (k : GridData). k.height * k.width ≤ 16384) back c.requires.small.water;
      from = start-free ls grid c.args.from c.args.to here c.requires.one;
      to = end-free ls grid c.args.from c.args.to here c.requires.one;
    }

pub follow_moves-requires-else-free : goal.follow_moves-requires-else-free
follow_moves-requires-else-free g c =
    let ls = c.args.self.now.layers in
    let grid = c.land.result.now in
    let here = on-land ls grid c.water.result.now c.args.from c.water.ensures c.land.ensures
    (sym c.free.ensures ∙ c.if-free.false) in
    let back = sym c.land.ensures in
    record {
      moves = subst (λ (k : GridData). AreMoves k c.args.self.now.land) back c.requires.land;
      few = subst (λ (k : GridData). k.height * k.width ≤ 16384) back c.requires.small.land;
      from = start-free ls grid c.args.from c.args.to here c.requires.one;
      to = end-free ls grid c.args.from c.args.to here c.requires.one;
    }

pub returns-then-free : goal.returns-then-free
returns-then-free g c =
    let here = on-water c.args.self.now.layers c.water-then-free.result.now c.water.result.now c.args.from
    c.water.ensures c.water-then-free.ensures (sym c.free.ensures ∙ c.if-free.true) in
    let r = c.follow_moves.result in
    record {
      found = subst (λ (k : GridData). IfOk r (IsFoundReply (by_small Moves) k c.args.from c.args.to)) here
          c.follow_moves.ensures.found;
      later = c.follow_moves.ensures.later;
    }

pub returns-else-free : goal.returns-else-free
returns-else-free g c =
    let here = on-land c.args.self.now.layers c.land.result.now c.water.result.now c.args.from
    c.water.ensures c.land.ensures (sym c.free.ensures ∙ c.if-free.false) in
    let r = c.follow_moves-else-free.result in
    record {
      found = subst (λ (k : GridData). IfOk r (IsFoundReply (by_small Moves) k c.args.from c.args.to)) here
          c.follow_moves-else-free.ensures.found;
      later = c.follow_moves-else-free.ensures.later;
    }
