use Rattle.std.proofs.Common.{◌≡◌, ◌≢◌, ℕ, ◌+◌, ◌∙◌, sym, ap, arith, rules, subst, List, [], ◌∷◌, ◌++◌}
use Rattle.grid_moves.specs.declared.Cell.{Cell}
use Rattle.grid_moves.specs.Grid.{cell_number}
use Rattle.joined_cells.specs.Flood.{flood_of}
use Rattle.joined_cells.specs.Flooding.{Keeps}
use Rattle.joined_cells.proofs.Reaching.{begun, stepped, settled_as, waiting_free}
use Rattle.joined_cells.proofs.flood.flood.Goals as goal

pub loop-c-init : goal.loop-c-init
loop-c-init g c =
    let b = begun (g.T.Terrain.grid c.args.t.now) c.args.from c.requires.free c.args.labels.now
    c.requires.settled c.requires.new c.number_of-number.result
    (c.number_of-number.ensures ∙ ap (λ (n : ℕ). cell_number n c.args.from) c.width.ensures.is)
    c.push.new.self.items
    (c.in_ok-push.ensures.items ∙ ap (λ (cs : List Cell). cs ++ (c.args.from ∷ [])) c.requires.none) in
    record { keeps = b.keeps; stay = b.stay; labelled = b.labelled }

pub loop-c-smaller : goal.loop-c-smaller
loop-c-smaller g c =
    let some : c.number_of-number.result + 1 ≢ 0 = λ e. omega arith in
    let s = stepped (g.T.Terrain.grid c.args.t.now) (c.number_of-number.result + 1) some c.in-Some.c
    c.loop-c.waiting.items c.pop.new.self.items c.pop.result c.pop.ensures.items c.in-Some.is c.loop-c.labels
    c.loop-c.invariant.keeps (flood_of c.spread.new.labels c.spread.new.waiting.items)
    c.in_ok-spread.ensures in
    omega (arith, s.weight)

pub loop-c-preserved : goal.loop-c-preserved
loop-c-preserved g c =
    let some : c.number_of-number.result + 1 ≢ 0 = λ e. omega arith in
    let s = stepped (g.T.Terrain.grid c.args.t.now) (c.number_of-number.result + 1) some c.in-Some.c
    c.loop-c.waiting.items c.pop.new.self.items c.pop.result c.pop.ensures.items c.in-Some.is c.loop-c.labels
    c.loop-c.invariant.keeps (flood_of c.spread.new.labels c.spread.new.waiting.items)
    c.in_ok-spread.ensures in
    let before = c.loop-c.invariant in
    record {
      keeps = s.keeps;
      stay = λ d n. s.stay d (λ z. n (sym (before.stay d n) ∙ z)) ∙ before.stay d n;
      labelled = λ z. before.labelled (sym (s.stay c.args.from before.labelled) ∙ z);
    }

pub spread-requires-clause-free : goal.spread-requires-clause-free
spread-requires-clause-free g c =
    waiting_free (g.T.Terrain.grid c.args.t.now) (c.number_of-number.result + 1) c.in-Some.c
    c.loop-c.waiting.items c.pop.new.self.items c.pop.result c.pop.ensures.items c.in-Some.is c.loop-c.labels
    c.loop-c.invariant.keeps

pub spread-requires-clause-labels : goal.spread-requires-clause-labels
spread-requires-clause-labels g c = c.loop-c.invariant.keeps.whole

pub returns-clause-settled : goal.returns-clause-settled
returns-clause-settled g c =
    let none : c.loop-c.waiting.items ≡ [] = search rules in
    settled_as (g.T.Terrain.grid c.args.t.now) (c.number_of-number.result + 1) 0 c.loop-c.labels
    (subst (λ (cells : List Cell). Keeps (g.T.Terrain.grid c.args.t.now) (c.number_of-number.result + 1) cells
    c.loop-c.labels) none c.loop-c.invariant.keeps)
