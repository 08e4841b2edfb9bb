use Rattle.std.proofs.Common.{◌≡◌, ◌<◌, arith, Bool, sym, ◌∙◌, true, false}
use Rattle.grid_moves.specs.declared.Dir.{Dir}
use Rattle.grid_moves.specs.Move.{beyond}
use Rattle.grid_moves.specs.Ring.{is_free_on}
use Rattle.components.specs.Links.{Chain, here}
use Rattle.components.specs.Stored.{labels_in}
use Rattle.components.specs.Walls.{is_labelled}
use Rattle.components.proofs.Walking.{chain_on_map, joined_met, met_more, on_map}
use Rattle.components.proofs.walls.come_to_all.Goals as goal

pub loop-init : goal.loop-init
loop-init c =
    let chain = here c.requires.start in
    record {
      left = chain;
      right = chain;
      met = met_more c.args.shape.eight (is_labelled (labels_in c.args.shape c.args.labels.now)) c.args.start
          c.args.c c.args.start c.no_ring.result c.pass-met.result c.pass-met.ensures
          (λ d h. absurd (let x : false ≡ true = sym (c.no_ring.ensures d) ∙ h in cc)) chain;
    }

pub stepped-left-requires-clause-column : goal.stepped-left-requires-clause-column
stepped-left-requires-clause-column c =
    let x : c.loop.left.at.x < 4096 = (chain_on_map c.args.shape c.args.labels.now c.requires.sides
    c.args.start c.loop.left.at c.loop.invariant.left).0 in
    omega arith

pub stepped-left-requires-clause-row : goal.stepped-left-requires-clause-row
stepped-left-requires-clause-row c =
    let y : c.loop.left.at.y < 4096 = (chain_on_map c.args.shape c.args.labels.now c.requires.sides
    c.args.start c.loop.left.at c.loop.invariant.left).1 in
    omega arith

pub stepped-right-requires-clause-column : goal.stepped-right-requires-clause-column
stepped-right-requires-clause-column c =
    let x : c.loop.right.at.x < 4096 = (chain_on_map c.args.shape c.args.labels.now c.requires.sides
    c.args.start c.loop.right.at c.loop.invariant.right).0 in
    omega arith

pub stepped-right-requires-clause-row : goal.stepped-right-requires-clause-row
stepped-right-requires-clause-row c =
    let y : c.loop.right.at.y < 4096 = (chain_on_map c.args.shape c.args.labels.now c.requires.sides
    c.args.start c.loop.right.at c.loop.invariant.right).1 in
    omega arith

pub loop-preserved : goal.loop-preserved
loop-preserved c =
    let left = c.stepped-left.ensures c.args.start c.loop.invariant.left in
    let right = c.stepped-right.ensures c.args.start c.loop.invariant.right in
    let more = met_more c.args.shape.eight (is_labelled (labels_in c.args.shape c.args.labels.now))
    c.args.start c.args.c in
    record {
      left = left;
      right = right;
      met = more c.stepped-right.result.at c.pass-met-in-loop.result c.pass-met-in-loop-2.result
          c.pass-met-in-loop-2.ensures (more c.stepped-left.result.at c.loop.met c.pass-met-in-loop.result
          c.pass-met-in-loop.ensures c.loop.invariant.met left) right;
    }

pub returns-then-are_met : goal.returns-then-are_met
returns-then-are_met c = λ h.
    let left = c.stepped-left.ensures c.args.start c.loop.invariant.left in
    let right = c.stepped-right.ensures c.args.start c.loop.invariant.right in
    let more = met_more c.args.shape.eight (is_labelled (labels_in c.args.shape c.args.labels.now))
    c.args.start c.args.c in
    joined_met c.args.shape.eight (is_labelled (labels_in c.args.shape c.args.labels.now)) c.args.c
    c.args.start c.args.ring c.pass-met-in-loop-2.result c.requires.ring
    (on_map c.args.shape c.args.labels.now c.requires.sides)
    (more c.stepped-right.result.at c.pass-met-in-loop.result c.pass-met-in-loop-2.result
    c.pass-met-in-loop-2.ensures (more c.stepped-left.result.at c.loop.met c.pass-met-in-loop.result
    c.pass-met-in-loop.ensures c.loop.invariant.met left) right) (sym c.are_met.ensures ∙ c.if-are_met.true)
