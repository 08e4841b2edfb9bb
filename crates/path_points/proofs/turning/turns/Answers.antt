use Rattle.std.proofs.Common.{◌≡◌, ◌∙◌, ◌+◌, ◌++◌, ◌∷◌, [], List, Bool, true, false, ap, sym, drop}
use Rattle.std.proofs.Common.{slice_index_or}
use Rattle.std.specs.Prelude.{if◌then◌else◌}
use Rattle.std.proofs.lemmas.List.{append_assoc, at_drop_more, drop_all}
use Rattle.grid_moves.specs.declared.Cell.{Cell}
use Rattle.path_points.specs.Corners.{corners, goes_straight, turns_after}
use Rattle.path_points.proofs.turning.turns.Goals as goal

begun : (cells behind later points none : List Cell) (u v : Cell) → cells ≡ u ∷ behind → behind ≡ v ∷ later
    → none ≡ [] → points ≡ none ++ u ∷ [] → points ++ turns_after u (v ∷ later) ≡ corners cells
begun cells behind later points none u v e f n p =
    ap (λ (l : List Cell). l ++ turns_after u (v ∷ later)) (p ∙ ap (λ (l : List Cell). l ++ u ∷ []) n)
    ∙ sym (ap corners (e ∙ ap (λ (l : List Cell). u ∷ l) f))

turned : (points new later : List Cell) (at : Cell) (b : Bool)
    → new ≡ (if b then points else points ++ at ∷ [])
    → new ++ later ≡ points ++ (if b then later else at ∷ later)
turned points new later at true e = ap (λ (l : List Cell). l ++ later) e
turned points new later at false e =
    ap (λ (l : List Cell). l ++ later) e ∙ append_assoc points (at ∷ []) later

pub loop-next-init : goal.loop-next-init
loop-next-init c =
    begun c.args.cells.now c.in-Some.others.now c.in-Some-split_first.others.now c.push.new.self
    c.new-points.result c.in-Some.first.now c.in-Some-split_first.second.now c.in-Some.ensures.cases.0
    c.in-Some-split_first.ensures.cases.0 c.new-points.ensures c.in_ok-push.ensures.pushed

pub loop-next-preserved : goal.loop-next-preserved
loop-next-preserved c =
    let others = c.in-Some-split_first.others.now in
    let i = c.loop-next.next-index in
    let origin : Cell = record { x = 0; y = 0 } in
    let next : Cell = slice_index_or others i origin in
    turned c.loop-next.points c.push_turn.new.points
    (turns_after c.loop-next.at (next ∷ drop (i + 1) others)) c.loop-next.at
    (goes_straight c.loop-next.before c.loop-next.at next) c.in_ok-push_turn.ensures.turned
    ∙ sym (at_drop_more (λ later. c.loop-next.points
    ++ turns_after c.loop-next.before (c.loop-next.at ∷ later))
    others i origin c.loop-next-test.true)
    ∙ c.loop-next.invariant

pub returns : goal.returns
returns c =
    c.in_ok-push-2.ensures.pushed
    ∙ sym (ap (λ later. c.loop-next.points ++ turns_after c.loop-next.before (c.loop-next.at ∷ later))
    (drop_all c.loop-next.next-index c.in-Some-split_first.others.now c.loop-next-test.false))
    ∙ c.loop-next.invariant
