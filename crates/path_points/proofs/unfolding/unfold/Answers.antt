use Rattle.std.proofs.Common.{◌≡◌, ◌+◌, ◌++◌, ◌∷◌, [], drop, List, ap, slice_index_or, sym, ◌∙◌, arith}
use Rattle.std.proofs.Common.{length, ◌<◌}
use Rattle.std.specs.Prelude.{Some, option_map}
use Rattle.std.proofs.lemmas.List.{append-nil, at_drop_more, drop_all}
use Rattle.grid_moves.specs.declared.Cell.{Cell}
use Rattle.grid_moves.specs.Points.{are_lined, is_lined, unfolded_from, unfolding_of}
use Rattle.grid_moves.proofs.Legal.{and_both}
use Rattle.path_points.proofs.Filling.{unfolded_pushed}
use Rattle.path_points.proofs.unfolding.unfold.Goals as goal

pub loop-next-preserved : goal.loop-next-preserved
loop-next-preserved c =
    let others = c.in-Some.others.now in
    let last = c.loop-next.last in
    let i = c.loop-next.next-index in
    let next : Cell = slice_index_or others i (record { x = 0; y = 0 }) in
    let inside : i < length others = omega arith in
    let on = at_drop_more (λ points. is_lined (last ∷ points)) others i (record { x = 0; y = 0 }) inside in
    let both =
    and_both (are_lined last next) (is_lined (next ∷ drop (i + 1) others))
    (sym on ∙ c.loop-next.invariant.lined) in
    let further =
    at_drop_more (λ points. option_map (λ later. c.loop-next.cells ++ later) (unfolded_from last points))
    others i (record {
      x = 0;
      y = 0;
    }) inside in
    let completes =
    c.loop-next.invariant.completes
    ∙ further
    ∙ unfolded_pushed c.loop-next.cells last next (drop (i + 1) others) both.0 in
    let pushed = sym c.in_ok-push_segment.ensures in
    record {
      lined = both.1;
      completes =
          completes
          ∙ ap
          (λ (cells : List Cell). option_map (λ later. cells ++ later)
          (unfolded_from next (drop (i + 1) others)))
          pushed;
    }

pub loop-next-init : goal.loop-next-init
loop-next-init c =
    let split = sym c.as_slice.ensures ∙ c.in-Some.ensures.cases.0 in
    let first = c.in-Some.first.now in
    let pushed : c.push.new.self ≡ first ∷ [] =
    c.in_ok-push.ensures.pushed ∙ ap (λ (cells : List Cell). cells ++ first ∷ []) c.new-cells.ensures in
    record {
      lined = ap is_lined (sym split) ∙ c.requires;
      completes =
          ap unfolding_of split
          ∙ ap (λ (cells : List Cell). option_map (λ later. cells ++ later)
          (unfolded_from first c.in-Some.others.now)) (sym pushed);
    }

pub returns : goal.returns
returns c =
    c.loop-next.invariant.completes
    ∙ ap (λ points. option_map (λ later. c.loop-next.cells ++ later) (unfolded_from c.loop-next.last points))
    (drop_all c.loop-next.next-index c.in-Some.others.now c.loop-next-test.false)
    ∙ ap Some (append-nil c.loop-next.cells)
