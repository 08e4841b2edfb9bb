use Rattle.std.proofs.Common.{◌≡◌, ℕ, ◌+◌, ◌*◌, ◌<◌, ◌∙◌, arith, refl, ap, subst, sym, cond, Bool, List, []}
use Rattle.std.proofs.Common.{◌∷◌, ◌++◌}
use Rattle.std.proofs.lemmas.List.{append-nil}
use Rattle.grid_moves.specs.declared.Cell.{Cell}
use Rattle.grid_moves.specs.Grid.{GridData}
use Rattle.grid_moves.specs.Layers.{Layers, is_free_ground}
use Rattle.problem_maker.specs.Free.{free_below}
use Rattle.problem_maker.proofs.Drawn.{free_more}
use Rattle.problem_maker.proofs.free.add_row.Goals as goal
use Rattle.problem_maker.proofs.free.add_row.Goals.{then-is_free_ground+in_ok-push, else-is_free_ground}

-- the cell at a place of a row is appended where it is free
appended : (ls : Layers) (x y : ℕ) → x < ls.land.width → (before after : List Cell)
    → before ≡ free_below ls (y * ls.land.width + x)
    → after ≡ before ++ cond (is_free_ground ls (record { x = x; y = y })) (record { x = x; y = y } ∷ []) []
    → after ≡ free_below ls (y * ls.land.width + (x + 1))
appended ls x y h before after b a =
    let next : y * ls.land.width + x + 1 ≡ y * ls.land.width + (x + 1) = omega arith in
    a ∙ ap (λ (cs : List Cell). cs ++ cond (is_free_ground ls (record { x = x; y = y }))
    (record { x = x; y = y } ∷ []) []) b
    ∙ sym (free_more ls x y (y * ls.land.width + x) h refl) ∙ ap (λ (n : ℕ). free_below ls n) next

pub loop-x-preserved : goal.loop-x-preserved
loop-x-preserved c =
    let ls = c.args.layers.now in
    let v : Cell = record { x = c.loop-x.x; y = c.args.y } in
    let on : c.loop-x.x < ls.land.width =
    subst (λ (n : ℕ). c.loop-x.x < n)
    (c.width-x-end.ensures.is ∙ ap (λ (g : GridData). g.width) c.land.ensures) c.loop-x-test.true in
    appended ls c.loop-x.x c.args.y on c.loop-x.cells.items c.if-is_free_ground.cells.items c.loop-x.invariant
    (elim c.if-is_free_ground.branch [
      | then-is_free_ground+in_ok-push w ↦
          rw w.cells-is (w.in_ok-push.ensures.items ∙ ap (λ (b : Bool). c.loop-x.cells.items
          ++ cond b (v ∷ []) []) (sym (sym c.is_free_ground.ensures ∙ w.if-is_free_ground.true)))
      | else-is_free_ground w ↦
          rw w.cells-is (sym (append-nil c.loop-x.cells.items) ∙ ap (λ (b : Bool). c.loop-x.cells.items
          ++ cond b (v ∷ []) []) (sym (sym c.is_free_ground.ensures ∙ w.if-is_free_ground.false)))
    ])
