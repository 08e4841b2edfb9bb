use Rattle.std.proofs.Common.{◌≡◌, ◌+◌, ◌++◌, ◌∙◌, [], ap, arith, sym, List, ℕ, length}
use Rattle.std.specs.Prelude.{Option}
use Rattle.std.specs.List.{cons_option, filter_map, range_with_len}
use Rattle.grid_moves.specs.declared.Cell.{Cell}
use Rattle.grid_moves.specs.Grid.{cell_numbered}
use Rattle.plain_search.specs.Lists.{reached_at, reached_of}
use Rattle.plain_search.proofs.Ascending.{made_more}
use Rattle.plain_search.proofs.lists.reached_cells.Goals as goal

pub loop-number-preserved : goal.loop-number-preserved
loop-number-preserved g c =
    let grid = g.T.Terrain.grid c.args.t.now in
    let n : ℕ = c.loop-number.number in
    let make : ℕ → Option Cell = λ k. reached_at grid c.args.start (cell_numbered grid.width k) in
    c.in_ok-push_some.ensures
    ∙ ap (λ (l : List Cell). l ++ cons_option c.reached_at.result []) c.loop-number.invariant
    ∙ ap (λ (o : Option Cell). filter_map make (range_with_len 0 n) ++ cons_option o []) c.reached_at.ensures
    ∙ sym (made_more make n 0 n (n + 1) (omega arith) (omega arith))

pub returns : goal.returns
unfolding reached_of
returns g c =
    let grid = g.T.Terrain.grid c.args.t.now in
    let all : c.loop-number.number ≡ length c.args.costs.now = omega arith in
    c.of.ensures ∙ c.loop-number.invariant
    ∙ ap (λ (n : ℕ). filter_map (λ k. reached_at grid c.args.start (cell_numbered grid.width k))
    (range_with_len 0 n))
    (all ∙ c.requires.costs.as_many)
