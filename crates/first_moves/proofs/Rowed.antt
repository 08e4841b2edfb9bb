-- The row of a free cell, as a function.
use Rattle.std.proofs.Common.{◌≡◌, ℕ, ◌+◌, ◌*◌, ◌/◌, ◌%◌, ◌<◌, arith, refl, ap, sym, ◌∙◌, subst, true, List}
use Rattle.std.proofs.Common.{length, get_or, zero, suc}
use Rattle.std.specs.Prelude.{Option, None, nat_lt}
use Rattle.std.specs.List.{range_with_len}
use Rattle.std.proofs.Math.Nat.{div-add-mod, div-lt_iff_lt-mul, mod-lt}
use Rattle.std.proofs.lemmas.Bool.{lt-ltb}
use Rattle.std.proofs.lemmas.Bool.Decides.{nat_tests}
use Rattle.std.proofs.lemmas.List.{get_or_default, length-map, same_lists}
use Rattle.std.proofs.lemmas.List.FromFn.{get_or-map-range_with_len, length-range_with_len}
use Rattle.std.proofs.lemmas.Nat.{div-mul-add, mod-mul-add}
use Rattle.grid_moves.specs.declared.Cell.{Cell}
use Rattle.grid_moves.specs.declared.Dir.{Dir}
use Rattle.grid_moves.specs.Grid.{GridData, cell_number, cell_numbered, is_free, is_inside}
use Rattle.grid_moves.proofs.Legal.{same_cell}
use Rattle.grid_moves.proofs.Places.{inside_below}
use Rattle.plain_search.proofs.Numbering.{lies_inside, number_is, numbered_is}
use Rattle.first_moves.specs.declared.row.Run.{Run}
use Rattle.first_moves.specs.First.{IsFirstMove, first_move}
use Rattle.first_moves.specs.Row.{IsRow, RowsAre, moves_from, row_of}
use Rattle.first_moves.specs.Runs.{runs_of}
use Rattle.first_moves.proofs.Led.{move_is, moves_are}

module _ (g : GridData) (s : Cell) (free : is_free g s ≡ true) where
  -- the move at each place is the first move
  many : length (moves_from g s) ≡ g.height * g.width
  many =
      length-map (range_with_len 0 (g.height * g.width)) (λ k. first_move g s (cell_numbered g.width k))
      ∙ length-range_with_len 0 (g.height * g.width)

  move_at : (k : ℕ) → k < g.height * g.width
      → get_or (moves_from g s) k None ≡ first_move g s (cell_numbered g.width k)
  move_at k below =
      get_or-map-range_with_len (λ j. first_move g s (cell_numbered g.width j)) 0
      (g.height * g.width) k k None
      below (omega arith)

  row_is : IsRow g s (row_of g s)
  unfolding row_of
  row_is = record {
    members = moves_from g s;
    whole = many;
    moves = λ t inside.
        let k : ℕ = cell_number g.width t in
        subst (λ (o : Option Dir). IsFirstMove g s t o) (sym (move_at k (inside_below g t inside)
        ∙ ap (λ (c : Cell). first_move g s c) (numbered_is g t inside))) (move_is g s t free);
    cut = refl;
  }

  -- and it is the only row
  members_are : (ms : List (Option Dir)) → length ms ≡ g.height * g.width
      → ((t : Cell) → is_inside g t ≡ true → IsFirstMove g s t (get_or ms (cell_number g.width t) None))
      → ms ≡ moves_from g s
  members_are ms as_many are = same_lists ms (moves_from g s) (as_many ∙ sym many) same_at
    where
      same_at : (k : ℕ) (d : Option Dir) → k < length ms → get_or ms k d ≡ get_or (moves_from g s) k d
      same_at k d below =
          let low : k < g.height * g.width = subst (λ (n : ℕ). k < n) as_many below in
          let c : Cell = cell_numbered g.width k in
          let one : get_or ms (cell_number g.width c) None ≡ first_move g s c =
          (moves_are g s c free).only (get_or ms (cell_number g.width c) None)
          (are c (lies_inside g k low)) in
          get_or_default ms k d None below
          ∙ ap (λ (n : ℕ). get_or ms n None) (sym (number_is g.width k)) ∙ one ∙ sym (move_at k low)
          ∙ get_or_default (moves_from g s) k None d (subst (λ (n : ℕ). k < n) (sym many) low)

pub row_only : (g : GridData) (s : Cell) (row : List Run) → is_free g s ≡ true
    → IsRow g s row → row ≡ row_of g s
unfolding row_of
row_only g s row free is =
    is.cut ∙ ap (λ (ms : List (Option Dir)). runs_of ms) (members_are g s free is.members is.whole is.moves)

pub rows_are : RowsAre row_of
rows_are g s free = record { is = row_is g s free; only = λ row is. row_only g s row free is }
