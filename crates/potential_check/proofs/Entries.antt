-- Entries of a list whose cells ascend, from a number on.
use Rattle.std.proofs.lemmas.Bool.Decides.{nat_tests}
use Rattle.std.proofs.Common.{◌≡◌, ℕ, ◌+◌, ◌<◌, inl, inr, arith, refl, ap, true, false, List, [], ◌∷◌}
use Rattle.std.specs.Prelude.{ℤ}
use Rattle.std.specs.List.{list_all}
use Rattle.std.proofs.lemmas.Bool.{and_parts, cases_Bool, ltb-true, leb-true, le-leb}
use Rattle.grid_moves.specs.declared.Cell.{Cell}
use Rattle.grid_moves.specs.Grid.{cell_number}
use Rattle.grid_moves.specs.Move.{is_same}
use Rattle.grid_moves.proofs.Legal.{is_same-cell, is_same-itself}
use Rattle.grid_moves.proofs.Places.{one_cell}
use Rattle.potential_check.specs.Certificate.{lies_inside, ascend_from}
use Rattle.potential_check.specs.Heights.{first_height, rest_after}
use Rattle.potential_check.specs.Rising.{height_of, cells_in}

-- one cell has one number
same_number : (w : ℕ) (c d : Cell) → is_same c d ≡ true → cell_number w c ≡ cell_number w d
same_number w c d h = ap (cell_number w) (is_same-cell c d h)

module _ (w : ℕ) (floor : Cell → ℤ) (c : Cell) where
  -- a cell before all entries is not listed
  height_of-before : (m : ℕ) (entries : List (Cell × ℤ)) → cell_number w c < m
      → ascend_from w m (cells_in entries) ≡ true → height_of floor entries c ≡ floor c
  height_of-before m [] h a = refl
  height_of-before m (e ∷ entries) h a =
      let parts = and_parts _ _ a in
      let most = leb-true m (cell_number w e.0) parts.0 in
      elim (cases_Bool (is_same e.0 c)) [
        | inl same ↦ absurd (let f = same_number w e.0 c same in omega arith)
        | inr other ↦ rw other (height_of-before (cell_number w e.0 + 1) entries (omega arith) parts.1)
      ]

  -- where entries ascend from the cell's number on, only the first may be the cell's
  pub first_is : (entries : List (Cell × ℤ)) → ascend_from w (cell_number w c) (cells_in entries) ≡ true
      → first_height floor entries c ≡ height_of floor entries c
  first_is entries h1 = grind (arith, nat_tests, cases_Bool, and_parts, leb-true, height_of-before)

  -- and those after it ascend from the next number on
  pub rest_ascends : (h : ℕ) (entries : List (Cell × ℤ)) → c.x < w
      → list_all (lies_inside w h) (cells_in entries) ≡ true
      → ascend_from w (cell_number w c) (cells_in entries) ≡ true
      → ascend_from w (cell_number w c + 1) (cells_in (rest_after entries c)) ≡ true
  rest_ascends h entries h1 h2 h3 =
      grind (
        arith,
        nat_tests,
        and_parts,
        leb-true,
        cases_Bool,
        same_number,
        ltb-true,
        le-leb,
        one_cell,
        is_same-itself,
      )

  -- they lie inside too
  pub rest_inside : (h : ℕ) (entries : List (Cell × ℤ)) → list_all (lies_inside w h) (cells_in entries) ≡ true
      → list_all (lies_inside w h) (cells_in (rest_after entries c)) ≡ true
  rest_inside h entries h1 = grind (arith, nat_tests, cases_Bool, and_parts)

  -- and tell the heights of later cells
  pub rest_heights : (d : Cell) (entries : List (Cell × ℤ)) → cell_number w c < cell_number w d
      → height_of floor (rest_after entries c) d ≡ height_of floor entries d
  rest_heights d entries h1 = grind (arith, nat_tests, cases_Bool, same_number)

  -- a cell outside is not listed
  pub height_of-outside : (h : ℕ) (entries : List (Cell × ℤ)) → lies_inside w h c ≡ false
      → list_all (lies_inside w h) (cells_in entries) ≡ true
      → (height_of floor entries c ≡ floor c) × (first_height floor entries c ≡ floor c)
      × (rest_after entries c ≡ entries)
  height_of-outside h [] off all = (refl, refl, refl)
  height_of-outside h (e ∷ entries) off all =
      let parts = and_parts (lies_inside w h e.0) (list_all (lies_inside w h) (cells_in entries)) all in
      let later = height_of-outside h entries off parts.1 in
      elim (cases_Bool (is_same e.0 c)) [
        | inl same ↦ absurd (let f = ap (lies_inside w h) (is_same-cell e.0 c same) in cc)
        | inr other ↦ (rw other later.0, rw other refl, rw other refl)
      ]
