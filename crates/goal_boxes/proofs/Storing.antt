-- Boxes are kept cell by cell.
use Rattle.std.proofs.Common.{◌≡◌, ◌<◌, ◌≤◌, ◌+◌, ◌*◌, ℕ, Bool, true, false, refl, ap, sym, ◌∙◌, subst, arith}
use Rattle.std.proofs.Common.{List, [], ◌∷◌, ◌++◌, length, get_or}
use Rattle.std.specs.Prelude.{nat_lt, slice_index_or}
use Rattle.std.proofs.lemmas.Bool.Decides.{nat_tests}
use Rattle.std.proofs.lemmas.List.{get_or_append_left}
use Rattle.std.proofs.Math.Seq.{get_or-append_seam}
use Rattle.grid_moves.specs.declared.Cell.{Cell}
use Rattle.grid_moves.specs.declared.Dir.{Dir}
use Rattle.grid_moves.specs.Grid.{GridData, cell_number, is_free, is_inside}
use Rattle.grid_moves.proofs.Ahead.{legal_ahead-is}
use Rattle.grid_moves.proofs.Legal.{legal_is}
use Rattle.grid_moves.proofs.Places.{one_cell, number_below, inside_is}
use Rattle.goal_boxes.specs.declared.around.CellBoxes.{CellBoxes}
use Rattle.cost_waves.specs.Begin.{Begins}
use Rattle.goal_boxes.specs.Box.{AreBoxes, IsBox}
use Rattle.goal_boxes.specs.Stored.{BoxData, no_boxes, HoldsBoxes, AreBefore}
use Rattle.goal_boxes.proofs.Growing.{each_dir}

-- a cell that is not free has no boxes
pub none_of_blocked : (g : GridData) (u : Cell) → is_free g u ≡ false → AreBoxes g u no_boxes
none_of_blocked g u blocked =
    each_dir (λ d box. IsBox g u d box) (quiet _) (quiet _) (quiet _) (quiet _) (quiet _) (quiet _) (quiet _)
    (quiet _)
  where
    quiet : (d : Dir) (t : Cell) → ¬ Begins g u t d
    quiet d t b = let free = (legal_is g u b.next (legal_ahead-is g u b.next d b.ahead)).source in absurd (cc)

length-one_more : (cells : List CellBoxes) (b : CellBoxes) → length (cells ++ b ∷ []) ≡ length cells + 1
length-one_more [] b = refl
length-one_more (x ∷ cells) b = let e = length-one_more cells b in omega arith

module _ (g : GridData) where
  -- one cell more
  pub one_before : (cells : List CellBoxes) (n : ℕ) (u : Cell) (b : CellBoxes) → u.x < g.width
      → cell_number g.width u ≡ n → AreBoxes g u b → AreBefore g cells n
      → AreBefore g (cells ++ b ∷ []) (n + 1)
  one_before cells n u b on e new k = record {
    count = length-one_more cells b ∙ ap (λ (m : ℕ). m + 1) k.count;
    boxes = λ c i h. by_test c i h (nat_lt (cell_number g.width c) n) refl;
  }
    where
      last : (c : Cell) → c ≡ u
          → AreBoxes g c (get_or (cells ++ b ∷ []) (cell_number g.width c) no_boxes)
      last c same =
          let at : cell_number g.width c ≡ length cells =
          ap (λ (v : Cell). cell_number g.width v) same ∙ e ∙ sym k.count in
          let there : get_or (cells ++ b ∷ []) (cell_number g.width c) no_boxes ≡ b =
          ap (λ (m : ℕ). get_or (cells ++ b ∷ []) m no_boxes) at ∙ get_or-append_seam cells b [] no_boxes in
          subst (λ (x : CellBoxes). AreBoxes g c x) (sym there)
          (subst (λ (v : Cell). AreBoxes g v b) (sym same) new)

      by_test : (c : Cell) → is_inside g c ≡ true → cell_number g.width c < n + 1 → (t : Bool)
          → nat_lt (cell_number g.width c) n ≡ t
          → AreBoxes g c (get_or (cells ++ b ∷ []) (cell_number g.width c) no_boxes)
      by_test c i h true t =
          let l : cell_number g.width c < n = grind (arith, nat_tests) in
          let m : cell_number g.width c < length cells = let q = k.count in omega arith in
          subst (λ (x : CellBoxes). AreBoxes g c x)
          (sym (get_or_append_left cells (b ∷ []) no_boxes (cell_number g.width c) m)) (k.boxes c i l)
      by_test c i h false t =
          let l : n ≤ cell_number g.width c = grind (arith, nat_tests) in
          let m : cell_number g.width c ≡ n = omega arith in
          last c (one_cell g.width c u (inside_is g c i).0 on (m ∙ sym e))

  -- all cells, when the rows are done
  pub holds_all : (b : BoxData) (cells : List CellBoxes) (height y : ℕ) → b.width ≡ g.width
      → b.height ≡ g.height → b.cells ≡ cells → height ≡ g.height → height ≤ y → y ≤ height
      → AreBefore g cells (y * g.width) → HoldsBoxes g b
  holds_all b cells height y wide high same h past within k = record {
    width = wide;
    height = high;
    boxes = λ c on_map.
        let i = inside_is g c on_map in
        let all : y ≡ g.height = omega arith in
        let below = subst (λ (n : ℕ). cell_number g.width c < n * g.width) (sym all)
        (number_below g.width g.height c i.0 i.1) in
        subst (λ (n : ℕ). AreBoxes g c (slice_index_or b.cells (cell_number n c) no_boxes)) (sym wide)
        (subst (λ (bs : List CellBoxes). AreBoxes g c (slice_index_or bs (cell_number g.width c) no_boxes))
        (sym same) (k.boxes c on_map below));
  }
