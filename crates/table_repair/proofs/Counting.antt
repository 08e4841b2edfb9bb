-- How many places differ, as one is set right.
use Rattle.std.proofs.Common.{◌≡◌, ◌≢◌, ℕ, ◌+◌, ◌<◌, zero, suc, arith, true, false, refl, List, [], ◌∷◌}
use Rattle.std.proofs.Common.{length, get_or, set, get_or-set_same, get_or-set_other}
use Rattle.std.specs.Prelude.{ℤ, pos}
use Rattle.std.specs.Ordering.{int_eq}
use Rattle.std.proofs.lemmas.Bool.Decides.{Decides-int_eq, nat_tests}
use Rattle.std.proofs.lemmas.List.{set-get_or}
use Rattle.grid_moves.specs.declared.Cell.{Cell}
use Rattle.grid_moves.specs.declared.Dir.{Dir}
use Rattle.grid_moves.proofs.Places.{one_place, one_cell, number_below}
use Rattle.grid_moves.proofs.Dirs.{dir_number-few, one_dir}
use Rattle.plus_tables.specs.Tables.{TablesData, IsWhole, entry_place, entry_at, tables_with, is_on}
use Rattle.table_repair.specs.Counted.{places_differing}

int_eq-itself : (x : ℤ) → int_eq x x ≡ true
int_eq-itself x = (Decides-int_eq x x).1 refl

int_eq-apart : (x y : ℤ) → x ≢ y → int_eq x y ≡ false
int_eq-apart x y h = grind arith

pub none_differing : (xs : List ℤ) → places_differing xs xs ≡ 0
none_differing [] = refl
none_differing (x ∷ xs) = rw (int_eq-itself x, none_differing xs) refl

-- a place that is set right differs no more
pub one_less : (xs ys : List ℤ) (i : ℕ) → i < length xs → length xs ≡ length ys
    → get_or xs i (pos 0) ≢ get_or ys i (pos 0)
    → places_differing xs ys ≡ places_differing (set xs i (get_or ys i (pos 0))) ys + 1
one_less [] ys i h e n = absurd (omega arith)
one_less (x ∷ xs) [] i h e n = absurd (omega arith)
one_less (x ∷ xs) (y ∷ ys) zero h e n = rw (int_eq-apart x y n, int_eq-itself y) (omega arith)
one_less (x ∷ xs) (y ∷ ys) (suc i) h e n = grind (arith, one_less xs ys i (omega arith) (omega arith) n)

module _ (t : TablesData) (whole : IsWhole t) (u : Cell) (on : is_on t u ≡ true) where
  place_within : (d : Dir) → entry_place t.width u d < length t.entries
  place_within d = grind (arith, number_below, dir_number-few)

  pub entry-with : (d : Dir) (x : ℤ) → entry_at (tables_with t u d x) u d ≡ x
  entry-with d x = get_or-set_same t.entries (entry_place t.width u d) x (pos 0) (place_within d)

  pub entry-with_other : (d e : Dir) (w : Cell) (x : ℤ) → is_on t w ≡ true → (w ≡ u → e ≡ d → ⊥)
      → entry_at (tables_with t u d x) w e ≡ entry_at t w e
  entry-with_other d e w x on_too other =
      grind (arith, get_or-set_other, one_place, dir_number-few, one_cell, one_dir)

  pub count-with : (d : Dir) (x : ℤ) (r : List ℤ) → length t.entries ≡ length r
      → x ≡ get_or r (entry_place t.width u d) (pos 0) → entry_at t u d ≢ x
      → places_differing t.entries r ≡ places_differing (tables_with t u d x).entries r + 1
  count-with d x r e s n = grind (arith, nat_tests, one_less, place_within)

  pub with_itself : (d : Dir) → tables_with t u d (entry_at t u d) ≡ t
  with_itself d = grind (arith, set-get_or)
