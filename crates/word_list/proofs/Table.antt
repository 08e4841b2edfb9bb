-- The row of a name among those of the table that are left, and how many words a command takes.
use Rattle.std.proofs.Common.{◌≡◌, ◌∙◌, refl, ℕ, ◌+◌, ◌<◌, ◌≤◌, Bool, true, false, List, [], ◌∷◌, length}
use Rattle.std.proofs.Common.{drop, map, sym, arith}
use Rattle.std.proofs.lemmas.Bool.Decides.{nat_tests}
use Rattle.std.proofs.lemmas.List.{at_drop_more}
use Rattle.std.proofs.Math.ListN.{get_or}
use Rattle.std.specs.Borrow.{Bor}
use Rattle.std.specs.Option.{option_map}
use Rattle.std.specs.Prelude.{Some, bytes_eq, nat_le, ◌&&◌, Option, None, IfSome, if◌then◌else◌}
use Rattle.word_list.specs.declared.rows.Command.{Command}
use Rattle.word_list.specs.declared.rows.WordKind.{WordKind}
use Rattle.word_list.specs.declared.settings.Family.{Family}
use Rattle.word_list.specs.declared.rows.Row as declared
use Rattle.word_list.specs.Request.{Named, Row, row_data, row_in, row_of, rows, stored_row}

abbrev Stored : Type 0
Stored = Bor (List ℕ) × Command × Bor (List WordKind) × Bor (List Family) × Bor (List ℕ)
    × Bor (List (Bor (List ℕ)))

module _ (stored : List Stored) (name : List ℕ) (i : ℕ) (other : Stored) (inside : i < length stored) where
  abbrev left : ℕ → Option Row
  left i = row_in (map stored_row (drop i stored)) name

  -- the next row has another name
  pub skipped : bytes_eq name (get_or stored i other).0.now ≡ false → left i ≡ left (i + 1)
  skipped e = at_drop_more (λ left. row_in (map stored_row left) name) stored i other inside ∙ rw e refl

  -- it has this name
  pub found : bytes_eq name (get_or stored i other).0.now ≡ true
      → left i ≡ Some (stored_row (get_or stored i other)).row
  found e = at_drop_more (λ left. row_in (map stored_row left) name) stored i other inside ∙ rw e refl

-- each command takes few words
are_few : List Named → Bool
are_few [] = true
are_few (one ∷ others) = nat_le (length one.row.takes) 8 && are_few others

few_among : (some : List Named) (name : List ℕ) (row : Row) → are_few some ≡ true
    → row_in some name ≡ Some row → length row.takes ≤ 8
unfolding are_few
few_among [] name row few is = grind arith
few_among (one ∷ others) name row few is =
    by_name (bytes_eq name one.name) is (few_among others name row (grind (arith, nat_tests)))
  where
    by_name : (same : Bool) → (if same then Some one.row else row_in others name) ≡ Some row
        → (row_in others name ≡ Some row → length row.takes ≤ 8) → length row.takes ≤ 8
    by_name true e later = grind (arith, nat_tests)
    by_name false e later = later e

pub few_taken : (name : List ℕ) (row : Option declared.Row) → option_map row_data row ≡ row_of name
    → IfSome row (λ row. length row.takes.now ≤ 8)
unfolding are_few
few_taken name None is = tt
few_taken name (Some row) is = few_among rows name (row_data row) refl (sym is)
