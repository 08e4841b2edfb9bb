-- Rows that fit one another, as code hands them over.
use Rattle.std.proofs.Common.{◌≡◌, ℕ, ◌+◌, ◌≤◌, arith, Bool, List, length, ap, sym, ◌∙◌, subst}
use Rattle.plus_tables.specs.declared.rows.Three.{Three}
use Rattle.plus_tables.specs.declared.rows.Ahead.{Ahead}
use Rattle.plus_tables.specs.Fit.{AreLong, FitAcross, HasBorder}

-- three rows by other names
pub long_as : {A : Type 0} {n : ℕ} {a b c p q r : List A} → p ≡ a → q ≡ b → r ≡ c
    → length a ≡ n → length b ≡ n → length c ≡ n → AreLong n p q r
long_as e f k i j l = record {
  one_is = ap length e ∙ i;
  other_is = ap length f ∙ j;
  third_is = ap length k ∙ l;
}

-- rows of a map's columns
pub bordered : (width : ℕ) → width ≤ 4096 → HasBorder (width + 2)
bordered width narrow = record { some = omega arith; few = omega arith }

-- what tells a row by the next one, or along itself, as code hands it over
pub fits_across : (n m : ℕ) (rows : Three) (forced : List Bool) (next : Ahead) → m ≡ n → HasBorder n
    → AreLong n rows.ahead.now rows.here.now rows.behind.now → length forced ≡ n
    → AreLong n next.ahead.now next.right.now next.left.now → FitAcross m rows forced next
fits_across n m rows forced next e border rows_are forced_is next_are =
    subst (λ (k : ℕ). FitAcross k rows forced next) (sym e) (record {
      border = border;
      rows_are = rows_are;
      forced_is = forced_is;
      next_are = next_are;
    })
