-- What words that spell a call are: a name of the table, words that fit its row, and the settings behind
-- these. And what is known of the row of a name.
use Rattle.std.proofs.Common.{◌≡◌, ℕ, Bool, true, false, List, [], ◌∷◌, length, drop, refl, ap}
use Rattle.std.proofs.lemmas.Bool.{and_parts}
use Rattle.std.proofs.lemmas.Slice.Eq.{bytes_eq-Decides}
use Rattle.std.specs.List.{list_all}
use Rattle.std.specs.Prelude.{Option, Some, None, unwrap_or, option_and_then, bytes_eq, if◌then◌else◌}
use Rattle.word_list.specs.Calls.{call_of, fits}
use Rattle.word_list.specs.Request.{Call, Named, Row, asked_by, engine_of, row_in, row_of}
use Rattle.word_list.specs.Settings.{settings_of}

-- the call that the words behind a row's name make
abbrev pub call_by : Row → List (List ℕ) → Call
call_by row words = record {
  request = asked_by row words;
  settings = settings_of (engine_of row.command) (drop (length row.takes) words);
}

-- a name and the words behind it spell a call
pub record IsSpelled (name : List ℕ) (words : List (List ℕ)) (call : Call) : Type 0 where
  pub row : Row
  pub known : row_of name ≡ Some row
  pub fit : fits (engine_of row.command) row.takes row.allows words ≡ true
  pub spells : call_by row words ≡ call

same_call : (one other : Call) → Some one ≡ Some other → one ≡ other
same_call one other e = ap (λ (o : Option Call). unwrap_or o one) e

pub spelled : (name : List ℕ) (words : List (List ℕ)) (call : Call) → call_of (name ∷ words) ≡ Some call
    → IsSpelled name words call
spelled name words call e = by_row (row_of name) refl e
  where
    by_fit : (row : Row) → row_of name ≡ Some row → (b : Bool)
        → fits (engine_of row.command) row.takes row.allows words ≡ b
        → (if b then Some (call_by row words) else None) ≡ Some call → IsSpelled name words call
    by_fit row is true fit e = record {
      row = row;
      known = is;
      fit = fit;
      spells = same_call (call_by row words) call e;
    }
    by_fit row is false fit e = absurd (cc)

    by_row : (o : Option Row) → row_of name ≡ o → option_and_then
        (λ row. if fits (engine_of row.command) row.takes row.allows words then Some (call_by row words)
        else None) o ≡ Some call
        → IsSpelled name words call
    by_row None is e = absurd (cc)
    by_row (Some row) is e = by_fit row is (fits (engine_of row.command) row.takes row.allows words) refl e

-- the row of a name is that of one with this name, which passes a test that all in the table pass
pub record IsRowOf (test : Named → Bool) (name : List ℕ) (row : Row) : Type 0 where
  pub one : Named
  pub name_is : name ≡ one.name
  pub row_is : one.row ≡ row
  pub passes : test one ≡ true

pub row_called : (test : Named → Bool) (all : List Named) (name : List ℕ) (row : Row)
    → list_all test all ≡ true → row_in all name ≡ Some row → IsRowOf test name row
row_called test [] name row pass e = absurd (cc)
row_called test (one ∷ others) name row pass e =
    let parts = and_parts (test one) (list_all test others) pass in
    by_name (bytes_eq name one.name) refl e parts.0 (row_called test others name row parts.1)
  where
    by_name : (b : Bool) → bytes_eq name one.name ≡ b
        → (if b then Some one.row else row_in others name) ≡ Some row → test one ≡ true
        → (row_in others name ≡ Some row → IsRowOf test name row) → IsRowOf test name row
    by_name true same e passes later = record {
      one = one;
      name_is = (bytes_eq-Decides name one.name).0 same;
      row_is = ap (λ (o : Option Row). unwrap_or o one.row) e;
      passes = passes;
    }
    by_name false other e passes later = later e
