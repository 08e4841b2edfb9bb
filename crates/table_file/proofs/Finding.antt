-- The first entry that differs.
use Rattle.std.proofs.lemmas.Bool.Decides.{nat_tests}
use Rattle.std.proofs.Common.{◌≡◌, ℕ, suc, ◌+◌, ◌*◌, Bool, true, List, [], ◌∷◌, ◌++◌, length, take}
use Rattle.std.proofs.Common.{drop, refl, ap, sym, ◌∙◌, arith}
use Rattle.std.specs.Prelude.{ℤ, Option, Some, None, option_map, map, flat_map, if◌then◌else◌}
use Rattle.std.specs.Option.{option_or}
use Rattle.std.specs.Str.{bytes_eq}
use Rattle.std.proofs.lemmas.List.{drop-drop, length-drop, nil_from_length, take-append-drop}
use Rattle.std.proofs.lemmas.Slice.Eq.{bytes_eq-Decides}
use Rattle.table_file.specs.Encoding.{entry_bytes}
use Rattle.table_file.specs.Faults.{first_wrong}
use Rattle.table_file.specs.Order.{Spot}
use Rattle.table_file.specs.Reading.{first_other}
use Rattle.table_file.proofs.Numbering.{AreNumbered}

by_test : (b : Bool) (tell : ℕ → Spot) (s : Spot) (place : ℕ) (x : Option Spot) (y : Option ℕ) → s
    ≡ tell place
    → x ≡ option_map tell y → (if b then x else Some s) ≡ option_map tell (if b then y else Some place)
by_test b tell s place x y h i = grind (arith, nat_tests)

-- what the first entry that differs is for follows from its place
pub wrong_named : (tell : ℕ → Spot) (entry : Spot → ℤ) (place : ℕ) (spots : List Spot) (bytes : List ℕ)
    → AreNumbered tell place spots
    → first_wrong entry spots bytes ≡ option_map tell (first_other place (map entry spots) bytes)
wrong_named tell entry place [] bytes numbered = refl
wrong_named tell entry place (s ∷ spots) bytes numbered =
    by_test (bytes_eq (take 2 bytes) (entry_bytes (entry s))) tell s place
    (first_wrong entry spots (drop 2 bytes)) (first_other (place + 1) (map entry spots) (drop 2 bytes))
    numbered.0
    (wrong_named tell entry (place + 1) spots (drop 2 bytes) numbered.1)

or_test : (b : Bool) (s : Spot) (x y z : Option Spot) → x ≡ option_or y z
    → (if b then x else Some s) ≡ option_or (if b then y else Some s) z
or_test b s x y z h = grind (arith, nat_tests)

-- among two lists it is that of the first one, if there is one
pub wrong-append : (entry : Spot → ℤ) (xs ys : List Spot) (bytes : List ℕ)
    → first_wrong entry (xs ++ ys) bytes
    ≡ option_or (first_wrong entry xs bytes) (first_wrong entry ys (drop (2 * length xs) bytes))
wrong-append entry [] ys bytes = refl
wrong-append entry (x ∷ xs) ys bytes =
    or_test (bytes_eq (take 2 bytes) (entry_bytes (entry x))) x (first_wrong entry (xs ++ ys) (drop 2 bytes))
    (first_wrong entry xs (drop 2 bytes)) (first_wrong entry ys (drop (2 * suc (length xs)) bytes))
    (wrong-append entry xs ys (drop 2 bytes)
    ∙ ap (λ (l : List ℕ). option_or (first_wrong entry xs (drop 2 bytes)) (first_wrong entry ys l))
    (drop-drop (2 * length xs) 2 bytes ∙ ap (λ (n : ℕ). drop n bytes) (twice (length xs))))
  where
    twice : (n : ℕ) → 2 + 2 * n ≡ 2 * suc n
    twice n = omega arith

if_none : (b : Bool) (s : Spot) (x : Option Spot) → (if b then x else Some s) ≡ None → (b ≡ true) × (x ≡ None)
if_none b s x h = grind (arith, nat_tests)

-- where none differs, the bytes are those of the entries
pub all_right : (entry : Spot → ℤ) (spots : List Spot) (bytes : List ℕ) → first_wrong entry spots bytes ≡ None
    → length bytes ≡ 2 * length spots → bytes ≡ flat_map (λ s. entry_bytes (entry s)) spots
all_right entry [] bytes none long = nil_from_length bytes long
all_right entry (s ∷ spots) bytes none long =
    let both = if_none (bytes_eq (take 2 bytes) (entry_bytes (entry s))) s
    (first_wrong entry spots (drop 2 bytes)) none in
    sym (take-append-drop 2 bytes)
    ∙ ap (λ (l : List ℕ). l ++ drop 2 bytes) ((bytes_eq-Decides (take 2 bytes) (entry_bytes (entry s))).0
    both.0)
    ∙ ap (λ (l : List ℕ). entry_bytes (entry s) ++ l)
    (all_right entry spots (drop 2 bytes) both.1 (length-drop 2 bytes ∙ omega arith))

if_right : (b : Bool) (s : Spot) (x : Option Spot) → b ≡ true → x ≡ None → (if b then x else Some s) ≡ None
if_right b s x h i = grind (arith, nat_tests)

-- and the other way round
pub none_wrong : (entry : Spot → ℤ) (spots : List Spot)
    → first_wrong entry spots (flat_map (λ s. entry_bytes (entry s)) spots) ≡ None
none_wrong entry [] = refl
none_wrong entry (s ∷ spots) =
    if_right (bytes_eq (entry_bytes (entry s)) (entry_bytes (entry s))) s
    (first_wrong entry spots (flat_map (λ t. entry_bytes (entry t)) spots))
    ((bytes_eq-Decides (entry_bytes (entry s)) (entry_bytes (entry s))).1 refl) (none_wrong entry spots)
