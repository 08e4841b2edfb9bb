-- How often a number stands in a list of heaps.
use Rattle.std.proofs.lemmas.Bool.Decides.{nat_tests}
use Rattle.std.proofs.lemmas.Grind.{common_steps}
use Rattle.std.proofs.Common.{◌≡◌, ◌≢◌, ℕ, ◌+◌, ◌<◌, ◌≤◌, Bool, true, false, List, length, Option, Some, None}
use Rattle.std.proofs.Common.{slice_get, cond, refl, sym, ap, arith}
use Rattle.std.proofs.lemmas.Bool.{eq-eqb, ne_eqb}
use Rattle.std.proofs.Common.{zero, suc, [], ◌∷◌, not, map, ◌⊎◌}
use Rattle.std.proofs.lemmas.List.{length-map}
use Rattle.std.proofs.lemmas.Option.{slice_get_past, slice_get_within, slice_get-map, none-some}
use Rattle.open_list.specs.declared.entry.Entry.{Entry}
use Rattle.open_list.specs.Entry.{is_open, with_prev}
use Rattle.open_list.specs.declared.entry.TheConstants.{NONE, CLOSED}
use Rattle.open_list.specs.Heaps.{Heaps, first_id, count_at, one_at, open_count}

get_none_past : {X : Type 0} (xs : List X) (i : ℕ) → slice_get xs i ≡ None → length xs ≤ i
get_none_past [] i missing = omega arith
get_none_past (x ∷ xs) zero missing = absurd (none-some x (sym missing))
get_none_past (x ∷ xs) (suc i) missing = omega (arith, get_none_past xs i missing)

pub one_at_same : (i : ℕ) → one_at i i ≡ 1
unfolding one_at
one_at_same i = ap (λ b. cond b 1 0) (eq-eqb i i refl)

pub one_at_other : (i j : ℕ) → i ≢ j → one_at i j ≡ 0
unfolding one_at
one_at_other i j ne = ap (λ b. cond b 1 0) (ne_eqb i j ne)

pub apart_from_one_at : (i j : ℕ) → one_at i j ≡ 0 → i ≢ j
apart_from_one_at i j none same = grind (arith, one_at_same)

pub open_count_open : (open_at : List Bool) (i : ℕ) → slice_get open_at i ≡ Some true
    → open_count open_at i ≡ 1
unfolding open_count
open_count_open open_at i h = rw h refl

pub open_count_closed : (open_at : List Bool) (i : ℕ) → slice_get open_at i ≡ Some false
    → open_count open_at i ≡ 0
unfolding open_count
open_count_closed open_at i h = rw h refl

pub open_count_past : (open_at : List Bool) (i : ℕ) → length open_at ≤ i → open_count open_at i ≡ 0
unfolding open_count
open_count_past open_at i h = rw (slice_get_past open_at i h) refl

pub open_count-le : (open_at : List Bool) (i : ℕ) → open_count open_at i ≤ 1
unfolding open_count
open_count-le open_at i = grind arith

pub flag_from_count : (open_at : List Bool) (i : ℕ) → 1 ≤ open_count open_at i
    → slice_get open_at i ≡ Some true
flag_from_count open_at i counted =
    grind (arith, nat_tests, common_steps, open_count_past, get_none_past, open_count_closed)

module _ {N : Type 0} where
  -- a link back to a node leaves an entry open
  pub open_with_link : (e : Entry N) (prev : ℕ) → prev < CLOSED → is_open (with_prev prev e) ≡ true
  open_with_link e prev below = ap not (ne_eqb prev CLOSED (λ same. omega arith))

  pub first_counts : (hs : Heaps N) → first_id hs < NONE → 1 ≤ count_at hs (first_id hs)
  first_counts hs h1 = grind (arith, one_at_same)

  pub first_or_none : (hs : Heaps N) → (first_id hs ≡ NONE) ⊎ (1 ≤ count_at hs (first_id hs))
  first_or_none hs = grind (arith, one_at_same)

  -- the first number of a list stands nowhere else
  pub first_apart : (hs : Heaps N) (others : ℕ) → count_at hs (first_id hs) + others ≤ 1
      → (first_id hs ≡ NONE → others ≡ 0) → others ≡ 0
  first_apart hs others h1 h2 = grind (arith, one_at_same)

  module _ (es : List (Entry N)) where
    pub open_from_count : (i : ℕ) (e : Entry N) → slice_get es i ≡ Some e
        → 1 ≤ open_count (map is_open es) i → is_open e ≡ true
    open_from_count i e at most = grind (arith, slice_get-map, open_count_closed)

    pub none_past : (i : ℕ) → length es ≤ i → open_count (map is_open es) i ≡ 0
    none_past i past = open_count_past (map is_open es) i (omega (arith, length-map es is_open))

    pub entry_at : (i : ℕ) → 1 ≤ open_count (map is_open es) i → (e : Entry N) × (slice_get es i ≡ Some e)
    entry_at i counted = go (slice_get es i) refl
      where
        go : (o : Option (Entry N)) → slice_get es i ≡ o → (e : Entry N) × (slice_get es i ≡ Some e)
        go None missing = absurd (omega (arith, counted, none_past i (get_none_past es i missing)))
        go (Some e) found = (e, found)

    pub open_within : (i : ℕ) → 1 ≤ open_count (map is_open es) i → i < length es
    open_within i counted = slice_get_within es i _ (entry_at i counted).1
