-- A round in one list: the walks that go on move to its front.
use Rattle.std.proofs.Common.{◌≡◌, ℕ, ◌+◌, ◌<◌, ◌≤◌, arith, Bool, true, refl, sym, ◌∙◌, ◌||◌, List, [], ◌∷◌}
use Rattle.std.proofs.Common.{◌++◌, length, get_or, take, drop}
use Rattle.std.proofs.lemmas.List.{drop_all, drop_more, drop-set-lt, take_more_set, length-set}
use Rattle.std.specs.Prelude.{Option, Some, None, slice_set}
use Rattle.std.specs.Option.{option_to_list}
use Rattle.grid_moves.specs.declared.Cell.{Cell}
use Rattle.grid_moves.specs.declared.Dir.{Dir}
use Rattle.grid_moves.specs.Grid.{GridData, is_inside}
use Rattle.grid_moves.specs.Move.{is_same}
use Rattle.plus_tables.specs.Tables.{TablesData}
use Rattle.table_repair.specs.declared.walks.WalkBack.{WalkBack}
use Rattle.table_repair.specs.Abreast.{AreStanding, is_at_one, IsOnward, LedOn, room_of}
use Rattle.table_repair.specs.Mending.{IsRight, Mends, FollowBut, either}
use Rattle.table_repair.proofs.Rounds.{Round, round_begins, round_next, some_on, none_on, stood, right_now}
use Rattle.table_repair.proofs.Abreast.{left_less, stand_still}

-- the first ones of the list are the walks that went on, and behind the first i it is as it was
pub record InPlace (h : GridData) (d : Dir) (old now : TablesData) (first steps : ℕ)
    (here list : List WalkBack)
    (onward i : ℕ) : Type 0 where
  pub round : Round h d old now first steps here (take onward list) i
  pub rest : drop i list ≡ drop i here
  pub few : onward ≤ i
  pub size : length list ≡ length here

pub place_begins : {h : GridData} {d : Dir} {t : TablesData} {steps : ℕ} {walks : List WalkBack}
    → AreStanding h t d walks → InPlace h d t t steps steps walks walks 0 0
place_begins standing = record {
  round = round_begins standing;
  rest = refl;
  few = omega arith;
  size = refl;
}

-- what follows on equal lists
same_front : (i : ℕ) (xs ys : List WalkBack) (v : WalkBack) → i < length xs → i < length ys
    → drop i xs ≡ drop i ys
    → (get_or xs i v ≡ get_or ys i v) × (drop (i + 1) xs ≡ drop (i + 1) ys)
same_front i xs ys v k l e =
    let both : get_or xs i v ∷ drop (i + 1) xs ≡ get_or ys i v ∷ drop (i + 1) ys =
    sym (drop_more xs i v k) ∙ e ∙ drop_more ys i v l in
    (cc, cc)

module _ {h : GridData} {d : Dir} {old now : TablesData} {first steps : ℕ} {here list shown : List WalkBack}
    {onward i : ℕ} (v : WalkBack) (place : InPlace h d old now first steps here list onward i)
    (same : shown ≡ list) (l : i < length here) where
  within : i < length list
  within = let s = place.size in omega arith

  parts : (get_or shown i v ≡ get_or here i v) × (drop (i + 1) list ≡ drop (i + 1) here)
  parts = rw same (same_front i list here v within l place.rest)

  -- the walk that is led on
  pub its_inside : is_inside h (get_or shown i v).at ≡ true
  its_inside = rw parts.0 (place.round.began.inside (get_or here i v).at (stood v place.round l))

  pub its_right : IsRight h now (get_or shown i v).at d
  its_right = rw parts.0 (right_now v place.round l)

  module _ {new : TablesData} {counted : ℕ} {on : Option WalkBack}
      (mends : Mends h d (λ w. is_same w (get_or shown i v).at) now new (length (option_to_list on)))
      (follows : (later : Cell → Bool) → FollowBut h now d (λ w. is_same w (get_or shown i v).at || later w)
      → FollowBut h new d (either (is_at_one (option_to_list on)) later))
      (is_onward : (next : WalkBack) → on ≡ Some next → IsOnward h new d (get_or shown i v).at next.at)
      (c : counted ≤ steps + 1) (later : steps ≤ counted) where
    next_round : {more : List WalkBack} → more ≡ take onward list ++ option_to_list on
        → Round h d old new first counted here more (i + 1)
    next_round e =
        round_next v place.round l (rw parts.0 at mends) (rw parts.0 at follows)
        (rw parts.0 at is_onward) c later e

    -- the walk goes on: it stands behind those that did so before
    pub place_next : {next : WalkBack} {more : List WalkBack} {further : ℕ} → on ≡ Some next
        → more ≡ slice_set list onward next → further ≡ onward + 1
        → InPlace h d old new first counted here more further (i + 1)
    place_next {next = next} e f g = rw (f, g) (record {
      round = next_round (some_on (take onward list) e
          (take_more_set list onward next (let a = place.few in omega arith)));
      rest = drop-set-lt (i + 1) list onward next (let a = place.few in omega arith) ∙ parts.1;
      few = let a = place.few in omega arith;
      size = length-set list onward next ∙ place.size;
    })

    -- or it ends
    pub place_ends : {more : List WalkBack} {further : ℕ} → on ≡ None → more ≡ list → further ≡ onward
        → InPlace h d old new first counted here more further (i + 1)
    place_ends e f g = rw (f, g) (record {
      round = next_round (none_on e refl);
      rest = parts.1;
      few = let a = place.few in omega arith;
      size = place.size;
    })

-- behind the last place the walks that went on are all that are left
module _ {h : GridData} {d : Dir} {old now : TablesData} {first steps : ℕ} {here list walks : List WalkBack}
    {onward i : ℕ} (place : InPlace h d old now first steps here list onward i) (past : length here ≤ i)
    (e : walks ≡ take onward list) where
  round_done : Round h d old now first steps here walks i
  round_done = rw e place.round

  pub led_on : LedOn h d old now here walks first steps
  led_on = record {
    abreast = left_less round_done.abreast (λ w k. rw (drop_all i here past) refl);
    behind = round_done.behind;
    room = let a = round_done.room in omega arith;
    fewer = let a = round_done.fewer in let b = round_done.within in omega arith;
    steps = let a = round_done.counted in let b = round_done.within in omega arith;
    later = round_done.later;
  }

-- where no walk stands
pub led_none : {h : GridData} {d : Dir} {t : TablesData} {walks : List WalkBack} {steps : ℕ}
    → AreStanding h t d walks → walks ≡ [] → LedOn h d t t walks walks steps steps
unfolding room_of
led_none standing e = rw e (record {
  abreast = stand_still
      (record { ready = standing.ready; inside = λ w k. absurd (cc); right = λ w k. absurd (cc) });
  behind = λ w k. absurd (cc);
  room = omega arith;
  fewer = omega arith;
  steps = omega arith;
  later = omega arith;
})
