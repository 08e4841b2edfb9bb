-- Rounds of walks back: in each, every walk goes one move on or ends.
use Rattle.std.proofs.lemmas.Bool.Decides.{nat_tests}
use Rattle.std.proofs.Common.{◌≡◌, ℕ, zero, suc, ◌+◌, ◌-◌, ◌*◌, ◌<◌, ◌≤◌, inl, inr, arith, Bool, true, false}
use Rattle.std.proofs.Common.{refl, sym, ◌∙◌, ◌||◌, List, [], ◌∷◌, ◌++◌, length, length-append, get_or, drop}
use Rattle.std.proofs.lemmas.List.{append-nil, drop_more}
use Rattle.std.specs.Prelude.{Option, Some, None, if◌then◌else◌}
use Rattle.std.specs.Option.{option_to_list}
use Rattle.std.proofs.lemmas.Bool.{or_from}
use Rattle.grid_moves.specs.declared.Cell.{Cell}
use Rattle.grid_moves.specs.declared.Dir.{Dir}
use Rattle.grid_moves.specs.Grid.{GridData, IsGrid, is_inside}
use Rattle.grid_moves.specs.Move.{ahead, is_same}
use Rattle.grid_moves.proofs.Legal.{is_same-cell}
use Rattle.grid_moves.proofs.Places.{inside_is}
use Rattle.plus_tables.specs.Tables.{TablesData}
use Rattle.table_repair.specs.declared.walks.WalkBack.{WalkBack}
use Rattle.table_repair.specs.Abreast.{AreStanding, is_at_one, no_cell, IsBehindOne, IsOnward, KeepAbreast}
use Rattle.table_repair.specs.Abreast.{back_room, room_of}
use Rattle.table_repair.specs.Mending.{IsRight, Mends, FollowBut, either}
use Rattle.table_repair.specs.Lines.{lines_rise}
use Rattle.table_repair.proofs.Abreast.{abreast_then, at_first, at_others, enter_next, enter_none}
use Rattle.table_repair.proofs.Abreast.{stand_still, step_on, step_behind}
use Rattle.table_repair.proofs.Across.{line_inside, lines_few}
use Rattle.table_repair.proofs.Mends.{right_stays}
use Rattle.pruning.proofs.Running.{ahead_moved}

pub room_both : (h : GridData) (d : Dir) (xs ys : List WalkBack)
    → room_of h d (xs ++ ys) ≡ room_of h d xs + room_of h d ys
unfolding room_of
room_both h d [] ys = omega arith
room_both h d (x ∷ xs) ys = let e = room_both h d xs ys in omega arith

room_behind : (h : GridData) (d : Dir) (u v : Cell) → is_inside h u ≡ true
    → ahead d u ≡ Some v → back_room h d v ≡ back_room h d u + 1
room_behind h d u v i e = grind (arith, inside_is, ahead_moved)

-- a walk that goes on or ends has less room behind it
room_next : (h : GridData) (d : Dir) (v : Cell) (t : TablesData) (on : Option WalkBack)
    → ((next : WalkBack) → on ≡ Some next → IsOnward h t d v next.at)
    → length (option_to_list on) + room_of h d (option_to_list on) ≤ back_room h d v
unfolding room_of
room_next h d v t None j = omega arith
room_next h d v t (Some next) j =
    let k = j next refl in
    let f = room_behind h d next.at v k.inside k.behind in
    omega arith

room_first : (h : GridData) (d : Dir) (v : WalkBack) (rest : List WalkBack)
    → room_of h d (v ∷ rest) ≡ back_room h d v.at + room_of h d rest
unfolding room_of
room_first h d v rest = refl

pub room_few : (h : GridData) (d : Dir) (walks : List WalkBack) → IsGrid h
    → ((w : Cell) → is_at_one walks w ≡ true → is_inside h w ≡ true)
    → room_of h d walks ≤ 4096 * length walks
unfolding room_of
room_few h d [] grid inside = omega arith
room_few h d (v ∷ vs) grid inside =
    let more = room_few h d vs grid (λ w k. inside w (at_others v vs w k)) in
    let there = line_inside h d v.at (inside v.at (at_first v vs)) in
    let one = line_few (lines_rise d) there (lines_few h d grid) in
    omega arith
  where
    line_few : (rise : Bool) {line lines : ℕ} → line < lines → lines ≤ 4096
        → suc (if rise then line else lines - suc line) ≤ 4096
    line_few rise h i = grind (arith, nat_tests)

-- each walk has some room
pub room_some : (h : GridData) (d : Dir) (walks : List WalkBack) → length walks ≤ room_of h d walks
unfolding room_of
room_some h d [] = omega arith
room_some h d (v ∷ vs) = let more = room_some h d vs in omega arith

-- the walks, and what all those so far changed and counted
pub record Queued (h : GridData) (d : Dir) (starts : Cell → Bool) (old now : TablesData)
    (first steps all room : ℕ) (walks : List WalkBack) (n : ℕ) : Type 0 where
  pub abreast : KeepAbreast h d starts old now walks no_cell n
  pub few : n + room_of h d walks ≤ room
  pub counted : steps + length walks ≤ first + n + all
  pub later : first ≤ steps

pub queued_none : {h : GridData} {d : Dir} {t : TablesData} {steps : ℕ} {walks : List WalkBack}
    → AreStanding h t d walks
    → Queued h d (is_at_one walks) t t steps steps (length walks) (room_of h d walks) walks 0
queued_none standing = record {
  abreast = stand_still standing;
  few = omega arith;
  counted = omega arith;
  later = omega arith;
}

-- in a round: the walks from one on wait, and those before went on or ended
pub record Round (h : GridData) (d : Dir) (old now : TablesData) (first steps : ℕ)
    (here onward : List WalkBack)
    (i : ℕ) : Type 0 where
  pub began : AreStanding h old d here
  pub abreast : KeepAbreast h d (is_at_one here) old now onward (is_at_one (drop i here)) (length onward)
  pub room : length onward + room_of h d onward + room_of h d (drop i here) ≤ room_of h d here
  pub counted : steps ≤ first + i
  pub later : first ≤ steps
  pub fewer : length onward ≤ i
  pub within : i ≤ length here
  pub behind : (w : Cell) → is_at_one onward w ≡ true → IsBehindOne d (is_at_one here) w

pub round_begins : {h : GridData} {d : Dir} {t : TablesData} {steps : ℕ} {walks : List WalkBack}
    → AreStanding h t d walks → Round h d t t steps steps walks [] 0
unfolding room_of
round_begins standing = record {
  began = standing;
  abreast = enter_none standing.ready refl;
  room = omega arith;
  counted = omega arith;
  later = omega arith;
  fewer = omega arith;
  within = omega arith;
  behind = λ w k. absurd (cc);
}

-- a walk of a list stands where one does
at_index : (vs : List WalkBack) (i : ℕ) (v : WalkBack) → i < length vs
    → is_at_one vs (get_or vs i v).at ≡ true
at_index [] i v l = absurd (omega arith)
at_index (x ∷ xs) zero v l = at_first x xs
at_index (x ∷ xs) (suc i) v l = at_others x xs (get_or xs i v).at (at_index xs i v (omega arith))

module _ {h : GridData} {d : Dir} {old now : TablesData} {first steps : ℕ} {here onward : List WalkBack}
    {i : ℕ}
    (v : WalkBack) (round : Round h d old now first steps here onward i) (l : i < length here) where
  abbrev its_cell : Cell
  its_cell = (get_or here i v).at

  pub stood : is_at_one here its_cell ≡ true
  stood = at_index here i v l

  pub right_now : IsRight h now its_cell d
  right_now = right_stays round.abreast.mends its_cell d (round.began.inside its_cell stood)
      (round.began.right its_cell stood)

  split : (w : Cell) → is_same w its_cell ≡ false → is_at_one (drop (i + 1) here) w ≡ false
      → is_at_one (drop i here) w ≡ false
  split w s r = rw (drop_more here i v l)
      (or_from (is_same w its_cell) (is_at_one (drop (i + 1) here) w) s r)

  pub round_next : {new : TablesData} {counted : ℕ} {on : Option WalkBack}
      → Mends h d (λ w. is_same w (get_or here i v).at) now new (length (option_to_list on))
      → ((later : Cell → Bool) → FollowBut h now d (λ w. is_same w (get_or here i v).at || later w)
      → FollowBut h new d (either (is_at_one (option_to_list on)) later))
      → ((next : WalkBack) → on ≡ Some next → IsOnward h new d (get_or here i v).at next.at)
      → counted ≤ steps + 1 → steps ≤ counted → {more : List WalkBack} → more ≡ onward ++ option_to_list on
      → Round h d old new first counted here more (i + 1)
  round_next {new = new} {on = on} mends follows onward_is c later {more = more} e = record {
    began = round.began;
    abreast = rw longer (enter_next round.abreast (λ w k. rw (is_same-cell w its_cell k) right_now)
        (λ w k. rw (is_same-cell w its_cell k) stood) split
        (step_on its_cell onward round.abreast.standing mends follows onward_is e refl));
    room = let a = round.room in let b = room_next h d its_cell new on onward_is in let f = room_more in
        let g = room_left_over in let n = longer in omega arith;
    counted = let a = round.counted in omega arith;
    later = let a = round.later in omega arith;
    fewer = let a = longer in let b = one_more on in let c = round.fewer in omega arith;
    within = omega arith;
    behind = λ w a. elim (step_behind its_cell onward round.abreast.standing mends follows onward_is e w a) [
      | inl b ↦ round.behind w b
      | inr b ↦ record { from = its_cell; stood = stood; behind = b }
    ];
  }
    where
      longer : length more ≡ length onward + length (option_to_list on)
      longer = rw e (length-append onward (option_to_list on))

      room_more : room_of h d more ≡ room_of h d onward + room_of h d (option_to_list on)
      room_more = rw e (room_both h d onward (option_to_list on))

      room_left_over : room_of h d (drop i here) ≡ back_room h d its_cell + room_of h d (drop (i + 1) here)
      room_left_over = rw (drop_more here i v l) (room_first h d (get_or here i v) (drop (i + 1) here))

      one_more : (o : Option WalkBack) → length (option_to_list o) ≤ 1
      one_more None = omega arith
      one_more (Some x) = omega arith

pub some_on : {on : Option WalkBack} {next : WalkBack} (xs : List WalkBack) {ys : List WalkBack}
    → on ≡ Some next
    → ys ≡ xs ++ next ∷ []
    → ys ≡ xs ++ option_to_list on
some_on xs e f = rw e f

pub none_on : {on : Option WalkBack} {xs ys : List WalkBack} → on ≡ None → ys ≡ xs
    → ys ≡ xs ++ option_to_list on
none_on {xs = xs} e f = rw e (f ∙ sym (append-nil xs))

-- one round more, of all walks that stand
pub rounds_more : {h : GridData} {d : Dir} {starts : Cell → Bool} {old now new : TablesData}
    {first steps counted all room : ℕ} {walks onward : List WalkBack} {n : ℕ}
    → Queued h d starts old now first steps all room walks n
    → KeepAbreast h d (is_at_one walks) now new onward no_cell (length onward)
    → length onward + room_of h d onward ≤ room_of h d walks → counted ≤ steps + length walks
    → steps ≤ counted
    → Queued h d starts old new first counted all room onward (n + length onward)
rounds_more {counted = counted} {walks = walks} queued abreast less c later =
    record {
      abreast = abreast_then queued.abreast queued.abreast.mended (λ w k l. false_of (is_at_one walks w) k)
          abreast;
      few = let few = queued.few in omega arith;
      counted = let counted = queued.counted in omega arith;
      later = let a = queued.later in omega arith;
    }
  where
    false_of : (b : Bool) → b ≡ false → (b || false) ≡ false
    false_of b k = grind arith

room_nil : (h : GridData) (d : Dir) → room_of h d [] ≡ 0
unfolding room_of
room_nil h d = refl

-- a round with a walk in it leaves less room
pub room_left : (h : GridData) (d : Dir) (walks onward : List WalkBack) → 0 < length walks
    → length onward + room_of h d onward ≤ room_of h d walks → room_of h d onward < room_of h d walks
room_left h d walks [] some less = grind (arith, room_nil, room_some)
room_left h d walks (v ∷ vs) some less = omega arith
