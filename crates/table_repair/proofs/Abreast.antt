-- Walks back that keep abreast: one of them goes on or ends, and what they change adds up.
use Rattle.std.proofs.Common.{◌≡◌, ℕ, zero, suc, ◌+◌, ◌≤◌, ◌⊎◌, inl, inr, arith, Bool, true, false, refl, sym}
use Rattle.std.proofs.Common.{◌∙◌, ◌||◌, List, [], ◌∷◌, ◌++◌, length}
use Rattle.std.specs.Prelude.{Option, Some, None, option_and_then}
use Rattle.std.specs.Option.{option_to_list}
use Rattle.std.proofs.lemmas.Bool.{or_parts, or_left, or_right, or_from, or_cases}
use Rattle.grid_moves.specs.declared.Cell.{Cell}
use Rattle.grid_moves.specs.declared.Dir.{Dir}
use Rattle.grid_moves.specs.Grid.{GridData}
use Rattle.grid_moves.specs.Move.{ahead, is_same}
use Rattle.grid_moves.proofs.Legal.{is_same-cell, is_same-itself}
use Rattle.plus_tables.specs.Tables.{TablesData}
use Rattle.table_repair.specs.declared.walks.WalkBack.{WalkBack}
use Rattle.table_repair.specs.Abreast.{AreStanding, is_at_one, no_cell, IsOnward, KeepAbreast}
use Rattle.table_repair.specs.Mending.{IsRight, AreReady, IsMended, Mends, FollowBut, Sweeps, either}
use Rattle.table_repair.specs.Mending.{cell_after}
use Rattle.table_repair.proofs.Lines.{after_before}
use Rattle.table_repair.proofs.Mends.{mends_wider, mends_then, nothing_mended, still_mended, right_stays}
use Rattle.table_repair.proofs.Mends.{ready_stays, follow_more}

-- `||` of three, none of which holds
or_joined : (a b c : Bool) → (a || (b || c)) ≡ false → ((a || b) || c) ≡ false
or_joined true b c h = h
or_joined false b c h = h

or_further : (a b c d : Bool) → d ≡ (b || c) → (a || d) ≡ ((a || b) || c)
or_further true b c d h = refl
or_further false b c d h = h

-- so many moves, and then so many more
pub after_further : (d : Dir) (j k : ℕ) (u v w : Cell) → cell_after d j u ≡ Some v → cell_after d k v ≡ Some w
    → cell_after d (j + k) u ≡ Some w
after_further d zero k u v w e f = grind arith
after_further d (suc j) k u v w e f = by_cell (ahead d u) refl e
    (λ p g. after_further d j k p v w g f)
  where
    by_cell : (o : Option Cell) → ahead d u ≡ o → option_and_then (λ p. cell_after d j p) o ≡ Some v
        → ((p : Cell) → cell_after d j p ≡ Some v → cell_after d (j + k) p ≡ Some w)
        → cell_after d (suc j + k) u ≡ Some w
    by_cell None h i further = absurd (cc)
    by_cell (Some p) h i further =
        let more : suc j + k ≡ suc (j + k) = omega arith in
        rw more (after_before d (j + k) u p w h (further p i))

-- the first walk, and those after it
pub at_first : (v : WalkBack) (vs : List WalkBack) → is_at_one (v ∷ vs) v.at ≡ true
at_first v vs = or_left (is_same v.at v.at) (is_at_one vs v.at) (is_same-itself v.at)

pub at_others : (v : WalkBack) (vs : List WalkBack) (w : Cell) → is_at_one vs w ≡ true
    → is_at_one (v ∷ vs) w ≡ true
at_others v vs w h = or_right (is_same w v.at) (is_at_one vs w) h

pub at_both : (xs ys : List WalkBack) (w : Cell) → is_at_one (xs ++ ys) w ≡ (is_at_one xs w || is_at_one ys w)
at_both [] ys w = refl
at_both (x ∷ xs) ys w =
    or_further (is_same w x.at) (is_at_one xs w) (is_at_one ys w) (is_at_one (xs ++ ys) w) (at_both xs ys w)

pub at_next : (next : WalkBack) (w : Cell) → is_at_one (next ∷ []) w ≡ true → w ≡ next.at
at_next next w a = is_same-cell w next.at (first (is_same w next.at) a)
  where
    first : (a : Bool) → (a || false) ≡ true → a ≡ true
    first true h = refl
    first false h = h

-- what lies behind a cell that was reached lies behind its start
mended_further : {h : GridData} {d : Dir} {starts piece : Cell → Bool} {now new : TablesData} {n m : ℕ}
    → ((w : Cell) → piece w ≡ true → IsMended h now d starts n w) → (u : Cell)
    → IsMended h new d piece m u → IsMended h new d starts (n + m) u
mended_further {d = d} reached u k =
    let first = reached k.start k.starts_there in
    record {
      right = k.right;
      moves = k.moves + first.moves;
      few = let a = k.few in let b = first.few in omega arith;
      start = first.start;
      starts_there = first.starts_there;
      reaches = after_further d k.moves first.moves u k.start first.start k.reaches first.reaches;
    }

-- first what lies behind those cells, and then what lies behind cells that were reached
mends_through : {h : GridData} {d : Dir} {starts piece : Cell → Bool} {old now new : TablesData} {n m : ℕ}
    → Mends h d starts old now n → ((w : Cell) → piece w ≡ true → IsMended h now d starts n w)
    → Mends h d piece now new m → Mends h d starts old new (n + m)
mends_through first reached mends =
    mends_then first mends (λ u k. mended_further reached u k)

-- a cell begins where it stands
pub begins : {h : GridData} {t : TablesData} {d : Dir} {starts : Cell → Bool} {n : ℕ} (w : Cell)
    → IsRight h t w d → starts w ≡ true → IsMended h t d starts n w
begins w right there = record {
  right = right;
  moves = 0;
  few = omega arith;
  start = w;
  starts_there = there;
  reaches = refl;
}

-- before the first move
pub stand_still : {h : GridData} {d : Dir} {t : TablesData} {walks : List WalkBack} → AreStanding h t d walks
    → KeepAbreast h d (is_at_one walks) t t walks no_cell 0
stand_still {h} {d} {t} {walks} standing = record {
  standing = standing;
  mended = λ w k. begins w (standing.right w k) k;
  mends = nothing_mended h d (is_at_one walks) t;
  follows = λ later f. f;
}

-- beside walks that stand one more goes one move on from a cell, or ends
module _ {h : GridData} {d : Dir} (v : Cell) {old new : TablesData} (walks : List WalkBack)
    {on : Option WalkBack}
    (standing : AreStanding h old d walks)
    (mends : Mends h d (λ w. is_same w v) old new (length (option_to_list on)))
    (follows : (later : Cell → Bool) → FollowBut h old d (λ w. is_same w v || later w)
    → FollowBut h new d (either (is_at_one (option_to_list on)) later))
    (onward : (next : WalkBack) → on ≡ Some next → IsOnward h new d v next.at) where
  either_one : (w : Cell) → is_at_one (walks ++ option_to_list on) w ≡ true
      → (is_at_one walks w ≡ true) ⊎ (is_at_one (option_to_list on) w ≡ true)
  either_one w k = or_cases (is_at_one walks w) (is_at_one (option_to_list on) w)
      (sym (at_both walks (option_to_list on) w) ∙ k)

  onward_at : (o : Option WalkBack) → ((next : WalkBack) → o ≡ Some next → IsOnward h new d v next.at)
      → (w : Cell) → is_at_one (option_to_list o) w ≡ true → IsOnward h new d v w
  onward_at None given w a = absurd (cc)
  onward_at (Some next) given w a = rw (at_next next w a) (given next refl)

  some_length : (o : Option WalkBack) → (w : Cell) → is_at_one (option_to_list o) w ≡ true
      → 1 ≤ length (option_to_list o)
  some_length None w a = absurd (cc)
  some_length (Some next) w a = omega arith

  stays_right : (w : Cell) → is_at_one walks w ≡ true → IsRight h new w d
  stays_right w r = right_stays mends w d (standing.inside w r) (standing.right w r)

  stepped : KeepAbreast h d (either (is_at_one walks) (λ w. is_same w v)) old new (walks ++ option_to_list on)
      no_cell (length (option_to_list on))
  stepped = record {
    standing = record {
      ready = ready_stays mends standing.ready;
      inside = λ w k. elim (either_one w k) [
        | inl r ↦ standing.inside w r
        | inr a ↦ (onward_at on onward w a).inside
      ];
      right = λ w k. elim (either_one w k) [
        | inl r ↦ stays_right w r
        | inr a ↦ (onward_at on onward w a).right
      ];
    };
    mended = λ w k. elim (either_one w k) [
      | inl r ↦ begins w (stays_right w r) (or_left (is_at_one walks w) (is_same w v) r)
      | inr a ↦ (let o = onward_at on onward w a in record {
        right = o.right;
        moves = 1;
        few = some_length on w a;
        start = v;
        starts_there = or_right (is_at_one walks v) (is_same v v) (is_same-itself v);
        reaches = after_before d 0 w v v o.behind refl;
      })
    ];
    mends = mends_wider (λ w k. or_right (is_at_one walks w) (is_same w v) k) mends;
    follows = λ later f. follow_more (λ w k. narrower w later k) (follows (either (is_at_one walks) later)
        (follow_more (λ w k. wider (is_at_one walks w) (is_same w v) (later w) k) f));
  }
    where
      wider : (a b c : Bool) → (b || (a || c)) ≡ false → ((a || b) || c) ≡ false
      wider a b c k = grind arith

      regroup : (z a b c : Bool) → z ≡ (a || b) → (z || c) ≡ false → (b || (a || c)) ≡ false
      regroup z a b c e k = grind arith

      narrower : (w : Cell) (later : Cell → Bool)
          → (is_at_one (walks ++ option_to_list on) w || later w) ≡ false
          → (is_at_one (option_to_list on) w || (is_at_one walks w || later w)) ≡ false
      narrower w later k =
          regroup (is_at_one (walks ++ option_to_list on) w) (is_at_one walks w)
          (is_at_one (option_to_list on) w) (later w) (at_both walks (option_to_list on) w) k

  pub step_on : {more : List WalkBack} {m : ℕ} → more ≡ walks ++ option_to_list on
      → length (option_to_list on) ≡ m
      → KeepAbreast h d (either (is_at_one walks) (λ w. is_same w v)) old new more no_cell m
  step_on e f = rw (e, ← f) stepped

  -- where it stands then
  pub step_behind : {more : List WalkBack} → more ≡ walks ++ option_to_list on → (w : Cell)
      → is_at_one more w ≡ true → (is_at_one walks w ≡ true) ⊎ (ahead d w ≡ Some v)
  step_behind e w k = elim (either_one w (rw (← e) k)) [
    | inl i ↦ inl i
    | inr i ↦ inr (onward_at on onward w i).behind
  ]

-- no walk is left
pub abreast_ends : {h : GridData} {d : Dir} {starts : Cell → Bool} {old now : TablesData}
    {walks : List WalkBack} {n : ℕ}
    → KeepAbreast h d starts old now walks no_cell n → walks ≡ [] → Sweeps h d starts old now
abreast_ends {walks = walks} abreast e later f =
    follow_more (λ w k. or_from (is_at_one walks w) (later w) (none w) k) (abreast.follows later f)
  where
    none : (w : Cell) → is_at_one walks w ≡ false
    none w = rw e refl

-- So the changes of two stretches add up: the second begins at cells that the first has reached, or that were
-- left, and what the first left waits for these or is left still.
pub abreast_then : {h : GridData} {d : Dir} {starts : Cell → Bool} {old now new : TablesData}
    {walks onward : List WalkBack} {left piece rest : Cell → Bool} {n m : ℕ}
    → KeepAbreast h d starts old now walks left n
    → ((w : Cell) → piece w ≡ true → IsMended h now d starts n w)
    → ((w : Cell) → piece w ≡ false → rest w ≡ false → (is_at_one walks w || left w) ≡ false)
    → KeepAbreast h d piece now new onward no_cell m → KeepAbreast h d starts old new onward rest (n + m)
abreast_then {walks = walks} {left = left} {piece = piece} {rest = rest} first reached split second = record {
  standing = second.standing;
  mended = λ w k. mended_further reached w (second.mended w k);
  mends = mends_through first.mends reached second.mends;
  follows = λ later f. second.follows (either rest later)
      (follow_more (λ w k. wider w later k) (first.follows later f));
}
  where
    wider : (w : Cell) (later : Cell → Bool) → (piece w || (rest w || later w)) ≡ false
        → (is_at_one walks w || (left w || later w)) ≡ false
    wider w later k =
        let p = or_parts (piece w) (rest w || later w) k in
        let q = or_parts (rest w) (later w) p.1 in
        let r = or_parts (is_at_one walks w) (left w) (split w p.0 q.0) in
        or_from (is_at_one walks w) (left w || later w) r.0 (or_from (left w) (later w) r.1 q.1)

-- a stretch beside which other cells wait
pub abreast_beside : {h : GridData} {d : Dir} {starts : Cell → Bool} (row : Cell → Bool)
    {old now : TablesData}
    {walks : List WalkBack} {n : ℕ} → KeepAbreast h d starts old now walks no_cell n
    → KeepAbreast h d (either starts row) old now walks row n
abreast_beside {starts = starts} row first = record {
  standing = first.standing;
  mended = λ w k. let a = first.mended w k in
      still_mended (λ v j. or_left (starts v) (row v) j) a.right (omega arith) a;
  mends = mends_wider (λ w k. or_left (starts w) (row w) k) first.mends;
  follows = λ later f. first.follows (either row later)
      (follow_more (λ w k. or_joined (starts w) (row w) (later w) k) f);
}

-- of what is left none waits any more
pub left_less : {h : GridData} {d : Dir} {starts left rest : Cell → Bool} {old now : TablesData}
    {walks : List WalkBack} {n : ℕ} → KeepAbreast h d starts old now walks left n
    → ((w : Cell) → rest w ≡ false → left w ≡ false) → KeepAbreast h d starts old now walks rest n
left_less {left = left} {rest = rest} {walks = walks} abreast less = record {
  standing = abreast.standing;
  mended = abreast.mended;
  mends = abreast.mends;
  follows = λ later f. follow_more (λ w k.
      let p = or_parts (is_at_one walks w) (rest w || later w) k in
      let q = or_parts (rest w) (later w) p.1 in
      or_from (is_at_one walks w) (left w || later w) p.0 (or_from (left w) (later w) (less w q.0) q.1))
      (abreast.follows later f);
}

-- walks begin at some of the cells that were left, whose entries are right
pub enter_next : {h : GridData} {d : Dir} {all row left rest : Cell → Bool} {old now new : TablesData}
    {walks onward : List WalkBack} {n m : ℕ} → KeepAbreast h d all old now walks left n
    → ((w : Cell) → row w ≡ true → IsRight h now w d) → ((w : Cell) → row w ≡ true → all w ≡ true)
    → ((w : Cell) → row w ≡ false → rest w ≡ false → left w ≡ false)
    → KeepAbreast h d (either (is_at_one walks) row) now new onward no_cell m
    → KeepAbreast h d all old new onward rest (n + m)
enter_next {h} {d} {all} {row} {left} {rest} {old} {now} {new} {walks} {onward} {n}
    abreast right within split second =
    abreast_then abreast reached apart second
  where
    reached : (w : Cell) → (is_at_one walks w || row w) ≡ true → IsMended h now d all n w
    reached w k = elim (or_cases (is_at_one walks w) (row w) k) [
      | inl i ↦ abreast.mended w i
      | inr i ↦ begins w (right w i) (within w i)
    ]

    apart : (w : Cell) → (is_at_one walks w || row w) ≡ false → rest w ≡ false
        → (is_at_one walks w || left w) ≡ false
    apart w k r =
        let p = or_parts (is_at_one walks w) (row w) k in
        or_from (is_at_one walks w) (left w) p.0 (split w p.1 r)

-- nothing has begun
pub enter_none : {h : GridData} {d : Dir} {all : Cell → Bool} {t : TablesData} {walks : List WalkBack}
    → AreReady h t d → walks ≡ [] → KeepAbreast h d all t t walks all 0
enter_none {h} {d} {all} {t} ready e = rw e (record {
  standing = record { ready = ready; inside = λ w k. absurd (cc); right = λ w k. absurd (cc) };
  mended = λ w k. absurd (cc);
  mends = nothing_mended h d all t;
  follows = λ later f. f;
})

-- nothing is left, and the walks are led on
pub enter_ends : {h : GridData} {d : Dir} {all left : Cell → Bool} {old now new : TablesData}
    {walks onward : List WalkBack} {n m : ℕ} → KeepAbreast h d all old now walks left n
    → ((w : Cell) → left w ≡ false) → KeepAbreast h d (is_at_one walks) now new onward no_cell m
    → KeepAbreast h d all old new onward no_cell (n + m)
enter_ends {left = left} {walks = walks} first none second =
    abreast_then first first.mended (λ w k l. or_from (is_at_one walks w) (left w) k (none w)) second
