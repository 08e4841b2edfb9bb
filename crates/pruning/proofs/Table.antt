-- A test of all directions and sides, by computation.
use Rattle.std.proofs.Common.{◌≡◌, Bool, true, false, ◌&&◌, ◌||◌, refl, inl, inr, ◌⊎◌, arith, not}
use Rattle.std.specs.Prelude.{◌+ℤ◌, if◌then◌else◌}
use Rattle.std.specs.Ordering.{int_eq}
use Rattle.std.proofs.lemmas.Int.{ints}
use Rattle.std.proofs.lemmas.Bool.Decides.{Decides-int_eq, nat_tests}
use Rattle.std.proofs.lemmas.Bool.{or_cases}
use Rattle.grid_moves.specs.declared.Dir.{Dir}
use Rattle.grid_moves.specs.declared.Dir.TheVariants.{N, NE, E, SE, S, SW, W, NW}
use Rattle.grid_moves.specs.Move.{is_dir, opposite}
use Rattle.grid_moves.proofs.Dirs.{one_dir}
use Rattle.grid_moves.proofs.Legal.{and_both}
use Rattle.pruning.specs.Turns.{turn, quarter, rear, is_diagonal}
use Rattle.pruning.specs.declared.turns.Side.{Side}
use Rattle.pruning.specs.declared.turns.Side.TheVariants.{Right, Left}
use Rattle.pruning.proofs.Places.{Place, move, columns, rows}

abbrev pub each_dir : (Dir → Bool) → Bool
each_dir test = test N && test NE && test E && test SE && test S && test SW && test W && test NW

abbrev pub each_side : (Side → Bool) → Bool
each_side test = test Right && test Left

pub at_dir : (test : Dir → Bool) → each_dir test ≡ true → (d : Dir) → test d ≡ true
at_dir test h N = grind arith
at_dir test h NE = grind arith
at_dir test h E = grind arith
at_dir test h SE = grind arith
at_dir test h S = grind arith
at_dir test h SW = grind arith
at_dir test h W = grind arith
at_dir test h NW = grind arith

pub at_side : (test : Side → Bool) → each_side test ≡ true → (s : Side) → test s ≡ true
at_side test h Right = grind arith
at_side test h Left = grind arith

pub at_both : (test : Side → Dir → Bool) → each_side (λ s. each_dir (test s)) ≡ true
    → (s : Side) (d : Dir) → test s d ≡ true
at_both test h s d = at_dir (test s) (at_side (λ s. each_dir (test s)) h s) d

-- d and e together are f
abbrev pub adds : Dir → Dir → Dir → Bool
adds d e f = int_eq (columns d +ℤ columns e) (columns f) && int_eq (rows d +ℤ rows e) (rows f)

pub one_true : (a b : Bool) → (a || b) ≡ true → a ≡ false → b ≡ true
one_true a b h e = grind arith

pub same_place : (p q : Place) → p.x ≡ q.x → p.y ≡ q.y → p ≡ q
same_place p q e f = grind (arith, nat_tests)

pub moved : (d e f : Dir) (p : Place) → adds d e f ≡ true → move e (move d p) ≡ move f p
moved d e f p h =
    let both =
    and_both (int_eq (columns d +ℤ columns e) (columns f)) (int_eq (rows d +ℤ rows e) (rows f)) h in
    let cs : columns d +ℤ columns e ≡ columns f = (Decides-int_eq _ _).0 both.0 in
    let rs : rows d +ℤ rows e ≡ rows f = (Decides-int_eq _ _).0 both.1 in
    same_place _ _ (omega (arith, ints)) (omega (arith, ints))

pub moved_both : (d e : Dir) (p : Place) → move e (move d p) ≡ move d (move e p)
moved_both d e p = same_place _ _ (omega (arith, ints)) (omega (arith, ints))

-- after a straight move, a move back to a side is one to that side, and one to a side is one between
pub straight_back : (s : Side) (d : Dir) (p : Place) → is_diagonal d ≡ false
    → move (rear s d) (move d p) ≡ move (quarter s d) p
straight_back s d p h = grind (arith, nat_tests, moved, one_true, at_both)

pub straight_side : (s : Side) (d : Dir) (p : Place) → is_diagonal d ≡ false
    → move (quarter s d) (move d p) ≡ move (turn s d) p
straight_side s d p h = grind (arith, nat_tests, moved, one_true, at_both)

-- after a diagonal move, a straight move back to a side is the one component
pub diagonal_back : (s : Side) (d : Dir) (p : Place) → is_diagonal d ≡ true
    → move (rear s d) (move d p) ≡ move (turn s d) p
diagonal_back s d p h = grind (arith, nat_tests, moved, one_true, at_both)

-- after a diagonal move, a quarter to a side is twice the component
abbrev pub doubles : Dir → Dir → Dir → Bool
doubles d e f =
    int_eq (columns d +ℤ columns e) (columns f +ℤ columns f) && int_eq (rows d +ℤ rows e) (rows f +ℤ rows f)

pub diagonal_side : (s : Side) (d : Dir) (p : Place) → is_diagonal d ≡ true
    → move (quarter s d) (move d p) ≡ move (turn s d) (move (turn s d) p)
diagonal_side s d p h = grind (arith, nat_tests, and_both, columns, rows, one_true, at_both, same_place)

pub reversal : (d : Dir) (p : Place) → move (opposite d) (move d p) ≡ p
reversal d p = grind (arith, nat_tests, and_both, columns, rows, at_dir, same_place)

-- e is d turned by so many eighths
pub data Turned (d : Dir) : Dir → Type 0 where
  ahead : Turned d d
  eighth : (s : Side) → Turned d (turn s d)
  side : (s : Side) → Turned d (quarter s d)
  back : (s : Side) → Turned d (rear s d)
  about : Turned d (opposite d)

pub same_dir : (e f : Dir) → is_dir e f ≡ true → e ≡ f
same_dir e f h = grind (arith, nat_tests, one_dir)

abbrev is_some_turn : Dir → Dir → Bool
is_some_turn d e = is_dir e d || is_dir e (turn Right d) || is_dir e (turn Left d) || is_dir e
    (quarter Right d) || is_dir e (quarter Left d) || is_dir e (turn Right (quarter Right d)) || is_dir e
    (turn Left (quarter Left d)) || is_dir e (opposite d)

each_pair : each_dir (λ d. each_dir (is_some_turn d)) ≡ true
each_pair = refl

pub turned : (d e : Dir) → Turned d e
turned d e = elim (split _ _ all) [
  | inl h ↦ elim (split _ _ h) [
    | inl h ↦ elim (split _ _ h) [
      | inl h ↦ elim (split _ _ h) [
        | inl h ↦ elim (split _ _ h) [
          | inl h ↦ elim (split _ _ h) [
            | inl h ↦ elim (split _ _ h) [
              | inl h ↦ as_that d ahead h
              | inr h ↦ as_that _ (eighth Right) h
            ]
            | inr h ↦ as_that _ (eighth Left) h
          ]
          | inr h ↦ as_that _ (side Right) h
        ]
        | inr h ↦ as_that _ (side Left) h
      ]
      | inr h ↦ as_that _ (back Right) h
    ]
    | inr h ↦ as_that _ (back Left) h
  ]
  | inr h ↦ as_that _ about h
]
  where
    split : (a b : Bool) → (a || b) ≡ true → (a ≡ true) ⊎ (b ≡ true)
    split = or_cases

    all : is_some_turn d e ≡ true
    all = at_dir (is_some_turn d) (at_dir (λ d. each_dir (is_some_turn d)) each_pair d) e

    as_that : (f : Dir) → Turned d f → is_dir e f ≡ true → Turned d e
    as_that f t h = grind (arith, nat_tests, same_dir)

-- what two tests agree on
abbrev pub same_bool : Bool → Bool → Bool
same_bool a b = if a then b else not b

pub same_bool-is : (a b : Bool) → same_bool a b ≡ true → a ≡ b
same_bool-is true true h = refl
same_bool-is true false h = absurd (cc)
same_bool-is false true h = absurd (cc)
same_bool-is false false h = refl

-- diagonal and straight directions alternate
pub turn_parity : (s : Side) (d : Dir) → is_diagonal (turn s d) ≡ not (is_diagonal d)
turn_parity s d = grind (arith, nat_tests, same_bool-is, at_both)

pub quarter_parity : (s : Side) (d : Dir) → is_diagonal (quarter s d) ≡ is_diagonal d
quarter_parity s d = grind (arith, nat_tests, same_bool-is, at_both)

-- the other side
abbrev pub other : Side → Side
other Right = Left
other Left = Right

-- to one side and then to the other
pub turn_back : (s : Side) (d : Dir) → turn (other s) (turn s d) ≡ d
turn_back s d = same_dir _ _ (at_both (λ s d. is_dir (turn (other s) (turn s d)) d) refl s d)

pub by_parity : {P : Type 0} (d : Dir) → (is_diagonal d ≡ true → P) → (is_diagonal d ≡ false → P) → P
by_parity {P} d f g = grind (arith, nat_tests)

pub by_test : {P : Type 0} (b : Bool) → (b ≡ true → P) → (b ≡ false → P) → P
by_test true f g = f refl
by_test false f g = g refl
