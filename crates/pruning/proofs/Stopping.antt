-- Marks, stops and first stops are what their tests compute.
use Rattle.std.proofs.Common.{◌≡◌, inl, inr, Bool, true, refl, ◌&&◌, ◌||◌}
use Rattle.std.proofs.lemmas.Bool.{or_right, or_cases}
use Rattle.grid_moves.specs.declared.Cell.{Cell}
use Rattle.grid_moves.specs.declared.Dir.{Dir}
use Rattle.grid_moves.specs.Grid.{GridData}
use Rattle.grid_moves.specs.Move.{is_same}
use Rattle.grid_moves.proofs.Legal.{and_both, is_same-cell, is_same-itself}
use Rattle.pruning.specs.declared.turns.Side.{Side}
use Rattle.pruning.specs.declared.turns.Side.TheVariants.{Right, Left}
use Rattle.pruning.specs.Turns.{turn, is_diagonal}
use Rattle.pruning.specs.Marked.{is_forced, HoldsOnRun, IsMarked, forces, looks_out}
use Rattle.pruning.specs.Stop.{IsStop, at_goal, marked, sees_goal, StopsAfter, MarkedAfter}
use Rattle.pruning.specs.First.{holds_on_run, is_marked, is_stop, first_stop, first_mark}
use Rattle.pruning.specs.Laws.{MarksAreDecided, StopsAreDecided, FirstStopIsFirst, OneFirstStop}
use Rattle.pruning.specs.Laws.{FirstMarkIsFirst, OneFirstMark}
use Rattle.pruning.proofs.Firsts.{FindsLeast-once, FindsLeast-same, HoldsAfter, first_on_run-finds}
use Rattle.pruning.proofs.Firsts.{on_run-sound, on_run-complete}

module _ (g : GridData) (d : Dir) (v : Cell) (test : Side → Cell → Bool) where
  -- d is diagonal, and the test of a component holds on the run in it
  record Sees : Type 0 where
    pub diagonal : is_diagonal d ≡ true
    pub side : Side
    pub run : HoldsOnRun g (turn side d) v (λ u. test side u ≡ true)

  abbrev sees : Bool
  sees = is_diagonal d
      && (holds_on_run g (turn Right d) (test Right) v || holds_on_run g (turn Left d) (test Left) v)

  sees-sound : sees ≡ true → Sees
  sees-sound h =
      let both = and_both (is_diagonal d) _ h in
      elim (or_cases (holds_on_run g (turn Right d) (test Right) v) _ both.1) [
        | inl r ↦ record
            { diagonal = both.0; side = Right; run = on_run-sound g (turn Right d) (test Right) v r }
        | inr r ↦ record
            { diagonal = both.0; side = Left; run = on_run-sound g (turn Left d) (test Left) v r }
      ]

  sees-complete : is_diagonal d ≡ true → (s : Side) → HoldsOnRun g (turn s d) v (λ u. test s u ≡ true)
      → sees ≡ true
  sees-complete h Right r = rw (h, on_run-complete g (turn Right d) (test Right) v r) refl
  sees-complete h Left r =
      rw h (or_right _ _ (on_run-complete g (turn Left d) (test Left) v r))

-- what a component's run is looked through for
abbrev is_forced_beside : GridData → Dir → Side → Cell → Bool
is_forced_beside g d s u = is_forced g u (turn s d)

abbrev is_goal : Cell → Side → Cell → Bool
is_goal goal s u = is_same u goal

pub marks_are_decided : MarksAreDecided
marks_are_decided g x d = record { sound = sound; complete = complete }
  where
    sound : is_marked g x d ≡ true → IsMarked g x d
    sound h = elim (or_cases (is_forced g x d) _ h) [
      | inl f ↦ forces f
      | inr l ↦ let r = sees-sound g d x (is_forced_beside g d) l in looks_out r.diagonal r.side r.run
    ]

    complete : IsMarked g x d → is_marked g x d ≡ true
    complete (forces f) = rw f refl
    complete (looks_out h s r) = or_right _ _ (sees-complete g d x (is_forced_beside g d) h s r)

pub stops_are_decided : StopsAreDecided
stops_are_decided g goal d v = record { sound = sound; complete = complete }
  where
    sound : is_stop g goal d v ≡ true → IsStop g goal d v
    sound h = elim (or_cases (is_same v goal || is_marked g v d) _ h) [
      | inl l ↦ elim (or_cases (is_same v goal) _ l) [
        | inl e ↦ at_goal (is_same-cell v goal e)
        | inr m ↦ marked ((marks_are_decided g v d).sound m)
      ]
      | inr k ↦ let r = sees-sound g d v (is_goal goal) k in sees_goal r.diagonal r.side (record {
        moves = r.run.moves;
        some = r.run.some;
        cell = r.run.cell;
        reached = r.run.reached;
        holds = is_same-cell r.run.cell goal r.run.holds;
      })
    ]

    complete : IsStop g goal d v → is_stop g goal d v ≡ true
    complete (at_goal e) = let k : is_same v goal ≡ true = rw e (is_same-itself goal) in rw k refl
    complete (marked m) =
        rw (or_right (is_same v goal) (is_marked g v d) ((marks_are_decided g v d).complete m)) refl
    complete (sees_goal h s r) = or_right (is_same v goal || is_marked g v d) _
        (sees-complete g d v (is_goal goal) h s (record {
          moves = r.moves;
          some = r.some;
          cell = r.cell;
          reached = r.reached;
          holds = rw r.holds (is_same-itself goal);
        }))

pub first_stop_is_first : FirstStopIsFirst
first_stop_is_first g goal x d =
    FindsLeast-same (HoldsAfter g d (is_stop g goal d) x) (StopsAfter g goal x d) 1
    (λ k h. record {
      cell = h.cell;
      reached = h.reached;
      stops = (stops_are_decided g goal d h.cell).sound h.holds;
    })
    (λ k h. record {
      cell = h.cell;
      reached = h.reached;
      holds = (stops_are_decided g goal d h.cell).complete h.stops;
    })
    (first_stop g goal x d) (first_on_run-finds g d (is_stop g goal d) x)

pub only_one_first_stop : OneFirstStop
only_one_first_stop g goal x d answer h =
    FindsLeast-once (StopsAfter g goal x d) 1 answer (first_stop g goal x d) h
    (first_stop_is_first g goal x d)

pub first_mark_is_first : FirstMarkIsFirst
first_mark_is_first g x d =
    FindsLeast-same (HoldsAfter g d (λ v. is_marked g v d) x) (MarkedAfter g x d) 1
    (λ k h. record {
      cell = h.cell;
      reached = h.reached;
      marks = (marks_are_decided g h.cell d).sound h.holds;
    })
    (λ k h. record {
      cell = h.cell;
      reached = h.reached;
      holds = (marks_are_decided g h.cell d).complete h.marks;
    })
    (first_mark g x d) (first_on_run-finds g d (λ v. is_marked g v d) x)

pub only_one_first_mark : OneFirstMark
only_one_first_mark g x d answer h =
    FindsLeast-once (MarkedAfter g x d) 1 answer (first_mark g x d) h (first_mark_is_first g x d)
