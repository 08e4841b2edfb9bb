-- Jump links: what each says, and that they suit a search on a map.
use Rattle.std.proofs.lemmas.Grind.{common_steps}
use Rattle.std.proofs.Common.{◌≡◌, ℕ, ◌≤◌, refl, ap, sym, ◌∙◌, subst, Bool, true, false, arith}
use Rattle.std.proofs.lemmas.Bool.Decides.{nat_tests}
use Rattle.std.proofs.lemmas.Option.{same_Some}
use Rattle.std.specs.Prelude.{Option, Some, None, option_and_then, if◌then◌else◌, nat_eq}
use Rattle.root2_cost.specs.declared.Cost.{Cost}
use Rattle.root2_cost.proofs.Less.{same_cost}
use Rattle.grid_moves.specs.declared.Cell.{Cell}
use Rattle.grid_moves.specs.declared.Dir.{Dir}
use Rattle.grid_moves.specs.declared.Dir.TheVariants.{N, NE, E, SE, S, SW, W, NW}
use Rattle.grid_moves.specs.Grid.{GridData, is_free}
use Rattle.grid_moves.specs.Move.{is_same}
use Rattle.grid_moves.specs.Points.{estimate}
use Rattle.grid_moves.proofs.Legal.{and_both, free_inside, legal_is, is_same-cell, is_same-itself}
use Rattle.grid_moves.proofs.Dirs.{dir_number-few}
use Rattle.pruning.specs.declared.Arrival.{Arrival}
use Rattle.pruning.specs.Allowed.{is_allowed, come_to}
use Rattle.pruning.specs.Chain.{run_cost}
use Rattle.pruning.specs.First.{first_stop}
use Rattle.pruning.specs.Marked.{run_end}
use Rattle.pruning.specs.Stop.{StopsAfter}
use Rattle.grid_moves.specs.Least.{FindsLeast, IsLeast}
use Rattle.pruning.proofs.Bridging.{leads_from}
use Rattle.pruning.proofs.Running.{AreMoved, run_walked}
use Rattle.pruning.proofs.Stopping.{first_stop_is_first}
use Rattle.best_first.specs.declared.state.Layout.{Layout}
use Rattle.best_first.specs.declared.state.Layout.TheVariants.{ByCell, ByArrival}
use Rattle.best_first.specs.declared.state.State.{State}
use Rattle.best_first.specs.State.{start_at, state_in, arrived_in, is_seen, is_same_state, heading}
use Rattle.best_first.specs.State.{arrival_number}
use Rattle.best_first.proofs.States.{same_state, is_same_state-itself, is_same_state-state}
use Rattle.best_first.specs.Rule.{AreLinks}
use Rattle.search_core.specs.Jumps.{landing, jump_in, jump_link, jump_links}

-- what an option led on to
passed : {A B : Type 0} (o : Option A) (f : A → Option B) (b : B) → option_and_then f o ≡ Some b
    → (a : A) × (o ≡ Some a) × (f a ≡ Some b)
passed None f b h = absurd (cc)
passed (Some a) f b h = (a, refl, h)

-- and what it leads on to
through : {A B : Type 0} (o : Option A) (f : A → Option B) (a : A) (b : Option B) → o ≡ Some a → f a ≡ b
    → option_and_then f o ≡ b
through o f a b e h = ap (λ (q : Option _). option_and_then f q) e ∙ h

chosen : {B : Type 0} (b : Bool) (o : Option B) (x : B) → (if b then o else None) ≡ Some x
    → (b ≡ true) × (o ≡ Some x)
chosen true o x h = (refl, h)
chosen false o x h = absurd (cc)

-- a link is a jump in the direction in which its end is come to
pub record IsLink (g : GridData) (goal : Cell) (u v : State) (c : Cost) : Type 0 where
  pub dir : Dir
  pub arrives : v.arrival ≡ Some dir
  pub allowed : is_allowed g u.cell (come_to u.arrival) dir ≡ true
  pub moves : ℕ
  pub computed : first_stop g goal u.cell dir ≡ Some moves
  pub first : IsLeast (StopsAfter g goal u.cell dir) 1 moves
  pub reached : run_end g dir moves u.cell ≡ Some v.cell
  pub priced : c ≡ run_cost dir moves

pub first_is : (g : GridData) (goal x : Cell) (d : Dir) (k : ℕ) → first_stop g goal x d ≡ Some k
    → IsLeast (StopsAfter g goal x d) 1 k
first_is g goal x d k e = by_answer (first_stop g goal x d) e (first_stop_is_first g goal x d)
  where
    by_answer : (o : Option ℕ) → o ≡ Some k → FindsLeast (StopsAfter g goal x d) 1 o
        → IsLeast (StopsAfter g goal x d) 1 k
    by_answer None e f = absurd (cc)
    by_answer (Some m) e f =
        let same : m ≡ k = same_Some m k e in
        subst (λ (n : ℕ). IsLeast (StopsAfter g goal x d) 1 n) same f

pub link_is : (g : GridData) (goal : Cell) (u v : State) (c : Cost) → jump_link g goal u v ≡ Some c
    → IsLink g goal u v c
link_is g goal u v c h =
    let d = passed v.arrival (jump_in g goal u v.cell) c h in
    let a = chosen (is_allowed g u.cell (come_to u.arrival) d.0)
    (option_and_then (landing g u.cell v.cell d.0) (first_stop g goal u.cell d.0)) c d.2 in
    let k = passed (first_stop g goal u.cell d.0) (landing g u.cell v.cell d.0) c a.1 in
    let w = passed (run_end g d.0 k.0 u.cell)
    (λ w. if is_same w v.cell then Some (run_cost d.0 k.0) else None) c k.2 in
    let s = chosen (is_same w.0 v.cell) (Some (run_cost d.0 k.0)) c w.2 in
    record {
      dir = d.0;
      arrives = d.1;
      allowed = a.0;
      moves = k.0;
      computed = k.1;
      first = first_is g goal u.cell d.0 k.0 k.1;
      reached = w.1 ∙ ap (λ (x : Cell). Some x) (is_same-cell w.0 v.cell s.0);
      priced = same_Some c (run_cost d.0 k.0) (sym s.1);
    }

-- and each jump is a link
pub jump_is_link : (g : GridData) (goal : Cell) (u v : State) (d : Dir) (k : ℕ) → v.arrival ≡ Some d
    → is_allowed g u.cell (come_to u.arrival) d ≡ true → first_stop g goal u.cell d ≡ Some k
    → run_end g d k u.cell ≡ Some v.cell → jump_link g goal u v ≡ Some (run_cost d k)
jump_is_link g goal u v d k e a f r = grind (arith, nat_tests, common_steps, through, is_same-itself)

-- an allowed direction leads on from a free cell
pub allowed_free_at : (g : GridData) (x : Cell) (by : Arrival) (d : Dir) → is_allowed g x by d ≡ true
    → is_free g x ≡ true
allowed_free_at g x by d a = grind (arith, nat_tests, common_steps, and_both, leads_from, legal_is)

pub allowed_free : (g : GridData) (u : State) (d : Dir) → is_allowed g u.cell (come_to u.arrival) d ≡ true
    → is_free g u.cell ≡ true
allowed_free g u d a = allowed_free_at g u.cell (come_to u.arrival) d a

-- the moves of a run cost the octile distance of its ends
pub moved_cost : (d : Dir) (k : ℕ) (u v : Cell) → AreMoved d k u v → run_cost d k ≡ estimate u v
moved_cost N k u v m = same_cost _ _ (omega (arith, m.0, m.1)) (omega (arith, m.0, m.1))
moved_cost NE k u v m = same_cost _ _ (omega (arith, m.0, m.1)) (omega (arith, m.0, m.1))
moved_cost E k u v m = same_cost _ _ (omega (arith, m.0, m.1)) (omega (arith, m.0, m.1))
moved_cost SE k u v m = same_cost _ _ (omega (arith, m.0, m.1)) (omega (arith, m.0, m.1))
moved_cost S k u v m = same_cost _ _ (omega (arith, m.0, m.1)) (omega (arith, m.0, m.1))
moved_cost SW k u v m = same_cost _ _ (omega (arith, m.0, m.1)) (omega (arith, m.0, m.1))
moved_cost W k u v m = same_cost _ _ (omega (arith, m.0, m.1)) (omega (arith, m.0, m.1))
moved_cost NW k u v m = same_cost _ _ (omega (arith, m.0, m.1)) (omega (arith, m.0, m.1))

moved_off : (d : Dir) (k : ℕ) (u v : Cell) → 1 ≤ k → AreMoved d k u v → is_same u v ≡ false
moved_off N k u v h m = let p = m.1 in grind (arith, nat_tests)
moved_off NE k u v h m = let p = m.1 in grind (arith, nat_tests)
moved_off E k u v h m = let p = m.0 in grind (arith, nat_tests)
moved_off SE k u v h m = let p = m.1 in grind (arith, nat_tests)
moved_off S k u v h m = let p = m.1 in grind (arith, nat_tests)
moved_off SW k u v h m = let p = m.1 in grind (arith, nat_tests)
moved_off W k u v h m = let p = m.0 in grind (arith, nat_tests)
moved_off NW k u v h m = let p = m.1 in grind (arith, nat_tests)

-- where the moves of a run lead, its direction leads
pub moved_heading : (d : Dir) (k : ℕ) (u v : Cell) → 1 ≤ k → AreMoved d k u v → heading u v ≡ Some d
moved_heading N k u v h m = let p = m.0 in let q = m.1 in grind (arith, nat_tests)
moved_heading NE k u v h m = let p = m.0 in let q = m.1 in grind (arith, nat_tests)
moved_heading E k u v h m = let p = m.0 in let q = m.1 in grind (arith, nat_tests)
moved_heading SE k u v h m = let p = m.0 in let q = m.1 in grind (arith, nat_tests)
moved_heading S k u v h m = let p = m.0 in let q = m.1 in grind (arith, nat_tests)
moved_heading SW k u v h m = let p = m.0 in let q = m.1 in grind (arith, nat_tests)
moved_heading W k u v h m = let p = m.0 in let q = m.1 in grind (arith, nat_tests)
moved_heading NW k u v h m = let p = m.0 in let q = m.1 in grind (arith, nat_tests)

heading_nowhere : (c : Cell) → heading c c ≡ None
heading_nowhere c = grind (arith, nat_tests)

-- a start was come to from itself
pub start_arrived : (layout : Layout) (c : Cell) → arrived_in layout (start_at c) (start_at c) ≡ start_at c
start_arrived ByArrival c = refl
start_arrived ByCell c =
    ap (λ (a : Option Dir). let s : State = record { cell = c; arrival = a } in s) (heading_nowhere c)

-- where a cell has one state, that is the one that is seen
pub seen_start : (v : State) → is_seen ByCell v ≡ true → start_at v.cell ≡ v
seen_start v s = same_state (start_at v.cell) v refl (none v.arrival s)
  where
    none : (o : Option Dir) → nat_eq (arrival_number o) 8 ≡ true → None ≡ o
    none None h = refl
    none (Some e) h = absurd (let small = dir_number-few e in grind (arith, nat_tests))

-- a state that is seen, come to in a direction, is the one that is kept of it
pub kept_of : (layout : Layout) (u v : State) (d : Dir) → is_seen layout v ≡ true
    → (arrived_in layout u v).arrival ≡ Some d
    → state_in layout (record { cell = v.cell; arrival = Some d }) ≡ v
kept_of ByArrival u v d s a = same_state (record { cell = v.cell; arrival = Some d }) v refl (sym a)
kept_of ByCell u v d s a = seen_start v s

-- what is kept is seen
pub kept_seen : (layout : Layout) (s : State) → is_seen layout (state_in layout s) ≡ true
kept_seen ByArrival s = refl
kept_seen ByCell s = refl

-- where a run leads from a state, that is how its end is come to
pub run_arrived_so : (layout : Layout) (u : State) (d : Dir) (k : ℕ) (v : Cell) → 1 ≤ k
    → AreMoved d k u.cell v
    → arrived_in layout u (record { cell = v; arrival = Some d }) ≡ record { cell = v; arrival = Some d }
run_arrived_so ByArrival u d k v h m = refl
run_arrived_so ByCell u d k v h m =
    ap (λ (a : Option Dir). let s : State = record { cell = v; arrival = a } in s)
    (moved_heading d k u.cell v h m)

-- whether it is read from the state or from where it lies
pub kept_arrived : (layout : Layout) (u s : State)
    → arrived_in layout u (state_in layout s) ≡ arrived_in layout u s
kept_arrived ByArrival u s = refl
kept_arrived ByCell u s = refl

-- what stands in a node's place is the state as it was come to
pub shown_kept : (layout : Layout) (p u kept : State) → u ≡ state_in layout kept
    → is_same_state kept (arrived_in layout p kept) ≡ true → arrived_in layout p u ≡ kept
shown_kept layout p u kept e led = ap (λ (s : State). arrived_in layout p s) e ∙ kept_arrived layout p kept
    ∙ sym (is_same_state-state kept (arrived_in layout p kept) led)

-- a link of the search is a jump between states as they were come to
pub record IsStep (layout : Layout) (g : GridData) (goal : Cell) (p u v : State) (c : Cost) : Type 0 where
  pub seen : is_seen layout v ≡ true
  pub jump : IsLink g goal (arrived_in layout p u) (arrived_in layout u v) c

pub step_is : (layout : Layout) (g : GridData) (goal : Cell) (p u v : State) (c : Cost)
    → (jump_links layout g goal).step p u v ≡ Some c → IsStep layout g goal p u v c
step_is layout g goal p u v c h =
    let s = chosen (is_seen layout v)
    (jump_link g goal (arrived_in layout p u) (arrived_in layout u v)) c h in
    record { seen = s.0; jump = link_is g goal (arrived_in layout p u) (arrived_in layout u v) c s.1 }

pub link_step : (layout : Layout) (g : GridData) (goal : Cell) (p u v : State) (c : Cost)
    → is_seen layout v ≡ true → jump_link g goal (arrived_in layout p u) (arrived_in layout u v) ≡ Some c
    → (jump_links layout g goal).step p u v ≡ Some c
link_step layout g goal p u v c s e = rw s e

-- jump links suit a search on the map
pub jumps_are_links : (layout : Layout) (g : GridData) (goal : Cell)
    → AreLinks g.width g.height (jump_links layout g goal)
jumps_are_links layout g goal = record {
  lands = λ p u v c e. let l = (step_is layout g goal p u v c e).jump in
      let r = run_walked g l.dir l.moves u.cell v.cell
      (allowed_free g (arrived_in layout p u) l.dir l.allowed) l.reached in
      free_inside g v.cell r.free;
  moves = λ p u v c e. let l = (step_is layout g goal p u v c e).jump in
      let r = run_walked g l.dir l.moves u.cell v.cell
      (allowed_free g (arrived_in layout p u) l.dir l.allowed) l.reached in
      moved_off l.dir l.moves u.cell v.cell l.first.in_range r.moved;
  starts = λ c. subst (λ (s : State). is_same_state (start_at c) s ≡ true) (sym (start_arrived layout c))
      (is_same_state-itself (start_at c));
  priced = λ p u v c e. let l = (step_is layout g goal p u v c e).jump in
      let r = run_walked g l.dir l.moves u.cell v.cell
      (allowed_free g (arrived_in layout p u) l.dir l.allowed) l.reached in
      l.priced ∙ moved_cost l.dir l.moves u.cell v.cell r.moved;
}
