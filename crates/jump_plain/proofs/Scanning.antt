-- A scan from cell to cell: what it has still to find.
use Rattle.std.proofs.lemmas.Bool.Decides.{nat_tests}
use Rattle.std.proofs.lemmas.Grind.{common_steps}
use Rattle.std.proofs.Common.{◌≡◌, ℕ, ◌+◌, ◌-◌, ◌≤◌, arith, Bool, true, false, refl, ap, sym, ◌∙◌, ◌&&◌}
use Rattle.std.specs.Prelude.{Option, Some, None, is_some, if◌then◌else◌}
use Rattle.grid_moves.specs.declared.Cell.{Cell}
use Rattle.grid_moves.specs.declared.Corner.{Corner}
use Rattle.grid_moves.specs.declared.Dir.{Dir}
use Rattle.grid_moves.specs.Grid.{GridData, is_free}
use Rattle.grid_moves.specs.Move.{legal_ahead, is_open, may_cut, may_slip}
use Rattle.grid_moves.proofs.Legal.{by_cut, passable-uncut}
use Rattle.std.proofs.lemmas.Bool.{cond-true, cond-false}
use Rattle.pruning.specs.Turns.{is_diagonal}
use Rattle.pruning.specs.Marked.{is_forced}
use Rattle.pruning.proofs.Bridging.{Leads, legal_leads}
use Rattle.pruning.proofs.Moves.{can_move-straight}
use Rattle.jump_plain.specs.declared.beside.Sides.{Sides}
use Rattle.jump_plain.specs.declared.scan.Reach.{Reach}
use Rattle.jump_plain.specs.Beside.{sides_of, sides_ahead, opens}
use Rattle.jump_plain.specs.Reach.{reach_of, reach_at, further, left_at, mark_ahead, first_sides, free_bits}
use Rattle.jump_plain.specs.Reach.{shut_bits}
use Rattle.jump_plain.proofs.Forcing.{is_forced-there, is_forced-here, is_forced-end}
use Rattle.jump_plain.proofs.Reaching.{reach-next, reach-none}

pub mark_ahead-near : (r : Corner) → mark_ahead r ≤ 1
mark_ahead-near r = by_cut r (λ e. rw e (omega arith)) (λ e. rw e (omega arith))

abbrev marked_here : Reach
marked_here = record { moves = 0; marked = true }

-- so many moves on, with a mark
abbrev ended_at : ℕ → Reach
ended_at moves = record { moves = moves; marked = true }

-- no move on, with a mark or none
abbrev pub ended : Bool → Reach
ended marked = record { moves = 0; marked = marked }

module _ (g : GridData) (u : Cell) (d : Dir) (h : is_diagonal d ≡ false) where
  -- a cell with and without a mark of its own
  at_mark : (v : Cell) → is_forced g v d ≡ true → reach_at g v d ≡ marked_here
  at_mark v f = rw f refl

  no_mark : (v : Cell) → is_forced g v d ≡ false → reach_at g v d ≡ reach_of g v d
  no_mark v f = rw f refl

  -- what is left, by the rule
  left_uncut : (v : Cell) → may_cut g.corner ≡ false → left_at g.corner g v d ≡ reach_of g v d
  left_uncut v e = cond-false (may_cut g.corner) (reach_at g v d) (reach_of g v d) e

  left_cut : (v : Cell) → may_cut g.corner ≡ true → left_at g.corner g v d ≡ reach_at g v d
  left_cut v e = cond-true (may_cut g.corner) (reach_at g v d) (reach_of g v d) e

  shows : (b : Bool) → may_cut g.corner ≡ b → ended_at (if b then 0 else 1)
      ≡ record { moves = mark_ahead g.corner; marked = true }
  shows b e = ap (λ (t : Bool). ended_at (if t then 0 else 1)) (sym e)

  -- the run ends here
  pub left_at-none : is_free g u ≡ true → is_open g u d ≡ false → legal_ahead g u d ≡ None
      → left_at g.corner g u d
      ≡ ended (may_slip g.corner && opens (sides_of g u d) (sides_ahead g u d))
  left_at-none f o k = by_cut g.corner
      (λ e. left_uncut u e ∙ reach-none g u d k
      ∙ ap ended (nothing _ _ (passable-uncut g.corner e false false)))
      (λ e. left_cut u e ∙ by_mark (is_forced g u d) refl ∙ ap ended (is_forced-end g u d f e h o))
    where
      nothing : (s o : Bool) → s ≡ false → false ≡ (s && o)
      nothing s o e = rw e refl

      by_mark : (b : Bool) → is_forced g u d ≡ b → reach_at g u d ≡ ended (is_forced g u d)
      by_mark true m = at_mark u m ∙ ap ended (sym m)
      by_mark false m = no_mark u m ∙ reach-none g u d k ∙ ap ended (sym m)

  module _ (v : Cell) (l : Leads g u v d) (k : legal_ahead g u d ≡ Some v) where
    -- a mark shows
    pub left_at-opens : opens (sides_of g u d) (sides_of g v d) ≡ true
        → left_at g.corner g u d ≡ record { moves = mark_ahead g.corner; marked = true }
    left_at-opens o = by_cut g.corner
        (λ e. left_uncut u e ∙ reach-next g u v d k
        ∙ ap (λ (r : Reach). further 1 r) (at_mark v (is_forced-there g u v d l e h ∙ o)) ∙ shows false e)
        (λ e. left_cut u e ∙ at_mark u (is_forced-here g u v d l e h ∙ o) ∙ shows true e)

    -- none does, and it goes on
    pub left_at-next : opens (sides_of g u d) (sides_of g v d) ≡ false
        → left_at g.corner g u d ≡ further 1 (left_at g.corner g v d)
    left_at-next o = by_cut g.corner
        (λ e. left_uncut u e ∙ reach-next g u v d k
        ∙ ap (λ (r : Reach). further 1 r) (no_mark v (is_forced-there g u v d l e h ∙ o)
        ∙ sym (left_uncut v e)))
        (λ e. left_cut u e ∙ no_mark u (is_forced-here g u v d l e h ∙ o) ∙ reach-next g u v d k
        ∙ ap (λ (r : Reach). further 1 r) (sym (left_cut v e)))

-- where no straight move is legal the cell ahead is not open
pub shut_ahead : (g : GridData) (u : Cell) (d : Dir) → is_free g u ≡ true → is_diagonal d ≡ false
    → legal_ahead g u d ≡ None → is_open g u d ≡ false
shut_ahead g u d f h e = sym (can_move-straight g u d f h) ∙ ap (λ (o : Option Cell). is_some o) e

-- what a scan at u with these sides has still to find
abbrev left_over : Corner → Sides → GridData → Cell → Dir → Option Cell → Reach
left_over r sides g u d None = ended (may_slip r && opens sides (sides_ahead g u d))
left_over r sides g u d (Some v) =
    if opens sides (sides_of g v d) then record { moves = mark_ahead r; marked = true }
    else further 1 (left_at r g v d)

abbrev pub left_with : Corner → Sides → GridData → Cell → Dir → Reach
left_with r sides g u d = left_over r sides g u d (legal_ahead g u d)

module _ (g : GridData) (u : Cell) (d : Dir) (h : is_diagonal d ≡ false) where
  -- with its own sides: what is left there
  left_at-with : is_free g u ≡ true → left_at g.corner g u d ≡ left_with g.corner (sides_of g u d) g u d
  left_at-with f = by_cell (legal_ahead g u d) refl
    where
      by_test : (v : Cell) (b : Bool) → legal_ahead g u d ≡ Some v
          → opens (sides_of g u d) (sides_of g v d) ≡ b
          → left_at g.corner g u d
          ≡ (if b then record { moves = mark_ahead g.corner; marked = true }
          else further 1 (left_at g.corner g v d))
      by_test v true k o = left_at-opens g u d h v (legal_leads g u v d k) k o
      by_test v false k o = left_at-next g u d h v (legal_leads g u v d k) k o

      by_cell : (o : Option Cell) → legal_ahead g u d ≡ o
          → left_at g.corner g u d ≡ left_over g.corner (sides_of g u d) g u d o
      by_cell None k = left_at-none g u d h f (shut_ahead g u d f h k) k
      by_cell (Some v) k = by_test v (opens (sides_of g u d) (sides_of g v d)) k refl

  -- with those of a beginning: the reach
  reach_of-with : is_free g u ≡ true
      → reach_of g u d ≡ left_with g.corner (first_sides g.corner g u d) g u d
  reach_of-with f = by_cut g.corner
      (λ e. sym (left_uncut g u d h u e) ∙ left_at-with f
      ∙ ap (λ (s : Sides). left_with g.corner s g u d) (sym (begins false e)))
      (λ e. by_cell e (legal_ahead g u d) refl
      ∙ ap (λ (s : Sides). left_with g.corner s g u d) (sym (begins true e)))
    where
      both_free : Sides
      both_free = record { right = true; left = true }

      begins : (b : Bool) → may_cut g.corner ≡ b
          → first_sides g.corner g u d ≡ (if b then both_free else sides_of g u d)
      begins b e = ap (λ (t : Bool). if t then both_free else sides_of g u d) e

      nothing : (s : Bool) → false ≡ (s && false)
      nothing s = grind arith

      by_cell : may_cut g.corner ≡ true → (o : Option Cell) → legal_ahead g u d ≡ o
          → reach_of g u d ≡ left_over g.corner both_free g u d o
      by_cell h1 o h2 = grind (arith, nat_tests, common_steps, reach-none, nothing, reach-next, left_cut)

-- what a scan begins with
pub reach_begun : (g : GridData) (x : Cell) (d : Dir) → is_diagonal d ≡ false → is_free g x ≡ true
    → (sides : Sides) → sides ≡ first_sides g.corner g x d
    → reach_of g x d ≡ further 0 (left_with g.corner sides g x d)
reach_begun g x d h f sides is = grind (arith, nat_tests, common_steps, reach_of-with)

-- what a scan has found, after so many moves
module _ (g : GridData) (u : Cell) (d : Dir) (h : is_diagonal d ≡ false) (sides : Sides) (moves : ℕ)
    (all : Reach) (so_far : all ≡ further moves (left_with g.corner sides g u d)) where
  pub reached_end : legal_ahead g u d ≡ None → (marked : Bool)
      → marked ≡ (may_slip g.corner && opens sides (sides_ahead g u d))
      → record { moves = moves; marked = marked } ≡ all
  reached_end e marked is = grind (arith, nat_tests, common_steps)

  module _ (v : Cell) (legal : legal_ahead g u d ≡ Some v) (sides_then : Sides)
      (is : sides_then ≡ sides_of g v d) (read : Bool) (given : read ≡ opens sides sides_then) where
    after_test : (b : Bool) → read ≡ b → all ≡ further moves (if b
        then record { moves = mark_ahead g.corner; marked = true }
        else further 1 (left_at g.corner g v d))
    after_test b e = grind (arith, nat_tests, common_steps)

    pub reached_mark : (ahead : ℕ) → ahead ≡ mark_ahead g.corner → read ≡ true
        → record { moves = moves + ahead; marked = true } ≡ all
    reached_mark ahead f e = grind (arith, nat_tests, common_steps, after_test)

    pub reached_next : is_free g v ≡ true → read ≡ false
        → all ≡ further (moves + 1) (left_with g.corner sides_then g v d)
    reached_next f e = grind (arith, nat_tests, common_steps, after_test, left_at-with)

-- a scan keeps sides by bits: what it has found, after so many moves, where these are shut
pub record HasSides (g : GridData) (u : Cell) (d : Dir) (shut moves : ℕ) (all : Reach) : Type 0 where
  pub sides : Sides
  pub are : shut ≡ shut_bits sides
  pub left : all ≡ further moves (left_with g.corner sides g u d)

pub sides_shut : (s : Sides) (free shut : ℕ) → free ≡ free_bits s → shut ≡ 255 - free → shut ≡ shut_bits s
sides_shut s free shut e f = f ∙ ap (λ (n : ℕ). 255 - n) e

-- what it begins with
pub sides_begun : (g : GridData) (x : Cell) (d : Dir) → is_diagonal d ≡ false → is_free g x ≡ true
    → (sides : Sides) → sides ≡ first_sides g.corner g x d → (free shut : ℕ) → free ≡ free_bits sides
    → shut ≡ 255 - free → HasSides g x d shut 0 (reach_of g x d)
sides_begun g x d h f sides is free shut e k = record {
  sides = sides;
  are = sides_shut sides free shut e k;
  left = reach_begun g x d h f sides is;
}
