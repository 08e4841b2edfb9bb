-- The free cells beside a free cell are those that legal moves lead to.
use Rattle.std.proofs.Common.{◌≡◌, ℕ, zero, suc, ◌+◌, ◌≤◌, arith, refl, ap, sym, ◌∙◌, Bool, true, false, ◌&&◌}
use Rattle.std.specs.Prelude.{Option, Some, None, is_some, option_and_then, unwrap_or, if◌then◌else◌}
use Rattle.std.proofs.lemmas.Bool.Decides.{nat_tests}
use Rattle.grid_moves.specs.declared.Cell.{Cell}
use Rattle.grid_moves.specs.declared.Corner.{Corner}
use Rattle.grid_moves.specs.declared.Corner.TheVariants.{Never, One, Both}
use Rattle.grid_moves.specs.declared.Dir.{Dir}
use Rattle.grid_moves.specs.declared.Dir.TheVariants.{N, NE, E, SE, S, SW, W, NW}
use Rattle.grid_moves.specs.declared.around.Around.{Around}
use Rattle.grid_moves.specs.declared.ring.Ring.{Ring}
use Rattle.grid_moves.specs.Grid.{GridData, is_free}
use Rattle.grid_moves.specs.Move.{is_legal, are_neighbours, is_open, is_passable, beyond}
use Rattle.grid_moves.specs.Move.{legal_ahead, column_ahead, row_ahead}
use Rattle.grid_moves.specs.Ring.{ring_by, is_free_on, leads_on}
use Rattle.grid_moves.specs.Around.{IsAround, end_of, if_open, is_open_to}
use Rattle.grid_moves.proofs.Ahead.{legal_ahead-is}
use Rattle.grid_moves.proofs.Legal.{legal_is}

abbrev cell : ℕ → ℕ → Cell
cell x y = record { x = x; y = y }

abbrev cell_of : Option ℕ → Option ℕ → Option Cell
cell_of x y = option_and_then (λ x. option_and_then (λ y. Some (cell x y)) y) x

abbrev cell_by : Option ℕ → Option ℕ → Cell
cell_by x y = cell (unwrap_or x 65535) (unwrap_or y 65535)

abbrev legal_to : GridData → Cell → Option Cell → Option Cell
legal_to g c o = option_and_then (λ v. if is_legal g c v then Some v else None) o

-- where the move is legal it leads beyond
pub legal_beyond : (g : GridData) (c : Cell) (d : Dir) (b : Bool) → b ≡ is_some (legal_ahead g c d)
    → if_open b (beyond d c) ≡ legal_ahead g c d
legal_beyond g c d b is = ap (λ (b : Bool). if_open b (beyond d c)) is
    ∙ by_parts (column_ahead d c.x) (row_ahead d c.y)
  where
    by_test : (v : Cell) (l : Bool)
        → if_open (is_some (if l then Some v else None)) v ≡ (if l then Some v else None)
    by_test v true = refl
    by_test v false = refl

    by_parts : (x y : Option ℕ)
        → if_open (is_some (legal_to g c (cell_of x y))) (cell_by x y) ≡ legal_to g c (cell_of x y)
    by_parts (Some x) (Some y) = by_test (cell x y) (is_legal g c (cell x y))
    by_parts (Some x) None = refl
    by_parts None y = refl

-- what lies ahead over a legal move is free
pub ahead_free : (g : GridData) (c v : Cell) (d : Dir) (b : Bool) → if_open b v ≡ legal_ahead g c d → b ≡ true
    → is_free g v ≡ true
ahead_free g c v d true e h = (legal_is g c v (legal_ahead-is g c v d (sym e))).target
ahead_free g c v d false e h = absurd (cc)

-- the two cells beside a move are alike, and for a straight move they are its ends
pub passable-turned : (r : Corner) (a b : Bool) → is_passable r a b ≡ is_passable r b a
passable-turned Never a b = grind arith
passable-turned One a b = grind arith
passable-turned Both a b = refl

passable-source : (r : Corner) (b : Bool) → (b && is_passable r true b) ≡ b
passable-source Never b = grind arith
passable-source One b = grind arith
passable-source Both b = grind arith

neighbours : (x y z t : ℕ) → x ≤ z + 1 → z ≤ x + 1 → y ≤ t + 1 → t ≤ y + 1 → ((x ≡ z) → (y ≡ t) → ⊥)
    → are_neighbours (cell x y) (cell z t) ≡ true
neighbours x y z t a b c d n = grind (arith, nat_tests)

some_if : (b : Bool) (c : Cell) → is_some (if b then Some c else None) ≡ b
some_if true c = refl
some_if false c = refl

-- a straight move
aside : (g : GridData) (x y z : ℕ) → is_free g (cell x y) ≡ true → x ≤ z + 1 → z ≤ x + 1 → (x ≡ z → ⊥)
    → is_legal g (cell x y) (cell z y) ≡ is_free g (cell z y)
aside g x y z f a b n =
    let near = neighbours x y z y a b (omega arith) (omega arith) (λ e _. n e) in
    rw (near, f) (passable-source g.corner (is_free g (cell z y)))

along : (g : GridData) (x y t : ℕ) → is_free g (cell x y) ≡ true → y ≤ t + 1 → t ≤ y + 1 → (y ≡ t → ⊥)
    → is_legal g (cell x y) (cell x t) ≡ is_free g (cell x t)
along g x y t f a b n =
    let near = neighbours x y x t (omega arith) (omega arith) a b (λ _ e. n e) in
    rw (near, f, passable-turned g.corner (is_free g (cell x t)) true)
    (passable-source g.corner (is_free g (cell x t)))

-- a diagonal move
across : (g : GridData) (x y z t : ℕ) → is_free g (cell x y) ≡ true → x ≤ z + 1 → z ≤ x + 1 → y ≤ t + 1
    → t ≤ y + 1 → (x ≡ z → ⊥)
    → is_legal g (cell x y) (cell z t)
    ≡ (is_free g (cell z t) && is_passable g.corner (is_free g (cell z y)) (is_free g (cell x t)))
across g x y z t f a b c d n =
    let near = neighbours x y z t a b c d (λ e _. n e) in
    rw (near, f) (ap (λ (p : Bool). is_free g (cell z t) && p)
    (passable-turned g.corner (is_free g (cell x t)) (is_free g (cell z y))))

-- the cells around a free cell tell which moves are legal
pub leads_on-open : (g : GridData) (c : Cell) → is_free g c ≡ true → (d : Dir)
    → leads_on g.corner (ring_by (λ e. is_open g c e)) d ≡ is_some (legal_ahead g c d)
leads_on-open g c f d = sym (by_dir c.x c.y d f)
  where
    by_dir : (x y : ℕ) (d : Dir) → is_free g (cell x y) ≡ true → is_some (legal_ahead g (cell x y) d)
        ≡ leads_on g.corner (ring_by (λ e. is_open g (cell x y) e)) d
    by_dir x zero N f = refl
    by_dir x (suc t) N f =
        some_if _ _ ∙ along g x (suc t) t f (omega arith) (omega arith) (λ e. omega arith)
    by_dir x y E f = some_if _ _ ∙ aside g x y (x + 1) f (omega arith) (omega arith) (λ e. omega arith)
    by_dir x y S f = some_if _ _ ∙ along g x y (y + 1) f (omega arith) (omega arith) (λ e. omega arith)
    by_dir zero y W f = refl
    by_dir (suc z) y W f =
        some_if _ _ ∙ aside g (suc z) y z f (omega arith) (omega arith) (λ e. omega arith)
    by_dir x zero NE f = refl
    by_dir x (suc t) NE f = some_if _ _
        ∙ across g x (suc t) (x + 1) t f (omega arith) (omega arith) (omega arith) (omega arith)
        (λ e. omega arith)
    by_dir x y SE f = some_if _ _ ∙ across g x y (x + 1) (y + 1) f (omega arith) (omega arith) (omega arith)
        (omega arith) (λ e. omega arith)
    by_dir zero y SW f = refl
    by_dir (suc z) y SW f = some_if _ _
        ∙ across g (suc z) y z (y + 1) f (omega arith) (omega arith) (omega arith) (omega arith)
        (λ e. omega arith)
    by_dir zero y NW f = refl
    by_dir (suc z) zero NW f = refl
    by_dir (suc z) (suc t) NW f = some_if _ _
        ∙ across g (suc z) (suc t) z t f (omega arith) (omega arith) (omega arith) (omega arith)
        (λ e. omega arith)

-- what a ring of tests has in a direction
pub free_on_ring_by : (free : Dir → Bool) (d : Dir) → is_free_on (ring_by free) d ≡ free d
free_on_ring_by free N = refl
free_on_ring_by free NE = refl
free_on_ring_by free E = refl
free_on_ring_by free SE = refl
free_on_ring_by free S = refl
free_on_ring_by free SW = refl
free_on_ring_by free W = refl
free_on_ring_by free NW = refl

all : (r : Corner) (a b c x y z : Bool) → a ≡ x → b ≡ y → c ≡ z
    → (a && is_passable r b c) ≡ (x && is_passable r y z)
all r a b c x y z h k l = rw (h, k, l) refl

-- rings that agree tell the same
pub leads_alike : (r : Corner) (p q : Ring) → ((d : Dir) → is_free_on p d ≡ is_free_on q d) → (d : Dir)
    → leads_on r p d ≡ leads_on r q d
leads_alike r p q same N = same N
leads_alike r p q same NE = all r _ _ _ _ _ _ (same NE) (same E) (same N)
leads_alike r p q same E = same E
leads_alike r p q same SE = all r _ _ _ _ _ _ (same SE) (same E) (same S)
leads_alike r p q same S = same S
leads_alike r p q same SW = all r _ _ _ _ _ _ (same SW) (same W) (same S)
leads_alike r p q same W = same W
leads_alike r p q same NW = all r _ _ _ _ _ _ (same NW) (same W) (same N)

module _ (g : GridData) (c : Cell) (free : is_free g c ≡ true) (ring : Ring)
    (read : (d : Dir) → is_free_on ring d ≡ is_open g c d) (rule : Corner) (same : rule ≡ g.corner) where
  -- the cells around, once read, tell which moves are legal
  pub leads_on-legal : (d : Dir) → leads_on rule ring d ≡ is_some (legal_ahead g c d)
  leads_on-legal d = ap (λ (r : Corner). leads_on r ring d) same
      ∙ leads_alike g.corner ring (ring_by (λ e. is_open g c e))
      (λ e. read e ∙ sym (free_on_ring_by (λ e. is_open g c e) e)) d
      ∙ leads_on-open g c free d

passes : (r : Corner) (a p b c y z : Bool) → p ≡ is_passable r b c → b ≡ y → c ≡ z
    → (a && p) ≡ (a && is_passable r y z)
passes r a p b c y z h k l = rw (h, k, l) refl

-- the moves that the cells around tell of, once read: which passages are open follows from the straight ones
module _ (g : GridData) (c : Cell) (free : is_free g c ≡ true) (rule : Corner) (same : rule ≡ g.corner)
    (a : Around)
    (n : a.n ≡ is_open g c N) (e : a.e ≡ is_open g c E) (s : a.s ≡ is_open g c S) (w : a.w ≡ is_open g c W)
    (ne se sw nw : Bool) (by_ne : ne ≡ is_passable rule a.e a.n) (by_se : se ≡ is_passable rule a.e a.s)
    (by_sw : sw ≡ is_passable rule a.w a.s) (by_nw : nw ≡ is_passable rule a.w a.n)
    (is_ne : a.ne ≡ (is_open g c NE && ne)) (is_se : a.se ≡ (is_open g c SE && se))
    (is_sw : a.sw ≡ (is_open g c SW && sw)) (is_nw : a.nw ≡ (is_open g c NW && nw)) where
  abbrev ring : Ring
  ring = ring_by (λ d. is_open g c d)

  opened : (d : Dir) → is_open_to a d ≡ leads_on rule ring d
  opened N = n
  opened NE = is_ne ∙ passes rule _ _ _ _ _ _ by_ne e n
  opened E = e
  opened SE = is_se ∙ passes rule _ _ _ _ _ _ by_se e s
  opened S = s
  opened SW = is_sw ∙ passes rule _ _ _ _ _ _ by_sw w s
  opened W = w
  opened NW = is_nw ∙ passes rule _ _ _ _ _ _ by_nw w n

  pub around_by_ends : ((d : Dir) → end_of a c d ≡ beyond d c) → IsAround g c a
  around_by_ends ends = λ d. ap (λ (v : Cell). if_open (is_open_to a d) v) (ends d)
      ∙ legal_beyond g c d (is_open_to a d)
      (opened d ∙ leads_on-legal g c free ring (λ f. free_on_ring_by (λ h. is_open g c h) f) rule same d)
