-- Rows of flags and of entries are those of the grid.
use Rattle.std.proofs.Common.{◌≡◌, ℕ, zero, suc, ◌+◌, ◌-◌, ◌<◌, arith, Bool, true, false, ◌&&◌}
use Rattle.std.proofs.Common.{List, length, refl, ap, sym, ◌∙◌, subst}
use Rattle.std.specs.Prelude.{ℤ, Option, Some, option_and_then, nat_lt}
use Rattle.std.proofs.lemmas.Bool.Decides.{nat_tests}
use Rattle.grid_moves.specs.declared.Cell.{Cell}
use Rattle.grid_moves.specs.declared.Corner.{Corner}
use Rattle.grid_moves.specs.declared.Dir.{Dir}
use Rattle.grid_moves.specs.declared.Dir.TheVariants.{N, NE, E, SE, S, SW, W, NW}
use Rattle.grid_moves.specs.Grid.{GridData, IsGrid, is_free, is_inside}
use Rattle.grid_moves.specs.Move.{ahead, before, column_ahead, row_ahead, is_free_cell, is_open, legal_ahead}
use Rattle.grid_moves.specs.Ring.{is_free_on, leads_on}
use Rattle.grid_moves.proofs.Besides.{leads_on-legal}
use Rattle.grid_moves.proofs.Legal.{free_inside, legal_is}
use Rattle.pruning.specs.declared.turns.Side.TheVariants.{Right, Left}
use Rattle.pruning.specs.Turns.{turn, is_diagonal}
use Rattle.pruning.specs.Allowed.{can_move}
use Rattle.pruning.specs.Marked.{is_forced}
use Rattle.pruning.specs.Ring.{forced_on}
use Rattle.pruning.proofs.Ringing.{forced_of_ring}
use Rattle.pruning.proofs.Bridging.{legal_leads, leads_from, leads_legal}
use Rattle.plus_tables.specs.declared.heading.Heading.{Heading}
use Rattle.plus_tables.specs.declared.heading.Heading.TheVariants.{Upwards, Downwards}
use Rattle.plus_tables.specs.Entry.{table_entry}
use Rattle.plus_tables.specs.Local.{is_mark_by}
use Rattle.plus_tables.specs.Tables.{IsShort}
use Rattle.plus_tables.specs.Rows.{flag, number, ring_of, place_after, entry_from, legal_by, mark_by}
use Rattle.plus_tables.specs.Rows.{is_along, IsFlagRow, IsForcedRow, IsEntryRow, IsRowAt, AreRowsSeen}
use Rattle.plus_tables.specs.Rows.{AreForced, dir_seen, AreShort, AreEntriesBelow, IsEntryAlong}
use Rattle.plus_tables.proofs.Following.{entries_follow, is_mark_by-straight}
use Rattle.plus_tables.proofs.Mirror.{upright, along_seen, can_seen, forced_seen, mark_seen, place_seen}
use Rattle.plus_tables.proofs.Short.{table_entry-short}

-- the cell of a column in a row, if there is one
there : ℕ → Option ℕ → Option Cell
there x o = option_and_then (λ y. Some (record { x = x; y = y })) o

module _ (g : GridData) (whole : IsGrid g) where
  -- a flag of a row tells whether the cell there is free
  flag_there : (n : ℕ) (o : Option ℕ) (row : List Bool) → IsFlagRow g n row → IsRowAt o n → (x k : ℕ)
      → k ≡ x + 1 → flag row k ≡ is_free_cell g (there x o)
  unfolding there
  flag_there n o row h i x k j = grind (arith, nat_tests)

  -- and before the first column none is
  flag_before : (n : ℕ) (o : Option ℕ) (row : List Bool) → IsFlagRow g n row → IsRowAt o n → (x : ℕ)
      → flag row x ≡ is_free_cell g (option_and_then (λ x. there x o) (before x))
  flag_before n o row h i x = grind (arith, nat_tests, flag_there)

  itself : (y : ℕ) → IsRowAt (Some y) y
  itself y = grind (arith, nat_tests)

  -- the flags around a column are those of the cells around its cell
  upright_open : (h : Heading) (y : ℕ) (ahead here behind : List Bool) → AreRowsSeen g h y ahead here behind
      → (x : ℕ) (d : Dir)
      → is_free_on (upright h ahead here behind x) d ≡ is_open g (record { x = x; y = y }) d
  unfolding there
  upright_open Upwards y ahead here behind around x d =
      grind (arith, nat_tests, flag_there, itself, flag_before)
  upright_open Downwards y ahead here behind around x d =
      grind (arith, nat_tests, flag_there, itself, flag_before)

  module _ (h : Heading) (y : ℕ) (above here below : List Bool) (r : AreRowsSeen g h y above here below) where
    -- so they tell where a neighbour is forced
    pub ring_forced : (x : ℕ) (d : Dir) → is_free g (record { x = x; y = y }) ≡ true
        → forced_on g.corner (ring_of above here below x) d
        ≡ is_forced g (record { x = x; y = y }) (dir_seen h d)
    ring_forced x d f = forced_seen g.corner above here below x h d
        ∙ forced_of_ring g (record { x = x; y = y }) f (upright h above here below x)
        (upright_open h y above here below r x) g.corner refl (dir_seen h d)

    pub forced_row : (d : Dir) (corner : Corner) (forced : List Bool) → corner ≡ g.corner
        → length forced ≡ g.width + 2 → AreForced corner above here below d forced
        → IsForcedRow g y (dir_seen h d) forced
    forced_row d corner forced rule long are v row free =
        let inside = free_inside g v free in
        let below_last : v.x < length forced - 2 = omega (arith, inside.0) in
        let free_here : is_free g (record { x = v.x; y = y }) ≡ true =
        ap (λ (n : ℕ). is_free g (record { x = v.x; y = n })) (sym row) ∙ free in
        are v.x below_last
        ∙ ap (λ (k : Corner). forced_on k (ring_of above here below v.x) d) rule
        ∙ ring_forced v.x d free_here
        ∙ ap (λ (n : ℕ). is_forced g (record { x = v.x; y = n }) (dir_seen h d)) (sym row)

    -- a move is legal from a free cell alone
    pub row_legal : (d : Dir) (corner : Corner) → corner ≡ g.corner → (v : Cell) → v.y ≡ y
        → legal_by corner above here below d v.x ≡ can_move g v (dir_seen h d)
    row_legal d corner rule v row =
        ap (λ (k : Corner). legal_by k above here below d v.x) rule
        ∙ ap (λ (b : Bool). b && leads_on g.corner (ring_of above here below v.x) d)
        (r.here_is.cells v.x)
        ∙ by_test (is_free g (record { x = v.x; y = y })) refl
        ∙ ap (λ (n : ℕ). can_move g (record { x = v.x; y = n }) (dir_seen h d)) (sym row)
      where
        blocked : is_free g (record { x = v.x; y = y }) ≡ false → (b : Bool)
            → can_move g (record { x = v.x; y = y }) (dir_seen h d) ≡ b
            → false ≡ can_move g (record { x = v.x; y = y }) (dir_seen h d)
        blocked f false e = sym e
        blocked f true e = absurd (
            let l = leads_from g (record { x = v.x; y = y }) (dir_seen h d) e in
            let t = (legal_is g (record { x = v.x; y = y }) l.0 l.1.legal).source in cc)

        by_test : (b : Bool) → is_free g (record { x = v.x; y = y }) ≡ b
            → (b && leads_on g.corner (ring_of above here below v.x) d)
            ≡ can_move g (record { x = v.x; y = y }) (dir_seen h d)
        by_test true f = can_seen g.corner above here below v.x h d
            ∙ leads_on-legal g (record { x = v.x; y = y }) f (upright h above here below v.x)
            (upright_open h y above here below r v.x) g.corner refl (dir_seen h d)
        by_test false f = blocked f (can_move g (record { x = v.x; y = y }) (dir_seen h d)) refl

-- where the next cell stands
parts_of : (x y : Option ℕ) (w : Cell)
    → option_and_then (λ x. option_and_then (λ y. Some (record { x = x; y = y })) y) x ≡ Some w
    → (x ≡ Some w.x) × (y ≡ Some w.y)
parts_of x y w h = grind (arith, nat_tests)

pub value_is : (m k : ℕ) → Some m ≡ Some k → m ≡ k
value_is m k e = grind (arith, nat_tests)

place_is : (d : Dir) (x k : ℕ) → column_ahead d x ≡ Some k → place_after d x ≡ k + 1
place_is d x k h = grind (arith, nat_tests)

-- the entry of a cell is made from the next cell
pub entry_from_is : (g : GridData) (c : Cell) (d : Dir) (legal mark : Bool) (next : ℤ)
    → legal ≡ can_move g c d
    → ((w : Cell) → legal_ahead g c d ≡ Some w → mark ≡ is_mark_by g (table_entry g) d w)
    → ((w : Cell) → legal_ahead g c d ≡ Some w → next ≡ table_entry g w d)
    → entry_from legal mark next ≡ table_entry g c d
entry_from_is g c d legal mark next can marked is = grind (arith, nat_tests, entries_follow)

module _ (g : GridData) (whole : IsGrid g) (c : Cell) (d : Dir) where
  -- what stands at the next place
  next_number : (y : ℕ) (row : List ℤ) (e : Dir) (w : Cell) → legal_ahead g c d ≡ Some w → w.y ≡ y
      → IsEntryRow g y e row → number row (place_after d c.x) ≡ table_entry g w e
  next_number y row e w legal same is =
      let l = legal_leads g c w d legal in
      let target = free_inside g w (legal_is g c w l.legal).target in
      let inside : is_inside g w ≡ true = is_within w.x w.y g.width g.height target.0 target.1 in
      ap (λ (k : ℕ). number row k)
      (place_is d c.x w.x (parts_of (column_ahead d c.x) (row_ahead d c.y) w l.ahead_is).0) ∙ is w same inside
    where
      is_within : (x y m n : ℕ) → x < m → y < n → (nat_lt x m && nat_lt y n) ≡ true
      is_within x y m n h k = grind (arith, nat_tests)

  next_flag : (y : ℕ) (row : List Bool) (w : Cell) → legal_ahead g c d ≡ Some w → w.y ≡ y
      → IsForcedRow g y d row → flag row (place_after d c.x) ≡ is_forced g w d
  next_flag y row w legal same is =
      let l = legal_leads g c w d legal in
      ap (λ (k : ℕ). flag row k)
      (place_is d c.x w.x (parts_of (column_ahead d c.x) (row_ahead d c.y) w l.ahead_is).0)
      ∙ is w same (legal_is g c w l.legal).target

  -- in which row it stands
  next_row : (w : Cell) → legal_ahead g c d ≡ Some w → row_ahead d c.y ≡ Some w.y
  next_row w legal = grind (arith, nat_tests)

-- an entry of a row, made from the next row
module _ (g : GridData) (whole : IsGrid g) (h : Heading) (c : Cell) (d : Dir) (y : ℕ) (forced : List Bool)
    (ahead right left : List ℤ) (legal : Bool) (can : legal ≡ can_move g c (dir_seen h d))
    (lies : (w : Cell) → legal_ahead g c (dir_seen h d) ≡ Some w → w.y ≡ y)
    (forced_is : IsForcedRow g y (dir_seen h d) forced) (ahead_is : IsEntryRow g y (dir_seen h d) ahead)
    (right_is : IsEntryRow g y (dir_seen h (turn Right d)) right)
    (left_is : IsEntryRow g y (dir_seen h (turn Left d)) left) where
  entry_there : (row : List ℤ) (e : Dir) → IsEntryRow g y e row → (w : Cell)
      → legal_ahead g c (dir_seen h d) ≡ Some w → number row (place_after d c.x) ≡ table_entry g w e
  entry_there row e is w k = ap (λ (n : ℕ). number row n) (sym (place_seen h d c.x))
      ∙ next_number g whole c (dir_seen h d) y row e w k (lies w k) is

  flag_next : (w : Cell) → legal_ahead g c (dir_seen h d) ≡ Some w
      → flag forced (place_after d c.x) ≡ is_forced g w (dir_seen h d)
  flag_next w k = ap (λ (n : ℕ). flag forced n) (sym (place_seen h d c.x))
      ∙ next_flag g whole c (dir_seen h d) y forced w k (lies w k) forced_is

  mark_across : (w : Cell) → legal_ahead g c (dir_seen h d) ≡ Some w
      → mark_by forced right left d (place_after d c.x) ≡ is_mark_by g (table_entry g) (dir_seen h d) w
  mark_across w k = rw (
    flag_next w k,
    entry_there right (dir_seen h (turn Right d)) right_is w k,
    entry_there left (dir_seen h (turn Left d)) left_is w k,
  ) (sym (mark_seen h g (table_entry g) d w))

  next_entry_is : entry_from legal (mark_by forced right left d (place_after d c.x))
      (number ahead (place_after d c.x))
      ≡ table_entry g c (dir_seen h d)
  next_entry_is =
      entry_from_is g c (dir_seen h d) legal _ _ can mark_across (entry_there ahead (dir_seen h d) ahead_is)

  short_at : (row : List ℤ) (e : Dir) → IsEntryRow g y e row → legal ≡ true
      → IsShort (number row (place_after d c.x))
  short_at row e is k =
      let l = leads_from g c (dir_seen h d) (sym can ∙ k) in
      subst (λ (z : ℤ). IsShort z)
      (sym (entry_there row e is l.0 (leads_legal g c l.0 (dir_seen h d) l.1)))
      (table_entry-short g whole l.0 e)

  short_entries : legal ≡ true → AreShort (number ahead (place_after d c.x))
      (number right (place_after d c.x)) (number left (place_after d c.x))
  short_entries k = record {
    ahead_is = short_at ahead (dir_seen h d) ahead_is k;
    right_is = short_at right (dir_seen h (turn Right d)) right_is k;
    left_is = short_at left (dir_seen h (turn Left d)) left_is k;
  }

-- a row that is made from the next is the row of entries
pub entries_of_row : (g : GridData) (whole : IsGrid g) (h : Heading) (y m : ℕ) (d : Dir)
    → IsRowAt (row_ahead (dir_seen h d) y) m → (corner : Corner) → corner ≡ g.corner
    → (above here below forced : List Bool) (ahead right left out : List ℤ)
    → AreRowsSeen g h y above here below → IsForcedRow g m (dir_seen h d) forced
    → IsEntryRow g m (dir_seen h d) ahead → IsEntryRow g m (dir_seen h (turn Right d)) right
    → IsEntryRow g m (dir_seen h (turn Left d)) left → length out ≡ g.width + 2
    → AreEntriesBelow corner above here below forced ahead right left d out (length out - 2)
    → IsEntryRow g y (dir_seen h d) out
entries_of_row g whole h y m d lies corner rule above here below forced ahead right left out around forced_is
    ahead_is right_is left_is long are_entries v row inside =
    let below_last : v.x < length out - 2 = grind (arith, nat_tests) in
    let can = row_legal g whole h y above here below around d corner rule v row in
    let legal = legal_by corner above here below d v.x in
    are_entries v.x below_last
    (short_entries g whole h v d m forced ahead right left legal can in_row forced_is ahead_is right_is
    left_is)
    ∙ next_entry_is g whole h v d m forced ahead right left legal can in_row forced_is ahead_is right_is
    left_is
  where
    -- the next cell lies in the row ahead
    in_row : (w : Cell) → legal_ahead g v (dir_seen h d) ≡ Some w → w.y ≡ m
    in_row w e = sym (lies.some w.y
        (ap (λ (n : ℕ). row_ahead (dir_seen h d) n) (sym row) ∙ next_row g whole v (dir_seen h d) w e))

-- along a row all columns have what each has where the next one has it
pub along_each : (d : Dir) → is_along d ≡ true → (n : ℕ) (P : ℕ → Type 0)
    → ((x : ℕ) → x < n → ((k : ℕ) → column_ahead d x ≡ Some k → k < n → P k) → P x)
    → (x : ℕ) → x < n → P x
along_each W along n P each = to_left
  where
    to_left : (x : ℕ) → x < n → P x
    to_left zero within = each zero within (λ k e _. absurd (cc))
    to_left (suc m) within = grind (arith, nat_tests, value_is, to_left m (omega arith))
along_each E along n P each = λ x within. to_right (n - suc x) x (omega arith)
  where
    to_right : (m x : ℕ) → x + suc m ≡ n → P x
    to_right zero x e = grind (arith, nat_tests)
    to_right (suc m) x e =
        each x (omega arith)
        (λ k next _. subst P (value_is (x + 1) k next) (to_right m (x + 1) (omega arith)))
along_each N along n P each = absurd (cc)
along_each NE along n P each = absurd (cc)
along_each SE along n P each = absurd (cc)
along_each S along n P each = absurd (cc)
along_each SW along n P each = absurd (cc)
along_each NW along n P each = absurd (cc)

-- the next cell along a row lies in the column ahead of the row
pub next_along : (g : GridData) (d : Dir) → is_along d ≡ true → (x y : ℕ) (w : Cell)
    → legal_ahead g (record { x = x; y = y }) d ≡ Some w
    → (column_ahead d x ≡ Some w.x) × (w.x < g.width) × (record { x = w.x; y = y } ≡ w)
next_along g d along x y w e = grind (arith, nat_tests)

-- along a row, made from the end
module _ (g : GridData) (whole : IsGrid g) (h : Heading) (y : ℕ) (above here below forced : List Bool)
    (out : List ℤ) (around : AreRowsSeen g h y above here below) where
  -- one entry, where the next one is right
  along_one : (d : Dir) → is_diagonal d ≡ false → IsForcedRow g y d forced → (v : Cell) → v.y ≡ y
      → (flag here (v.x + 1) && flag here (place_after d v.x)) ≡ can_move g v d
      → ((w : Cell) → legal_ahead g v d ≡ Some w → w.y ≡ y)
      → ((w : Cell) → legal_ahead g v d ≡ Some w → number out (place_after d v.x) ≡ table_entry g w d)
      → IsEntryAlong here forced d out v.x → number out (v.x + 1) ≡ table_entry g v d
  along_one d straight forced_is v row can lies next is_entry =
      is_entry short ∙ entry_from_is g v d (flag here (v.x + 1) && flag here (place_after d v.x))
      (flag forced (place_after d v.x)) (number out (place_after d v.x)) can marked next
    where
      marked : (w : Cell) → legal_ahead g v d ≡ Some w
          → flag forced (place_after d v.x) ≡ is_mark_by g (table_entry g) d w
      marked w e = next_flag g whole v d y forced w e (lies w e) forced_is
          ∙ sym (is_mark_by-straight g (table_entry g) d w straight)

      short : (flag here (v.x + 1) && flag here (place_after d v.x)) ≡ true
          → IsShort (number out (place_after d v.x))
      short k =
          let l = leads_from g v d (sym can ∙ k) in
          subst (λ (z : ℤ). IsShort z) (sym (next l.0 (leads_legal g v l.0 d l.1)))
          (table_entry-short g whole l.0 d)

  -- each column rests on the next
  module _ (d : Dir) (is_along_it : is_along d ≡ true) (straight : is_diagonal d ≡ false)
      (forced_is : IsForcedRow g y d forced) (long : length out ≡ g.width + 2)
      (are_entries : (x : ℕ) → x < length out - 2 → IsEntryAlong here forced d out x)
      (same : (x : ℕ) → (flag here (x + 1) && flag here (place_after d x))
      ≡ legal_by g.corner above here below d x) where
    column : (x : ℕ) → x < g.width → number out (x + 1) ≡ table_entry g (record { x = x; y = y }) d
    column = along_each d is_along_it g.width
        (λ x. number out (x + 1) ≡ table_entry g (record { x = x; y = y }) d)
        (λ x within next. along_one d straight forced_is (record { x = x; y = y }) refl
        (same x ∙ row_legal g whole h y above here below around d g.corner refl (record { x = x; y = y }) refl
        ∙ ap (λ (e : Dir). can_move g (record { x = x; y = y }) e) (along_seen h d is_along_it))
        (λ w e. sym (ap (λ (v : Cell). v.y) (next_along g d is_along_it x y w e).2))
        (λ w e. let n = next_along g d is_along_it x y w e in
        ap (λ (k : ℕ). number out k) (place_is d x w.x n.0) ∙ next w.x n.0 n.1
        ∙ ap (λ (v : Cell). table_entry g v d) n.2)
        (are_entries x (omega arith)))

    entries : IsEntryRow g y d out
    entries v row inside =
        let within : v.x < g.width = grind (arith, nat_tests) in
        column v.x within ∙ ap (λ (n : ℕ). table_entry g (record { x = v.x; y = n }) d) (sym row)

  along_by : (d : Dir) → is_along d ≡ true → IsForcedRow g y d forced → length out ≡ g.width + 2
      → ((x : ℕ) → x < length out - 2 → IsEntryAlong here forced d out x) → IsEntryRow g y d out
  along_by d i j k l = grind (arith, nat_tests, entries)

  pub along_row : (d : Dir) → is_along d ≡ true → IsForcedRow g y (dir_seen h d) forced
      → length out ≡ g.width + 2
      → ((x : ℕ) → x < length out - 2 → IsEntryAlong here forced d out x) → IsEntryRow g y d out
  along_row d i j = along_by d i (subst (λ (e : Dir). IsForcedRow g y e forced) (along_seen h d i) j)

-- where a neighbour is forced in a row that may lie off the map
pub forced_if : (g : GridData) → IsGrid g → (h : Heading) (m : ℕ) (above here below : List Bool)
    → (m < 4096 → AreRowsSeen g h m above here below) → (d : Dir) (corner : Corner) (forced : List Bool)
    → corner ≡ g.corner → length forced ≡ g.width + 2 → AreForced corner above here below d forced
    → IsForcedRow g m (dir_seen h d) forced
forced_if g whole h m above here below around d corner forced rule long are v row free =
    forced_row g whole h m above here below
    (around (let inside = free_inside g v free in let low = whole.sides.low in omega (arith, inside.1))) d
    corner forced rule long are v row free
