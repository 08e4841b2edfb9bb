-- Rows as code hands them over, and from one row to the next.
use Rattle.std.proofs.Common.{◌≡◌, ℕ, suc, ◌+◌, ◌-◌, ◌*◌, ◌<◌, ◌≤◌, arith, Bool, true, false, List, length}
use Rattle.std.proofs.Common.{ap, sym, ◌∙◌, subst}
use Rattle.std.specs.Prelude.{ℤ, Some, replicate}
use Rattle.std.proofs.lemmas.Bool.Decides.{nat_tests}
use Rattle.std.proofs.lemmas.List.{get_or-replicate, length-replicate, get_or_past, with_items_is}
use Rattle.std.specs.Global.{Vec}
use Rattle.std.specs.Vec.{with_items}
use Rattle.grid_moves.specs.declared.Dir.{Dir}
use Rattle.grid_moves.specs.declared.Dir.TheVariants.{N, NE, E, S, W, NW}
use Rattle.grid_moves.specs.Grid.{GridData, IsGrid}
use Rattle.grid_moves.specs.Move.{dir_number, row_ahead}
use Rattle.grid_moves.proofs.Legal.{free_inside}
use Rattle.pruning.specs.declared.turns.Side.{Side}
use Rattle.pruning.specs.Turns.{turn}
use Rattle.plus_tables.specs.declared.lines.Line.{Line}
use Rattle.plus_tables.specs.declared.lines.Band.{Band}
use Rattle.plus_tables.specs.declared.lines.Rows.{Rows}
use Rattle.plus_tables.specs.Sweep.{is_ahead, is_swept, is_upward, nth_row, IsNext}
use Rattle.plus_tables.specs.Laid.{IsAlongRight, seen_part}
use Rattle.plus_tables.specs.declared.heading.Heading.{Heading}
use Rattle.plus_tables.specs.declared.heading.Heading.TheVariants.{Upwards, Downwards}
use Rattle.plus_tables.specs.Rows.{number, IsEntryRow, IsFlagRow, IsRowAt, is_along, dir_seen, AreRowsSeen}
use Rattle.plus_tables.specs.Lines.{AreAhead, AreAlong, IsLong, IsReady, IsKept, IsBlank}
use Rattle.plus_tables.proofs.Rowing.{value_is}

-- the same rows by other names
pub seen_as : (g : GridData) (h : Heading) (y : ℕ) (a b c p q r : List Bool) → p ≡ a → q ≡ b → r ≡ c
    → AreRowsSeen g h y a b c → AreRowsSeen g h y p q r
seen_as g h y a b c p q r e f k is = rw (e, f, k) is

pub entries_as : (g : GridData) (m : ℕ) (d : Dir) (row same : List ℤ) → same ≡ row → IsEntryRow g m d row
    → IsEntryRow g m d same
entries_as g m d row same e is = rw e is

pub flags_as : (g : GridData) (n : ℕ) (row same : List Bool) → same ≡ row → IsFlagRow g n row → IsFlagRow g
    n same
flags_as g n row same e is = rw e is

-- a row in which none is set is one below the map
pub blank_row : (g : GridData) (n : ℕ) (row : List Bool) → row ≡ replicate (g.width + 2) false → g.height ≤ n
    → IsFlagRow g n row
blank_row g n row h i = grind (arith, nat_tests, length-replicate, get_or-replicate, get_or_past, free_inside)

-- the rows beside a row
pub row_itself : (y : ℕ) → IsRowAt (Some y) y
row_itself y = record { some = λ k e. value_is y k e; none = λ e. absurd (cc) }

pub row_over : (y n : ℕ) → y ≡ suc n → IsRowAt (row_ahead N y) n
row_over y n e = subst (λ (m : ℕ). IsRowAt (row_ahead N m) n) (sym e) (row_itself n)

pub row_under : (y n : ℕ) → n ≡ y + 1 → IsRowAt (row_ahead S y) n
row_under y n e = subst (λ (m : ℕ). IsRowAt (row_ahead S y) m) (sym e) (row_itself (y + 1))

-- and the row that is swept next sees this one ahead
pub row_next : (h : Heading) (y n : ℕ) → IsNext h y n → IsRowAt (row_ahead (dir_seen h N) n) y
row_next h y n i = grind (arith, nat_tests)

pub next_row : (h : Heading) (height n y : ℕ) → n + 1 < height → y ≡ nth_row h height n
    → IsNext h y (nth_row h height (n + 1))
next_row h height n y i j = grind (arith, nat_tests)

-- all that leads ahead leads to one row
pub leads_ahead : (h : Heading) (d : Dir) (y m : ℕ) → is_ahead d ≡ true
    → IsRowAt (row_ahead (dir_seen h N) y) m
    → IsRowAt (row_ahead (dir_seen h d) y) m
leads_ahead h d y m i j = grind (arith, nat_tests)

-- beside it all leads ahead or along a row
pub upward_beside : (s : Side) (d : Dir) → is_ahead d ≡ true → is_upward (turn s d) ≡ true
upward_beside s d h = grind (arith, nat_tests)

pub upward_ahead : (d : Dir) → is_ahead d ≡ true → is_upward d ≡ true
upward_ahead d h = grind (arith, nat_tests)

-- the rows of a line, by their directions
pub part_long : (g : GridData) (line : Line) → IsLong g line → (d : Dir)
    → length (seen_part line d) ≡ g.width + 2
part_long g line h d = grind (arith, nat_tests)

part_seen : (g : GridData) (h : Heading) (m : ℕ) (line : Line) → AreAhead g h m line → AreAlong g m line
    → (d : Dir) → is_upward d ≡ true → IsEntryRow g m (dir_seen h d) (seen_part line d)
part_seen g h m line i j d k = grind (arith, nat_tests)

pub part_row : (g : GridData) (h : Heading) (m : ℕ) (line : Line) → AreAhead g h m line → AreAlong g m line
    → (d e : Dir) → is_upward d ≡ true → e ≡ d → (row : List ℤ) → row ≡ seen_part line e
    → IsEntryRow g m (dir_seen h d) row
part_row g h m line i j d e up is row same = rw (same, is) (part_seen g h m line i j d up)

-- the entries along a row, as they are read back
pub taken : (g : GridData) (h : Heading) (y : ℕ) (row out : List ℤ) (d : Dir) → is_along d ≡ true
    → is_swept h d ≡ false → IsAlongRight g h y row
    → ((x : ℕ) → x < g.width → number out (x + 1) ≡ number row (x * 8 + dir_number d)) → IsEntryRow g y d out
taken g h y row out d along off right read v at inside = grind (arith, nat_tests)

-- rows of flags with another one behind
abbrev pub with_back : Band → List Bool → Band
with_back band row = record {
  far = band.far;
  next = band.next;
  here = band.here;
  back = with_items band.back row;
}

-- a line with other entries along the row
abbrev pub with_along : Line → List ℤ → List ℤ → Line
with_along line east west = record {
  ahead = line.ahead;
  ahead_east = line.ahead_east;
  ahead_west = line.ahead_west;
  east = with_items line.east east;
  west = with_items line.west west;
}

pub lines_made : (g : GridData) (h : Heading) (y : ℕ) (this : Line) (east west : List ℤ) → AreAhead g h y this
    → IsEntryRow g y E east → IsEntryRow g y W west → length east ≡ this.east.len
    → length west ≡ this.west.len
    → AreAhead g h y (with_along this east west) × AreAlong g y (with_along this east west)
lines_made g h y this east west i j k l m = grind (arith, nat_tests, entries_as, with_items_is)

-- once the row behind is read
module _ {g : GridData} {h : Heading} {y n : ℕ} {band : Band} {last : Line} {row : List Bool}
    (ready : IsReady g h y band last) (is : IsFlagRow g n row) (fits : length row ≡ band.back.len)
    (lies : IsRowAt (row_ahead (dir_seen h S) y) n) where
  behind_is : IsFlagRow g n (with_items band.back row).items
  behind_is = flags_as g n row _ (with_items_is band.back row fits) is

  ready_back : IsReady g h y (with_back band row) last
  ready_back = record {
    rows = record {
      ahead = ready.rows.ahead;
      far_row = ready.rows.far_row;
      back_row = n;
      ahead_is = ready.rows.ahead_is;
      far_is = ready.rows.far_is;
      next_is = ready.rows.next_is;
      here_is = ready.rows.here_is;
      back_is = behind_is;
      around_next = ready.rows.around_next;
    };
    long = ready.long;
    ahead_right = ready.ahead_right;
    along = ready.along;
  }

  -- the row and the two beside it
  around_row : AreRowsSeen g h y band.next.items band.here.items (with_items band.back row).items
  around_row = grind (arith, nat_tests, behind_is)

  pub read_behind : IsReady g h y (with_back band row) last
      × AreRowsSeen g h y band.next.items band.here.items (with_items band.back row).items
  read_behind = (ready_back, around_row)

  -- on to the next row
  module _ (this : Line) (east west : List ℤ) (rows : Rows) (back : IsRowAt (row_ahead (dir_seen h N) n) y)
      (ahead_right : AreAhead g h y this) (east_is : IsEntryRow g y E east) (west_is : IsEntryRow g y W west)
      (long : IsLong g this) (east_fits : length east ≡ this.east.len)
      (west_fits : length west ≡ this.west.len)
      (far : rows.band.far.items ≡ band.next.items) (next : rows.band.next.items ≡ band.here.items)
      (here : rows.band.here.items ≡ (with_items band.back row).items)
      (beyond : rows.band.back.items ≡ band.far.items) (kept : rows.last ≡ with_along this east west)
      (other : rows.this ≡ last) (forced : length rows.forced.items ≡ g.width + 2) where
    line : AreAhead g h y (with_along this east west) × AreAlong g y (with_along this east west)
    line = lines_made g h y this east west ahead_right east_is west_is east_fits west_fits

    long_on : IsLong g (with_along this east west)
    long_on = grind (arith, nat_tests, with_items_is)

    pub kept_on : IsKept g h n rows
    kept_on = record {
      ready = record {
        rows = record {
          ahead = y;
          far_row = ready.rows.ahead;
          back_row = ready.rows.far_row;
          ahead_is = back;
          far_is = flags_as g ready.rows.ahead band.next.items rows.band.far.items far ready.rows.next_is;
          next_is = flags_as g y band.here.items rows.band.next.items next ready.rows.here_is;
          here_is = flags_as g n _ rows.band.here.items here behind_is;
          back_is = flags_as g ready.rows.far_row band.far.items rows.band.back.items beyond
              ready.rows.far_is;
          around_next = λ on. seen_as g h y band.next.items band.here.items _ rows.band.far.items
              rows.band.next.items rows.band.here.items far next here around_row;
        };
        long = subst (λ (l : Line). IsLong g l) (sym kept) long_on;
        ahead_right = subst (λ (l : Line). AreAhead g h y l) (sym kept) line.0;
        along = subst (λ (l : Line). AreAlong g y l) (sym kept) line.1;
      };
      long = subst (λ (l : Line). IsLong g l) (sym other) ready.long;
      forced = forced;
    }

-- before the first row
nothing : (g : GridData) → IsGrid g → (d : Dir) (row : List ℤ) (n : ℕ) → g.height ≤ n → IsEntryRow g n d row
nothing g whole d row n far v e inside = grind (arith, nat_tests)

module _ (g : GridData) (whole : IsGrid g) (rows begun : Rows) (blank : IsBlank g rows)
    (far : begun.band.far.items ≡ rows.band.far.items) (next : begun.band.next.items ≡ rows.band.next.items)
    (back : begun.band.back.items ≡ rows.band.back.items) (last : begun.last ≡ rows.last)
    (this : begun.this ≡ rows.this) (forced : begun.forced.items ≡ rows.forced.items) where
  begun_at : (h : Heading) (y n m : ℕ) → g.height ≤ n → g.height ≤ m → IsRowAt (row_ahead (dir_seen h N) y) n
      → IsFlagRow g y begun.band.here.items
      → (n < 4096 → AreRowsSeen g h n begun.band.far.items begun.band.next.items begun.band.here.items)
      → IsKept g h y begun
  begun_at h y n m high higher lies is around = record {
    ready = record {
      rows = record {
        ahead = n;
        far_row = m;
        back_row = m;
        ahead_is = lies;
        far_is = blank_row g m begun.band.far.items (far ∙ blank.far) higher;
        next_is = blank_row g n begun.band.next.items (next ∙ blank.next) high;
        here_is = is;
        back_is = blank_row g m begun.band.back.items (back ∙ blank.back) higher;
        around_next = around;
      };
      long = subst (λ (l : Line). IsLong g l) (sym last) blank.last;
      ahead_right = record {
        ahead = nothing g whole (dir_seen h N) begun.last.ahead.items n high;
        ahead_east = nothing g whole (dir_seen h NE) begun.last.ahead_east.items n high;
        ahead_west = nothing g whole (dir_seen h NW) begun.last.ahead_west.items n high;
      };
      along = record {
        east = nothing g whole E begun.last.east.items n high;
        west = nothing g whole W begun.last.west.items n high;
      };
    };
    long = subst (λ (l : Line). IsLong g l) (sym this) blank.this;
    forced = ap (λ (r : List Bool). length r) forced ∙ blank.forced;
  }

  low : g.height ≤ 4096
  low = whole.sides.low

  -- the first row of a sweep
  pub begun_by : (h : Heading) → 0 < g.height → IsFlagRow g (nth_row h g.height 0) begun.band.here.items
      → IsKept g h (nth_row h g.height 0) begun
  begun_by Upwards some is = grind (arith, nat_tests, begun_at, low)
  begun_by Downwards some is = begun_down (g.height - 1) (omega arith) is
    where
      begun_down : (y : ℕ) → y + 1 ≡ g.height → IsFlagRow g y begun.band.here.items
          → IsKept g Downwards y begun
      begun_down y e is = begun_at Downwards y g.height (g.height + 1) (omega arith) (omega arith)
          (row_under y g.height (sym e)) is (λ on. record {
            front = g.height + 1;
            rear = y;
            front_is = row_itself (g.height + 1);
            rear_is = row_over g.height y (omega arith);
            ahead_is = blank_row g (g.height + 1) begun.band.far.items (far ∙ blank.far) (omega arith);
            here_is = blank_row g g.height begun.band.next.items (next ∙ blank.next) (omega arith);
            behind_is = is;
          })

-- a row that was lent as a slice is what was written, and stays as long
pub row_set : (row : Vec ℤ) (out : List ℤ) {lent : List ℤ} → length out ≡ length lent → lent ≡ row.items
    → (with_items row out).items ≡ out
row_set row out same is =
    let long = ap (λ (l : List ℤ). length l) is in
    with_items_is row out (omega (arith, row.ok.0))

pub row_long : (row : Vec ℤ) (out : List ℤ) {lent : List ℤ} {n : ℕ} → length out ≡ length lent
    → lent ≡ row.items → length row.items ≡ n → length (with_items row out).items ≡ n
row_long row out same is long = ap (λ (l : List ℤ). length l) (row_set row out same is) ∙ same
    ∙ ap (λ (l : List ℤ). length l) is ∙ long
