-- A grid with a border of blocked cells: what stands at its places.
use Rattle.std.proofs.lemmas.Bool.Decides.{nat_tests}
use Rattle.std.proofs.lemmas.Bool.{cases_eq, cases_lt, cases_order}
use Rattle.std.proofs.lemmas.List.{ext_get_or, get_or-map, get_or-replicate, get_or_default, get_or_past}
use Rattle.std.proofs.lemmas.List.{length-replicate, get_or-take, get_or-drop}
use Rattle.std.proofs.lemmas.Nat.{div-add-mod', div_below, mod_below, row_fits, same_from_place}
use Rattle.std.proofs.Common.{◌≡◌, ℕ, zero, suc, ◌+◌, ◌*◌, ◌/◌, ◌%◌, ◌<◌, ◌≤◌, ◌⊎◌, inl, inr, arith, refl, ap}
use Rattle.std.proofs.Common.{sym, subst, ◌∙◌, Bool, true, false, ◌&&◌, List, length, get_or, set, replicate}
use Rattle.std.proofs.Common.{take, drop, get_or-set_other, get_or-set_same, length-set}
use Rattle.std.specs.Prelude.{Option, Some, None, slice_index_or, nat_le}
use borrow.Rule.Slice.PartMut.{put_mid}
use Rattle.grid_moves.specs.declared.Cell.{Cell}
use Rattle.grid_moves.specs.declared.Corner.{Corner}
use Rattle.grid_moves.specs.declared.Dir.{Dir}
use Rattle.grid_moves.specs.declared.Dir.TheVariants.{N, NE, E, SE, S, SW, W, NW}
use Rattle.grid_moves.specs.declared.Ground.{Ground}
use Rattle.grid_moves.specs.Grid.{GridData, AreCells, is_free, is_inside, is_ground, ground_of, layer_of}
use Rattle.grid_moves.specs.Grid.{grid_with}
use Rattle.grid_moves.specs.Move.{ahead, is_open, is_same}
use Rattle.grid_moves.specs.Padded.{place_of, places, stored, column_of, row_of, listed, inner, grid_in}
use Rattle.grid_moves.specs.Padded.{AreStored, IsPadded}
use Rattle.grid_moves.proofs.Edited.{is_free-with_same, is_free-with_other, is_grid-with}
use Rattle.grid_moves.proofs.Legal.{is_same-cell}
use Rattle.grid_moves.proofs.Layering.{is_grid-layer}
use Rattle.grid_moves.proofs.Parts.{read_before, read_within, read_behind}
use Rattle.grid_moves.proofs.Places.{inside_is, inside_from}

length-listed : (f : ℕ → Bool) (n : ℕ) → length (listed f n) ≡ n
length-listed f zero = refl
length-listed f (suc n) = ap suc (length-listed (λ k. f (suc k)) n)

get_or-listed : (f : ℕ → Bool) (n k : ℕ) (d : Bool) → k < n → get_or (listed f n) k d ≡ f k
get_or-listed f zero k d h = absurd (omega arith)
get_or-listed f (suc n) zero d h = refl
get_or-listed f (suc n) (suc k) d h = get_or-listed (λ k. f (suc k)) n k d (omega arith)

-- a place in a row, or in the next one
pub place_below : (w x y r : ℕ) → x ≤ w → y < r → place_of w x y < r * (w + 1)
place_below w x y r h k = let f = row_fits y (w + 1) r (w + 1) k (omega arith) in omega arith

-- each column and row has a place
pub place_inside : (w h x y : ℕ) → x ≤ w + 1 → y ≤ h + 1 → place_of w x y < places w h
place_inside w h x y k l = let f = row_fits y (w + 1) (h + 2) (w + 1) (omega arith)
    (omega arith) in omega arith

-- on the map
on_map : (g : GridData) (x y : ℕ) → x < g.width → y < g.height → (b : Bool)
    → (is_inside g (record { x = x; y = y }) && b) ≡ b
on_map g x y h k b = rw (inside_from g (record { x = x; y = y }) h k) refl

-- the cells by number are those of the grid
pub inner_is : (g : GridData) (cells : List Bool) → IsPadded g cells → inner g.width g.height cells ≡ g.free
inner_is g cells p = ext_get_or false _ g.free (length-listed _ _ ∙ sym p.grid.whole)
    (λ k h. by_number k (below k h))
  where
    below : (k : ℕ) → k < length (inner g.width g.height cells) → k < g.height * g.width
    below k h = let e = length-listed (λ k. slice_index_or cells
        (place_of g.width (suc (k % g.width)) (suc (k / g.width))) false) (g.height * g.width) in omega arith

    by_number : (k : ℕ) → k < g.height * g.width
        → get_or (inner g.width g.height cells) k false ≡ get_or g.free k false
    by_number k h =
        let some : 0 < g.width = p.grid.sides.wide in
        let x : k % g.width < g.width = mod_below k g.width some in
        let y : k / g.width < g.height = div_below k g.width g.height some h in
        get_or-listed _ _ k false h ∙ p.stored (suc (k % g.width)) (suc (k / g.width)) (omega arith)
        ∙ on_map g (k % g.width) (k / g.width) x y _
        ∙ ap (λ (n : ℕ). get_or g.free n false) (div-add-mod' k g.width)

pub grid_in_is : (g : GridData) (cells : List Bool) → IsPadded g cells
    → grid_in g.width g.height g.corner cells ≡ g
grid_in_is g cells p = ap (λ (free : List Bool).
    let h : GridData = record { width = g.width; height = g.height; corner = g.corner; free = free } in h)
    (inner_is g cells p)

pub grid_in_padded : (g : GridData) (cells : List Bool) → IsPadded g cells
    → IsPadded (grid_in g.width g.height g.corner cells) cells
grid_in_padded g cells p = subst (λ (h : GridData). IsPadded h cells) (sym (grid_in_is g cells p)) p

-- what is read at the place of a cell
pub free_read : (g : GridData) (cells : List Bool) → IsPadded g cells → (c : Cell) → is_inside g c ≡ true
    → (place : ℕ) → place ≡ place_of g.width (suc c.x) (suc c.y) → (b : Bool) → b ≡ get_or cells place b
    → b ≡ is_free g c
free_read g cells p c i place is b e =
    let l = place_inside g.width g.height (suc c.x) (suc c.y) (let i = inside_is g c i in omega arith)
    (let i = inside_is g c i in omega arith) in
    e ∙ get_or_default cells place b false (let long = p.long in omega arith)
    ∙ ap (λ (n : ℕ). get_or cells n false) is
    ∙ p.stored (suc c.x) (suc c.y) (let i = inside_is g c i in omega arith)

-- and from that of a row's first cell on
pub row_read : (g : GridData) (cells : List Bool) → IsPadded g cells → (y : ℕ) → y < g.height → (place : ℕ)
    → place ≡ place_of g.width 1 (suc y) → (wide : ℕ) → wide ≡ g.width → (x : ℕ) → x < g.width
    → get_or (take wide (drop place cells)) x false ≡ is_free g (record { x = x; y = y })
row_read g cells p y h place is wide w x l =
    get_or-take wide (drop place cells) x false (omega arith) ∙ get_or-drop place cells x false
    ∙ ap (λ (n : ℕ). get_or cells n false) (omega arith) ∙ p.stored (suc x) (suc y) l

-- behind the last column stands the border
pub stored_wide : (g : GridData) (cells : List Bool) → IsPadded g cells → (x y : ℕ) → x ≤ g.width + 1
    → slice_index_or cells (place_of g.width x y) false ≡ stored (is_free g) x y
stored_wide g cells p x y h = by_order (cases_order x (g.width + 1))
  where
    off_map : (y : ℕ) → false ≡ stored (is_free g) (suc g.width) y
    off_map zero = refl
    off_map (suc y) = grind (arith, nat_tests)

    by_order : (x ≡ g.width + 1) ⊎ ((x < g.width + 1) ⊎ (g.width + 1 < x))
        → slice_index_or cells (place_of g.width x y) false ≡ stored (is_free g) x y
    by_order (inl e) =
        let last : x ≡ suc g.width = omega arith in
        ap (λ (n : ℕ). slice_index_or cells n false) (omega arith) ∙ p.stored 0 (suc y) (omega arith)
        ∙ off_map y ∙ ap (λ (n : ℕ). stored (is_free g) n y) (sym last)
    by_order (inr (inl l)) = p.stored x y (omega arith)
    by_order (inr (inr l)) = absurd (omega arith)

-- what stands ahead of a cell
pub stored_ahead : (g : GridData) (x y : ℕ) (d : Dir)
    → stored (is_free g) (column_of d x) (row_of d y) ≡ is_open g (record { x = x; y = y }) d
stored_ahead g x zero N = refl
stored_ahead g x (suc y) N = refl
stored_ahead g x zero NE = refl
stored_ahead g x (suc y) NE = refl
stored_ahead g x y E = refl
stored_ahead g x y SE = refl
stored_ahead g x y S = refl
stored_ahead g zero y SW = refl
stored_ahead g (suc x) y SW = refl
stored_ahead g zero y W = refl
stored_ahead g (suc x) y W = refl
stored_ahead g zero y NW = refl
stored_ahead g (suc x) zero NW = refl
stored_ahead g (suc x) (suc y) NW = refl

-- where it stands on the map
abbrev found : ℕ → Option Cell → ℕ
found w None = 0
found w (Some v) = place_of w (suc v.x) (suc v.y)

pub place_there : (w x y : ℕ) (d : Dir) (v : Cell) → ahead d (record { x = x; y = y }) ≡ Some v
    → place_of w (column_of d x) (row_of d y) ≡ place_of w (suc v.x) (suc v.y)
place_there w x y d v = by_dir x y d
  where
    by_dir : (x y : ℕ) (d : Dir) → ahead d (record { x = x; y = y }) ≡ Some v
        → place_of w (column_of d x) (row_of d y) ≡ place_of w (suc v.x) (suc v.y)
    by_dir x zero N e = absurd (cc)
    by_dir x (suc y) N e = ap (λ (o : Option Cell). found w o) e
    by_dir x zero NE e = absurd (cc)
    by_dir x (suc y) NE e = ap (λ (o : Option Cell). found w o) e
    by_dir x y E e = ap (λ (o : Option Cell). found w o) e
    by_dir x y SE e = ap (λ (o : Option Cell). found w o) e
    by_dir x y S e = ap (λ (o : Option Cell). found w o) e
    by_dir zero y SW e = absurd (cc)
    by_dir (suc x) y SW e = ap (λ (o : Option Cell). found w o) e
    by_dir zero y W e = absurd (cc)
    by_dir (suc x) y W e = ap (λ (o : Option Cell). found w o) e
    by_dir zero y NW e = absurd (cc)
    by_dir (suc x) zero NW e = absurd (cc)
    by_dir (suc x) (suc y) NW e = ap (λ (o : Option Cell). found w o) e

column_near : (d : Dir) (x w : ℕ) → x < w → column_of d x ≤ w + 1
column_near d x w h = grind (arith, nat_tests)

row_near : (d : Dir) (y h : ℕ) → y < h → row_of d y ≤ h + 1
row_near d y h k = grind (arith, nat_tests)

-- the place ahead of a cell on the map
pub ahead_inside : (g : GridData) (c : Cell) (d : Dir) → is_inside g c ≡ true
    → place_of g.width (column_of d c.x) (row_of d c.y) < places g.width g.height
ahead_inside g c d i = let p = inside_is g c i in
    place_inside g.width g.height (column_of d c.x) (row_of d c.y) (column_near d c.x g.width p.0)
    (row_near d c.y g.height p.1)

-- and is read there
pub open_read : (g : GridData) (cells : List Bool) → IsPadded g cells → (c : Cell) (d : Dir)
    → is_inside g c ≡ true → (place : ℕ) → place ≡ place_of g.width (column_of d c.x) (row_of d c.y)
    → (b : Bool) → b ≡ get_or cells place b → b ≡ is_open g c d
open_read g cells p c d i place is b e =
    let l = ahead_inside g c d i in
    e ∙ get_or_default cells place b false (let long = p.long in omega arith)
    ∙ ap (λ (n : ℕ). get_or cells n false) is
    ∙ stored_wide g cells p (column_of d c.x) (row_of d c.y) (column_near d c.x g.width (inside_is g c i).0)
    ∙ stored_ahead g c.x c.y d

-- an edited grid
module _ (g : GridData) (cells : List Bool) (p : IsPadded g cells) (c : Cell) (free : Bool)
    (inside : is_inside g c ≡ true) where
  abbrev edited : List Bool
  edited = set cells (place_of g.width (suc c.x) (suc c.y)) free

  other : (x y : ℕ) → x ≤ g.width → ((x ≡ suc c.x) → (y ≡ suc c.y) → ⊥)
      → get_or edited (place_of g.width x y) false ≡ stored (is_free g) x y
  other x y h n = get_or-set_other cells _ (place_of g.width x y) free false
      (λ e. let s = same_from_place y x (suc c.y) (suc c.x) (g.width + 1) (omega arith)
      (let i = inside_is g c inside in omega arith) e in n s.1 s.0)
      ∙ p.stored x y h

  stored_with : AreStored g.width (is_free (grid_with g c free)) edited
  stored_with zero y h = other zero y h (λ e f. absurd (omega arith))
  stored_with (suc x) zero h = other (suc x) zero h (λ e f. absurd (omega arith))
  stored_with (suc x) (suc y) h = by_test (is_same (record { x = x; y = y }) c) refl
    where
      by_test : (b : Bool) → is_same (record { x = x; y = y }) c ≡ b
          → get_or edited (place_of g.width (suc x) (suc y)) false
          ≡ is_free (grid_with g c free) (record { x = x; y = y })
      by_test true e =
          let same : c ≡ record { x = x; y = y } = sym (is_same-cell _ c e) in
          ap (λ (v : Cell). get_or edited (place_of g.width (suc v.x) (suc v.y)) false) (sym same)
          ∙ get_or-set_same cells _ free false (let i = inside_is g c inside in
          let l = place_inside g.width g.height (suc c.x) (suc c.y) (omega arith) (omega arith) in
          let e = p.long in omega arith)
          ∙ sym (is_free-with_same g c free p.grid inside)
          ∙ ap (λ (v : Cell). is_free (grid_with g c free) v) same
      by_test false e = other (suc x) (suc y) h (λ f k. grind (arith, nat_tests))
          ∙ sym (is_free-with_other g c (record { x = x; y = y }) free inside (λ f. grind (arith, nat_tests)))

  pub padded_with : (place : ℕ) → place ≡ place_of g.width (suc c.x) (suc c.y)
      → IsPadded (grid_with g c free) (set cells place free)
  padded_with place is =
      subst (λ (n : ℕ). IsPadded (grid_with g c free) (set cells n free)) (sym is) (record {
        grid = is_grid-with g c free p.grid;
        long = length-set cells _ free ∙ p.long;
        stored = stored_with;
      })

-- ---- a grid that is made row by row

-- the rows down to this one are filled
abbrev pub AreFilled : ℕ → (Cell → Bool) → ℕ → List Bool → Type 0
AreFilled width free row cells = (x y : ℕ) → x ≤ width
    → slice_index_or cells (place_of width x y) false ≡ (nat_le y row && stored free x y)

pub none_filled : (w n : ℕ) (free : Cell → Bool) (cells : List Bool) → cells ≡ replicate n false
    → AreFilled w free 0 cells
none_filled w n free cells e x y h =
    ap (λ (cells : List Bool). get_or cells (place_of w x y) false) e ∙ blocked (place_of w x y) ∙ shut x y
  where
    blocked : (i : ℕ) → get_or (replicate n false) i false ≡ false
    blocked i = by_order (cases_lt i n)
      where
        by_order : (i < n) ⊎ (n ≤ i) → get_or (replicate n false) i false ≡ false
        by_order (inl l) = get_or-replicate n i false false l
        by_order (inr l) = get_or_past (replicate n false) i false
            (let k = length-replicate n false in omega arith)

    shut : (x y : ℕ) → false ≡ (nat_le y 0 && stored free x y)
    shut zero zero = refl
    shut (suc x) zero = refl
    shut zero (suc y) = grind (arith, nat_tests)
    shut (suc x) (suc y) = grind (arith, nat_tests)

-- one flag more of a row
pub flag_more : (row : List Bool) (x : ℕ) (b : Bool) (f : ℕ → Bool) → x < length row
    → ((k : ℕ) → k < x → get_or row k false ≡ f k) → b ≡ f x
    → (k : ℕ) → k < x + 1 → get_or (set row x b) k false ≡ f k
flag_more row x b f h old is k l = by_place (cases_eq k x)
  where
    by_place : (k ≡ x) ⊎ (k ≡ x → ⊥) → get_or (set row x b) k false ≡ f k
    by_place (inl e) = ap (λ (n : ℕ). get_or (set row x b) n false) e ∙ get_or-set_same row x b false h ∙ is
        ∙ ap f (sym e)
    by_place (inr n) = get_or-set_other row x k b false n ∙ old k (omega arith)

-- one row more
module _ (w h : ℕ) (free : Cell → Bool) (y k : ℕ) (cells row : List Bool) (below : y < h) (wide : k ≡ w)
    (long : length cells ≡ places w h) (length_is : length row ≡ w)
    (new : (x : ℕ) → x < w → slice_index_or row x false ≡ free (record { x = x; y = y }))
    (old : AreFilled w free y cells) where
  abbrev filled : List Bool
  filled = put_mid (place_of w 1 (suc y)) k cells row

  inside : place_of w 1 (suc y) ≤ length cells
  inside = let l = place_inside w h 1 (suc y) (omega arith) (omega arith) in omega arith

  -- what was there stays
  above : (x r : ℕ) → x ≤ w → place_of w x r < place_of w 1 (suc y)
      → (nat_le r y && stored free x r) ≡ (nat_le r (y + 1) && stored free x r)
      → get_or filled (place_of w x r) false ≡ (nat_le r (y + 1) && stored free x r)
  above x r l order same =
      read_before (place_of w 1 (suc y)) k cells row false inside (place_of w x r) order ∙ old x r l ∙ same

  behind : (x r : ℕ) → x ≤ w → place_of w 1 (suc y) + w ≤ place_of w x r
      → (nat_le r y && stored free x r) ≡ (nat_le r (y + 1) && stored free x r)
      → get_or filled (place_of w x r) false ≡ (nat_le r (y + 1) && stored free x r)
  behind x r l order same =
      read_behind (place_of w 1 (suc y)) k cells row false inside (place_of w x r) (omega arith) (omega arith)
      ∙ old x r l ∙ same

  at : (x : ℕ) → suc x ≤ w → get_or filled (place_of w (suc x) (suc y)) false
      ≡ (nat_le (suc y) (y + 1) && free (record { x = x; y = y }))
  at x l = ap (λ (n : ℕ). get_or filled n false) (omega arith)
      ∙ read_within (place_of w 1 (suc y)) k cells row false inside x (omega arith) ∙ new x l
      ∙ grind (arith, nat_tests)

  all_stored : AreFilled w free (y + 1) filled
  all_stored x r l = by_order (cases_order r (suc y))
    where
      by_column : (x r : ℕ) → x ≤ w → r ≡ suc y
          → get_or filled (place_of w x r) false ≡ (nat_le r (y + 1) && stored free x r)
      by_column zero r l e = above zero r l (rw e (omega arith)) (grind (arith, nat_tests))
      by_column (suc x) r l e = rw e (at x l)

      by_order : (r ≡ suc y) ⊎ ((r < suc y) ⊎ (suc y < r))
          → get_or filled (place_of w x r) false ≡ (nat_le r (y + 1) && stored free x r)
      by_order (inl e) = by_column x r l e
      by_order (inr (inl o)) = above x r l (let f = place_below w x r (suc y) l o in omega arith)
          (grind (arith, nat_tests))
      by_order (inr (inr o)) =
          behind x r l (let f = row_fits (suc y) (w + 1) r (w + 1) o (omega arith) in omega arith)
          (grind (arith, nat_tests))

  pub one_filled : (place : ℕ) → place ≡ place_of w 1 (suc y)
      → AreFilled w free (y + 1) (put_mid place k cells row)
  one_filled place is =
      subst (λ (n : ℕ). AreFilled w free (y + 1) (put_mid n k cells row)) (sym is) all_stored

-- all rows
pub all_filled : (g : GridData) (cells : List Bool) → AreFilled g.width (is_free g) g.height cells
    → AreStored g.width (is_free g) cells
all_filled g cells all x y l = all x y l ∙ whole x y
  where
    whole : (x y : ℕ) → (nat_le y g.height && stored (is_free g) x y) ≡ stored (is_free g) x y
    whole zero y = grind arith
    whole (suc x) zero = grind arith
    whole (suc x) (suc y) = grind (arith, nat_tests)

-- a layer's row
pub layer_row : (kind : Ground) (corner : Corner) (w h : ℕ) (bytes : List ℕ) → AreCells w h bytes
    → (x y : ℕ) → x < w → y < h
    → is_ground kind (ground_of (get_or bytes (y * w + x) 0))
    ≡ is_free (layer_of kind corner w h bytes) (record { x = x; y = y })
layer_row kind corner w h bytes are x y l k =
    sym (get_or-map (λ byte. is_ground kind (ground_of byte)) bytes (y * w + x) 0 false
    (let f = row_fits y w h w k (omega arith) in let e = are.whole in omega arith))
    ∙ sym (on_map (layer_of kind corner w h bytes) x y l k _)

-- as it is read from a part of the bytes
pub row_made : (kind : Ground) (corner : Corner) (w h : ℕ) (bytes : List ℕ) → AreCells w h bytes → (y : ℕ)
    → y < h → (from n : ℕ) → from ≡ y * w → n ≡ w → (row : List Bool) → length row ≡ w
    → ((x : ℕ) → x < length row → get_or row x false
    ≡ is_ground kind (ground_of (get_or (take n (drop from bytes)) x 0)))
    → (x : ℕ) → x < w
    → get_or row x false ≡ is_free (layer_of kind corner w h bytes) (record { x = x; y = y })
row_made kind corner w h bytes are y below from n start wide row long flags x l = flags x (omega arith)
    ∙ ap (λ (byte : ℕ). is_ground kind (ground_of byte)) (get_or-take n (drop from bytes) x 0 (omega arith)
    ∙ get_or-drop from bytes x 0 ∙ ap (λ (m : ℕ). get_or bytes (m + x) 0) start)
    ∙ layer_row kind corner w h bytes are x y l below

pub padded_layer : (kind : Ground) (corner : Corner) (w h : ℕ) (bytes : List ℕ) (cells : List Bool)
    → AreCells w h bytes → length cells ≡ places w h
    → AreStored w (is_free (layer_of kind corner w h bytes)) cells
    → IsPadded (layer_of kind corner w h bytes) cells
padded_layer kind corner w h bytes cells are long stored =
    record { grid = is_grid-layer kind corner w h bytes are; long = long; stored = stored }
