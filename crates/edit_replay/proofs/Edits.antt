-- Edited layers: no edit at all, and one edit more.
use Rattle.std.proofs.Common.{◌≡◌, ◌≢◌, ℕ, zero, suc, ◌+◌, ◌<◌, ◌≤◌, arith, length, List, [], ◌∷◌, ◌++◌}
use Rattle.std.proofs.Common.{Bool, true, false, ◌&&◌, cond, map, reverse, get_or, refl, ap, sym, ◌∙◌}
use Rattle.std.proofs.Common.{set-set, subst, zero-add}
use Rattle.std.specs.Prelude.{Option, Some, nat_eq, if◌then◌else◌, slice_set}
use Rattle.std.specs.List.{find, enumerate_from}
use Rattle.std.specs.Option.{option_map_or}
use Rattle.std.proofs.lemmas.List.{reverse-append, set-get_or}
use Rattle.std.proofs.lemmas.Bool.Decides.{nat_tests}
use Rattle.grid_moves.specs.declared.Cell.{Cell}
use Rattle.grid_moves.specs.Grid.{GridData, IsGrid, cell_number, grid_with, is_free, is_ground, is_inside}
use Rattle.grid_moves.specs.Move.{is_same}
use Rattle.grid_moves.proofs.Legal.{is_same-cell, is_same-itself}
use Rattle.grid_moves.proofs.Places.{number_below, one_cell}
use Rattle.grid_moves.specs.declared.Ground.{Ground}
use Rattle.grid_moves.specs.declared.Ground.TheVariants.{Land, Water}
use Rattle.grid_moves.specs.Layers.{AreLayers, Layers, ground_at, is_on_map, layers_with}
use Rattle.grid_moves.proofs.Layering.{ground_at-layers, is_inside-water, same_layers}
use Rattle.edit_replay.specs.Edited.{Edit, asked, edited, edited_layer, names}
use Rattle.edit_replay.specs.Replies.{AddsEdit}

-- what is made of each flag and its place, where the first one stands at k
abbrev flags : (ℕ → Bool → Bool) → ℕ → List Bool → List Bool
flags f k free = map (λ cell. f cell.0 cell.1) (enumerate_from k free)

flags-same : (f : ℕ → Bool → Bool) → ((n : ℕ) (b : Bool) → f n b ≡ b) → (k : ℕ) (free : List Bool)
    → flags f k free ≡ free
flags-same f same k [] = refl
flags-same f same k (b ∷ free) =
    ap (λ (c : Bool). c ∷ flags f (k + 1) free) (same k b)
    ∙ ap (λ (cs : List Bool). b ∷ cs) (flags-same f same (k + 1) free)

flags-agree : (f h : ℕ → Bool → Bool) (k : ℕ) (free : List Bool)
    → ((n : ℕ) (b : Bool) → k ≤ n → f n b ≡ h n b) → flags f k free ≡ flags h k free
flags-agree f h k [] agree = refl
flags-agree f h k (b ∷ free) agree =
    ap (λ (c : Bool). c ∷ flags f (k + 1) free) (agree k b (omega arith))
    ∙ ap (λ (cs : List Bool). h k b ∷ cs) (flags-agree f h (k + 1) free (λ n c l. agree n c (omega arith)))

-- flags that are made differently at one place alone
flags-set : (f h : ℕ → Bool → Bool) (m : ℕ) (v : Bool) → ((n : ℕ) (b : Bool) → n ≢ m → f n b ≡ h n b)
    → ((b : Bool) → f m b ≡ v) → (k i : ℕ) (free : List Bool) → m ≡ k + i
    → flags f k free ≡ slice_set (flags h k free) i v
flags-set f h m v others there k i [] e = refl
flags-set f h m v others there k zero (b ∷ free) e =
    let at : m ≡ k = omega arith in
    ap (λ (c : Bool). c ∷ flags f (k + 1) free) (subst (λ (n : ℕ). f n b ≡ v) at (there b))
    ∙ ap (λ (cs : List Bool). v ∷ cs)
    (flags-agree f h (k + 1) free (λ n c l. others n c (λ same. omega arith)))
flags-set f h m v others there k (suc i) (b ∷ free) e =
    ap (λ (c : Bool). c ∷ flags f (k + 1) free) (others k b (λ same. omega arith))
    ∙ ap (λ (cs : List Bool). h k b ∷ cs) (flags-set f h m v others there (k + 1) i free (omega arith))

-- a later edit wins
asked-more : (ground : Ground) (g : GridData) (before : List Edit) (e : Edit) (n : ℕ) (b : Bool)
    → asked ground g (before ++ e ∷ []) n b
    ≡ if names g e n then is_ground ground e.to else asked ground g before n b
asked-more ground g before e n b =
    ap (λ (es : List Edit). option_map_or (λ edit. is_ground ground edit.to)
    (find (λ edit. names g edit n) es) b) (reverse-append before (e ∷ []))
    ∙ by_test (names g e n) (find (λ edit. names g edit n) (reverse before))
  where
    by_test : (test : Bool) (o : Option Edit)
        → option_map_or (λ edit. is_ground ground edit.to) (cond test (Some e) o) b
        ≡ if test then is_ground ground e.to else option_map_or (λ edit. is_ground ground edit.to) o b
    by_test true o = refl
    by_test false o = refl

unequal : (m n : ℕ) → m ≢ n → nat_eq m n ≡ false
unequal m n h = grind (arith, nat_tests)

itself : (n : ℕ) → nat_eq n n ≡ true
itself n = grind (arith, nat_tests)

with_flags : GridData → List Bool → GridData
with_flags g free = record { width = g.width; height = g.height; corner = g.corner; free = free }

-- no edit at all
layer-nothing : (ground : Ground) (g : GridData) → edited_layer ground g [] ≡ g
unfolding edited_layer with_flags
layer-nothing ground g =
    ap (λ (free : List Bool). with_flags g free) (flags-same (λ n b. b) (λ n b. refl) 0 g.free)

pub edited-nothing : (ls : Layers) → edited ls [] ≡ ls
edited-nothing ls = same_layers (edited ls []) ls (layer-nothing Land ls.land) (layer-nothing Water ls.water)

-- edits keep the sides
pub is_inside-edited : (ground : Ground) (g : GridData) (edits : List Edit) (c : Cell)
    → is_inside (edited_layer ground g edits) c ≡ is_inside g c
unfolding edited_layer
is_inside-edited ground g edits c = refl

-- one more edit of a cell of the map
layer-more : (ground : Ground) (g : GridData) (before : List Edit) (e : Edit) → is_inside g e.cell ≡ true
    → edited_layer ground g (before ++ e ∷ [])
    ≡ grid_with (edited_layer ground g before) e.cell (is_ground ground e.to)
unfolding edited_layer with_flags
layer-more ground g before e inside =
    ap (λ (free : List Bool). with_flags g free)
    (flags-set (asked ground g (before ++ e ∷ [])) (asked ground g before) (cell_number g.width e.cell)
    (is_ground ground e.to) others there 0 (cell_number g.width e.cell) g.free (omega arith))
  where
    others : (n : ℕ) (b : Bool) → n ≢ cell_number g.width e.cell
        → asked ground g (before ++ e ∷ []) n b ≡ asked ground g before n b
    others n b other =
        let apart : nat_eq (cell_number g.width e.cell) n ≡ false
        = unequal (cell_number g.width e.cell) n (λ same. other (sym same)) in
        asked-more ground g before e n b ∙ rw (inside, apart) refl

    there : (b : Bool) → asked ground g (before ++ e ∷ []) (cell_number g.width e.cell) b
        ≡ is_ground ground e.to
    there b =
        let same : nat_eq (cell_number g.width e.cell) (cell_number g.width e.cell) ≡ true
        = itself (cell_number g.width e.cell) in
        asked-more ground g before e (cell_number g.width e.cell) b ∙ rw (inside, same) refl

-- one more edit of a cell outside changes nothing
layer-outside : (ground : Ground) (g : GridData) (before : List Edit) (e : Edit)
    → is_inside g e.cell ≡ false → edited_layer ground g (before ++ e ∷ []) ≡ edited_layer ground g before
unfolding edited_layer with_flags
layer-outside ground g before e outside =
    ap (λ (free : List Bool). with_flags g free)
    (flags-agree (asked ground g (before ++ e ∷ [])) (asked ground g before) 0 g.free
    (λ n b l. asked-more ground g before e n b ∙ rw outside refl))

-- a cell that is already as asked
pub grid_with-same : (g : GridData) (c : Cell) (free : Bool) → is_inside g c ≡ true → is_free g c ≡ free
    → grid_with g c free ≡ g
unfolding with_flags
grid_with-same g c free inside as_asked =
    let flag : get_or g.free (cell_number g.width c) false ≡ free = rw inside at as_asked in
    ap (λ (flags : List Bool). with_flags g flags)
    (ap (λ (b : Bool). slice_set g.free (cell_number g.width c) b) (sym flag)
    ∙ set-get_or g.free (cell_number g.width c) false)

-- a cell that was set is set back
pub set_back : (g : GridData) (c : Cell) (free was : Bool) → is_inside g c ≡ true → is_free g c ≡ was
    → grid_with (grid_with g c free) c was ≡ g
unfolding with_flags
set_back g c free was inside as_it_was =
    ap (λ (flags : List Bool). with_flags g flags) (set-set g.free (cell_number g.width c) free was)
    ∙ grid_with-same g c was inside as_it_was

-- where a layer after some edits is the one grid, after these and one more it is the other
LayerAdds : Ground → GridData → Edit → GridData → Type 0
LayerAdds ground g e after = (m : GridData) (before : List Edit) → g ≡ edited_layer ground m before
    → after ≡ edited_layer ground m (before ++ e ∷ [])

-- a cell lies on the map where it lies on the edited layer
first_inside : (ground : Ground) (g m : GridData) (before : List Edit) (c : Cell)
    → g ≡ edited_layer ground m before → is_inside m c ≡ is_inside g c
first_inside ground g m before c is =
    sym (is_inside-edited ground m before c) ∙ ap (λ (k : GridData). is_inside k c) (sym is)

layer_outside : (ground : Ground) (g : GridData) (e : Edit) → is_inside g e.cell ≡ false
    → LayerAdds ground g e g
unfolding LayerAdds
layer_outside ground g e outside m before is =
    is ∙ sym (layer-outside ground m before e (first_inside ground g m before e.cell is ∙ outside))

layer_done : (ground : Ground) (g : GridData) (e : Edit) → is_inside g e.cell ≡ true
    → LayerAdds ground g e (grid_with g e.cell (is_ground ground e.to))
unfolding LayerAdds
layer_done ground g e inside m before is =
    ap (λ (k : GridData). grid_with k e.cell (is_ground ground e.to)) is
    ∙ sym (layer-more ground m before e (first_inside ground g m before e.cell is ∙ inside))

layer_same : (ground : Ground) (g : GridData) (e : Edit) → is_inside g e.cell ≡ true
    → is_free g e.cell ≡ is_ground ground e.to → LayerAdds ground g e g
layer_same ground g e inside as_asked = subst (λ (after : GridData). LayerAdds ground g e after)
    (grid_with-same g e.cell (is_ground ground e.to) inside as_asked) (layer_done ground g e inside)

adds_both : (ls after : Layers) (e : Edit) → LayerAdds Land ls.land e after.land
    → LayerAdds Water ls.water e after.water → AddsEdit ls e after
unfolding LayerAdds
adds_both ls after e land water m before is =
    same_layers after (edited m (before ++ e ∷ []))
    (land m.land before (ap (λ (k : Layers). k.land) is))
    (water m.water before (ap (λ (k : Layers). k.water) is))

-- what `edit` answers to, and leaves, adds its edit to those before it: where the cell lies outside
pub adds_outside : (ls : Layers) (e : Edit) → AreLayers ls → is_on_map ls e.cell ≡ false → AddsEdit ls e ls
adds_outside ls e are outside = adds_both ls ls e (layer_outside Land ls.land e outside)
    (layer_outside Water ls.water e (is_inside-water ls are e.cell ∙ outside))

-- where the cell is already as asked
pub adds_same : (ls : Layers) (e : Edit) → AreLayers ls → is_on_map ls e.cell ≡ true
    → is_ground (ground_at ls e.cell) e.to ≡ true → AddsEdit ls e ls
adds_same ls e are inside as_asked =
    let free = ground_at-layers ls are e.cell e.to as_asked in
    adds_both ls ls e (layer_same Land ls.land e inside free.0)
    (layer_same Water ls.water e (is_inside-water ls are e.cell ∙ inside) free.1)

-- and where the cell was changed
pub adds_done : (ls after : Layers) (e : Edit) → AreLayers ls → is_on_map ls e.cell ≡ true
    → after ≡ layers_with ls e.cell e.to → AddsEdit ls e after
adds_done ls after e are inside changed = subst (λ (k : Layers). AddsEdit ls e k) (sym changed)
    (adds_both ls (layers_with ls e.cell e.to) e (layer_done Land ls.land e inside)
    (layer_done Water ls.water e (is_inside-water ls are e.cell ∙ inside)))

-- the flag at a place is made of the flag there and the place
flag_at : (f : ℕ → Bool → Bool) (k : ℕ) (free : List Bool) (i : ℕ) → i < length free
    → get_or (flags f k free) i false ≡ f (k + i) (get_or free i false)
flag_at f k [] i h = absurd (omega arith)
flag_at f k (b ∷ free) zero h = let e : k ≡ k + 0 = omega arith in ap (λ (n : ℕ). f n b) e
flag_at f k (b ∷ free) (suc i) h =
    let e : (k + 1) + i ≡ k + suc i = omega arith in
    flag_at f (k + 1) free i (omega arith) ∙ ap (λ (n : ℕ). f n (get_or free i false)) e

find-agree : (p q : Edit → Bool) → ((e : Edit) → p e ≡ q e) → (es : List Edit) → find p es ≡ find q es
find-agree p q agree [] = refl
find-agree p q agree (e ∷ es) =
    ap (λ (b : Bool). cond b (Some e) (find p es)) (agree e)
    ∙ ap (λ (o : Option Edit). cond (q e) (Some e) o) (find-agree p q agree es)

-- an edit names a cell of the map exactly where its cell is that one
names-is_same : (g : GridData) (c : Cell) → is_inside g c ≡ true → (e : Edit)
    → names g e (cell_number g.width c) ≡ is_same e.cell c
names-is_same g c inside e = by_test (is_same e.cell c) refl
  where
    none : is_same e.cell c ≡ false → (b : Bool) → names g e (cell_number g.width c) ≡ b → b ≡ false
    none other false n = refl
    none other true n =
        let column : e.cell.x < g.width = grind (arith, nat_tests) in
        let its_column : c.x < g.width = grind (arith, nat_tests) in
        let number : cell_number g.width e.cell ≡ cell_number g.width c = grind (arith, nat_tests) in
        let one : e.cell ≡ c = one_cell g.width e.cell c column its_column number in
        let same : is_same e.cell c ≡ true = ap (λ (d : Cell). is_same d c) one ∙ is_same-itself c in
        absurd (cc)

    by_test : (b : Bool) → is_same e.cell c ≡ b → names g e (cell_number g.width c) ≡ b
    by_test true same =
        ap (λ (d : Cell). is_inside g d && nat_eq (cell_number g.width d) (cell_number g.width c))
        (is_same-cell e.cell c same)
        ∙ rw (inside, itself (cell_number g.width c)) refl
    by_test false other = none other (names g e (cell_number g.width c)) refl

-- the last edit whose cell this is decides on it, and where there is none, the cell is as it was
pub is_free-edited : (ground : Ground) (g : GridData) (edits : List Edit) (c : Cell) → IsGrid g
    → is_inside g c ≡ true
    → is_free (edited_layer ground g edits) c
    ≡ option_map_or (λ edit. is_ground ground edit.to)
    (find (λ edit. is_same edit.cell c) (reverse edits)) (is_free g c)
unfolding edited_layer
is_free-edited ground g edits c grid inside =
    let number : ℕ = cell_number g.width c in
    let was : Bool = get_or g.free number false in
    let now : is_free (edited_layer ground g edits) c
    ≡ get_or (flags (asked ground g edits) 0 g.free) number false = rw inside refl in
    let before : is_free g c ≡ was = rw inside refl in
    let by_number : find (λ edit. names g edit number) (reverse edits)
    ≡ find (λ edit. is_same edit.cell c) (reverse edits)
    = find-agree (λ edit. names g edit number) (λ edit. is_same edit.cell c)
    (names-is_same g c inside) (reverse edits) in
    now ∙ flag_at (asked ground g edits) 0 g.free number below
    ∙ ap (λ (n : ℕ). asked ground g edits n was) (zero-add number)
    ∙ ap (λ (o : Option Edit). option_map_or (λ edit. is_ground ground edit.to) o was) by_number
    ∙ ap (λ (b : Bool). option_map_or (λ edit. is_ground ground edit.to)
    (find (λ edit. is_same edit.cell c) (reverse edits)) b) (sym before)
  where
    below : cell_number g.width c < length g.free
    below =
        let column : c.x < g.width = grind (arith, nat_tests) in
        let row : c.y < g.height = grind (arith, nat_tests) in
        rw grid.whole (number_below g.width g.height c column row)
