-- The two layers of a map stay apart.
use denote.Enum.Bare.{sameb}
use Rattle.std.proofs.Common.{◌≡◌, ◌≢◌, ℕ, zero, suc, Bool, true, false, ◌&&◌, refl, ap, sym, subst, ◌∙◌}
use Rattle.std.proofs.Common.{List, [], ◌∷◌, map, get_or}
use Rattle.std.specs.Prelude.{if◌then◌else◌}
use Rattle.std.proofs.lemmas.Bool.{false≢true}
use Rattle.std.proofs.lemmas.List.{length-map}
use Rattle.grid_moves.specs.contracts.Ground.{the_type}
use Rattle.grid_moves.specs.declared.Cell.{Cell}
use Rattle.grid_moves.specs.declared.Corner.{Corner}
use Rattle.grid_moves.specs.declared.Ground.{Ground}
use Rattle.grid_moves.specs.declared.Ground.TheVariants.{Blocked, Land, Water}
use Rattle.grid_moves.specs.Grid.{AreCells, GridData, IsGrid, cell_number, grid_with, ground_of, is_free}
use Rattle.grid_moves.specs.Grid.{is_ground, is_inside, layer_of}
use Rattle.grid_moves.specs.Layers.{AreLayers, Layers, ground_at, is_on_map, layers_of, layers_with}
use Rattle.grid_moves.specs.Move.{is_same}
use Rattle.grid_moves.proofs.Edited.{is_free-with_other, is_free-with_same, is_grid-with}
use Rattle.grid_moves.proofs.Legal.{is_same-cell, is_same-itself}

-- no ground is both
pub not_both : (ground : Ground) → (is_ground Land ground && is_ground Water ground) ≡ false
not_both Blocked = refl
not_both Land = refl
not_both Water = refl

-- nor is a byte's
bytes_apart : (bytes : List ℕ) (n : ℕ)
    → (get_or (map (λ byte. is_ground Land (ground_of byte)) bytes) n false
    && get_or (map (λ byte. is_ground Water (ground_of byte)) bytes) n false) ≡ false
bytes_apart [] n = refl
bytes_apart (byte ∷ bytes) zero = not_both (ground_of byte)
bytes_apart (byte ∷ bytes) (suc n) = bytes_apart bytes n

within : (inside a b : Bool) → (a && b) ≡ false → ((inside && a) && (inside && b)) ≡ false
within true a b e = e
within false a b e = refl

pub is_grid-layer : (ground : Ground) (corner : Corner) (width height : ℕ) (bytes : List ℕ)
    → AreCells width height bytes → IsGrid (layer_of ground corner width height bytes)
is_grid-layer ground corner width height bytes cells = record {
  sides = cells.sides;
  whole = length-map bytes (λ byte. is_ground ground (ground_of byte)) ∙ cells.whole;
}

-- the layers of a map
pub are_layers-of : (corner : Corner) (width height : ℕ) (bytes : List ℕ) → AreCells width height bytes
    → AreLayers (layers_of corner width height bytes)
are_layers-of corner width height bytes cells = record {
  land = is_grid-layer Land corner width height bytes cells;
  water = is_grid-layer Water corner width height bytes cells;
  width = refl;
  height = refl;
  corner = refl;
  apart = λ c. within (is_inside (layer_of Land corner width height bytes) c) _ _
      (bytes_apart bytes (cell_number width c));
}

-- of two grids of the same sides a cell lies on the one where it lies on the other
pub is_inside-water : (ls : Layers) → AreLayers ls → (c : Cell) → is_inside ls.water c ≡ is_on_map ls c
is_inside-water ls are c = rw (are.width, are.height) refl

-- of the ground that is there, each layer says so
by_ground : (land water : Bool) (to : Ground) → (land && water) ≡ false
    → is_ground (if water then Water else if land then Land else Blocked) to ≡ true
    → (land ≡ is_ground Land to) × (water ≡ is_ground Water to)
by_ground true true to apart e = absurd (cc)
by_ground true false Blocked apart e = absurd (cc)
by_ground true false Land apart e = (refl, refl)
by_ground true false Water apart e = absurd (cc)
by_ground false true Blocked apart e = absurd (cc)
by_ground false true Land apart e = absurd (cc)
by_ground false true Water apart e = (refl, refl)
by_ground false false Blocked apart e = (refl, refl)
by_ground false false Land apart e = absurd (cc)
by_ground false false Water apart e = absurd (cc)

pub ground_at-layers : (ls : Layers) → AreLayers ls → (c : Cell) (to : Ground)
    → is_ground (ground_at ls c) to ≡ true
    → (is_free ls.land c ≡ is_ground Land to) × (is_free ls.water c ≡ is_ground Water to)
ground_at-layers ls are c to e = by_ground (is_free ls.land c) (is_free ls.water c) to (are.apart c) e

-- where a cell was changed in both grids they are layers still
pub are_layers-with : (ls : Layers) (c : Cell) (to : Ground) → AreLayers ls → is_on_map ls c ≡ true
    → AreLayers (layers_with ls c to)
are_layers-with ls c to are inside = record {
  land = is_grid-with ls.land c (is_ground Land to) are.land;
  water = is_grid-with ls.water c (is_ground Water to) are.water;
  width = are.width;
  height = are.height;
  corner = are.corner;
  apart = λ u. by_cell u (is_same u c) refl;
}
  where
    in_water : is_inside ls.water c ≡ true
    in_water = is_inside-water ls are c ∙ inside

    both : {a b x y : Bool} → a ≡ x → b ≡ y → (x && y) ≡ false → (a && b) ≡ false
    both {b = b} {x = x} e f h = ap (λ (t : Bool). t && b) e ∙ ap (λ (t : Bool). x && t) f ∙ h

    differs : (u : Cell) → is_same u c ≡ false → u ≢ c
    differs u e same = let here = ap (λ (v : Cell). is_same v c) same in
        absurd (false≢true (sym e ∙ here ∙ is_same-itself c))

    by_cell : (u : Cell) (same : Bool) → is_same u c ≡ same
        → (is_free (grid_with ls.land c (is_ground Land to)) u
        && is_free (grid_with ls.water c (is_ground Water to)) u)
        ≡ false
    by_cell u true e = subst (λ (v : Cell). (is_free (grid_with ls.land c (is_ground Land to)) v
        && is_free (grid_with ls.water c (is_ground Water to)) v) ≡ false)
        (sym (is_same-cell u c e))
        (both (is_free-with_same ls.land c (is_ground Land to) are.land inside)
        (is_free-with_same ls.water c (is_ground Water to) are.water in_water) (not_both to))
    by_cell u false e =
        both (is_free-with_other ls.land c u (is_ground Land to) inside (differs u e))
        (is_free-with_other ls.water c u (is_ground Water to) in_water (differs u e)) (are.apart u)

-- a test of two grounds is that of the specs
pub same_ground : (a b : Ground) → sameb the_type a b ≡ is_ground b a
same_ground Blocked Blocked = refl
same_ground Blocked Land = refl
same_ground Blocked Water = refl
same_ground Land Blocked = refl
same_ground Land Land = refl
same_ground Land Water = refl
same_ground Water Blocked = refl
same_ground Water Land = refl
same_ground Water Water = refl

-- a grid that was edited by such a test
pub edited_by : (g : GridData) {h : GridData} (c : Cell) {b : Bool} (of to : Ground) → h ≡ grid_with g c b
    → b ≡ sameb the_type to of → h ≡ grid_with g c (is_ground of to)
edited_by g c of to e f = e ∙ ap (λ (b : Bool). grid_with g c b) (f ∙ same_ground to of)

-- two layers with the same grids are one
pub same_layers : (p q : Layers) → p.land ≡ q.land → p.water ≡ q.water → p ≡ q
same_layers p q e f =
    ap (λ (g : GridData). let ls : Layers = record { land = g; water = p.water } in ls) e
    ∙ ap (λ (g : GridData). let ls : Layers = record { land = q.land; water = g } in ls) f
