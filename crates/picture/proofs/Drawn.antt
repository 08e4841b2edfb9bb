-- Each cell lies under the strokes of its own ground.
use Rattle.std.proofs.Common.{◌≡◌, ℕ, zero, suc, ◌<◌, Bool, true, false, List, [], ◌∷◌, length, map, get_or}
use Rattle.std.proofs.Common.{refl, Some, None, sym, ◌∙◌, arith}
use Rattle.std.specs.Prelude.{◌↔◌}
use Rattle.std.specs.List.{list_all}
use Rattle.std.proofs.lemmas.Bool.Decides.{nat_tests}
use Rattle.std.proofs.lemmas.List.Sums.{AllPass-from_list_all}
use Rattle.map_text.specs.Map.{is_terrain}
use Rattle.picture.specs.declared.kinds.DrawnGround.{DrawnGround}
use Rattle.picture.specs.Grounds.{is_of, is_background, ground_of}
use Rattle.picture.specs.Laws.{IsDrawnOnce}
use Rattle.picture.proofs.Covering.{cells_of}

own_ground : (kind : DrawnGround) (byte : ℕ) → (is_of kind byte ≡ true) ↔ (ground_of byte ≡ Some kind)
own_ground kind byte = grind (arith, nat_tests)

background : (byte : ℕ) → is_terrain byte ≡ true → (is_background byte ≡ true) ↔ (ground_of byte ≡ None)
background byte terrain = (λ is. grind (arith, nat_tests), λ is. grind (arith, nat_tests))

-- the mark of a cell
mark_of : (p : ℕ → Bool) (row : List ℕ) (x : ℕ) → x < length row
    → get_or (map p row) x false ≡ p (get_or row x 0)
mark_of p [] x below = absurd (omega arith)
mark_of p (byte ∷ row) zero below = refl
mark_of p (byte ∷ row) (suc x) below = mark_of p row x (omega arith)

pub drawn_once : (row : List ℕ) → list_all is_terrain row ≡ true → (x : ℕ) → x < length row
    → IsDrawnOnce row x
drawn_once row terrain x below =
    let byte = get_or row x 0 in
    let drawn = λ (kind : DrawnGround). cells_of x (map (is_of kind) row)
    ∙ mark_of (is_of kind) row x below in
    record {
      strokes = λ kind. (
        λ is. (own_ground kind byte).0 (sym (drawn kind) ∙ is),
        λ of. drawn kind ∙ (own_ground kind byte).1 of,
      );
      none = background byte (AllPass-from_list_all is_terrain row terrain x 0 below);
    }
