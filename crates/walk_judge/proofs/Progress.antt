-- The beginning of a reading.
use Rattle.std.proofs.lemmas.Bool.Decides.{nat_tests}
use Rattle.std.proofs.Common.{◌≡◌, ℕ, suc, ◌+◌, ◌≤◌, arith, refl, ap, List, [], ◌∷◌, length}
use Rattle.std.specs.Prelude.{map}
use Rattle.text_line.specs.Left.{Left}
use Rattle.text_line.specs.Lines.{lines_of, pieces_of, without_cr}
use Rattle.text_line.specs.Reading.{read_behind}
use Rattle.text_line.specs.Places.{room_of}
use Rattle.text_line.proofs.Placing.{room_of_pieces}
use Rattle.walk_judge.specs.declared.claims.Claimed.{Claimed}
use Rattle.walk_judge.specs.Walks.{place_read, places_from, walks_of}

-- a text has no more lines than bytes and one
pub few_lines : (text : List ℕ) → length (lines_of text) ≤ length text + 1
few_lines text = omega (arith, room_of_pieces text, as_many (pieces_of text), many_room (pieces_of text))
  where
    as_many : (pieces : List (List ℕ)) → length (map without_cr pieces) ≡ length pieces
    as_many [] = refl
    as_many (piece ∷ pieces) = ap (λ n. suc n) (as_many pieces)

    many_room : (pieces : List (List ℕ)) → length pieces ≤ room_of pieces
    many_room [] = omega arith
    many_room (piece ∷ pieces) = omega (arith, many_room pieces)

-- before the first line, all lines are left behind no walks
pub walks_begun : (text : List ℕ) (entries : ℕ) (walks : List Claimed) (left : Left) → walks ≡ []
    → left ≡ record { lines = lines_of text; number = 1 }
    → walks_of text entries ≡ read_behind (place_read entries) walks (places_from 1 (length walks) left.lines)
unfolding walks_of
walks_begun text entries walks left h1 h2 = grind (arith, nat_tests)
