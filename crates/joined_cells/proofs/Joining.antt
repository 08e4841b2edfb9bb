-- Walks lead on, and back.
use Rattle.std.proofs.Common.{◌≡◌, refl, ◌∙◌, true, [], ◌∷◌, ◌++◌, ap, sym, subst}
use Rattle.grid_moves.specs.declared.Cell.{Cell}
use Rattle.grid_moves.specs.Grid.{GridData, is_free}
use Rattle.grid_moves.specs.Move.{is_legal}
use Rattle.grid_moves.specs.Walk.{is_walk, last_of}
use Rattle.grid_moves.proofs.Legal.{legal_is}
use Rattle.grid_moves.proofs.Walks.{last-joined, walk-joined}
use Rattle.grid_moves.proofs.Turned.{walk_back}
use Rattle.joined_cells.specs.Joined.{IsJoined}

pub joined_itself : (g : GridData) (s : Cell) → is_free g s ≡ true → IsJoined g s s
joined_itself g s f = record { cells = []; walk = record { legal = f; ends = refl } }

pub joined_on : (g : GridData) (s t e : Cell) → IsJoined g s t → IsJoined g t e → IsJoined g s e
joined_on g s t e j k = record {
  cells = j.cells ++ k.cells;
  walk = record {
    legal = walk-joined g s j.cells k.cells j.walk.legal
        (subst (λ (c : Cell). is_walk g (c ∷ k.cells) ≡ true) (sym j.walk.ends) k.walk.legal);
    ends = last-joined s j.cells k.cells ∙ ap (λ (c : Cell). last_of c k.cells) j.walk.ends ∙ k.walk.ends;
  };
}

pub joined_more : (g : GridData) (s u v : Cell) → IsJoined g s u → is_legal g u v ≡ true → IsJoined g s v
joined_more g s u v j l = joined_on g s u v j (record {
  cells = v ∷ [];
  walk = record { legal = rw (l, (legal_is g u v l).target) refl; ends = refl };
})

pub joined_back : (g : GridData) (s t : Cell) → IsJoined g s t → IsJoined g t s
joined_back g s t j =
    let b = walk_back g s t j.cells j.walk in
    record { cells = b.back; walk = b.walk }
