-- Points that unfold lie on lines.
use Rattle.std.proofs.Common.{◌≡◌, refl, Bool, true, false, ◌&&◌, List, [], ◌∷◌, ◌++◌}
use Rattle.std.specs.Prelude.{Option, Some, None, option_map, if◌then◌else◌}
use Rattle.grid_moves.specs.declared.Cell.{Cell}
use Rattle.grid_moves.specs.Points.{are_lined, is_lined, segment, steps_between, unfolded_from, unfolding_of}
use Rattle.grid_moves.specs.Layers.{Layers}
use Rattle.grid_moves.specs.Reply.{IsRight}
use Rattle.edit_replay.specs.Replies.{answer_of}
use Rattle.edit_replay.specs.declared.reply.Reply.{Reply}
use Rattle.edit_replay.specs.declared.reply.Reply.TheVariants as reply
use Rattle.reply_lines.specs.Lines.{Unfolds}

lined_from : (p : Cell) (points : List Cell) (cells : List Cell) → unfolded_from p points ≡ Some cells
    → is_lined (p ∷ points) ≡ true
lined_from p [] cells h = refl
lined_from p (q ∷ points) cells h = by_test (lined_from q points) (are_lined p q) refl h
  where
    by_rest : ((cs : List Cell) → unfolded_from q points ≡ Some cs → is_lined (q ∷ points) ≡ true)
        → (o : Option (List Cell)) → unfolded_from q points ≡ o
        → option_map (λ cs. segment (steps_between p q) p q ++ cs) o ≡ Some cells
        → is_lined (q ∷ points) ≡ true
    by_rest again None e h = absurd (cc)
    by_rest again (Some cs) e h = again cs e

    by_test : ((cs : List Cell) → unfolded_from q points ≡ Some cs → is_lined (q ∷ points) ≡ true)
        → (b : Bool) → are_lined p q ≡ b
        → (if b then option_map (λ cs. segment (steps_between p q) p q ++ cs) (unfolded_from q points) else
        None) ≡ Some cells → (are_lined p q && is_lined (q ∷ points)) ≡ true
    by_test again true e h = rw e (by_rest again (unfolded_from q points) refl h)
    by_test again false e h = absurd (cc)

lined : (points : List Cell) (cells : List Cell) → unfolding_of points ≡ Some cells → is_lined points ≡ true
lined [] cells h = absurd (cc)
lined (p ∷ points) cells h = by_rest (unfolded_from p points) refl h
  where
    by_rest : (o : Option (List Cell)) → unfolded_from p points ≡ o
        → option_map (λ cs. p ∷ cs) o ≡ Some cells → is_lined (p ∷ points) ≡ true
    by_rest None e h = absurd (cc)
    by_rest (Some cs) e h = lined_from p points cs e

-- the points of a right reply unfold
pub replied_unfolds : (ls : Layers) (s t : Cell) (r : Reply) → IsRight ls s t (answer_of r) → Unfolds r
replied_unfolds ls s t reply.Outside right = tt
replied_unfolds ls s t reply.Blocked right = tt
replied_unfolds ls s t (reply.None taken) right = tt
replied_unfolds ls s t (reply.Walk points cost taken) right = lined points (s ∷ right.1.cells) right.1.unfolds
