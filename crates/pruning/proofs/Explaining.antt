-- The second local fact: each allowed turn is explained, by the arrival, by its components or by a mark.
use Rattle.std.proofs.Common.{◌≡◌, Bool, true, false, not, sym, ◌∙◌, ap, refl, ◌||◌}
use Rattle.std.proofs.lemmas.Bool.{or_right}
use Rattle.grid_moves.specs.declared.Cell.{Cell}
use Rattle.grid_moves.specs.declared.Corner.{Corner}
use Rattle.grid_moves.specs.declared.Dir.{Dir}
use Rattle.grid_moves.specs.Grid.{GridData}
use Rattle.grid_moves.specs.Move.{may_cut}
use Rattle.grid_moves.proofs.Legal.{and_both, legal_is, by_cut}
use Rattle.pruning.specs.declared.Arrival.TheVariants.{By}
use Rattle.pruning.specs.declared.turns.Side.{Side}
use Rattle.pruning.specs.declared.turns.Side.TheVariants.{Right, Left}
use Rattle.pruning.specs.Turns.{turn, quarter, rear, is_diagonal}
use Rattle.pruning.specs.Allowed.{is_blocked, can_move, keeps_eighth, keeps_quarter, is_kept}
use Rattle.pruning.specs.Marked.{is_forced_on, IsMarked, forces}
use Rattle.pruning.specs.Facts.{IsExplained, same, component, turns, TurnsAreMarked}
use Rattle.pruning.proofs.Table.{Turned, turned, ahead, eighth, side, back, about, turn_parity}
use Rattle.pruning.proofs.Table.{quarter_parity, by_parity}
use Rattle.pruning.proofs.Moves.{can_move-straight}
use Rattle.pruning.proofs.Bridging.{leads_from}
use Rattle.pruning.proofs.Kept.{not_true, kept-eighth, kept-quarter, kept-back, kept-about}
use Rattle.pruning.proofs.Replacing.{sides_open}

or_true : (a b : Bool) → a ≡ false → (a || b) ≡ true → b ≡ true
or_true a b h k = rw h at k

module _ (r : Corner) (b can : Dir → Bool) (d : Dir) (s : Side) where
  -- a quarter that is kept, and legal, is forced
  forced-quarter : keeps_quarter r b d s ≡ true → can (quarter s d) ≡ true
      → is_forced_on r b can d s ≡ true
  forced-quarter k m = by_cut r
      (λ e. let both = and_both (not (is_diagonal d)) (b (rear s d)) (rw e at k) in
      rw (e, not_true (is_diagonal d) both.0, both.1, m) refl)
      (λ e. let both = and_both (is_diagonal d) (b (rear s d)) (rw e at k) in rw (e, both.0, both.1, m) refl)

  -- so is an eighth after a straight move, where with it the quarter is legal if no corner is cut
  forced-eighth : is_diagonal d ≡ false → keeps_eighth r b d s ≡ true → can (turn s d) ≡ true
      → (may_cut r ≡ false → can (quarter s d) ≡ true) → is_forced_on r b can d s ≡ true
  forced-eighth h k m n = by_cut r
      (λ e. rw (e, h, or_true (is_diagonal d) (b (rear s d)) h (rw e at k), n e) refl)
      (λ e. rw (e, h, or_true (is_diagonal d) (b (quarter s d)) h (rw e at k), m) refl)

module _ (g : GridData) (x : Cell) (d : Dir) where
  marked : (s : Side) → is_forced_on g.corner (is_blocked g x) (can_move g x) d s ≡ true → IsMarked g x d
  marked Right h = forces (rw h refl)
  marked Left h = forces (or_right (is_forced_on g.corner (is_blocked g x) (can_move g x) d Right) _ h)

  -- the side of a legal diagonal
  side_legal : (s : Side) → is_diagonal d ≡ false → can_move g x (turn s d) ≡ true
      → may_cut g.corner ≡ false
      → can_move g x (quarter s d) ≡ true
  side_legal s h m e =
      let l = leads_from g x (turn s d) m in
      can_move-straight g x (quarter s d) (legal_is g x l.0 l.1.legal).source (quarter_parity s d ∙ h)
      ∙ sides_open g x l.0 (turn s d) l.1 (turn_parity s d ∙ ap not h) e s

  by_turn : (e : Dir) → Turned d e → is_kept g.corner (is_blocked g x) (By d) e ≡ true
      → can_move g x e ≡ true
      → IsExplained g x d e
  by_turn _ ahead k m = same
  by_turn _ (eighth s) k m = by_parity d (λ h. component h s)
      (λ h. turns (marked s (forced-eighth g.corner (is_blocked g x) (can_move g x) d s h
      (sym (kept-eighth g.corner (is_blocked g x) s d) ∙ k) m (side_legal s h m))) (turn s d))
  by_turn _ (side s) k m = turns (marked s (forced-quarter g.corner (is_blocked g x) (can_move g x) d s
      (sym (kept-quarter g.corner (is_blocked g x) s d) ∙ k) m)) (quarter s d)
  by_turn _ (back s) k m = absurd (let never = kept-back g.corner (is_blocked g x) s d in cc)
  by_turn _ about k m = absurd (let never = kept-about g.corner (is_blocked g x) d in cc)

pub turns_are_marked : TurnsAreMarked
turns_are_marked g x d e h =
    let both = and_both (is_kept g.corner (is_blocked g x) (By d) e) (can_move g x e) h in
    by_turn g x d e (turned d e) both.0 both.1
