use Rattle.std.proofs.Common.{ℕ, ap, sym, ◌∙◌}
use Rattle.grid_moves.specs.Bits.{is_set}
use Rattle.grid_moves.proofs.Bits.{set_none, set_all}
use Rattle.jump_block.specs.Eight.{last_bit}
use Rattle.jump_block.proofs.Lanes.{all_alike}
use Rattle.jump_block.proofs.eight.changed.Goals as goal
use Rattle.jump_block.proofs.eight.changed.Goals.{then-ends_set, else-ends_set}

pub returns : goal.returns
returns c =
    all_alike (is_set c.args.last (last_bit c.args.way)) c.if-ends_set.alike c.args.side.now c.requires.eight
    (λ j h. elim c.if-ends_set.branch [
      | then-ends_set w ↦ ap (λ (n : ℕ). is_set n j) w.alike-is ∙ set_all j h
          ∙ sym w.if-ends_set.true ∙ c.ends_set.ensures
      | else-ends_set w ↦ ap (λ (n : ℕ). is_set n j) w.alike-is ∙ set_none j
          ∙ sym w.if-ends_set.false ∙ c.ends_set.ensures
    ])
