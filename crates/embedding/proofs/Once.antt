-- Layers after one edit.
use Rattle.std.proofs.Common.{sym, subst, [], ◌∷◌}
use Rattle.std.specs.Prelude.{Result, IfOk}
use Rattle.grid_moves.specs.declared.Cell.{Cell}
use Rattle.grid_moves.specs.Layers.{Layers}
use Rattle.grid_moves.specs.Reply.{IsRight}
use Rattle.edit_replay.specs.Edited.{Edit, edited}
use Rattle.edit_replay.specs.Replies.{answer_of, AddsEdit}
use Rattle.edit_replay.specs.declared.reply.Reply.{Reply}
use Rattle.edit_replay.proofs.Edits.{edited-nothing}

-- a reply that is right on the layers that an edit left is right on the layers before, after this one edit
pub right_once : {E : Type 0} (result : Result Reply E) (before after : Layers) (e : Edit) (s t : Cell)
    → AddsEdit before e after
    → IfOk result (λ reply. IsRight after s t (answer_of reply))
    → IfOk result (λ reply. IsRight (edited before (e ∷ [])) s t (answer_of reply))
right_once result before after e s t adds right =
    subst (λ (ls : Layers). IfOk result (λ reply. IsRight ls s t (answer_of reply)))
    (adds before [] (sym (edited-nothing before))) right
