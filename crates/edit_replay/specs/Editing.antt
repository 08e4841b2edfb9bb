-- What an edit does to a session. No public clause cites this module.
use Rattle.std.specs.Prelude.{◌≡◌, ◌≢◌, ℕ}
use Rattle.edit_replay.specs.declared.reply.EditReply.{EditReply}
use Rattle.edit_replay.specs.declared.reply.EditReply.TheVariants.{Done}
use Rattle.edit_replay.specs.Edited.{Edit, edit_reply}
use Rattle.edit_replay.specs.Mended.{IsEditCounted}
use Rattle.edit_replay.specs.Replies.{AddsEdit, EditsSo}
use Rattle.edit_replay.specs.Session.{SessionData}

-- the edit is answered so, and leaves this session and this count of steps
pub record HasEdited (old : SessionData) (edit : Edit) (answer : EditReply) (new : SessionData)
    (before after : ℕ) : Type 0 where
  pub reply : answer ≡ edit_reply old.layers edit
  pub edited : AddsEdit old.layers edit new.layers
  pub cell : EditsSo old.layers edit.cell edit.to new.layers answer
  pub engine : new.engine ≡ old.engine
  pub counted : IsEditCounted old.engine old.layers new.layers before after
  pub unchanged : answer ≢ Done → after ≡ before
