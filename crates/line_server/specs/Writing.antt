-- How one answer is made, and how answers go out. No public clause cites this module.
use Rattle.std.specs.Prelude.{◌≡◌, ℕ, List, ◌++◌, Result, MatchResult, Ok, Err, codes}
use Rattle.std.specs.Global.{Vec}
use Rattle.edit_replay.specs.Edited.{Edit, edited}
use Rattle.edit_replay.specs.ReplyOf.{reply_of}
use Rattle.edit_replay.specs.Session.{SessionData}
use Rattle.grid_moves.specs.Layers.{Layers}
use Rattle.io_edge.specs.Known.{Outflow}
use Rattle.line_work.specs.Sending.{Wrote, WroteSome}
use Rattle.word_list.specs.declared.request.Show.{Show}
use Rattle.line_server.specs.declared.answer.Answer.{Answer}
use Rattle.line_server.specs.declared.answer.Answer.TheVariants.{Made, Said}
use Rattle.line_server.specs.declared.asked.Asked.{Asked}
use Rattle.line_server.specs.Asked.{edits_by}
use Rattle.line_server.specs.Answers.{Answers}

-- the bytes of an answer
abbrev pub bytes_of : Answer → List ℕ
bytes_of (Said text) = text.now
bytes_of (Made text) = text.items

-- a text, or `memory`, where it could not be made
abbrev pub text_or_memory : {E : Type 0} → Result (Vec ℕ) E → List ℕ
text_or_memory (Ok text) = text.items
text_or_memory (Err error) = codes "memory\n"

-- the text answers this, and its edit was made
pub record AnswersOne (old new : SessionData) (show : Show) (a : Asked) (text : List ℕ) : Type 0 where
  pub engine : new.engine ≡ old.engine
  pub layers : (m : Layers) (before : List Edit) → old.layers ≡ edited m before
      → new.layers ≡ edited m (before ++ edits_by a)
  pub answers : Answers (reply_of old.engine) show old.layers a text

-- the text was written, or a first part of it where a write failed
abbrev pub WritesText : {T E : Type 0} → List ℕ → Outflow → Outflow → Result T E → Type 0
WritesText text at now result = MatchResult result (λ _. Wrote at now text) (λ _. WroteSome at now text)

-- the text was put behind what waits, of which a first part went out; or a write failed, and a first part of
-- it all did
abbrev pub PutsText : {T E : Type 0} → List ℕ → Outflow → List ℕ → Outflow → List ℕ → Result T E → Type 0
PutsText text at held now held_now result = MatchResult result
    (λ _. (sent : List ℕ) × Wrote at now sent × (held ++ text ≡ sent ++ held_now))
    (λ _. WroteSome at now (held ++ text))
