-- How far the counter of steps rises: for a query, for what is answered in turn, for commands and for the
-- entries of a scenario.
use Rattle.std.specs.Prelude.{◌≡◌, ℕ, ◌≤◌, true, false, List, [], ◌∷◌}
use Rattle.grid_moves.specs.declared.Cell.{Cell}
use Rattle.edit_replay.specs.Counting.{RoseByStates, RoseWithin}
use Rattle.edit_replay.specs.Edited.{Edit}
use Rattle.edit_replay.specs.Mended.{IsEditCounted}
use Rattle.edit_replay.specs.Session.{SessionData}
use Rattle.scen_text.specs.declared.entry.Entry.{Entry}
use Rattle.script_text.specs.declared.command.ScriptCommand.{ScriptCommand}
use Rattle.script_text.specs.declared.command.ScriptCommand.TheVariants as command
use Rattle.jps_run.specs.Answers.{edits_with}
use Rattle.jps_run.specs.Rows.{goal_of, has_sides, start_of}
use Rattle.jps_run.specs.Session.{session_after}
use Rattle.jps_run.specs.Who.{Who, fewest_by, most_by, reply_to, who_is}

-- the counter rose for the reply to the query: by at least the fewest steps for each state that is taken away
-- from the goal, and, where a most is known, by no more than that for each state that is taken
pub record RoseForQuery (who : Who) (s t : Cell) (old new : ℕ) : Type 0 where
  pub fewest : RoseByStates (fewest_by who.by) old new (reply_to who s t)
  pub most : RoseWithin (most_by who.by) old new (reply_to who s t)

-- it rose for each item in turn, as the item makes it where the earlier ones lead
abbrev pub RoseInTurn : {S X : Type 0} → (S → X → ℕ → ℕ → Type 0) → (S → X → S) → S → List X → ℕ → ℕ → Type 0
RoseInTurn Rose next s [] old new = new ≡ old
RoseInTurn Rose next s (x ∷ xs) old new =
    (between : ℕ) × Rose s x old between × RoseInTurn Rose next (next s x) xs between new

-- it rose for an edit that led from one session to another, as the engine counts one
pub record RoseForEdit (before after : SessionData) (old new : ℕ) : Type 0 where
  pub later : old ≤ new
  pub counted : IsEditCounted before.engine before.layers after.layers old new

-- it rose for a command that did
abbrev pub RoseForCommand : SessionData → SessionData → ScriptCommand → ℕ → ℕ → Type 0
RoseForCommand before after (command.Block x y) old new = RoseForEdit before after old new
RoseForCommand before after (command.Free x y) old new = RoseForEdit before after old new
RoseForCommand before after (command.Flood x y) old new = RoseForEdit before after old new
RoseForCommand before after (command.Query sx sy gx gy) old new =
    RoseForQuery (who_is before) (record { x = sx; y = sy }) (record { x = gx; y = gy }) old new

-- it rose for a command on the map's session as these edits leave it
abbrev pub RoseAfter : SessionData → List Edit → ScriptCommand → ℕ → ℕ → Type 0
RoseAfter d edits c old new =
    RoseForCommand (session_after d edits) (session_after d (edits_with edits c)) c old new

-- it rose for each of the commands in turn
abbrev pub RoseForCommands : SessionData → List ScriptCommand → ℕ → ℕ → Type 0
RoseForCommands d commands old new = RoseInTurn (RoseAfter d) edits_with [] commands old new

-- it rose for an entry: not at all where it is not searched
pub data RoseForEntry (who : Who) (entry : Entry) (old new : ℕ) : Type 0 where
  unsearched : has_sides who.layers entry ≡ false → new ≡ old → RoseForEntry who entry old new
  searched : has_sides who.layers entry ≡ true
      → RoseForQuery who (start_of entry) (goal_of entry) old new
      → RoseForEntry who entry old new

-- it rose for each of the entries in turn
abbrev pub RoseForEntries : Who → List Entry → ℕ → ℕ → Type 0
RoseForEntries who entries old new =
    RoseInTurn {S = Unit {0}} (λ _ entry. RoseForEntry who entry) (λ s _. s) tt entries old new
