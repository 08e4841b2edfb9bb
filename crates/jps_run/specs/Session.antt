-- Who answers a call, as its settings ask; and what the commands know of a session: its plain data, what it
-- replies, and what edits make of it.
use Rattle.std.specs.Prelude.{◌≡◌, ℕ, List}
use Rattle.map_text.specs.Map.{Map}
use Rattle.edit_replay.specs.Edited.{Edit, edited}
use Rattle.edit_replay.specs.Session.{SessionData}
use Rattle.word_list.specs.declared.request.Settings.{Settings}
use Rattle.word_list.specs.Settings.{session_engine}
use Rattle.call_files.specs.Layered.{layers_on}
use Rattle.jps_run.specs.Manner.{picked_by, engine_for}
use Rattle.jps_run.specs.Replies.{Replies, by_session}
use Rattle.jps_run.specs.Who.{Who, replies_by}

-- who answers on a map, as the settings ask
abbrev pub who_on : Settings → Map → Who
who_on set m = record { layers = layers_on set m; by = picked_by set }

-- the session on a map, as the settings ask
abbrev pub session_on : Settings → Map → SessionData
session_on set m =
    record { engine = engine_for set.states (session_engine set.pick); layers = layers_on set m }

-- the session is this one
abbrev pub IsSessionOn : Settings → Map → SessionData → Type 0
IsSessionOn set m d = d ≡ session_on set m

-- what a session replies
abbrev pub session_replies : SessionData → Replies
session_replies d = replies_by (by_session d.engine)

-- the session after edits
abbrev pub session_after : SessionData → List Edit → SessionData
session_after d edits = record { engine = d.engine; layers = edited d.layers edits }

-- the session's sides
abbrev pub width_of : SessionData → ℕ
width_of d = d.layers.land.width

abbrev pub height_of : SessionData → ℕ
height_of d = d.layers.land.height
