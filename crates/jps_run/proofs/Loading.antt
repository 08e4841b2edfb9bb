-- Sessions on maps.
use Rattle.std.proofs.Common.{◌≡◌, ◌∙◌, ap, refl, true, false}
use Rattle.map_text.specs.Map.{Map}
use Rattle.edit_replay.specs.Session.{SessionData}
use Rattle.edit_replay.specs.declared.engine.Engine.TheVariants as engine
use Rattle.word_list.specs.Settings.{has_tables, is_for_small_maps, session_engine}
use Rattle.word_list.specs.declared.request.Settings.{Settings}
use Rattle.word_list.specs.declared.request.Pick.{Pick}
use Rattle.word_list.specs.declared.request.Pick.TheVariants.{Session, Small}
use Rattle.word_list.specs.declared.request.SessionEngine.TheVariants.{Plus}
use Rattle.word_list.specs.declared.request.States.{States}
use Rattle.call_files.specs.Layered.{layers_on}
use Rattle.jps_run.specs.Manner.{by_of, engine_for, layout_for}
use Rattle.jps_run.specs.Replies.{By, by_session}
use Rattle.jps_run.specs.Session.{IsSessionOn, who_on}
use Rattle.jps_run.specs.Who.{Who, who_is}

-- the engine that searches by tables is that of a session
pub by_tables : (states : States) (pick : Pick) → has_tables pick ≡ true
    → engine.Plus (layout_for states) ≡ engine_for states (session_engine pick)
by_tables states (Session Plus) has = refl
by_tables states pick has = absurd (cc)

pub large_tables : (pick : Pick) → has_tables pick ≡ true → is_for_small_maps pick ≡ false
large_tables (Session Plus) has = refl
large_tables pick has = absurd (cc)

-- the session of a map answers on it where its engine is picked
picked_session : (states : States) (pick : Pick) → is_for_small_maps pick ≡ false
    → by_session (engine_for states (session_engine pick)) ≡ by_of states pick
picked_session states (Session engine) large = refl
picked_session states (Small engine) large = absurd (cc)

pub session_answers : (set : Settings) (m : Map) (d : SessionData) → is_for_small_maps set.pick ≡ false
    → IsSessionOn set m d → who_is d ≡ who_on set m
session_answers set m d large is =
    ap (λ (k : SessionData). who_is k) is
    ∙ ap (λ (by : By). (let who : Who = record { layers = layers_on set m; by = by } in who))
    (picked_session set.states set.pick large)
