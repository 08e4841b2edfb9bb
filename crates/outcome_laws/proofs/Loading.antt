-- A call that names a table file picks the engine that searches by tables.
use Rattle.std.proofs.Common.{◌≡◌, refl, ap, subst, ℕ, Bool, true, false, List, [], ◌∷◌, length, drop}
use Rattle.std.specs.Prelude.{Option, Some, None, if◌then◌else◌, option_and_then}
use Rattle.std.proofs.lemmas.Bool.{and_parts}
use Rattle.word_list.proofs.Completed as complete
use Rattle.word_list.specs.Calls.{fits}
use Rattle.word_list.specs.Kinds.{is_of}
use Rattle.word_list.specs.Request.{Call, Row, asked_by, engine_of, row_of}
use Rattle.word_list.specs.Settings.{all_follow, can_load, has_tables, is_complete, settings_of}
use Rattle.word_list.specs.declared.request.Pick.{Pick}
use Rattle.word_list.specs.declared.request.Pick.TheVariants.{Session}
use Rattle.word_list.specs.declared.request.SessionEngine.{SessionEngine}
use Rattle.word_list.specs.declared.request.SessionEngine.TheVariants.{Plus}
use Rattle.word_list.specs.declared.rows.WordKind.{WordKind}
use Rattle.word_list.specs.declared.settings.Family.{Family}
use Rattle.jps_run.specs.Calls.{call_with}
use Rattle.jps_run.specs.Outcome.{Spell}

-- words that are of their kinds and then settings lack none
none_missing : (engine : SessionEngine) (takes : List WordKind) (allows : List Family) (words : List (List ℕ))
    → fits engine takes allows words ≡ true → is_complete engine (drop (length takes) words) ≡ true
none_missing engine [] allows words fit =
    (and_parts (all_follow allows [] words) (is_complete engine words) fit).1
none_missing engine (kind ∷ takes) allows [] fit = absurd (cc)
none_missing engine (kind ∷ takes) allows (word ∷ words) fit =
    none_missing engine takes allows words
    (and_parts (is_of kind word) (fits engine takes allows words) fit).1

call_or : Call → Option Call → Call
call_or d None = d
call_or d (Some call) = call

-- the call of a row
by_row : (words : List (List ℕ)) (row : Row) (call : Call) (fit : Bool)
    → fits (engine_of row.command) row.takes row.allows words ≡ fit
    → (if fit then Some (call_with (asked_by row words)
    (settings_of (engine_of row.command) (drop (length row.takes) words)))
    else None) ≡ Some call → can_load call.request.tables call.settings ≡ true
unfolding call_or
by_row words row call false fit is = absurd (cc)
by_row words row call true fit is =
    let engine = engine_of row.command in
    let e : call_with (asked_by row words) (settings_of engine (drop (length row.takes) words)) ≡ call =
    ap (call_or call) is in
    subst (λ (c : Call). can_load c.request.tables c.settings ≡ true) e
    (complete.loads engine (drop (length row.takes) words)
    (none_missing engine row.takes row.allows words fit))

pub loads : (words : List (List ℕ)) (call : Call) → Spell words call
    → can_load call.request.tables call.settings ≡ true
loads [] call is = absurd (cc)
loads (name ∷ words) call is = by_name (row_of name) is
  where
    by_name : (found : Option Row) → option_and_then
        (λ row. if fits (engine_of row.command) row.takes row.allows words then Some (record {
          request = asked_by row words;
          settings = settings_of (engine_of row.command) (drop (length row.takes) words);
        }) else None) found ≡ Some call
        → can_load call.request.tables call.settings ≡ true
    by_name None e = absurd (cc)
    by_name (Some row) e = by_row words row call
        (fits (engine_of row.command) row.takes row.allows words) refl e

plus_picked : (p : Pick) → has_tables p ≡ true → p ≡ Session Plus
plus_picked (Session Plus) h = refl
plus_picked p h = absurd (cc)

pub picked : (words : List (List ℕ)) (call : Call) (tables : List ℕ) → Spell words call
    → call.request.tables ≡ Some tables → call.settings.pick ≡ Session Plus
picked words call tables spelled named =
    plus_picked call.settings.pick (subst (λ (t : Option (List ℕ)). can_load t call.settings ≡ true) named
    (loads words call spelled))
