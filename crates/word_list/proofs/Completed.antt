-- Settings of which one is missing: where one is served by some engines alone,
-- one of these can still be picked.
use Rattle.std.proofs.lemmas.Bool.Decides.{nat_tests}
use Rattle.std.proofs.Common.{◌≡◌, ℕ, Bool, true, false, not, ◌&&◌, ◌||◌, List, [], ◌∷◌, ◌++◌, append-nil}
use Rattle.std.proofs.Common.{⊎_elim, inl, inr, ◌⊎◌, refl, ap, ◌∙◌, arith}
use Rattle.std.specs.Prelude.{codes, is_none, Option, Some, None}
use Rattle.std.specs.List.{list_any, fold}
use Rattle.std.specs.Option.{option_or}
use Rattle.std.proofs.lemmas.Bool.{and_from, and_parts, cases_Bool, or_cases, or_left, or_right, or_parts}
use Rattle.std.proofs.lemmas.Bool.{not-false, not-true, true≢false, false_from_ne_true}
use Rattle.std.proofs.lemmas.List.Folds.{list_all-append, list_any-append}
use Rattle.std.proofs.lemmas.List.Sums.{fold-append}
use Rattle.word_list.specs.declared.request.Pick.{Pick}
use Rattle.word_list.specs.declared.request.Pick.TheVariants.{Session}
use Rattle.word_list.specs.declared.request.SessionEngine.{SessionEngine}
use Rattle.word_list.specs.declared.request.SessionEngine.TheVariants.{Plain, Jps, Block, Plus}
use Rattle.word_list.specs.declared.request.Settings.{Settings}
use Rattle.word_list.specs.declared.request.Show.TheVariants.{Points, Cells, Trace, Taken}
use Rattle.word_list.specs.declared.settings.Setting.{Setting}
use Rattle.word_list.specs.declared.settings.Setting.TheVariants as setting
use Rattle.word_list.specs.declared.settings.Choice.TheVariants as choice
use Rattle.word_list.specs.declared.settings.Family.{Family}
use Rattle.word_list.specs.Settings.{setting_of, choice_of, is_same, has, has_tables, excludes, are_clashing}
use Rattle.word_list.specs.Settings.{is_served, is_word_served, are_served, can_load, is_allowed}
use Rattle.word_list.specs.Settings.{may_follow, all_follow, settings_with, settings_of, silent_on}
use Rattle.word_list.specs.Settings.{tables_in, tables_of, is_complete}
use Rattle.word_list.specs.Rule.{Begins}

-- whether a word picks an engine
abbrev picks : Option Setting → Bool
picks (Some (setting.Engine pick)) = true
picks other = false

abbrev any_pick : List (List ℕ) → Bool
any_pick words = list_any (λ word. picks (setting_of word)) words

abbrev any_clash : Setting → List (List ℕ) → Bool
any_clash s words = list_any (λ word. are_clashing (setting_of word) (Some s)) words

-- no engine is picked yet, and one that serves every setting is allowed
pub record Waits (allows : List Family) (words : List (List ℕ)) : Type 0 where
  pub allowed : is_allowed allows (Some (setting.Engine (Session Plus))) ≡ true
  pub free : any_pick words ≡ false

-- none is missing, or it may still come
pub data Stand (engine : SessionEngine) (allows : List Family) (words : List (List ℕ)) : Type 0 where
  whole : is_complete engine words ≡ true → Stand engine allows words
  waits : Waits allows words → Stand engine allows words

-- what passes one test passes the other
any_from : {X : Type 0} (p q : X → Bool) → ((x : X) → p x ≡ true → q x ≡ true) → (xs : List X)
    → list_any p xs ≡ true → list_any q xs ≡ true
any_from p q each [] met = met
any_from p q each (x ∷ xs) met = ⊎_elim (λ here. or_left (q x) (list_any q xs) (each x here))
    (λ there. or_right (q x) (list_any q xs) (any_from p q each xs there))
    (or_cases (p x) (list_any p xs) met)

none_from : {X : Type 0} (p q : X → Bool) → ((x : X) → p x ≡ true → q x ≡ true) → (xs : List X)
    → list_any q xs ≡ false → list_any p xs ≡ false
none_from p q each xs none = grind (arith, nat_tests, false_from_ne_true, true≢false, any_from)

-- jumps by tables serve every setting
plus_serves : (s : Setting) → is_served s (Session Plus) ≡ true
plus_serves (setting.Engine pick) = refl
plus_serves (setting.Show Points) = refl
plus_serves (setting.Show Cells) = refl
plus_serves (setting.Show Trace) = refl
plus_serves (setting.Show Taken) = refl
plus_serves (setting.Rule rule) = refl
plus_serves setting.TableFile = refl
plus_serves (setting.States states) = refl

plus_serves_all : (words : List (List ℕ)) → are_served (Session Plus) words ≡ true
plus_serves_all [] = refl
plus_serves_all (word ∷ words) =
    and_from (is_word_served (Session Plus) (setting_of word)) (are_served (Session Plus) words)
    (one (setting_of word)) (plus_serves_all words)
  where
    one : (s : Option Setting) → is_word_served (Session Plus) s ≡ true
    one None = refl
    one (Some s) = plus_serves s

-- an engine that clashes with none of the words serves each
serves_one : (pick : Pick) (s : Option Setting) → are_clashing s (Some (setting.Engine pick)) ≡ false
    → is_word_served pick s ≡ true
serves_one pick None clear = refl
serves_one pick (Some s) clear =
    not-false (is_served s pick) (or_parts (is_same (choice_of s) choice.Engine) (not (is_served s pick))
    (or_parts (is_same (choice_of s) choice.Engine || not (is_served s pick))
    (excludes (setting.Engine pick) s)
    clear).0).1

serves_each : (pick : Pick) (words : List (List ℕ)) → any_clash (setting.Engine pick) words ≡ false
    → are_served pick words ≡ true
serves_each pick [] clear = refl
serves_each pick (word ∷ words) clear =
    let parts = or_parts (are_clashing (setting_of word) (Some (setting.Engine pick)))
    (any_clash (setting.Engine pick) words) clear in
    and_from (is_word_served pick (setting_of word)) (are_served pick words)
    (serves_one pick (setting_of word) parts.0) (serves_each pick words parts.1)

abbrev chosen_on : Settings → List (List ℕ) → Settings
chosen_on set words = fold (λ set word. settings_with set (setting_of word)) set words

-- where a word picks no engine, that of before stays
stays : (set : Settings) (s : Option Setting) → picks s ≡ false → (settings_with set s).pick ≡ set.pick
stays set None other = refl
stays set (Some (setting.Engine pick)) other = absurd (cc)
stays set (Some (setting.Show show)) other = refl
stays set (Some (setting.Rule rule)) other = refl
stays set (Some setting.TableFile) other = refl
stays set (Some (setting.States states)) other = refl

-- where no engine clashes with a setting, one that is picked serves it
sole_pick : (one : Setting) (words : List (List ℕ)) (set : Settings) → any_clash one words ≡ false
    → (is_served one set.pick || any_pick words) ≡ true → is_served one (chosen_on set words).pick ≡ true
sole_pick one [] set clear some =
    ⊎_elim (λ here. here) (λ none. absurd (cc)) (or_cases (is_served one set.pick) false some)
sole_pick one (word ∷ words) set clear some =
    let parts = or_parts (are_clashing (setting_of word) (Some one)) (any_clash one words) clear in
    sole_pick one words (settings_with set (setting_of word)) parts.1
    (goes_on (setting_of word) parts.0 (or_cases (is_served one set.pick) (any_pick (word ∷ words)) some))
  where
    kept : (s : Option Setting) → picks s ≡ false
        → (is_served one set.pick ≡ true) ⊎ ((picks s || any_pick words) ≡ true)
        → (is_served one (settings_with set s).pick || any_pick words) ≡ true
    kept s other (inl here) =
        or_left (is_served one (settings_with set s).pick) (any_pick words)
        (ap (is_served one) (stays set s other) ∙ here)
    kept s other (inr there) =
        or_right (is_served one (settings_with set s).pick) (any_pick words) (rw other at there)

    goes_on : (s : Option Setting) → are_clashing s (Some one) ≡ false
        → (is_served one set.pick ≡ true) ⊎ ((picks s || any_pick words) ≡ true)
        → (is_served one (settings_with set s).pick || any_pick words) ≡ true
    goes_on None clear some = kept None refl some
    goes_on (Some (setting.Engine pick)) clear some =
        or_left (is_served one pick) (any_pick words) (not-false (is_served one pick)
        (or_parts (is_same choice.Engine (choice_of one) || excludes (setting.Engine pick) one)
        (not (is_served one pick)) clear).1)
    goes_on (Some (setting.Show show)) clear some = kept (Some (setting.Show show)) refl some
    goes_on (Some (setting.Rule rule)) clear some = kept (Some (setting.Rule rule)) refl some
    goes_on (Some setting.TableFile) clear some = kept (Some setting.TableFile) refl some
    goes_on (Some (setting.States states)) clear some = kept (Some (setting.States states)) refl some

-- what clashes with the engine that serves every setting is an engine
clash_pick : (s : Option Setting) → are_clashing s (Some (setting.Engine (Session Plus)))
    ≡ true → picks s ≡ true
clash_pick None h = absurd (cc)
clash_pick (Some (setting.Engine pick)) h = refl
clash_pick (Some (setting.Show Points)) h = absurd (cc)
clash_pick (Some (setting.Show Cells)) h = absurd (cc)
clash_pick (Some (setting.Show Trace)) h = absurd (cc)
clash_pick (Some (setting.Show Taken)) h = absurd (cc)
clash_pick (Some (setting.Rule rule)) h = absurd (cc)
clash_pick (Some setting.TableFile) h = absurd (cc)
clash_pick (Some (setting.States states)) h = absurd (cc)

-- the engine of silent words is that with which a call begins
begins_so : (engine : SessionEngine) → (silent_on engine).pick ≡ Session engine
begins_so Plain = refl
begins_so Jps = refl
begins_so Block = refl
begins_so Plus = refl

-- a family with a setting that an engine of sessions doesn't serve has the engine that serves every setting
family_has : (engine : SessionEngine) (s : Setting) → is_served s (Session engine) ≡ false → (f : Family)
    → has f s ≡ true → has f (setting.Engine (Session Plus)) ≡ true
family_has engine s other f h = grind (arith, nat_tests)

module _ (engine : SessionEngine) (allows : List Family) (before : List (List ℕ)) (word : List ℕ) where
  abbrev now : List (List ℕ)
  now = before ++ word ∷ []

  chosen_now : settings_of engine now ≡ settings_with (settings_of engine before) (setting_of word)
  chosen_now = grind (arith, nat_tests, fold-append)

  -- the word is this setting, which is allowed and clashes with none before it
  module _ (s : Setting) (is : setting_of word ≡ Some s) (allowed : is_allowed allows (Some s) ≡ true)
      (clear : any_clash s before ≡ false) where
    pick_now : (settings_of engine now).pick ≡ (settings_with (settings_of engine before) (Some s)).pick
    pick_now = ap (λ (set : Settings). set.pick) (chosen_now
        ∙ ap (settings_with (settings_of engine before)) is)

    served_now : (pick : Pick) → (settings_of engine now).pick ≡ pick → are_served pick before ≡ true
        → is_served s pick ≡ true → Stand engine allows now
    served_now pick picked each served =
        whole (ap (λ (p : Pick). are_served p now) picked
        ∙ list_all-append (λ w. is_word_served pick (setting_of w)) before (word ∷ [])
        ∙ rw (each, is, served) refl)

    none_picked : any_pick before ≡ false → picks (Some s) ≡ false → any_pick now ≡ false
    none_picked free other =
        list_any-append (λ w. picks (setting_of w)) before (word ∷ []) ∙ rw (free, is, other) refl

    -- that the engine which is picked serves, or the one of silent words
    goes_with : Stand engine allows before → picks (Some s) ≡ false
        → (is_served s (Session engine) || any_pick before) ≡ true → Stand engine allows now
    goes_with (whole complete) other some =
        served_now (settings_of engine before).pick
        (pick_now ∙ stays (settings_of engine before) (Some s) other) complete
        (sole_pick s before (silent_on engine) clear (rw (begins_so engine) some))
    goes_with (waits w) other some = waits (record {
      allowed = w.allowed;
      free = none_picked w.free other;
    })

    -- that some engines alone serve, of which none is picked yet
    waits_for : picks (Some s) ≡ false → (is_served s (Session engine) || any_pick before) ≡ false
        → Stand engine allows now
    waits_for other none =
        let parts = or_parts (is_served s (Session engine)) (any_pick before) none in
        waits (record {
          allowed = any_from (λ f. has f s) (λ f. has f (setting.Engine (Session Plus)))
              (family_has engine s parts.0) allows allowed;
          free = none_picked parts.1 other;
        })

    no_engine : Stand engine allows before → picks (Some s) ≡ false → Stand engine allows now
    no_engine stand other = ⊎_elim (goes_with stand other) (waits_for other)
        (cases_Bool (is_served s (Session engine) || any_pick before))

  stands_with : Stand engine allows before → (s : Setting) → setting_of word ≡ Some s
      → is_allowed allows (Some s) ≡ true → any_clash s before ≡ false → Stand engine allows now
  stands_with stand (setting.Engine pick) is allowed clear =
      served_now (setting.Engine pick) is allowed clear pick (pick_now (setting.Engine pick) is allowed clear)
      (serves_each pick before clear) refl
  stands_with stand (setting.Show show) is allowed clear =
      no_engine (setting.Show show) is allowed clear stand refl
  stands_with stand (setting.Rule rule) is allowed clear =
      no_engine (setting.Rule rule) is allowed clear stand refl
  stands_with stand setting.TableFile is allowed clear =
      no_engine setting.TableFile is allowed clear stand refl
  stands_with stand (setting.States states) is allowed clear =
      no_engine (setting.States states) is allowed clear stand refl

  -- a word more that may follow
  pub stand_on : Stand engine allows before → may_follow allows before word ≡ true → Stand engine allows now
  stand_on stand follows =
      let parts = and_parts (is_allowed allows (setting_of word)) _ follows in
      let clear = not-true (list_any (λ w. are_clashing (setting_of w) (setting_of word)) before) parts.1 in
      elim (setting_of word) as (λ s. setting_of word ≡ s → Stand engine allows now) [
        | None ↦ λ is. let no = rw is at parts.0 in cc (no)
        | Some s ↦ λ is. stands_with stand s is (rw is at parts.0) (rw is at clear)
      ] refl

-- whether settings may stand behind others, of which no word is missing then
abbrev pub completed : SessionEngine → List Family → List (List ℕ) → List (List ℕ) → Bool
completed engine allows before words = all_follow allows before words && is_complete engine (before ++ words)

-- what stands can be completed
pub can_complete : (engine : SessionEngine) (allows : List Family) (before : List (List ℕ))
    → Stand engine allows before → Begins (completed engine allows before) []
unfolding tables_in
can_complete engine allows before (whole complete) = ([], rw append-nil complete)
can_complete engine allows before (waits w) =
    let plus : List ℕ = codes "engine=plus" in
    let chosen : settings_of engine (before ++ plus ∷ [])
    ≡ settings_with (settings_of engine before) (Some (setting.Engine (Session Plus))) =
    fold-append (λ set word. settings_with set (setting_of word)) (silent_on engine) before (plus ∷ []) in
    let clear : any_clash (setting.Engine (Session Plus)) before ≡ false =
    none_from (λ w. are_clashing (setting_of w) (Some (setting.Engine (Session Plus))))
    (λ w. picks (setting_of w))
    (λ w. clash_pick (setting_of w)) before w.free in
    let follows : may_follow allows before plus ≡ true =
    and_from (is_allowed allows (Some (setting.Engine (Session Plus))))
    (not (any_clash (setting.Engine (Session Plus)) before))
    w.allowed (rw clear refl) in
    let complete : is_complete engine (before ++ plus ∷ []) ≡ true =
    ap (λ (set : Settings). are_served set.pick (before ++ plus ∷ [])) chosen
    ∙ plus_serves_all (before ++ plus ∷ []) in (
      plus ∷ [],
      and_from (all_follow allows before (plus ∷ [])) (is_complete engine (before ++ plus ∷ []))
          (rw follows refl) complete,
    )

pub nothing_stands : (engine : SessionEngine) (allows : List Family) → Stand engine allows []
nothing_stands engine allows = whole refl

-- where each word is served, a table file that one tells is
loaded : (pick : Pick) (words : List (List ℕ)) → are_served pick words ≡ true
    → (is_none (tables_of words) || has_tables pick) ≡ true
loaded pick [] served = refl
loaded pick (word ∷ words) served =
    let parts = and_parts (is_word_served pick (setting_of word)) (are_served pick words) served in
    by_file (tables_in word) refl parts.0 (loaded pick words parts.1)
  where
    by_file : (t : Option (List ℕ)) → tables_in word ≡ t → is_word_served pick (setting_of word) ≡ true
        → (is_none (tables_of words) || has_tables pick) ≡ true
        → (is_none (option_or t (tables_of words)) || has_tables pick) ≡ true
    by_file None e here behind = behind
    by_file (Some name) e here behind = rw e at here

-- so the engine for a table file is picked where no word is missing
pub loads : (engine : SessionEngine) (words : List (List ℕ)) → is_complete engine words ≡ true
    → can_load (tables_of words) (settings_of engine words) ≡ true
loads engine words complete = loaded (settings_of engine words).pick words complete
