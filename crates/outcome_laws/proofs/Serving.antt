-- A call picks an engine of small maps only where its command's row allows one.
use Rattle.std.proofs.Common.{◌≡◌, ℕ, Bool, true, false, not, ◌||◌, List, [], ◌∷◌, ◌++◌, length, drop}
use Rattle.std.proofs.Common.{refl, subst, arith}
use Rattle.std.specs.Prelude.{Option, Some}
use Rattle.std.specs.List.{fold}
use Rattle.std.proofs.lemmas.Bool.{and_parts, or_parts}
use Rattle.std.proofs.lemmas.Bool.Decides.{nat_tests}
use Rattle.word_list.specs.declared.request.Pick.{Pick}
use Rattle.word_list.specs.declared.request.Pick.TheVariants.{Small}
use Rattle.word_list.specs.declared.request.SessionEngine.{SessionEngine}
use Rattle.word_list.specs.declared.request.SessionEngine.TheVariants.{Plain}
use Rattle.word_list.specs.declared.request.SmallEngine.TheVariants.{Boxes, Moves}
use Rattle.word_list.specs.declared.request.Settings.{Settings}
use Rattle.word_list.specs.declared.rows.WordKind.{WordKind}
use Rattle.word_list.specs.declared.settings.Family.{Family}
use Rattle.word_list.specs.declared.settings.Setting.{Setting}
use Rattle.word_list.specs.declared.settings.Setting.TheVariants as setting
use Rattle.word_list.specs.Calls.{fits}
use Rattle.word_list.specs.Kinds.{is_of}
use Rattle.word_list.specs.Request.{Call, Named, Row, engine_of, row_of, rows}
use Rattle.outcome_laws.specs.Serving.{IsServed, SmallEnginesServeTwo, takes_small_maps}
use Rattle.outcome_laws.proofs.Spelled.{row_called, spelled}
use Rattle.word_list.specs.Settings.{setting_of, is_for_small_maps, is_allowed, may_follow, all_follow}
use Rattle.word_list.specs.Settings.{are_settings, settings_with, silent_on}

-- families that allow no engine of small maps
abbrev BarSmall : List Family → Type 0
BarSmall allows = (pick : Pick) → is_allowed allows (Some (setting.Engine pick)) ≡ true
    → is_for_small_maps pick ≡ false

bars : (allows : List Family) → is_allowed allows (Some (setting.Engine (Small Boxes))) ≡ false
    → is_allowed allows (Some (setting.Engine (Small Moves))) ≡ false → BarSmall allows
bars allows h i = grind (arith, nat_tests)

module _ (allows : List Family) (bar : BarSmall allows) where
  with_one : (set : Settings) (s : Option Setting) → is_allowed allows s ≡ true
      → is_for_small_maps set.pick ≡ false
      → is_for_small_maps (settings_with set s).pick ≡ false
  with_one set s h i = grind (arith, nat_tests)

  -- no word of such settings picks one
  with_all : (before words : List (List ℕ)) (set : Settings) → all_follow allows before words ≡ true
      → is_for_small_maps set.pick ≡ false
      → is_for_small_maps (fold (λ all word. settings_with all (setting_of word)) set words).pick ≡ false
  with_all before [] set follow large = large
  with_all before (word ∷ words) set follow large =
      let parts = and_parts (may_follow allows before word) (all_follow allows (before ++ word ∷ []) words)
      follow in
      with_all (before ++ word ∷ []) words (settings_with set (setting_of word)) parts.1
      (with_one set (setting_of word) (and_parts (is_allowed allows (setting_of word)) _ parts.0).0 large)

-- behind the words that a command takes stand its settings
settings_behind : (engine : SessionEngine) (takes : List WordKind) (allows : List Family)
    (words : List (List ℕ))
    → fits engine takes allows words ≡ true
    → are_settings engine allows (drop (length takes) words) ≡ true
settings_behind engine [] allows words fit = fit
settings_behind engine (kind ∷ takes) allows [] fit = absurd (cc)
settings_behind engine (kind ∷ takes) allows (word ∷ words) fit =
    settings_behind engine takes allows words
    (and_parts (is_of kind word) (fits engine takes allows words) fit).1

-- a call begins with none of them
begins_large : (engine : SessionEngine) → is_for_small_maps (silent_on engine).pick ≡ false
begins_large Plain = refl
begins_large engine = refl

-- a row allows them only for a command that they may serve
record IsServing (row : Row) : Type 0 where
  bar : takes_small_maps row.command ≡ false → BarSmall row.allows

-- so each row of the table does, by computing
allows_small : Row → Bool
allows_small row = is_allowed row.allows (Some (setting.Engine (Small Boxes)))
    || is_allowed row.allows (Some (setting.Engine (Small Moves)))

may_allow : Named → Bool
may_allow one = not (allows_small one.row) || takes_small_maps one.row.command

serving : (one : Named) → may_allow one ≡ true → IsServing one.row
unfolding may_allow allows_small
serving one may = record {
  bar = λ no.
      let barred = or_parts (is_allowed one.row.allows (Some (setting.Engine (Small Boxes))))
      (is_allowed one.row.allows (Some (setting.Engine (Small Moves))))
      (not_small (allows_small one.row) (takes_small_maps one.row.command) may no) in
      bars one.row.allows barred.0 barred.1;
}
  where
    not_small : (small takes : Bool) → not small || takes ≡ true → takes ≡ false → small ≡ false
    not_small false takes may never = refl
    not_small true takes may never = absurd (cc)

row_serves : (name : List ℕ) (row : Row) → row_of name ≡ Some row → IsServing row
unfolding may_allow allows_small
row_serves name row e = let is = row_called may_allow rows name row refl e in
    subst (λ (r : Row). IsServing r) is.row_is (serving is.one is.passes)

-- so the engine of a call may serve what it asks for
pub served : SmallEnginesServeTwo
served [] call e = absurd (cc)
served (name ∷ words) call e = let is = spelled name words call e in
    subst (λ (k : Call). IsServed k.request.command k.settings) is.spells
    (λ no. with_all is.row.allows ((row_serves name is.row is.known).bar no) []
    (drop (length is.row.takes) words) (silent_on (engine_of is.row.command))
    (and_parts (all_follow is.row.allows [] (drop (length is.row.takes) words)) _
    (settings_behind (engine_of is.row.command) is.row.takes is.row.allows words is.fit)).0
    (begins_large (engine_of is.row.command)))
