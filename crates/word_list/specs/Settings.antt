-- The settings that may follow a command's other words.
use Rattle.std.specs.Prelude.{ℕ, Bool, true, false, List, [], ◌∷◌, ◌++◌, not, ◌&&◌, ◌||◌, if◌then◌else◌}
use Rattle.std.specs.Prelude.{nat_eq, nat_lt, bytes_eq, codes, length, drop, is_some, is_none, Option, Some}
use Rattle.std.specs.Prelude.{None}
use Rattle.std.specs.List.{list_all, list_any, fold, starts_with}
use Rattle.std.specs.Option.{option_or}
use Rattle.grid_moves.specs.declared.Corner.TheVariants.{Never, One, Both}
use Rattle.word_list.specs.declared.request.Pick.{Pick}
use Rattle.word_list.specs.declared.request.Pick.TheVariants.{Session, Small}
use Rattle.word_list.specs.declared.request.SessionEngine.{SessionEngine}
use Rattle.word_list.specs.declared.request.SessionEngine.TheVariants.{Plain, Jps, Block, Plus}
use Rattle.word_list.specs.declared.request.SmallEngine.TheVariants.{Boxes, Moves}
use Rattle.word_list.specs.declared.request.Show.TheVariants.{Points, Cells, Trace, Taken}
use Rattle.word_list.specs.declared.request.States.TheVariants.{Arrival, Cell}
use Rattle.word_list.specs.declared.request.Settings.{Settings}
use Rattle.word_list.specs.declared.settings.Setting.{Setting}
use Rattle.word_list.specs.declared.settings.Setting.TheVariants as setting
use Rattle.word_list.specs.declared.settings.Choice.{Choice}
use Rattle.word_list.specs.declared.settings.Choice.TheVariants as choice
use Rattle.word_list.specs.declared.settings.Family.{Family}
use Rattle.word_list.specs.declared.settings.Family.TheVariants as family

-- the name of the table file that a word tells, if it tells one: all behind the first `=`, at least one byte
unfoldable pub tables_in : List ℕ → Option (List ℕ)
tables_in word = if starts_with nat_eq word (codes "tables=") && nat_lt 7 (length word)
    then Some (drop 7 word) else None

-- the setting that a word spells, if it spells one
abbrev pub setting_of : List ℕ → Option Setting
setting_of word =
    if is_some (tables_in word) then Some setting.TableFile
    else if bytes_eq word (codes "engine=plain") then Some (setting.Engine (Session Plain))
    else if bytes_eq word (codes "engine=jps") then Some (setting.Engine (Session Jps))
    else if bytes_eq word (codes "engine=block") then Some (setting.Engine (Session Block))
    else if bytes_eq word (codes "engine=plus") then Some (setting.Engine (Session Plus))
    else if bytes_eq word (codes "engine=boxes") then Some (setting.Engine (Small Boxes))
    else if bytes_eq word (codes "engine=moves") then Some (setting.Engine (Small Moves))
    else if bytes_eq word (codes "show=points") then Some (setting.Show Points)
    else if bytes_eq word (codes "show=cells") then Some (setting.Show Cells)
    else if bytes_eq word (codes "show=trace") then Some (setting.Show Trace)
    else if bytes_eq word (codes "show=taken") then Some (setting.Show Taken)
    else if bytes_eq word (codes "rule=none") then Some (setting.Rule Never)
    else if bytes_eq word (codes "rule=one") then Some (setting.Rule One)
    else if bytes_eq word (codes "rule=both") then Some (setting.Rule Both)
    else if bytes_eq word (codes "states=arrival") then Some (setting.States Arrival)
    else if bytes_eq word (codes "states=cell") then Some (setting.States Cell)
    else None

-- what a setting chooses
abbrev pub choice_of : Setting → Choice
choice_of (setting.Engine pick) = choice.Engine
choice_of (setting.Show show) = choice.Show
choice_of (setting.Rule rule) = choice.Rule
choice_of setting.TableFile = choice.TableFile
choice_of (setting.States states) = choice.States

-- whether two choices are the same
abbrev pub is_same : Choice → Choice → Bool
is_same choice.Engine choice.Engine = true
is_same choice.Show choice.Show = true
is_same choice.Rule choice.Rule = true
is_same choice.TableFile choice.TableFile = true
is_same choice.States choice.States = true
is_same one other = false

-- whether an engine searches by tables
abbrev pub has_tables : Pick → Bool
has_tables (Session Plus) = true
has_tables other = false

-- whether an engine searches by jumps
abbrev pub jumps : Pick → Bool
jumps (Session Jps) = true
jumps (Session Block) = true
jumps (Session Plus) = true
jumps other = false

-- whether an engine takes states: one that follows first moves searches nothing
abbrev pub takes_states : Pick → Bool
takes_states (Small Moves) = false
takes_states other = true

-- whether a setting is served by this engine: a trace lists the states that a search took, and a row counts
-- them; tables serve one engine alone; how many states a search has of a cell is asked of engines that jump
abbrev pub is_served : Setting → Pick → Bool
is_served (setting.Show Trace) pick = takes_states pick
is_served (setting.Show Taken) pick = takes_states pick
is_served setting.TableFile pick = has_tables pick
is_served (setting.States states) pick = jumps pick
is_served other pick = true

-- whether a setting can't stand beside this one, which is an engine that doesn't serve it
abbrev pub excludes : Setting → Setting → Bool
excludes one (setting.Engine pick) = not (is_served one pick)
excludes one other = false

-- whether two settings can't stand together, in whatever order
abbrev pub is_clash : Setting → Setting → Bool
is_clash one other = is_same (choice_of one) (choice_of other) || excludes one other || excludes other one

-- whether two words are settings that can't stand together
abbrev pub are_clashing : Option Setting → Option Setting → Bool
are_clashing (Some one) (Some other) = is_clash one other
are_clashing one other = false

-- whether an engine serves small maps alone
abbrev pub is_for_small_maps : Pick → Bool
is_for_small_maps (Session engine) = false
is_for_small_maps (Small engine) = true

-- the engine of a session: an engine for small maps is none, and leaves a session as it is where no word
-- picks an engine
abbrev pub session_engine : Pick → SessionEngine
session_engine (Session engine) = engine
session_engine (Small engine) = Plain

-- whether a setting is of a family; how many states a search has of a cell stands beside its engine; a
-- walk's line shows its points or its cells, a picture the points, and the states that the search took; rows
-- count these states; a table file stands beside the engine that searches by tables
abbrev pub has : Family → Setting → Bool
has family.Engine (setting.Engine pick) = not (is_for_small_maps pick)
has family.Engine (setting.States states) = true
has family.SmallMap (setting.Engine pick) = is_for_small_maps pick
has family.Show (setting.Show Points) = true
has family.Show (setting.Show Cells) = true
has family.Show (setting.Show Trace) = true
has family.Walks (setting.Show Points) = true
has family.Walks (setting.Show Cells) = true
has family.Drawing (setting.Show Points) = true
has family.Drawing (setting.Show Trace) = true
has family.Counts (setting.Show Taken) = true
has family.Rule (setting.Rule rule) = true
has family.TableFile setting.TableFile = true
has family.TableFile (setting.Engine pick) = has_tables pick
has other setting = false

-- whether a word is a setting of one of these families
abbrev pub is_allowed : List Family → Option Setting → Bool
is_allowed allows (Some setting) = list_any (λ family. has family setting) allows
is_allowed allows None = false

-- whether a word is a setting that is allowed and clashes with none of the words before it
abbrev pub may_follow : List Family → List (List ℕ) → List ℕ → Bool
may_follow allows before word = is_allowed allows (setting_of word)
    && not (list_any (λ other. are_clashing (setting_of other) (setting_of word)) before)

-- whether each of the words may follow those before it
abbrev pub all_follow : List Family → List (List ℕ) → List (List ℕ) → Bool
all_follow allows before [] = true
all_follow allows before (word ∷ words) =
    may_follow allows before word && all_follow allows (before ++ word ∷ []) words

-- the settings with one more word
abbrev pub settings_with : Settings → Option Setting → Settings
settings_with set (Some (setting.Engine pick)) =
    record { pick = pick; show = set.show; rule = set.rule; states = set.states }
settings_with set (Some (setting.Show show)) =
    record { pick = set.pick; show = show; rule = set.rule; states = set.states }
settings_with set (Some (setting.Rule rule)) =
    record { pick = set.pick; show = set.show; rule = rule; states = set.states }
settings_with set (Some setting.TableFile) = set
settings_with set (Some (setting.States states)) =
    record { pick = set.pick; show = set.show; rule = set.rule; states = states }
settings_with set None = set

-- the engine of a call that picks none, and its settings where it is silent on all of them
abbrev pub default_pick : Pick
default_pick = Session Plain

abbrev pub default_settings : Settings
default_settings = record { pick = default_pick; show = Points; rule = Never; states = Arrival }

-- the settings of a call that names none and begins with this engine: where that jumps, a cell has one state
abbrev pub silent_on : SessionEngine → Settings
silent_on Plain = default_settings
silent_on engine = record { pick = Session engine; show = Points; rule = Never; states = Cell }

-- what the words choose
abbrev pub settings_of : SessionEngine → List (List ℕ) → Settings
settings_of engine words = fold (λ set word. settings_with set (setting_of word)) (silent_on engine) words

-- the name of the table file that the words tell, if one does
abbrev pub tables_of : List (List ℕ) → Option (List ℕ)
tables_of [] = None
tables_of (word ∷ words) = option_or (tables_in word) (tables_of words)

-- whether the engine is picked that searches by tables, where a table file of this name is to be loaded
abbrev pub can_load : Option (List ℕ) → Settings → Bool
can_load tables set = is_none tables || has_tables set.pick

-- whether a word is served by this engine, where it is a setting
abbrev pub is_word_served : Pick → Option Setting → Bool
is_word_served pick (Some one) = is_served one pick
is_word_served pick None = true

-- whether each of the words is
abbrev pub are_served : Pick → List (List ℕ) → Bool
are_served pick words = list_all (λ word. is_word_served pick (setting_of word)) words

-- whether no word is missing: where one is served by some engines alone, another picks one of these
abbrev pub is_complete : SessionEngine → List (List ℕ) → Bool
is_complete engine words = are_served (settings_of engine words).pick words

-- whether the words are settings that are allowed, no two of which clash, and none is missing
abbrev pub are_settings : SessionEngine → List Family → List (List ℕ) → Bool
are_settings engine allows words = all_follow allows [] words && is_complete engine words
