-- Worked rows of the accepted lists, by computing.
use Rattle.std.specs.Prelude.{◌≡◌, ℕ, Bool, true, false, List, [], ◌∷◌, codes, refl, Option, Some, None}
use Rattle.std.specs.Prelude.{◌||◌, ◌&&◌, if◌then◌else◌, bytes_eq, nat_eq}
use Rattle.std.specs.List.{list_all, list_any}
use Rattle.std.specs.Option.{option_map}
use Rattle.word_list.specs.declared.rows.WordKind.{WordKind}
use Rattle.word_list.specs.declared.rows.WordKind.TheVariants.{File, Number, Seed, Side, Percent, Count}
use Rattle.grid_moves.specs.declared.Corner.{Corner}
use Rattle.grid_moves.specs.declared.Corner.TheVariants.{Never, One, Both}
use Rattle.text_line.specs.LongNumbers.{long_number_of}
use Rattle.text_line.specs.Numbers.{number_of}
use Rattle.word_list.specs.declared.request.Pick.{Pick}
use Rattle.word_list.specs.declared.request.Pick.TheVariants.{Session, Small}
use Rattle.word_list.specs.declared.request.SessionEngine.TheVariants.{Plain, Jps, Block, Plus}
use Rattle.word_list.specs.declared.request.SmallEngine.TheVariants.{Boxes, Moves}
use Rattle.word_list.specs.declared.request.Settings.{Settings}
use Rattle.word_list.specs.declared.request.Show.{Show}
use Rattle.word_list.specs.declared.request.Show.TheVariants.{Points, Cells, Trace, Taken}
use Rattle.word_list.specs.declared.request.SessionEngine.{SessionEngine}
use Rattle.word_list.specs.declared.request.States.{States}
use Rattle.word_list.specs.declared.request.States.TheVariants.{Arrival, Cell}
use Rattle.word_list.specs.declared.settings.Setting.{Setting}
use Rattle.word_list.specs.declared.settings.Setting.TheVariants as setting
use Rattle.word_list.specs.declared.rows.Command.{Command}
use Rattle.word_list.specs.declared.rows.Command.TheVariants as command
use Rattle.word_list.specs.Kinds.{number_at, seed_at, side_at, percent_at, count_at, word_at}
use Rattle.word_list.specs.Request.{Asked, Call, Named, rows}
use Rattle.word_list.specs.Settings.{default_settings, is_allowed, tables_in}
use Rattle.word_list.specs.Calls.{call_of}

-- what is asked for where no table file is named
abbrev asks : Command → List (List ℕ) → Asked
asks command words = record { command = command; words = words; tables = None }

-- the words `m 0 0 2 2`
abbrev corners : List (List ℕ)
corners = codes "m" ∷ codes "0" ∷ codes "0" ∷ codes "2" ∷ codes "2" ∷ []

-- what the words after `query m 0 0 2 2` make of it
abbrev query_with : List (List ℕ) → Option Call
query_with words = call_of (codes "query" ∷ codes "m" ∷ codes "0" ∷ codes "0" ∷ codes "2" ∷ codes "2" ∷ words)

-- the query from (0,0) to (2,2) with these settings
abbrev query_of : Show → Corner → Option Call
query_of show rule = Some (record {
  request = asks command.Query corners;
  settings = record { pick = Session Plain; show = show; rule = rule; states = Arrival };
})

pub defaults : query_with [] ≡ query_of Points Never
unfolding number_of tables_in
defaults = refl

-- another engine, and a word that is none
pub jumping : query_with (codes "engine=jps" ∷ []) ≡ Some (record {
  request = asks command.Query corners;
  settings = record { pick = Session Jps; show = Points; rule = Never; states = Arrival };
})
unfolding number_of tables_in
jumping = refl

pub no_engine : query_with (codes "engine=jsp" ∷ []) ≡ None
unfolding number_of tables_in
no_engine = refl

-- an engine of small maps, and a call for edits, which takes none
pub boxed : query_with (codes "engine=boxes" ∷ []) ≡ Some (record {
  request = asks command.Query corners;
  settings = record { pick = Small Boxes; show = Points; rule = Never; states = Arrival };
})
unfolding number_of tables_in
boxed = refl

pub boxed_edits : call_of (codes "solve" ∷ codes "m" ∷ codes "s" ∷ codes "engine=boxes" ∷ []) ≡ None
unfolding tables_in
boxed_edits = refl

-- the words of help that stand for a word of each kind
abbrev called_by : WordKind → List (List ℕ)
called_by File = codes "MAP" ∷ codes "SCRIPT" ∷ codes "SCEN" ∷ codes "WALKS" ∷ codes "CERT" ∷ []
called_by Number = codes "SX" ∷ codes "SY" ∷ codes "GX" ∷ codes "GY" ∷ codes "X" ∷ codes "Y" ∷ []
called_by Seed = codes "SEED" ∷ []
called_by Side = codes "W" ∷ codes "H" ∷ []
called_by Percent = codes "P" ∷ []
called_by Count = codes "N" ∷ []

-- a text's words, which one blank parts
abbrev with_byte : ℕ → List (List ℕ) → List (List ℕ)
with_byte byte [] = (byte ∷ []) ∷ []
with_byte byte (word ∷ words) = (byte ∷ word) ∷ words

abbrev parted : List ℕ → List (List ℕ)
parted [] = []
parted (byte ∷ bytes) = if nat_eq byte 32 then [] ∷ parted bytes else with_byte byte (parted bytes)

-- whether help calls each word of a command by one that stands for its kind
abbrev are_called : List WordKind → List (List ℕ) → Bool
are_called [] [] = true
are_called (kind ∷ takes) (word ∷ words) = list_any (bytes_eq word) (called_by kind) && are_called takes words
are_called takes words = false

-- each row takes the words that help tells
pub kinds_as_called : list_all (λ one. are_called one.row.takes (parted one.words)) rows ≡ true
kinds_as_called = refl

-- the commands that allow an engine for small maps: what they ask for is answered without a session
abbrev allowing_small : List Named → List (List ℕ)
allowing_small [] = []
allowing_small (one ∷ others) =
    if is_allowed one.row.allows (Some (setting.Engine (Small Boxes)))
    || is_allowed one.row.allows (Some (setting.Engine (Small Moves)))
    then one.name ∷ allowing_small others else allowing_small others

pub boxed_commands : allowing_small rows ≡ codes "query" ∷ codes "scen" ∷ []
boxed_commands = refl

pub moves_before_trace : query_with (codes "engine=moves" ∷ codes "show=trace" ∷ []) ≡ None
unfolding number_of tables_in
moves_before_trace = refl

pub trace_before_moves : query_with (codes "show=trace" ∷ codes "engine=moves" ∷ []) ≡ None
unfolding number_of tables_in
trace_before_moves = refl

-- settings in any order
pub show_before_rule : query_with (codes "show=cells" ∷ codes "rule=one" ∷ []) ≡ query_of Cells One
unfolding number_of tables_in
show_before_rule = refl

pub rule_before_show : query_with (codes "rule=none" ∷ codes "engine=plain" ∷ codes "show=trace" ∷ [])
    ≡ query_of Trace Never
unfolding number_of tables_in
rule_before_show = refl

-- each of the three rules has its word, and no other word is one
pub both_blocked : query_with (codes "rule=both" ∷ []) ≡ query_of Points Both
unfolding number_of tables_in
both_blocked = refl

pub no_rule : query_with (codes "rule=two" ∷ []) ≡ None
unfolding number_of tables_in
no_rule = refl

-- one choice is made twice, be it the same
pub engine_twice : query_with (codes "engine=plain" ∷ codes "engine=plain" ∷ []) ≡ None
unfolding number_of tables_in
engine_twice = refl

-- a word in a file's place is its name, whatever it begins with; leading zeros are digits
pub any_name : call_of (codes "query" ∷ codes "--help" ∷ codes "000000001" ∷ codes "1" ∷ codes "1" ∷ codes "1"
    ∷ []) ≡ Some (record {
      request = asks command.Query
          (codes "--help" ∷ codes "000000001" ∷ codes "1" ∷ codes "1" ∷ codes "1" ∷ []);
      settings = default_settings;
    })
unfolding number_of tables_in
any_name = refl

-- ten digits are no number
pub ten_digits : call_of (codes "query" ∷ codes "m" ∷ codes "0000000001" ∷ codes "1" ∷ codes "1" ∷ codes "1"
    ∷ []) ≡ None
unfolding number_of tables_in
ten_digits = refl

-- what the words of a query tell: a file's name as it stands, and numbers by their digits
pub named_so : word_at corners 0 ≡ codes "m"
named_so = refl

pub numbers_read : number_at (codes "m" ∷ codes "000000001" ∷ codes "20" ∷ []) 1
    ∷ number_at (codes "m" ∷ codes "000000001" ∷ codes "20" ∷ []) 2 ∷ [] ≡ 1 ∷ 20 ∷ []
unfolding number_of
numbers_read = refl

-- the empty word is a file's name
pub empty_names : call_of (codes "solve" ∷ [] ∷ [] ∷ []) ≡ Some (record {
  request = asks command.Solve ([] ∷ [] ∷ []);
  settings = default_settings;
})
unfolding tables_in
empty_names = refl

-- so is a setting that stands in a file's place
pub setting_for_name : call_of (codes "scen" ∷ codes "m" ∷ codes "rule=one" ∷ []) ≡ Some (record {
  request = asks command.Scen (codes "m" ∷ codes "rule=one" ∷ []);
  settings = default_settings;
})
unfolding tables_in
setting_for_name = refl

-- a table file stands beside the engine for it, before it or behind it, and its name is all behind the first
-- `=`
abbrev loaded_query : Option Call
loaded_query = Some (record {
  request = record { command = command.Query; words = corners; tables = Some (codes "t=x") };
  settings = record { pick = Session Plus; show = Points; rule = Never; states = Arrival };
})

pub file_behind_engine : query_with (codes "engine=plus" ∷ codes "tables=t=x" ∷ []) ≡ loaded_query
unfolding number_of tables_in
file_behind_engine = refl

pub file_before_engine : query_with (codes "tables=t=x" ∷ codes "engine=plus" ∷ []) ≡ loaded_query
unfolding number_of tables_in
file_before_engine = refl

pub file_alone : query_with (codes "tables=t" ∷ []) ≡ None
unfolding number_of tables_in
file_alone = refl

pub file_for_another : query_with (codes "tables=t" ∷ codes "engine=block" ∷ []) ≡ None
unfolding number_of tables_in
file_for_another = refl

pub file_behind_another : query_with (codes "engine=plain" ∷ codes "tables=t" ∷ []) ≡ None
unfolding number_of tables_in
file_behind_another = refl

pub two_files : query_with (codes "engine=plus" ∷ codes "tables=t" ∷ codes "tables=t" ∷ []) ≡ None
unfolding number_of tables_in
two_files = refl

pub nameless_file : query_with (codes "engine=plus" ∷ codes "tables=" ∷ []) ≡ None
unfolding number_of tables_in
nameless_file = refl

pub drawn_by_file : call_of (codes "draw" ∷ codes "m" ∷ codes "0" ∷ codes "0" ∷ codes "2" ∷ codes "2"
    ∷ codes "engine=plus" ∷ codes "tables=t" ∷ []) ≡ None
unfolding number_of tables_in
drawn_by_file = refl

-- how many states the search has of a cell stands beside an engine that jumps, before it or behind it, and
-- with a table file
abbrev stated_query : SessionEngine → States → Option Call
stated_query engine states = Some (record {
  request = asks command.Query corners;
  settings = record { pick = Session engine; show = Points; rule = Never; states = states };
})

pub cell_behind_jps : query_with (codes "engine=jps" ∷ codes "states=cell" ∷ []) ≡ stated_query Jps Cell
unfolding number_of tables_in
cell_behind_jps = refl

pub cell_before_block : query_with (codes "states=cell" ∷ codes "engine=block" ∷ []) ≡ stated_query Block Cell
unfolding number_of tables_in
cell_before_block = refl

pub arrival_given : query_with (codes "states=arrival" ∷ codes "engine=plus" ∷ []) ≡ stated_query Plus Arrival
unfolding number_of tables_in
arrival_given = refl

pub arrival_where_none_is_given : query_with (codes "engine=plus" ∷ []) ≡ stated_query Plus Arrival
unfolding number_of tables_in
arrival_where_none_is_given = refl

pub cell_and_file : query_with (codes "states=cell" ∷ codes "tables=t=x" ∷ codes "engine=plus" ∷ [])
    ≡ Some (record {
      request = record { command = command.Query; words = corners; tables = Some (codes "t=x") };
      settings = record { pick = Session Plus; show = Points; rule = Never; states = Cell };
    })
unfolding number_of tables_in
cell_and_file = refl

-- alone it lacks its engine, whichever it tells, and no other engine is one for it
pub cell_alone : query_with (codes "states=cell" ∷ []) ≡ None
unfolding number_of tables_in
cell_alone = refl

pub arrival_alone : query_with (codes "states=arrival" ∷ []) ≡ None
unfolding number_of tables_in
arrival_alone = refl

pub cell_before_plain : query_with (codes "states=cell" ∷ codes "engine=plain" ∷ []) ≡ None
unfolding number_of tables_in
cell_before_plain = refl

pub cell_behind_boxes : query_with (codes "engine=boxes" ∷ codes "states=cell" ∷ []) ≡ None
unfolding number_of tables_in
cell_behind_boxes = refl

pub arrival_behind_moves : query_with (codes "engine=moves" ∷ codes "states=arrival" ∷ []) ≡ None
unfolding number_of tables_in
arrival_behind_moves = refl

pub states_twice : query_with (codes "engine=jps" ∷ codes "states=cell" ∷ codes "states=arrival" ∷ []) ≡ None
unfolding number_of tables_in
states_twice = refl

pub no_states : query_with (codes "engine=jps" ∷ codes "states=both" ∷ []) ≡ None
unfolding number_of tables_in
no_states = refl

-- the commands that are asked how many states a search has of a cell are those that are asked for an engine
-- of sessions
abbrev allowing : Setting → List Named → List (List ℕ)
allowing one [] = []
allowing one (row ∷ others) =
    if is_allowed row.row.allows (Some one) then row.name ∷ allowing one others else allowing one others

pub stated_commands : allowing (setting.States Cell) rows ≡ codes "query" ∷ codes "solve" ∷ codes "live"
    ∷ codes "serve" ∷ codes "scen" ∷ codes "drill" ∷ codes "draw" ∷ []
stated_commands = refl

pub engine_commands : allowing (setting.Engine (Session Plain)) rows ≡ allowing (setting.States Cell) rows
engine_commands = refl

-- a judge is asked with three files
pub three_files : call_of (codes "judge" ∷ codes "m" ∷ codes "s" ∷ codes "w" ∷ codes "rule=one" ∷ [])
    ≡ Some (record {
      request = asks command.Judge (codes "m" ∷ codes "s" ∷ codes "w" ∷ []);
      settings = record { pick = Session Plain; show = Points; rule = One; states = Arrival };
    })
unfolding tables_in
three_files = refl

-- rows may tell counts, and nothing else is shown of them; no answer tells counts, and first moves have none
pub counted_rows : call_of (codes "scen" ∷ codes "m" ∷ codes "s" ∷ codes "show=taken" ∷ []) ≡ Some (record {
  request = asks command.Scen (codes "m" ∷ codes "s" ∷ []);
  settings = record { pick = Session Plain; show = Taken; rule = Never; states = Arrival };
})
unfolding tables_in
counted_rows = refl

pub counted_answer : query_with (codes "show=taken" ∷ []) ≡ None
unfolding number_of tables_in
counted_answer = refl

pub counts_before_moves : call_of (codes "scen" ∷ codes "m" ∷ codes "s" ∷ codes "show=taken"
    ∷ codes "engine=moves"
    ∷ []) ≡ None
unfolding tables_in
counts_before_moves = refl

pub shown_rows : call_of (codes "scen" ∷ codes "m" ∷ codes "s" ∷ codes "show=cells" ∷ []) ≡ None
unfolding tables_in
shown_rows = refl

pub no_scenario : call_of (codes "scen" ∷ codes "m" ∷ []) ≡ None
unfolding tables_in
no_scenario = refl

pub help_alone : call_of (codes "--help" ∷ []) ≡ Some (record {
  request = asks command.Help [];
  settings = default_settings;
})
unfolding tables_in
help_alone = refl

pub help_with_more : call_of (codes "--help" ∷ codes "rule=none" ∷ []) ≡ None
unfolding tables_in
help_with_more = refl

-- a seed, two sides and a percentage
abbrev largest_map : List (List ℕ)
largest_map = codes "18446744073709551615" ∷ codes "4096" ∷ codes "1" ∷ codes "100" ∷ []

pub map_of_a_seed : call_of (codes "make" ∷ largest_map) ≡ Some (record {
  request = asks command.Make largest_map;
  settings = default_settings;
})
unfolding number_of long_number_of tables_in
map_of_a_seed = refl

pub seed_read : seed_at largest_map 0 ≡ 18446744073709551615
unfolding long_number_of
seed_read = refl

pub sides_read : side_at largest_map 1 ∷ side_at largest_map 2 ∷ percent_at largest_map 3 ∷ []
    ≡ 4096 ∷ 1 ∷ 100 ∷ []
unfolding number_of
sides_read = refl

-- no side is 0, and no percentage above 100
pub side_of_nothing : call_of (codes "make" ∷ codes "7" ∷ codes "0" ∷ codes "2" ∷ codes "0" ∷ []) ≡ None
unfolding number_of long_number_of tables_in
side_of_nothing = refl

pub more_than_all : call_of (codes "make" ∷ codes "7" ∷ codes "2" ∷ codes "2" ∷ codes "101" ∷ []) ≡ None
unfolding number_of long_number_of tables_in
more_than_all = refl

-- a scenario of one's own is asked for with the rule alone
pub scenario_again : call_of (codes "lengths" ∷ codes "m" ∷ codes "s" ∷ codes "rule=both" ∷ [])
    ≡ Some (record {
      request = asks command.Lengths (codes "m" ∷ codes "s" ∷ []);
      settings = record { pick = Session Plain; show = Points; rule = Both; states = Arrival };
    })
unfolding tables_in
scenario_again = refl

pub lengths_by_engine : call_of (codes "lengths" ∷ codes "m" ∷ codes "s" ∷ codes "engine=plain" ∷ []) ≡ None
unfolding tables_in
lengths_by_engine = refl

-- so many problems from a seed, at least one and at most 100000
pub some_problems : call_of (codes "problems" ∷ codes "m" ∷ codes "18446744073709551615" ∷ codes "100000" ∷ [])
    ≡ Some (record {
      request = asks command.Problems (codes "m" ∷ codes "18446744073709551615" ∷ codes "100000" ∷ []);
      settings = default_settings;
    })
unfolding number_of long_number_of tables_in
some_problems = refl

pub count_read : count_at (codes "m" ∷ codes "1" ∷ codes "100000" ∷ []) 2 ≡ 100000
unfolding number_of
count_read = refl

pub no_problems : call_of (codes "problems" ∷ codes "m" ∷ codes "1" ∷ codes "0" ∷ []) ≡ None
unfolding number_of long_number_of tables_in
no_problems = refl

pub too_many_problems : call_of (codes "problems" ∷ codes "m" ∷ codes "1" ∷ codes "100001" ∷ []) ≡ None
unfolding number_of long_number_of tables_in
too_many_problems = refl

-- a session without end begins with blocks and one state a cell; `states=` then needs no engine, but `plain`
-- has none, and a table file waits for `plus`
abbrev serve_with : List (List ℕ) → Option Settings
serve_with words = option_map (λ (call : Call). call.settings) (call_of (codes "serve" ∷ codes "m" ∷ words))

abbrev serving : Pick → States → Option Settings
serving pick of_cell = Some (record { pick = pick; show = Points; rule = Never; states = of_cell })

pub silent_serve : serve_with [] ≡ serving (Session Block) Cell
unfolding tables_in
silent_serve = refl

pub serve_by_jps : serve_with (codes "engine=jps" ∷ []) ≡ serving (Session Jps) Cell
unfolding tables_in
serve_by_jps = refl

pub serve_by_arrival : serve_with (codes "states=arrival" ∷ []) ≡ serving (Session Block) Arrival
unfolding tables_in
serve_by_arrival = refl

pub serve_states_plain : serve_with (codes "states=cell" ∷ codes "engine=plain" ∷ []) ≡ None
unfolding tables_in
serve_states_plain = refl

pub serve_tables_alone : serve_with (codes "tables=t" ∷ []) ≡ None
unfolding tables_in
serve_tables_alone = refl

pub serve_trace : serve_with (codes "show=trace" ∷ []) ≡ None
unfolding tables_in
serve_trace = refl
