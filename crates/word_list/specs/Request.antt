-- What a list of words may ask for: the commands, each by one row, and the request that its words make.
use Rattle.std.specs.Prelude.{◌≡◌, ℕ, true, List, [], ◌∷◌, Option, Some, None, if◌then◌else◌, bytes_eq}
use Rattle.std.specs.Prelude.{length, take, drop, map, string_bytes}
use Rattle.std.specs.Borrow.{Bor}
use Rattle.std.specs.Option.{option_copied}
use Rattle.word_list.specs.declared.request.Settings.{Settings}
use Rattle.word_list.specs.declared.request.SessionEngine.{SessionEngine}
use Rattle.word_list.specs.declared.request.SessionEngine.TheVariants.{Block, Plain}
use Rattle.word_list.specs.declared.rows.Command.{Command}
use Rattle.word_list.specs.declared.rows.Command.TheVariants.{Serve}
use Rattle.word_list.specs.declared.rows.WordKind.{WordKind}
use Rattle.word_list.specs.declared.rows.Request.{Request}
use Rattle.word_list.specs.declared.rows.Row as declared
use Rattle.word_list.specs.declared.rows.TheConstants.{ROWS}
use Rattle.word_list.specs.declared.settings.Family.{Family}
use Rattle.word_list.specs.Settings.{can_load, tables_of}

-- a command, the kinds of the words that it takes, and the settings that it allows after them
pub record Row : Type 0 where
  pub command : Command
  pub takes : List WordKind
  pub allows : List Family

-- a command's name and row; and how help calls its words and says what it does, each line by itself
pub record Named : Type 0 where
  pub name : List ℕ
  pub row : Row
  pub words : List ℕ
  pub says : List (List ℕ)

-- the table of commands, as it stands in the code
abbrev pub rows : List Named
rows = map (λ row. record {
  name = row.0.now;
  row = record { command = row.1; takes = row.2.now; allows = row.3.now };
  words = row.4.now;
  says = map (λ line. line.now) row.5.now;
}) ROWS

-- a row of the table where it is handed on
abbrev pub stored_row
    : Bor (List ℕ) × Command × Bor (List WordKind) × Bor (List Family) × Bor (List ℕ)
    × Bor (List (Bor (List ℕ)))
    → Named
stored_row row = record {
  name = row.0.now;
  row = record { command = row.1; takes = row.2.now; allows = row.3.now };
  words = row.4.now;
  says = map (λ line. line.now) row.5.now;
}

-- the engine that answers where none is named
abbrev pub engine_of : Command → SessionEngine
engine_of Serve = Block
engine_of other = Plain

-- the row of a name among some
abbrev pub row_in : List Named → List ℕ → Option Row
row_in [] name = None
row_in (one ∷ others) name = if bytes_eq name one.name then Some one.row else row_in others name

-- the row of a command's name
abbrev pub row_of : List ℕ → Option Row
row_of name = row_in rows name

-- a row of the code
abbrev pub row_data : declared.Row → Row
row_data row = record { command = row.command; takes = row.takes.now; allows = row.allows.now }

-- what a call asks for, without where its words lie in memory: a command, the words that it takes, and the
-- name of the table file, where one is named
pub record Asked : Type 0 where
  pub command : Command
  pub words : List (List ℕ)
  pub tables : Option (List ℕ)

-- what a request asks for, were its command this one
abbrev pub asking : Command → Request → Asked
asking command request = record {
  command = command;
  words = map string_bytes request.words.now;
  tables = option_copied request.tables;
}

-- what a request asks for
abbrev pub asked : Request → Asked
asked request = asking request.command request

-- what a row's command asks for by the words after its name
abbrev pub asked_by : Row → List (List ℕ) → Asked
asked_by row words = record {
  command = row.command;
  words = take (length row.takes) words;
  tables = tables_of (drop (length row.takes) words);
}

-- a table file is named beside the engine that searches by tables alone
abbrev pub IsSound : Request → Settings → Type 0
IsSound request set = can_load (option_copied request.tables) set ≡ true

-- what is asked for and how it is to be done
pub record Call : Type 0 where
  pub request : Asked
  pub settings : Settings

-- the call that was read
abbrev pub called : Request → Settings → Call
called request settings = record { request = asked request; settings = settings }
