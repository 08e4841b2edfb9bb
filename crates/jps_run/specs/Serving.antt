-- What answers the lines that `serve` reads, and that it was written.
use Rattle.std.specs.Prelude.{◌≡◌, ℕ, ◌+◌, ◌≤◌, ◌^◌, Bool, true, false, List, [], ◌∷◌, codes, length, map}
use Rattle.std.specs.Prelude.{Option, refl}
use Rattle.std.specs.Io.KnownBytes.{Consumes, IsAtEnd}
use Rattle.io_edge.specs.Known.{Held, Outflow}
use Rattle.grid_moves.specs.declared.Corner.TheVariants.{Never}
use Rattle.edit_replay.specs.Edited.{edited_layer}
use Rattle.edit_replay.specs.declared.reply.Reply.TheVariants as reply
use Rattle.map_text.specs.Map.{Map}
use Rattle.word_list.specs.Request.{Call}
use Rattle.word_list.specs.declared.request.Show.TheVariants.{Points}
use Rattle.word_list.specs.declared.rows.Command.TheVariants.{Serve}
use Rattle.call_files.specs.Layered.{grids_under}
use Rattle.text_line.specs.Numbers.{number_of}
use Rattle.line_feed.specs.declared.feed.FedLine.{FedLine}
use Rattle.line_feed.specs.Lines.{lines_of}
use Rattle.line_feed.specs.Fed.{whole_lines}
use Rattle.line_server.specs.Asked.{may_want}
use Rattle.line_server.specs.Answers.{all_asked, answers_to}
use Rattle.jps_run.specs.Heard.{IsInput, WroteAll}
use Rattle.jps_run.specs.Live.{On}
use Rattle.jps_run.specs.Manner.{Manner, manner_of}
use Rattle.jps_run.specs.Replies.{By, Replies}
use Rattle.jps_run.specs.Standing.{StandFor}

-- the answers to lines, one for each
abbrev pub Serving : Type 0
Serving = List FedLine → List (List ℕ)

-- those on a map, each on the grids as the edits of the lines before it leave them
abbrev pub serving_on : Manner → Map → Serving
serving_on manner m lines =
    answers_to manner.session manner.show (grids_under manner.rule m) [] (all_asked lines)

-- so it is for a call
abbrev pub serving_for : (By → Replies) → Call → Map → Serving
serving_for replies call = serving_on (manner_of replies call.settings)

-- for which of the answers memory may be wanted
abbrev pub wants_of : List FedLine → List Bool
wants_of lines = map may_want (all_asked lines)

-- the texts stand for the answers to these lines
abbrev pub ServeLines : Serving → List FedLine → List (List ℕ) → Type 0
ServeLines answers lines texts = StandFor (wants_of lines) (answers lines) texts

-- so they do for all lines of what comes in
pub record ServeInput (answers : Serving) (input : Option (List ℕ)) (texts : List (List ℕ)) : Type 0 where
  pub text : List ℕ
  pub comes : IsInput input text
  pub serve : ServeLines answers (lines_of text) texts

-- for exactly the whole lines among the bytes that were taken
pub record ServeWhole (answers : Serving) (input left : Option (List ℕ))
    (texts : List (List ℕ)) : Type 0 where
  pub taken : List ℕ
  pub consumed : Consumes input left taken
  pub serve : ServeLines answers (whole_lines taken) texts

-- so, where more bytes were taken than 64 bits count: no more are read
pub record ServeEndless (answers : Serving) (input left : Option (List ℕ))
    (texts : List (List ℕ)) : Type 0 where
  pub whole : ServeWhole answers input left texts
  pub many : 2 ^ 64 ≤ length whole.taken + 1

-- the lines among bytes that were taken: those with line feed, and at the end of the input the last one too
pub data AreTaken (left : Option (List ℕ)) (taken : List ℕ) (lines : List FedLine) : Type 0 where
  so_far : lines ≡ whole_lines taken → AreTaken left taken lines
  at_end : IsAtEnd left → lines ≡ lines_of taken → AreTaken left taken lines

-- for these
pub record ServeTaken (answers : Serving) (input left : Option (List ℕ))
    (texts : List (List ℕ)) : Type 0 where
  pub taken : List ℕ
  pub consumed : Consumes input left taken
  pub lines : List FedLine
  pub are : AreTaken left taken lines
  pub serve : ServeLines answers lines texts

-- what stands for the answers to all lines of a call's input was written
abbrev pub WroteServed : (By → Replies) → Call → (List ℕ → Held) → Outflow → Outflow
    → Option (List ℕ) → Type 0
WroteServed replies call holds out out_now input =
    On Serve call holds (λ m. WroteAll (ServeInput (serving_for replies call m) input) out out_now)

-- a worked row, where no query finds a walk: the second edit finds what the first one made, and a line of
-- blanks has an answer of no bytes
abbrev none_found : Manner
none_found = record {
  picked = λ ls s t. reply.None [];
  session = λ ls s t. reply.None [];
  plain = λ ls s t. reply.None [];
  show = Points;
  rule = Never;
}

pub lines_in_turn : serving_on none_found (record { width = 2; height = 1; cells = codes ".." })
    (lines_of (codes "block 0 0\r\n\nblock 0\nblock 0 0\nquery 1 0 1 1"))
    ≡ codes "ok\n" ∷ [] ∷ codes "refused T1\n" ∷ codes "same\n" ∷ codes "none\n" ∷ []
unfolding edited_layer number_of
lines_in_turn = refl

pub query_wants : wants_of (lines_of (codes "block 0 0\nquery 1 0 1 1")) ≡ false ∷ true ∷ []
unfolding number_of
query_wants = refl
