-- A call as data: its command's name, the files that it reads, what is printed on their texts, and whether it
-- reads the input.
use Rattle.std.specs.Prelude.{◌≡◌, ℕ, ◌+◌, Bool, true, false, List, [], ◌∷◌, ◌++◌, codes, length}
use Rattle.std.specs.Prelude.{Option, None, Some}
use Rattle.grid_moves.specs.Layers.{query_grid}
use Rattle.grid_moves.specs.declared.Cell.{Cell}
use Rattle.io_edge.specs.Known.{Held}
use Rattle.map_text.specs.Writing.{canonical_text}
use Rattle.map_maker.specs.Making.{made_map}
use Rattle.script_text.specs.Faults.{script_of}
use Rattle.scen_text.specs.Faults.{scen_of}
use Rattle.walk_judge.specs.Walks.{walks_of}
use Rattle.potential_check.specs.Text.{certificate_of}
use Rattle.potential_check.specs.Answers.{certificate_answer}
use Rattle.word_list.specs.Kinds.{count_at, number_at, percent_at, seed_at, side_at, word_at}
use Rattle.word_list.specs.Request.{Asked, Call}
use Rattle.word_list.specs.declared.rows.Command.{Command}
use Rattle.word_list.specs.declared.rows.Command.TheVariants as command
use Rattle.word_list.specs.declared.request.Settings.{Settings}
use Rattle.call_files.specs.Files.{AreAccepted, File, file_of}
use Rattle.call_files.specs.Kinds.{first_text}
use Rattle.call_files.specs.declared.kind.TextKind.TheVariants as kind
use Rattle.call_files.specs.MapFiles.{map_files}
use Rattle.grid_answers.specs.BoxLines.{boxes_answer}
use Rattle.grid_answers.specs.Certificates.{verdict_line, verdict_status}
use Rattle.grid_answers.specs.Distances.{costs_answer}
use Rattle.grid_answers.specs.RunLines.{moves_answer}
use Rattle.scen_maker.specs.Lengths.{length_lines, lengths_answer, lengths_status}
use Rattle.scen_maker.specs.Problems.{problems_status, problems_text}
use Rattle.jps_run.specs.Answers.{query_line, solve_output}
use Rattle.jps_run.specs.Drill.{drill_line, drilled}
use Rattle.jps_run.specs.Parts.{Output, on_last, on_map, on_read, printed}
use Rattle.jps_run.specs.Pictures.{drawing}
use Rattle.call_files.specs.Layered.{grids_under}
use Rattle.jps_run.specs.Manner.{Manner, manner_of}
use Rattle.jps_run.specs.Proving.{proving}
use Rattle.jps_run.specs.Replies.{By, Replies}
use Rattle.jps_run.specs.Rows.{scen_output}
use Rattle.jps_run.specs.Rulings.{judge_output}
use Rattle.jps_run.specs.Tabled.{tables_text}
use Rattle.jps_run.specs.Texts.{help_text, version_text}

-- a call by what is asked for and how
abbrev pub call_with : Asked → Settings → Call
call_with asked set = record { request = asked; settings = set }

-- the cell that two words tell, the first of them at a place: its column and its row
abbrev pub cell_at : List (List ℕ) → ℕ → Cell
cell_at words place = record { x = number_at words place; y = number_at words (place + 1) }

-- what is said of a command with its words: its name; the files that it reads, in their order, by the
-- settings and the name of a table file; and what is printed on their texts, each accepted. Nothing is,
-- where the input is read: what answers that is told with outcomes
pub record Task : Type 0 where
  pub name : List ℕ
  pub files : Settings → Option (List ℕ) → List File
  pub output : Manner → List (List ℕ) → Option Output

-- the task of a command that reads no file, and prints this text
abbrev saying : List ℕ → List ℕ → Task
saying name text = record {
  name = name;
  files = λ set tables. [];
  output = λ manner texts. Some (printed text 0);
}

-- the task of a command, with its words. A session that begins with a table file, whose text stands behind
-- that of the map, is that on the map; behind the map `judge` reads a scenario and walks
abbrev pub task : Command → List (List ℕ) → Task
task command.Help words = saying (codes "--help") help_text
task command.Version words = saying (codes "--version") version_text
task command.Query words = record {
  name = codes "query";
  files = λ set tables. map_files set (word_at words 0) tables;
  output = λ manner texts. on_map texts (λ m behind. Some (printed
      (query_line manner.picked manner.show (grids_under manner.rule m) (cell_at words 1)
      (cell_at words 3)) 0));
}
task command.Solve words = record {
  name = codes "solve";
  files = λ set tables. map_files set (word_at words 0) tables ++ file_of kind.Script (word_at words 1) ∷ [];
  output = λ manner texts. on_map texts (λ m behind. on_last behind (λ second. on_read (script_of second)
      (λ commands. Some (solve_output manner.session manner.show (grids_under manner.rule m) commands))));
}
task command.Live words = record {
  name = codes "live";
  files = λ set tables. map_files set (word_at words 0) tables;
  output = λ manner texts. None;
}
task command.Serve words = record {
  name = codes "serve";
  files = λ set tables. map_files set (word_at words 0) tables;
  output = λ manner texts. None;
}
task command.Scen words = record {
  name = codes "scen";
  files = λ set tables. map_files set (word_at words 0) tables ++ file_of kind.Scen (word_at words 1) ∷ [];
  output = λ manner texts. on_map texts (λ m behind. on_last behind (λ second. on_read (scen_of second)
      (λ entries. Some (scen_output manner.picked manner.show (grids_under manner.rule m) entries))));
}
task command.Judge words = record {
  name = codes "judge";
  files = λ set tables. file_of kind.Map (word_at words 0) ∷ file_of kind.Scen (word_at words 1)
      ∷ file_of kind.Walks (word_at words 2)
      ∷ [];
  output = λ manner texts. on_map texts (λ m behind. on_read (scen_of (first_text behind)) (λ entries.
      on_last behind (λ third. on_read (walks_of third (length entries)) (λ claimed.
      Some (judge_output (grids_under manner.rule m) entries claimed)))));
}
task command.Lengths words = record {
  name = codes "lengths";
  files = λ set tables. file_of kind.Map (word_at words 0) ∷ file_of kind.Scen (word_at words 1) ∷ [];
  output = λ manner texts. on_map texts (λ m behind. on_last behind (λ second. on_read (scen_of second)
      (λ entries. Some (record {
        lines = lengths_answer (grids_under manner.rule m) second entries;
        status = lengths_status (length_lines (grids_under manner.rule m) second entries);
      }))));
}
task command.Problems words = record {
  name = codes "problems";
  files = λ set tables. file_of kind.Map (word_at words 0) ∷ [];
  output = λ manner texts. on_map texts (λ m behind. Some (printed
      (problems_text (grids_under manner.rule m) (word_at words 0) (seed_at words 1) (count_at words 2))
      (problems_status (grids_under manner.rule m) (seed_at words 1) (count_at words 2))));
}
task command.Prove words = record {
  name = codes "prove";
  files = λ set tables. file_of kind.Map (word_at words 0) ∷ [];
  output = λ manner texts. on_map texts (λ m behind.
      Some (proving manner.plain (grids_under manner.rule m) (cell_at words 1) (cell_at words 3)));
}
task command.Check words = record {
  name = codes "check";
  files = λ set tables. file_of kind.Map (word_at words 0) ∷ file_of kind.Cert (word_at words 1) ∷ [];
  output = λ manner texts. on_map texts (λ m behind. on_last behind (λ second. on_read (certificate_of second)
      (λ stated. let found = certificate_answer (query_grid
      (grids_under manner.rule m) stated.head.start) stated in
      Some (printed (verdict_line found) (verdict_status found)))));
}
task command.Make words = saying (codes "make") (canonical_text
    (made_map (seed_at words 0) (side_at words 1) (side_at words 2) (percent_at words 3)))
task command.Drill words = record {
  name = codes "drill";
  files = λ set tables. [];
  output = λ manner texts.
      Some (printed (drill_line (drilled manner (seed_at words 0))) 0);
}
task command.Draw words = record {
  name = codes "draw";
  files = λ set tables. file_of kind.Map (word_at words 0) ∷ [];
  output = λ manner texts. on_map texts (λ m behind. Some (drawing manner.session manner.show m
      (grids_under manner.rule m) (cell_at words 1) (cell_at words 3)));
}
task command.Costs words = record {
  name = codes "costs";
  files = λ set tables. file_of kind.Map (word_at words 0) ∷ [];
  output = λ manner texts. on_map texts (λ m behind.
      Some (record { lines = costs_answer (grids_under manner.rule m) (cell_at words 1); status = 0 }));
}
task command.Tables words = record {
  name = codes "tables";
  files = λ set tables. file_of kind.Map (word_at words 0) ∷ [];
  output = λ manner texts. on_map texts (λ m behind. Some (printed (tables_text manner.rule m) 0));
}
task command.Boxes words = record {
  name = codes "boxes";
  files = λ set tables. file_of kind.SmallMap (word_at words 0) ∷ [];
  output = λ manner texts. on_map texts (λ m behind.
      Some (printed (boxes_answer (grids_under manner.rule m) (cell_at words 1)) 0));
}
task command.Moves words = record {
  name = codes "moves";
  files = λ set tables. file_of kind.SmallMap (word_at words 0) ∷ [];
  output = λ manner texts. on_map texts (λ m behind.
      Some (printed (moves_answer (grids_under manner.rule m) (cell_at words 1)) 0));
}

-- the task of a call
abbrev pub task_of : Call → Task
task_of call = task call.request.command call.request.words

-- the files of a call
abbrev pub files_of : Call → List File
files_of call = (task_of call).files call.settings call.request.tables

-- what is printed for a call on the texts of its files
unfoldable pub output_of : (By → Replies) → Call → List (List ℕ) → Option Output
output_of replies call texts = (task_of call).output (manner_of replies call.settings) texts

-- whether a command reads the input
abbrev pub reads_input : Command → Bool
reads_input command.Live = true
reads_input command.Serve = true
reads_input other = false

-- the input may be read for the call: it asks for it, and each of its files is accepted
pub record MayHear (call : Call) (holds : List ℕ → Held) : Type 0 where
  pub reads : reads_input call.request.command ≡ true
  pub texts : List (List ℕ)
  pub accepted : AreAccepted holds [] (files_of call) texts
