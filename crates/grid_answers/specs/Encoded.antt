-- The table file of a map, as it is written.
use Rattle.std.specs.Prelude.{◌≡◌, ℕ, ◌≤◌, List, ◌++◌}
use Rattle.io_edge.specs.Known.{Outflow}
use Rattle.plus_tables.specs.Tables.{IsWhole}
use Rattle.table_file.specs.Written.{file_of}
use Rattle.line_work.specs.Sending.{IsText, Wrote}
use Rattle.grid_answers.specs.declared.encoded.TableFile.{TableFile}

-- the output is the file of the tables, which have an entry for each cell and direction and no more, with
-- status 0
pub record IsEncoded (file : TableFile) (lines : List (List ℕ)) (status : ℕ) : Type 0 where
  pub text : IsText (file_of file.corner file.land file.water) 0 lines status
  pub land : IsWhole file.land
  pub water : IsWhole file.water

-- a first part of the text was written, and this is left of it
pub record IsWritten (before now : Outflow) (text left : List ℕ) : Type 0 where
  pub front : List ℕ
  pub all : text ≡ front ++ left
  pub wrote : Wrote before now front
  pub later : before.faults ≤ now.faults
