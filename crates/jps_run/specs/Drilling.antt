-- How far a drill has come.
use Rattle.std.specs.Prelude.{◌≡◌, ℕ, ◌+◌, ◌<◌, ◌≤◌, ◌^◌, List, [], ◌++◌, length, count_by}
use Rattle.std.specs.List.{All, fold, sum_by}
use Rattle.script_text.specs.declared.command.ScriptCommand.{ScriptCommand}
use Rattle.jps_run.specs.Answers.{edits_with}
use Rattle.jps_run.specs.Parts.{Prints, printed}
use Rattle.jps_run.specs.Rising.{RoseForCommands}
use Rattle.jps_run.specs.Drill.{IsShortFinding, drill_line, findings_of, queries_text, edits_text, costs_text}
use Rattle.jps_run.specs.Drill.{is_walk, is_none, is_blocked, is_done, is_same, straight_in, diagonal_in}
use Rattle.jps_run.specs.Session.{session_replies, session_after}
use Rattle.jps_run.specs.declared.replies.findings.Summary.{Summary}
use Rattle.jps_run.specs.declared.replies.findings.Finding.{Finding}
use Rattle.jps_run.specs.declared.replies.findings.Sums.{Sums}

-- the counts of findings and the sums of their costs
abbrev pub sums_of : List Finding → Sums
sums_of found = record {
  walks = count_by is_walk found;
  none = count_by is_none found;
  blocked = count_by is_blocked found;
  done = count_by is_done found;
  same = count_by is_same found;
  straight = sum_by straight_in found;
  diagonal = sum_by diagonal_in found;
}

-- one finding more fits into the sums
pub record HasRoom (sums : Sums) : Type 0 where
  pub walks : sums.walks < 2 ^ 63
  pub none : sums.none < 2 ^ 63
  pub blocked : sums.blocked < 2 ^ 63
  pub done : sums.done < 2 ^ 63
  pub same : sums.same < 2 ^ 63
  pub straight : sums.straight < 2 ^ 63
  pub diagonal : sums.diagonal < 2 ^ 63

-- the line, by the sums
abbrev pub sums_text : Sums → List ℕ
sums_text sums =
    queries_text sums.walks sums.none sums.blocked ++ edits_text sums.done sums.same
    ++ costs_text sums.straight sums.diagonal

-- the sums are those of findings, and there is room for so many more
pub record LeavesRoom (job : Summary) (more : ℕ) : Type 0 where
  pub found : List Finding
  pub summed : job.sums ≡ sums_of found
  pub short : All IsShortFinding found
  pub few : length found + more ≤ 2 ^ 32

-- what commands come to by this job
abbrev pub findings_by : Summary → List ScriptCommand → List Finding
findings_by job commands = findings_of (session_replies job.session) job.session.layers commands

-- the commands came to findings with these sums, and their edits were made; no line is written before the
-- sums
pub record HasDrilled (first now : Summary) (commands : List ScriptCommand) (lines : List (List ℕ))
    : Type 0 where
  pub summed : now.sums ≡ sums_of (findings_by first commands)
  pub session : now.session ≡ session_after first.session (fold edits_with [] commands)
  pub none : lines ≡ []

-- the counter rose for these commands, and their edits were made
pub record HaveCounted (first now : Summary) (commands : List ScriptCommand) (old new : ℕ) : Type 0 where
  pub rose : RoseForCommands first.session commands old new
  pub session : now.session ≡ session_after first.session (fold edits_with [] commands)

-- one line sums up what the commands come to, with status 0
abbrev pub IsDrilled : Summary → List ScriptCommand → List (List ℕ) → ℕ → Type 0
IsDrilled first commands = Prints (printed (drill_line (findings_by first commands)) 0)
