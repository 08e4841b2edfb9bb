-- How far the counter rose for what comes in.
use Rattle.std.specs.Prelude.{◌≡◌, ℕ, ◌++◌, List, length, MatchOption, Option, None}
use Rattle.std.specs.Io.KnownBytes.{Consumes}
use Rattle.script_text.specs.declared.feeder.LineFeeder.{LineFeeder}
use Rattle.script_text.specs.Fed.{HasTaken}
use Rattle.script_text.specs.Feeding.{commands_so_far, commands_of, fault_of}
use Rattle.jps_run.specs.Answering.{HaveCounted}
use Rattle.jps_run.specs.Heard.{RoseHeard}
use Rattle.jps_run.specs.declared.replies.answers.Answers.{Answers}

-- one piece more came in, and the counter rose for its whole commands
abbrev pub RisePiece : Answers → Answers → LineFeeder → LineFeeder → List ℕ → ℕ → ℕ → Type 0
RisePiece old new feeder feeder_now piece at now = (first : Answers) (text : List ℕ) (start : ℕ)
    → HasTaken feeder text → HaveCounted first old (commands_so_far text) start at
    → HasTaken feeder_now (text ++ piece) × HaveCounted first new (commands_so_far (text ++ piece)) start now

-- nothing more comes in, no line is refused, and the counter rose for the command of the last line too
abbrev pub RiseEnd : Answers → Answers → LineFeeder → ℕ → ℕ → Type 0
RiseEnd old new feeder at now = (first : Answers) (text : List ℕ) (start : ℕ)
    → HasTaken feeder text → HaveCounted first old (commands_so_far text) start at
    → (fault_of text ≡ None) × HaveCounted first new (commands_of text) start now

-- these bytes came in, and the counter rose for their whole commands
pub record IsRising (first now : Answers) (feeder : LineFeeder) (input left : Option (List ℕ))
    (start count : ℕ)
    : Type 0 where
  pub text : List ℕ
  pub consumed : Consumes input left text
  pub counted : length text ≡ feeder.taken
  pub fed : HasTaken feeder text
  pub taken : HaveCounted first now (commands_so_far text) start count

-- behind turns in which some came in, the counter rose for what came in this turn too; or nothing more came
-- in, and it rose for all
abbrev pub RiseTurn : Answers → Answers → LineFeeder → LineFeeder → Option (List ℕ) → Option (List ℕ) → ℕ → ℕ
    → Option ℕ → Type 0
RiseTurn old new feeder feeder_now mid left at now ended =
    (first : Answers) (input : Option (List ℕ)) (start : ℕ)
    → IsRising first old feeder input mid start at
    → MatchOption ended (IsRising first new feeder_now input left start now)
    (λ status. RoseHeard first.session input start now)
