-- What a call answers, and how it is handed back.
use Rattle.std.specs.Prelude.{◌≡◌, ℕ, ◌≤◌, List, [], Some, length, take}
use Rattle.std.specs.List.{concat}
use Rattle.io_edge.specs.Known.{Outflow}
use Rattle.io_edge.specs.Memory.{held_under}
use Rattle.jps_run.specs.Ending.{memory_line, read_line}
use Rattle.jps_run.specs.Outcome.{IsOutcome, Outcome}
use Rattle.jps_run.specs.Replies.{AreRight, By, Replies}
use Rattle.jps_run.specs.Standing.{StandFor}
use Rattle.jps_run.specs.Who.{replies_by}
use Rattle.page_calls.specs.declared.Printed.{Printed}

-- a stream that took these bytes, and never failed
abbrev pub whole : List ℕ → Outflow
whole bytes = record { written = Some bytes; faults = 0 }

-- by what is replied to queries, the words come to this on these texts,
-- no others being there, and on this input
pub record ComeTo (replies : By → Replies) (words : List (List ℕ)) (texts : List (List ℕ × List ℕ))
    (input : List ℕ) (status : ℕ) (out err : List ℕ) : Type 0 where
  pub outcome : Outcome
  pub is : IsOutcome replies words (held_under texts) (Some input) outcome
  pub same_status : outcome.status ≡ status
  pub lines : List (List ℕ)
  pub stand : StandFor outcome.wants outcome.out lines
  pub same_out : out ≡ concat lines
  pub same_err : err ≡ outcome.line

-- so it is by replies of which each is right
pub record ComeRight (words : List (List ℕ)) (texts : List (List ℕ × List ℕ)) (input : List ℕ) (status : ℕ)
    (out err : List ℕ) : Type 0 where
  pub replies : By → Replies
  pub right : AreRight replies
  pub come : ComeTo replies words texts input status out err

-- the words come to this by right replies, and by those of the picked engine; or a text is not there
pub record Answers (words : List (List ℕ)) (texts : List (List ℕ × List ℕ)) (input : List ℕ) (status : ℕ)
    (out err : List ℕ) : Type 0 where
  pub right : status ≤ 3 → ComeRight words texts input status out err
  pub outcome : status ≤ 3 → ComeTo replies_by words texts input status out err
  pub read : status ≡ 4 → err ≡ read_line

-- nothing is printed but that memory is wanting
abbrev pub IsForMemory : List ℕ → List ℕ → Type 0
IsForMemory out err = (out ≡ []) × (err ≡ memory_line)

-- bytes of which this holds were printed: they stand in front, each where its room is large enough
pub record IsPrinted (Such : List ℕ → List ℕ → Type 0) (out err : List ℕ) (told : Printed) : Type 0 where
  pub on_out : List ℕ
  pub on_err : List ℕ
  pub such : Such on_out on_err
  pub out_told : told.out ≡ length on_out
  pub err_told : told.err ≡ length on_err
  pub out_fits : length on_out ≤ length out → take (length on_out) out ≡ on_out
  pub err_fits : length on_err ≤ length err → take (length on_err) err ≡ on_err
