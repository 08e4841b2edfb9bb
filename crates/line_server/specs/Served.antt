-- How far a server has come.
use Rattle.std.specs.Prelude.{◌≡◌, ◌≤◌, ℕ, List, [], ◌++◌, Result, MatchResult}
use Rattle.std.specs.List.{concat}
use Rattle.edit_replay.specs.Edited.{edited}
use Rattle.edit_replay.specs.ReplyOf.{reply_of}
use Rattle.io_edge.specs.Known.{Outflow}
use Rattle.line_work.specs.Sending.{Wrote, WroteSome}
use Rattle.line_feed.specs.Lines.{lines_of}
use Rattle.line_feed.specs.Fed.{HasTaken, whole_lines}
use Rattle.line_server.specs.declared.asked.Asked.{Asked}
use Rattle.line_server.specs.declared.server.LineServer.{LineServer}
use Rattle.line_server.specs.Answers.{AreAnswers, all_asked, edits_of}

-- since the first server these lines were answered, and their edits made
pub record HaveAnswered (first now : LineServer) (lines : List Asked) (before after : Outflow) : Type 0 where
  pub engine : now.session.engine ≡ first.session.engine
  pub show : now.show ≡ first.show
  pub layers : now.session.layers ≡ edited first.session.layers (edits_of lines)
  pub texts : List (List ℕ)
  pub answers : AreAnswers (reply_of first.session.engine) first.show first.session.layers [] lines texts
  pub wrote : Wrote before after (concat texts)
  pub later : before.faults ≤ after.faults

-- a write failed, and a first part was written of the answers to the first of these lines
pub record HaveStopped (first : LineServer) (lines : List Asked) (before after : Outflow) : Type 0 where
  pub some : List Asked
  pub others : List Asked
  pub all : lines ≡ some ++ others
  pub texts : List (List ℕ)
  pub answers : AreAnswers (reply_of first.session.engine) first.show first.session.layers [] some texts
  pub wrote : WroteSome before after (concat texts)

-- this text came, in whatever pieces, and its whole lines are answered
pub record HasServed (first now : LineServer) (text : List ℕ) (before after : Outflow) : Type 0 where
  pub fed : HasTaken now.feed text
  pub answered : HaveAnswered first now (all_asked (whole_lines text)) before after

-- one piece more came, and the lines that it completes are answered; or a write failed
abbrev pub ServesPiece : {T E : Type 0} → LineServer → LineServer → List ℕ → Outflow → Outflow
    → Result T E → Type 0
ServesPiece old new piece at now result = (first : LineServer) (text : List ℕ) (before : Outflow)
    → HasServed first old text before at
    → MatchResult result (λ _. HasServed first new (text ++ piece) before now)
    (λ _. HaveStopped first (all_asked (whole_lines (text ++ piece))) before now)

-- nothing more comes, and the last line is answered too; or a write failed
abbrev pub ServesEnd : {T E : Type 0} → LineServer → LineServer → Outflow → Outflow → Result T E → Type 0
ServesEnd old new at now result = (first : LineServer) (text : List ℕ) (before : Outflow)
    → HasServed first old text before at
    → MatchResult result (λ _. HaveAnswered first new (all_asked (lines_of text)) before now)
    (λ _. HaveStopped first (all_asked (lines_of text)) before now)
