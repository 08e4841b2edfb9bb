-- How far the answers to lines that come in have come. No public clause cites this module.
use Rattle.std.specs.Prelude.{◌≡◌, ℕ, ◌+◌, ◌<◌, ◌≤◌, ◌⊎◌, List, [], length, Bool, MatchBool, Result}
use Rattle.std.specs.Io.KnownBytes.{Consumes}
use Rattle.io_edge.specs.Causes.{Rose}
use Rattle.io_edge.specs.Known.{Inflow, Outflow}
use Rattle.edit_replay.specs.ReplyOf.{reply_of}
use Rattle.line_server.specs.Answers.{all_asked, answers_to}
use Rattle.line_server.specs.Served.{HasServed}
use Rattle.line_server.specs.declared.server.LineServer.{LineServer}
use Rattle.line_work.specs.Sending.{Wrote}
use Rattle.line_work.specs.Stops.{Stops, EndsOrStops}
use Rattle.line_work.specs.declared.stop.Stop.{Stop}
use Rattle.jps_run.specs.Heard.{WroteAll, WroteFirst}
use Rattle.jps_run.specs.Serving.{ServeEndless, ServeInput, ServeTaken, ServeWhole, Serving}

-- a server that nothing came to
abbrev pub IsFresh : LineServer → Type 0
IsFresh server = (out : Outflow) → HasServed server server [] out out

-- the answers of a server
abbrev pub serving_by : LineServer → Serving
serving_by server lines =
    answers_to (reply_of server.session.engine) server.show server.session.layers [] (all_asked lines)

-- at least so many bytes came in, their whole lines are answered, and more may be read
pub record IsServing (first now : LineServer) (input input_now : Inflow) (buffer : List ℕ) (least : ℕ)
    (before after : Outflow) : Type 0 where
  pub text : List ℕ
  pub consumed : Consumes input.left input_now.left text
  pub many : least ≤ length text
  pub served : HasServed first now text before after
  pub later : input.faults ≤ input_now.faults
  pub room : 0 < length buffer

-- what is known where it stops
abbrev pub serve_stops : LineServer → Inflow → Inflow → Outflow → Outflow → Stops
serve_stops first input input_now before now = record {
  Refused = λ line. ⊥;
  Read = Rose input.faults input_now.faults
      × WroteAll (ServeWhole (serving_by first) input.left input_now.left) before now;
  Write = Rose before.faults now.faults
      × WroteFirst (ServeTaken (serving_by first) input.left input_now.left) before now;
  Memory = (Wrote before now [] × (input_now.left ≡ input.left))
      ⊎ WroteAll (ServeEndless (serving_by first) input.left input_now.left) before now;
}

-- all lines that came in are answered
abbrev pub AllIsServed : LineServer → Inflow → Outflow → Outflow → Type 0
AllIsServed first input before now = WroteAll (ServeInput (serving_by first) input.left) before now

-- so, with this status, or that stops
abbrev pub Serves : LineServer → Inflow → Inflow → Outflow → Outflow → Result ℕ Stop → Type 0
Serves first input input_now before now result =
    EndsOrStops (λ status. (status ≡ 0) × AllIsServed first input before now)
    (serve_stops first input input_now before now) result

-- behind turns in which bytes came in, the lines that this turn completes are answered too, and more may be
-- read; or nothing more came in, and all lines are; or that stops
abbrev pub ServesTurn : LineServer → LineServer → Inflow → Inflow → List ℕ → List ℕ → Outflow → Outflow
    → Result Bool Stop → Type 0
ServesTurn old new mid input_now buffer buffer_now at now result =
    (first : LineServer) (input : Inflow) (least : ℕ) (before : Outflow)
    → IsServing first old input mid buffer least before at
    → EndsOrStops (λ more. MatchBool more
    (IsServing first new input input_now buffer_now (least + 1) before now)
    (AllIsServed first input before now)) (serve_stops first input input_now before now) result
