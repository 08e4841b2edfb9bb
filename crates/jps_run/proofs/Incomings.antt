-- One read of what comes in.
use Rattle.std.proofs.Common.{◌≡◌, refl, sym, ap, ◌∙◌, subst, List, [], ◌++◌, ℕ, ◌+◌, ◌<◌, ◌≤◌, length}
use Rattle.std.proofs.Common.{length-append, take, min, arith}
use Rattle.std.specs.Prelude.{Some, None, Result, IsErrAnd, ◌^◌, codes}
use Rattle.std.specs.Option.{option_map}
use Rattle.std.specs.Io.KnownBytes.{Consumes, IsAtEnd}
use Rattle.std.proofs.lemmas.List.{append-nil, take_all, length-take}
use Rattle.script_text.specs.declared.feeder.LineFeeder.{LineFeeder}
use Rattle.script_text.specs.Fed.{HasTaken}
use Rattle.script_text.specs.Feeding.{commands_so_far, commands_of, fault_so_far, fault_of}
use Rattle.script_text.proofs.Feeding.{begun-known}
use Rattle.jps_run.specs.Answering.{HasAnswered, lines_by}
use Rattle.call_files.specs.FaultLines.{long_line, script_line}
use Rattle.call_files.specs.Kinds.{limit_of}
use Rattle.call_files.specs.declared.kind.TextKind.TheVariants as kind
use Rattle.jps_run.specs.Heard.{AnswerHeard, AnswerTaken, WroteAll, WroteLines, counted, so_far, at_end}
use Rattle.jps_run.specs.Hearing.{AllIsHeard, HasWritten, known_stops, hear_stops, HasHeard, IsHearing, Hears}
use Rattle.io_edge.specs.Known.{Inflow, Outflow}
use Rattle.line_work.specs.Stops.{StopsSo, EndsOrStops}
use Rattle.jps_run.specs.declared.replies.answers.Answers.{Answers}
use Rattle.line_work.specs.declared.stop.Stop.{Stop}
use Rattle.line_work.specs.declared.stop.Stop.TheVariants as stop
use Rattle.jps_run.proofs.Listening.{consumes-both, consumes-none, counted-more, refused-heard, long-heard}
use Rattle.jps_run.proofs.Listening.{all-heard, part-heard, lines-heard, written-heard}
use Rattle.line_work.proofs.Pieces.{nothing}
use Rattle.jps_run.proofs.Solving.{answered-none}
use Rattle.line_work.proofs.Stopping.{passed, no_stops, only_memory}

-- nothing is answered yet
written-none : (first : Answers) (before : Outflow)
    → HasWritten first first (commands_so_far []) before before
written-none first before = record {
  lines = [];
  worked = subst (λ commands. HasAnswered first first commands []) (sym begun-known.1) (answered-none first);
  wrote = nothing before.written;
  later = omega arith;
}

-- of few bytes all count
few-counted : (text : List ℕ) → length text ≤ 2 ^ 26 → counted text ≡ text
few-counted text few = take_all (limit_of kind.Script) text few

-- memory was refused before the first read
pub starved-first : (first : Answers) (input : Inflow) (before : Outflow) (result : Result ℕ Stop)
    → IsErrAnd result (λ s. s ≡ stop.Memory) → Hears first input input before before result
starved-first first input before result m =
    passed _
    (no_stops (WroteLines (AnswerTaken (lines_by first) input.left input.left) before before)) _
    result stop.Memory m
    (written-heard first input.left input.left [] before before (consumes-none input.left)
    (commands_so_far [])
    (so_far (ap commands_so_far (sym (few-counted [] (omega arith))))) first (written-none first before))
    (only_memory (λ k. k))

-- nothing was read yet
pub hearing-begun : (first : Answers) (feeder : LineFeeder) (input : Inflow) (buffer : List ℕ)
    (before : Outflow)
    → HasTaken feeder [] → feeder.taken ≡ 0 → 0 < length buffer
    → IsHearing first first feeder input input buffer before before
hearing-begun first feeder input buffer before begun none room = record {
  text = [];
  consumed = consumes-none input.left;
  counted = sym none;
  few = omega (arith, none);
  heard = record { fed = begun; clean = begun-known.0; written = written-none first before };
  later = omega arith;
  room = room;
}

module _ {first job : Answers} {feeder : LineFeeder} {input mid : Inflow} {buffer : List ℕ}
    {before at : Outflow} (now : Inflow) (h : IsHearing first job feeder input mid buffer before at) where
  -- nothing more came in
  module _ (bytes : List ℕ) (read : Consumes mid.left now.left (take 0 bytes)) (ended : IsAtEnd now.left)
      (new : Answers) (after : Outflow) where
    all_consumed : Consumes input.left now.left h.text
    all_consumed = subst (λ (t : List ℕ). Consumes input.left now.left t) (append-nil h.text)
        (consumes-both input.left mid.left now.left h.text [] h.consumed read)

    few : length h.text ≤ limit_of kind.Script
    few = let e : length h.text ≡ feeder.taken = h.counted in let f : feeder.taken ≤ 2 ^ 26 = h.few in
        omega arith

    -- and the command of the last line is answered too
    pub end-heard : (status : ℕ)
        → (status ≡ 0) × (fault_of h.text ≡ None) × HasWritten first new (commands_of h.text) before after
        → AllIsHeard first input before after status
    end-heard status d = (
      d.0,
      all-heard first input.left now.left h.text before after all_consumed new None ended few
          (sym (ap (option_map script_line) d.1)) d.2,
    )

    -- or that stopped
    pub end-stopped : {X : Type 0} (Done : X → Type 0) (result : Result X Stop) (stop : Stop)
        → StopsSo (known_stops first new (commands_of h.text) (fault_of h.text) before after) stop
        → IsErrAnd result (λ s. s ≡ stop) → EndsOrStops Done (hear_stops first input now before after) result
    end-stopped Done result stop k m =
        passed Done (known_stops first new (commands_of h.text) (fault_of h.text) before after) _
        result stop m k (record {
          refused = λ line k.
              all-heard first input.left now.left h.text before after all_consumed new (Some line) ended few
              (sym k.0) k.1;
          read = λ no. absurd no;
          write = λ k. (
            k.0,
            part-heard first input.left now.left h.text before after all_consumed (commands_of h.text)
                (at_end ended few refl) k.1,
          );
          memory = λ k.
              lines-heard first input.left now.left h.text before after all_consumed (commands_of h.text)
              (at_end ended few refl) k;
        })

  -- a piece came in
  module _ (count room : ℕ) (bytes piece : List ℕ) (read : Consumes mid.left now.left (take count bytes))
      (rest : feeder.taken + room ≡ 2 ^ 26) (is : piece ≡ take (min count room) bytes) where
    full : List ℕ
    full = h.text ++ take count bytes

    consumed : Consumes input.left now.left (h.text ++ take count bytes)
    consumed = consumes-both input.left mid.left now.left h.text (take count bytes) h.consumed read

    same : counted (h.text ++ take count bytes) ≡ h.text ++ piece
    same = grind (arith, counted-more)

    -- its answers stopped
    pub piece-stopped : (new : Answers) (after : Outflow) {X : Type 0} (Done : X → Type 0)
        (result : Result X Stop)
        (stop : Stop)
        → StopsSo (known_stops first new (commands_so_far (h.text ++ piece)) (fault_so_far (h.text ++ piece))
        before after)
        stop
        → IsErrAnd result (λ s. s ≡ stop) → EndsOrStops Done (hear_stops first input now before after) result
    piece-stopped new after Done result stop k m =
        passed Done (known_stops first new (commands_so_far (h.text ++ piece))
        (fault_so_far (h.text ++ piece)) before after)
        _ result stop m k (record {
          refused = λ line k.
              refused-heard first input.left now.left (h.text ++ take count bytes) before after
              consumed new line
              (ap (λ (t : List ℕ). option_map script_line (fault_so_far t)) same ∙ k.0)
              (subst (λ (t : List ℕ). HasWritten first new (commands_so_far t) before after) (sym same) k.1);
          read = λ no. absurd no;
          write = λ k. (
            k.0,
            part-heard first input.left now.left (h.text ++ take count bytes) before after consumed
                (commands_so_far (h.text ++ piece)) (so_far (ap commands_so_far (sym same))) k.1,
          );
          memory = λ k.
              lines-heard first input.left now.left (h.text ++ take count bytes) before after consumed
              (commands_so_far (h.text ++ piece)) (so_far (ap commands_so_far (sym same))) k;
        })

    module _ (new : Answers) (feeder_now : LineFeeder) (after : Outflow)
        (heard : HasHeard first new feeder_now (h.text ++ piece) before after) where
      -- too many bytes came in
      pub long-refused : (line : List ℕ) → room < count → count ≤ length bytes
          → line ≡ long_line (codes "script")
          → WroteAll (AnswerHeard (lines_by first) input.left (Some line)) before after
      long-refused line more inside named =
          long-heard first input.left now.left (h.text ++ take count bytes) before after consumed new line
          (let e : length h.text ≡ feeder.taken = h.counted in
          let f : feeder.taken + room ≡ 2 ^ 26 = rest in
          let l : length (take count bytes) ≡ min count (length bytes) = length-take count bytes in
          let s : length (h.text ++ take count bytes) ≡ length h.text + length (take count bytes)
          = length-append h.text (take count bytes) in
          let long : 2 ^ 26 < length (h.text ++ take count bytes) = omega arith in long)
          named (ap fault_so_far same ∙ heard.clean)
          (subst (λ (t : List ℕ). HasWritten first new (commands_so_far t) before after) (sym same)
          heard.written)

      -- or memory for that line was refused
      pub long-starved : {X : Type 0} (Done : X → Type 0) (result : Result X Stop)
          → IsErrAnd result (λ s. s ≡ stop.Memory)
          → EndsOrStops Done (hear_stops first input now before after) result
      long-starved Done result m =
          passed Done
          (no_stops (WroteLines (AnswerTaken (lines_by first) input.left now.left) before after)) _
          result stop.Memory m
          (written-heard first input.left now.left (h.text ++ take count bytes) before after consumed
          (commands_so_far (h.text ++ piece)) (so_far (ap commands_so_far (sym same))) new heard.written)
          (only_memory (λ k. k))

      -- or it was heard whole
      pub hearing-more : count ≤ room → count ≤ length bytes → feeder_now.taken ≡ feeder.taken + length piece
          → mid.faults ≤ now.faults → (buffer_now : List ℕ) → 0 < length buffer_now
          → IsHearing first new feeder_now input now buffer_now before after
      hearing-more fits inside taken later buffer_now some =
          let whole : piece ≡ take count bytes
          = is ∙ ap (λ n. take n bytes) (let e : min count room ≡ count = omega arith in e) in
          let l : length (take count bytes) ≡ min count (length bytes) = length-take count bytes in
          let p : length piece ≡ length (take count bytes) = ap (λ (l : List ℕ). length l) whole in
          record {
            text = h.text ++ piece;
            consumed = subst (λ (l : List ℕ). Consumes input.left now.left (h.text ++ l)) (sym whole)
                consumed;
            counted = length-append h.text piece
                ∙ (let e : length h.text ≡ feeder.taken = h.counted in
                let s : length h.text + length piece ≡ feeder_now.taken = omega (arith, taken) in s);
            few = (let f : feeder.taken + room ≡ 2 ^ 26 = rest in omega (arith, taken));
            heard = heard;
            later = (let e : input.faults ≤ mid.faults = h.later in omega arith);
            room = some;
          }
