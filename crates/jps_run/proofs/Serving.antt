-- What a server wrote stands for the answers to the lines that came in, read by read.
use Rattle.std.proofs.Common.{◌≡◌, refl, sym, ap, ◌∙◌, subst, List, [], ◌∷◌, ◌++◌, ℕ, ◌+◌, ◌<◌, ◌≤◌, inl}
use Rattle.std.proofs.Common.{length, length-append, take, min, map, arith, Bool}
use Rattle.std.specs.Prelude.{Option, Some, None, ◌^◌}
use Rattle.std.specs.List.{concat}
use Rattle.std.specs.Io.KnownBytes.{Consumes, IsAtEnd, Keeps}
use Rattle.std.proofs.lemmas.List.{append-nil, length-take, map-append}
use Rattle.std.proofs.lemmas.List.Folds.{concat-append}
use Rattle.grid_moves.specs.Layers.{Layers}
use Rattle.edit_replay.specs.Edited.{Edit, edited}
use Rattle.edit_replay.specs.ReplyOf.{reply_of}
use Rattle.io_edge.specs.Causes.{Rose}
use Rattle.io_edge.specs.Known.{Inflow, Outflow}
use Rattle.word_list.specs.declared.request.Show.{Show}
use Rattle.reply_lines.specs.Replies.{Replies}
use Rattle.line_feed.specs.declared.feed.FedLine.{FedLine}
use Rattle.line_feed.specs.Lines.{lines_of}
use Rattle.line_feed.specs.Fed.{whole_lines}
use Rattle.line_server.specs.declared.asked.Asked.{Asked}
use Rattle.line_server.specs.declared.server.LineServer.{LineServer}
use Rattle.line_server.specs.Asked.{edits_by, may_want}
use Rattle.line_server.specs.Answers.{AreAnswers, all_asked, answer_to, answers_to}
use Rattle.line_server.specs.Served.{HasServed, HaveAnswered, HaveStopped}
use Rattle.line_work.proofs.Pieces.{part-more, rose-since}
use Rattle.jps_run.specs.Heard.{WroteAll, WroteFirst}
use Rattle.jps_run.specs.ServeLoop.{AllIsServed, IsFresh, IsServing, serving_by}
use Rattle.jps_run.specs.Serving.{ServeEndless, ServeLines, ServeTaken, ServeWhole, at_end, so_far}
use Rattle.jps_run.specs.Standing.{StandFor}
use Rattle.jps_run.proofs.Listening.{consumes-both, consumes-none, input-all}

-- lines stand for themselves, and more of them for more
pub stand-same : (wants : List Bool) (lines : List (List ℕ)) → StandFor wants lines lines
stand-same [] lines = refl
stand-same (wanted ∷ wants) [] = refl
stand-same (wanted ∷ wants) (line ∷ lines) = (inl refl, stand-same wants lines)

pub stand-more : (wants also : List Bool) (lines texts more : List (List ℕ)) → StandFor wants lines texts
    → StandFor (wants ++ also) (lines ++ more) (texts ++ more)
stand-more [] also lines texts more h =
    subst (λ (t : List (List ℕ)). StandFor also (lines ++ more) (t ++ more)) (sym h)
    (stand-same also (lines ++ more))
stand-more (wanted ∷ wants) also [] texts more h =
    subst (λ (t : List (List ℕ)). StandFor (wanted ∷ (wants ++ also)) more (t ++ more)) (sym h)
    (stand-same (wanted ∷ (wants ++ also)) more)
stand-more (wanted ∷ wants) also (line ∷ lines) [] more h = absurd h
stand-more (wanted ∷ wants) also (line ∷ lines) (text ∷ texts) more h =
    (h.0, stand-more wants also lines texts more h.1)

module _ (replies : Replies) (show : Show) (ls : Layers) where
  -- the texts that answer lines stand for the answers
  answers-stand : (edits : List Edit) (lines : List Asked) (texts : List (List ℕ))
      → AreAnswers replies show ls edits lines texts
      → StandFor (map may_want lines) (answers_to replies show ls edits lines) texts
  answers-stand edits [] [] h = refl
  answers-stand edits [] (text ∷ texts) h = absurd h
  answers-stand edits (a ∷ lines) [] h = absurd h
  answers-stand edits (a ∷ lines) (text ∷ texts) h =
      (h.0, answers-stand (edits ++ edits_by a) lines texts h.1)

  -- the answers to more lines begin with those to the first ones
  answers-more : (edits : List Edit) (some others : List Asked) → (more : List (List ℕ))
      × (answers_to replies show ls edits (some ++ others) ≡ answers_to replies show ls edits some ++ more)
  answers-more edits [] others = (answers_to replies show ls edits others, refl)
  answers-more edits (a ∷ some) others =
      let more = answers-more (edits ++ edits_by a) some others in (
        more.0,
        ap (λ (l : List (List ℕ)). answer_to replies show (edited ls edits) a ∷ l) more.1,
      )

  -- so more texts stand for them
  pub more-stand : (some others : List Asked) (texts : List (List ℕ))
      → StandFor (map may_want some) (answers_to replies show ls [] some) texts → (more : List (List ℕ))
      × StandFor (map may_want (some ++ others))
      (answers_to replies show ls [] (some ++ others)) (texts ++ more)
  more-stand some others texts h =
      let more = answers-more [] some others in (
        more.0,
        rw (map-append may_want some others, more.1)
            (stand-more (map may_want some) (map may_want others)
            (answers_to replies show ls [] some) texts more.0
            h),
      )

module _ (first : LineServer) where
  -- what was written for lines stands for their answers
  served-all : (now : LineServer) (lines : List FedLine) (before after : Outflow)
      → HaveAnswered first now (all_asked lines) before after
      → WroteAll (ServeLines (serving_by first) lines) before after
  served-all now lines before after h = record {
    lines = h.texts;
    stand = answers-stand (reply_of first.session.engine) first.show first.session.layers [] (all_asked lines)
        h.texts h.answers;
    wrote = h.wrote;
  }

  -- or is a first part of what does
  served-part : (lines : List FedLine) (before after : Outflow)
      → HaveStopped first (all_asked lines) before after
      → Rose before.faults after.faults × WroteFirst (ServeLines (serving_by first) lines) before after
  served-part lines before after h =
      let replies = reply_of first.session.engine in
      let ls = first.session.layers in
      let s = more-stand replies first.show ls h.some h.others h.texts
      (answers-stand replies first.show ls [] h.some h.texts h.answers) in (
        h.wrote.0,
        record {
          lines = h.texts ++ s.0;
          stand = subst (λ (asked : List Asked). StandFor (map may_want asked)
              (answers_to replies first.show first.session.layers [] asked) (h.texts ++ s.0)) (sym h.all) s.1;
          wrote = rw (concat-append h.texts s.0)
              (part-more before.written after.written (concat h.texts) (concat s.0) h.wrote.1);
        },
      )

-- a read that failed took nothing
consumes-kept : (a b c : Option (List ℕ)) (text : List ℕ) → Consumes a b text → Keeps b c → Consumes a c text
consumes-kept None b c text h keeps = tt
consumes-kept (Some xs) None c text h keeps = absurd h
consumes-kept (Some xs) (Some ys) None text h keeps = absurd keeps
consumes-kept (Some xs) (Some ys) (Some zs) text h keeps =
    h ∙ ap (λ (l : List ℕ). text ++ l) (sym keeps)

-- nothing was read yet
pub serving-begun : (first : LineServer) (input : Inflow) (buffer : List ℕ) (before : Outflow) → IsFresh first
    → 0 < length buffer → IsServing first first input input buffer 0 before before
serving-begun first input buffer before fresh room = record {
  text = [];
  consumed = consumes-none input.left;
  many = omega arith;
  served = fresh before;
  later = omega arith;
  room = room;
}

module _ {first old : LineServer} {input mid : Inflow} {buffer : List ℕ} {least : ℕ} {before at : Outflow}
    (now : Inflow) (h : IsServing first old input mid buffer least before at) where
  -- a read failed
  pub read-failed : Keeps mid.left now.left → Rose mid.faults now.faults
      → Rose input.faults now.faults × WroteAll (ServeWhole (serving_by first) input.left now.left) before at
  read-failed keeps rose =
      let w = served-all first old (whole_lines h.text) before at h.served.answered in (
        rose-since input.faults mid.faults now.faults h.later rose,
        record {
          lines = w.lines;
          stand = record {
            taken = h.text;
            consumed = consumes-kept input.left mid.left now.left h.text h.consumed keeps;
            serve = w.stand;
          };
          wrote = w.wrote;
        },
      )

  -- nothing more came in
  module _ (bytes : List ℕ) (read : Consumes mid.left now.left (take 0 bytes))
      (ended : IsAtEnd now.left) where
    all_consumed : Consumes input.left now.left h.text
    all_consumed = subst (λ (t : List ℕ). Consumes input.left now.left t) (append-nil h.text)
        (consumes-both input.left mid.left now.left h.text [] h.consumed read)

    -- and the last line is answered too
    pub end-served : (new : LineServer) (after : Outflow)
        → HaveAnswered first new (all_asked (lines_of h.text)) before after
        → AllIsServed first input before after
    end-served new after answered =
        let w = served-all first new (lines_of h.text) before after answered in
        record {
          lines = w.lines;
          stand = record {
            text = h.text;
            comes = input-all input.left now.left h.text all_consumed ended;
            serve = w.stand;
          };
          wrote = w.wrote;
        }

    -- or a write failed
    pub end-failed : (after : Outflow) → HaveStopped first (all_asked (lines_of h.text)) before after
        → Rose before.faults after.faults
        × WroteFirst (ServeTaken (serving_by first) input.left now.left) before after
    end-failed after stopped =
        let w = served-part first (lines_of h.text) before after stopped in (
          w.0,
          record {
            lines = w.1.lines;
            stand = record {
              taken = h.text;
              consumed = all_consumed;
              lines = lines_of h.text;
              are = at_end ended refl;
              serve = w.1.stand;
            };
            wrote = w.1.wrote;
          },
        )

  -- some bytes came in
  module _ (count : ℕ) (bytes piece : List ℕ) (read : Consumes mid.left now.left (take count bytes))
      (is : piece ≡ take count bytes) where
    consumed : Consumes input.left now.left (h.text ++ piece)
    consumed = subst (λ (p : List ℕ). Consumes input.left now.left (h.text ++ p)) (sym is)
        (consumes-both input.left mid.left now.left h.text (take count bytes) h.consumed read)

    -- and the lines that they complete are answered
    pub serving-more : (new : LineServer) (after : Outflow) (buffer_now : List ℕ) → 0 < count
        → count ≤ length bytes
        → mid.faults ≤ now.faults → 0 < length buffer_now
        → HasServed first new (h.text ++ piece) before after
        → IsServing first new input now buffer_now (least + 1) before after
    serving-more new after buffer_now some inside later room served = record {
      text = h.text ++ piece;
      consumed = consumed;
      many =
          let m : least ≤ length h.text = h.many in
          let l : length (take count bytes) ≡ min count (length bytes) = length-take count bytes in
          let p : length piece ≡ length (take count bytes) = ap (λ (l : List ℕ). length l) is in
          let s : length (h.text ++ piece) ≡ length h.text + length piece = length-append h.text piece in
          omega arith;
      served = served;
      later = (let e : input.faults ≤ mid.faults = h.later in omega arith);
      room = room;
    }

    -- or a write failed
    pub piece-failed : (after : Outflow)
        → HaveStopped first (all_asked (whole_lines (h.text ++ piece))) before after
        → Rose before.faults after.faults
        × WroteFirst (ServeTaken (serving_by first) input.left now.left) before after
    piece-failed after stopped =
        let w = served-part first (whole_lines (h.text ++ piece)) before after stopped in (
          w.0,
          record {
            lines = w.1.lines;
            stand = record {
              taken = h.text ++ piece;
              consumed = consumed;
              lines = whole_lines (h.text ++ piece);
              are = so_far refl;
              serve = w.1.stand;
            };
            wrote = w.1.wrote;
          },
        )

-- more bytes came in than 64 bits count
pub too-many : (first now : LineServer) (input input_now : Inflow) (buffer : List ℕ) (least : ℕ)
    (before after : Outflow) → IsServing first now input input_now buffer least before after
    → 2 ^ 64 ≤ least + 1
    → WroteAll (ServeEndless (serving_by first) input.left input_now.left) before after
too-many first now input input_now buffer least before after h much =
    let w = served-all first now (whole_lines h.text) before after h.served.answered in
    record {
      lines = w.lines;
      stand = record {
        whole = record { taken = h.text; consumed = h.consumed; serve = w.stand };
        many = (let m : least ≤ length h.text = h.many in omega (arith, much));
      };
      wrote = w.wrote;
    }
