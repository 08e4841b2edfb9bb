-- How a server goes on, line by line.
use Rattle.std.proofs.Common.{◌≡◌, refl, sym, ap, ◌∙◌, subst, List, [], ◌∷◌, ◌++◌, append_assoc, ℕ, ◌≤◌}
use Rattle.std.proofs.Common.{arith, Bool, false, true, map, inl, inr}
use Rattle.std.specs.Prelude.{Result, Ok, Err, IfOk, MatchResult, if◌then◌else◌}
use Rattle.std.specs.List.{concat}
use Rattle.std.specs.Global.{Vec}
use Rattle.std.proofs.lemmas.Bool.{cases_Bool, cond-false}
use Rattle.std.proofs.lemmas.List.{append-nil, map-append}
use Rattle.std.proofs.lemmas.List.Folds.{concat-append}
use Rattle.grid_moves.specs.Layers.{Layers}
use Rattle.grid_moves.specs.declared.Ground.{Ground}
use Rattle.edit_replay.specs.Edited.{Edit, edit_at, edit_reply, edited}
use Rattle.edit_replay.specs.ReplyOf.{reply_of}
use Rattle.edit_replay.specs.Replies.{AddsEdit}
use Rattle.edit_replay.specs.Session.{SessionData}
use Rattle.edit_replay.specs.declared.engine.Engine.{Engine}
use Rattle.edit_replay.proofs.Edits.{edited-nothing}
use Rattle.word_list.specs.declared.request.Show.{Show}
use Rattle.io_edge.specs.Known.{Outflow}
use Rattle.io_edge.specs.Whole.{AppendsSome}
use Rattle.line_work.specs.Sending.{Wrote, WroteSome}
use Rattle.line_work.proofs.Pieces.{appends-both, appends-part, nothing, rose-since}
use Rattle.script_text.specs.Feeding.{Cut, cut}
use Rattle.script_text.proofs.Cuts.{cut-more}
use Rattle.text_line.specs.Lines.{is_line_feed}
use Rattle.line_feed.specs.declared.feed.FedLine.{FedLine}
use Rattle.line_feed.specs.declared.feed.LineFeed.{LineFeed}
use Rattle.line_feed.specs.Lines.{line_of, lines_of}
use Rattle.line_feed.specs.Fed.{CompletesLine, HasTaken, TakesAll, whole_lines}
use Rattle.reply_lines.specs.Lines.{edit_line}
use Rattle.reply_lines.specs.Replies.{Replies}
use Rattle.line_server.specs.declared.asked.Asked.{Asked}
use Rattle.line_server.specs.declared.asked.Asked.TheVariants as asked
use Rattle.line_server.specs.declared.server.LineServer.{LineServer}
use Rattle.line_server.specs.Asked.{asked_by, edits_by, may_want}
use Rattle.line_server.specs.Answers.{Answers, AreAnswers, all_asked, answer_to, edits_of}
use Rattle.line_server.specs.Served.{HasServed, HaveAnswered, HaveStopped}
use Rattle.line_server.specs.Writing.{AnswersOne, PutsText, WritesText, text_or_memory}

-- the edits of one line more
edits-more : (some : List Asked) (a : Asked) → edits_of (some ++ a ∷ []) ≡ edits_of some ++ edits_by a
edits-more [] a = append-nil (edits_by a)
edits-more (b ∷ some) a =
    ap (λ (l : List Edit). edits_by b ++ l) (edits-more some a)
    ∙ sym (append_assoc (edits_by b) (edits_of some) (edits_by a))

-- one line more is answered
answers-more : (replies : Replies) (show : Show) (ls : Layers) (edits : List Edit) (some : List Asked)
    (texts : List (List ℕ)) (a : Asked) (text : List ℕ) → AreAnswers replies show ls edits some texts
    → Answers replies show (edited ls (edits ++ edits_of some)) a text
    → AreAnswers replies show ls edits (some ++ a ∷ []) (texts ++ text ∷ [])
answers-more replies show ls edits [] [] a text h i =
    (subst (λ (l : List Edit). Answers replies show (edited ls l) a text) (append-nil edits) i, tt)
answers-more replies show ls edits [] (t ∷ texts) a text h i = absurd h
answers-more replies show ls edits (b ∷ some) [] a text h i = absurd h
answers-more replies show ls edits (b ∷ some) (t ∷ texts) a text h i =
    let more : AreAnswers replies show ls (edits ++ edits_by b) some texts = h.1 in (
      h.0,
      answers-more replies show ls (edits ++ edits_by b) some texts a text more
          (subst (λ (l : List Edit). Answers replies show (edited ls l) a text)
          (sym (append_assoc edits (edits_by b) (edits_of some))) i),
    )

texts-more : (texts : List (List ℕ)) (text : List ℕ) → concat (texts ++ text ∷ []) ≡ concat texts ++ text
texts-more texts text =
    concat-append texts (text ∷ []) ∙ ap (λ (l : List ℕ). concat texts ++ l) (append-nil text)

-- these texts answer these lines of a first server, whose edits led to this session
pub record AreAnswered (first : LineServer) (session : SessionData) (show : Show) (lines : List Asked)
    (texts : List (List ℕ)) : Type 0 where
  pub engine : session.engine ≡ first.session.engine
  pub shown : show ≡ first.show
  pub layers : session.layers ≡ edited first.session.layers (edits_of lines)
  pub answers : AreAnswers (reply_of first.session.engine) first.show first.session.layers [] lines texts

answered-of : {first now : LineServer} {lines : List Asked} {before after : Outflow}
    → (h : HaveAnswered first now lines before after) → AreAnswered first now.session now.show lines h.texts
answered-of h = record { engine = h.engine; shown = h.show; layers = h.layers; answers = h.answers }

answered-more : (first : LineServer) (old new : SessionData) (show : Show) (lines : List Asked)
    (texts : List (List ℕ)) (a : Asked) (text : List ℕ) → AreAnswered first old show lines texts
    → AnswersOne old new show a text → AreAnswered first new show (lines ++ a ∷ []) (texts ++ text ∷ [])
answered-more first old new show lines texts a text h one = record {
  engine = one.engine ∙ h.engine;
  shown = h.shown;
  layers = one.layers first.session.layers (edits_of lines) h.layers
      ∙ ap (λ (l : List Edit). edited first.session.layers l) (sym (edits-more lines a));
  answers =
      let ls : Layers = edited first.session.layers (edits_of lines) in
      answers-more (reply_of first.session.engine) first.show first.session.layers [] lines texts a text
      h.answers (subst (λ (e : Engine). Answers (reply_of e) first.show ls a text) h.engine
      (subst (λ (s : Show). Answers (reply_of old.engine) s ls a text) h.shown
      (subst (λ (l : Layers). Answers (reply_of old.engine) show l a text) h.layers one.answers)));
}

-- of the texts that answer some lines a first part was written, and then the rest is
module _ {first : LineServer} (new : LineServer) (lines : List Asked) (texts : List (List ℕ))
    (before at : Outflow) (h : AreAnswered first new.session new.show lines texts) (sent rest : List ℕ)
    (wrote : Wrote before at sent) (parts : concat texts ≡ sent ++ rest) (later : before.faults ≤ at.faults)
    (now : Outflow) where
  stopped-so : (others all : List Asked) → all ≡ lines ++ others → WroteSome at now rest
      → HaveStopped first all before now
  stopped-so others all is some = record {
    some = lines;
    others = others;
    all = is;
    texts = texts;
    answers = h.answers;
    wrote = (
      rose-since before.faults at.faults now.faults later some.0,
      subst (λ (l : List ℕ). AppendsSome before.written now.written l) (sym parts)
          (appends-part before.written at.written now.written sent rest wrote some.1),
    );
  }

  written-so : {T E : Type 0} (result : Result T E) → WritesText rest at now result → at.faults ≤ now.faults
      → MatchResult result (λ _. HaveAnswered first new lines before now)
      (λ _. HaveStopped first lines before now)
  written-so (Ok done) all risen = record {
    engine = h.engine;
    show = h.shown;
    layers = h.layers;
    texts = texts;
    answers = h.answers;
    wrote = subst (λ (l : List ℕ). Wrote before now l) (sym parts)
        (appends-both before.written at.written now.written sent rest wrote all);
    later = omega arith;
  }
  written-so (Err error) some risen = stopped-so [] lines (sym (append-nil lines)) some

-- where there was no room for a text, what waited waits on
pub waits-on : (has_room : Bool) (slice now held text : List ℕ) → slice ≡ now
    → now ≡ (if has_room then held ++ text else held) → has_room ≡ false → slice ≡ held
waits-on has_room slice now held text same put none =
    same ∙ put ∙ cond-false has_room (held ++ text) held none

-- what waited is written, and then a text
pub puts-both : {T E : Type 0} (text : List ℕ) (at mid now : Outflow) (held none : List ℕ)
    (result : Result T E) → Wrote at mid held → at.faults ≤ mid.faults → none ≡ []
    → WritesText text mid now result → PutsText text at held now none result
puts-both text at mid now held none (Ok done) first later is all = (
  held ++ text,
  appends-both at.written mid.written now.written held text first all,
  sym (ap (λ (l : List ℕ). (held ++ text) ++ l) is ∙ append-nil (held ++ text)),
)
puts-both text at mid now held none (Err error) first later is some = (
  rose-since at.faults mid.faults now.faults later some.0,
  appends-part at.written mid.written now.written held text first some.1,
)

-- a text that was made, or memory was refused
answer-made : {E : Type 0} (replies : Replies) (show : Show) (ls : Layers) (a : Asked) (r : Result (Vec ℕ) E)
    → may_want a ≡ true → IfOk r (λ t. t.items ≡ answer_to replies show ls a)
    → Answers replies show ls a (text_or_memory r)
answer-made replies show ls a (Ok t) wants is = inl is
answer-made replies show ls a (Err error) wants is = inr (wants, refl)

-- what changes nothing is answered
pub answered-made : {E : Type 0} (old new : SessionData) (show : Show) (a : Asked) (r : Result (Vec ℕ) E)
    (text : List ℕ) → text ≡ text_or_memory r → new ≡ old → edits_by a ≡ [] → may_want a ≡ true
    → IfOk r (λ t. t.items ≡ answer_to (reply_of old.engine) show old.layers a)
    → AnswersOne old new show a text
answered-made old new show a r text made same none wants is = record {
  engine = ap (λ (d : SessionData). d.engine) same;
  layers = λ m before e. ap (λ (d : SessionData). d.layers) same ∙ e
      ∙ ap (λ (l : List Edit). edited m l)
      (sym (ap (λ (l : List Edit). before ++ l) none ∙ append-nil before));
  answers = subst (λ (l : List ℕ). Answers (reply_of old.engine) show old.layers a l) (sym made)
      (answer-made (reply_of old.engine) show old.layers a r wants is);
}

-- so is an edit
pub answered-edit : (old new : SessionData) (show : Show) (x y : ℕ) (to : Ground) (text : List ℕ)
    → new.engine ≡ old.engine → AddsEdit old.layers (edit_at x y to) new.layers
    → text ≡ edit_line (edit_reply old.layers (edit_at x y to))
    → AnswersOne old new show (asked.Edit x y to) text
answered-edit old new show x y to text same adds is = record {
  engine = same;
  layers = adds;
  answers = inl is;
}

-- nothing came yet
pub served-none : (s : LineServer) (out : Outflow) → HasTaken s.feed [] → HasServed s s [] out out
unfolding cut
served-none s out fed = record {
  fed = fed;
  answered = record {
    engine = refl;
    show = refl;
    layers = sym (edited-nothing s.session.layers);
    texts = [];
    answers = tt;
    wrote = nothing out.written;
    later = omega arith;
  };
}

-- the lines that are whole stay the first ones, whatever bytes come
grown : (text : List ℕ) (byte : ℕ)
    → (more : List (List ℕ)) × ((cut (text ++ byte ∷ [])).lines ≡ (cut text).lines ++ more)
grown text byte = elim (cases_Bool (is_line_feed byte)) [
  | inl e ↦ ((cut text).rest ∷ [], ap (λ (c : Cut). c.lines) (cut-more text byte) ∙ rw e refl)
  | inr e ↦ ([], ap (λ (c : Cut). c.lines) (cut-more text byte) ∙ rw e (sym (append-nil (cut text).lines)))
]

pub lines-grow : (text bytes : List ℕ)
    → (more : List (List ℕ)) × ((cut (text ++ bytes)).lines ≡ (cut text).lines ++ more)
lines-grow text [] = (
  [],
  ap (λ (t : List ℕ). (cut t).lines) (append-nil text)
      ∙ sym (append-nil (cut text).lines),
)
lines-grow text (byte ∷ bytes) =
    let here = grown text byte in
    let later = lines-grow (text ++ byte ∷ []) bytes in (
      here.0 ++ later.0,
      ap (λ (t : List ℕ). (cut t).lines) (sym (append_assoc text (byte ∷ []) bytes)) ∙ later.1
          ∙ ap (λ (l : List (List ℕ)). l ++ later.0) here.1
          ∙ append_assoc (cut text).lines here.0 later.0,
    )

whole-grow : (text bytes : List ℕ)
    → (more : List Asked) × (all_asked (whole_lines (text ++ bytes)) ≡ all_asked (whole_lines text) ++ more)
whole-grow text bytes =
    let g = lines-grow text bytes in (
      all_asked (map line_of g.0),
      ap (λ (l : List (List ℕ)). all_asked (map line_of l)) g.1
          ∙ ap (λ (l : List FedLine). all_asked l) (map-append line_of (cut text).lines g.0)
          ∙ map-append asked_by (whole_lines text) (map line_of g.0),
    )

asked-more : (text : List ℕ) (lines : List FedLine) (line : FedLine) → lines ≡ whole_lines text ++ line ∷ []
    → all_asked lines ≡ all_asked (whole_lines text) ++ asked_by line ∷ []
asked-more text lines line is =
    ap (λ (l : List FedLine). all_asked l) is ∙ map-append asked_by (whole_lines text) (line ∷ [])

-- a first part of a piece came, and of the answers to the lines with it the last ones wait to be written
pub record IsServing (first now : LineServer) (text piece left : List ℕ) (before at : Outflow) (held : List ℕ)
    : Type 0 where
  pub eaten : List ℕ
  pub parted : piece ≡ eaten ++ left
  pub fed : HasTaken now.feed (text ++ eaten)
  pub texts : List (List ℕ)
  pub answered : AreAnswered first now.session now.show (all_asked (whole_lines (text ++ eaten))) texts
  pub sent : List ℕ
  pub wrote : Wrote before at sent
  pub parts : concat texts ≡ sent ++ held
  pub later : before.faults ≤ at.faults

pub serving-begun : (first old : LineServer) (text piece : List ℕ) (before at : Outflow) (held : List ℕ)
    → held ≡ [] → HasServed first old text before at → IsServing first old text piece piece before at held
serving-begun first old text piece before at held none h = record {
  eaten = [];
  parted = refl;
  fed = subst (λ (t : List ℕ). HasTaken old.feed t) (sym (append-nil text)) h.fed;
  texts = h.answered.texts;
  answered = subst
      (λ (t : List ℕ). AreAnswered first old.session old.show (all_asked (whole_lines t)) h.answered.texts)
      (sym (append-nil text)) (answered-of h.answered);
  sent = concat h.answered.texts;
  wrote = h.answered.wrote;
  parts = sym (ap (λ (l : List ℕ). concat h.answered.texts ++ l) none ∙ append-nil (concat h.answered.texts));
  later = h.answered.later;
}

abbrev pub server_of : SessionData → Show → LineFeed → LineServer
server_of session show feed = record { session = session; show = show; feed = feed }

module _ (first old : LineServer) (text piece left : List ℕ) (before at : Outflow) (held : List ℕ)
    (s : IsServing first old text piece left before at held) (feed : LineFeed) (now : Outflow) where
  -- a line is whole, and what it asks is answered
  module _ (line : FedLine) (rest : List ℕ)
      (c : (t : List ℕ) → HasTaken old.feed t → CompletesLine t left feed line rest) (a : Asked)
      (is : a ≡ asked_by line) (new : SessionData) (answer : List ℕ)
      (one : AnswersOne old.session new old.show a answer) where
    abbrev its : CompletesLine (text ++ s.eaten) left feed line rest
    its = c (text ++ s.eaten) s.fed

    abbrev eaten : List ℕ
    eaten = s.eaten ++ (its.head ++ 10 ∷ [])

    moved : (text ++ s.eaten) ++ its.head ++ 10 ∷ [] ≡ text ++ eaten
    moved = append_assoc (text ++ s.eaten) its.head (10 ∷ [])
        ∙ append_assoc text s.eaten (its.head ++ 10 ∷ [])

    lines-are : all_asked (whole_lines (text ++ eaten)) ≡ all_asked (whole_lines (text ++ s.eaten)) ++ a ∷ []
    lines-are =
        ap (λ (t : List ℕ). all_asked (whole_lines t)) (sym moved)
        ∙ asked-more (text ++ s.eaten)
        (whole_lines ((text ++ s.eaten) ++ its.head ++ 10 ∷ [])) line its.completed
        ∙ ap (λ (b : Asked). all_asked (whole_lines (text ++ s.eaten)) ++ b ∷ []) (sym is)

    parted : piece ≡ eaten ++ rest
    parted = s.parted ∙ ap (λ (l : List ℕ). s.eaten ++ l)
        (its.parted ∙ sym (append_assoc its.head (10 ∷ []) rest))
        ∙ sym (append_assoc s.eaten (its.head ++ 10 ∷ []) rest)

    abbrev texts : List (List ℕ)
    texts = s.texts ++ answer ∷ []

    answered : AreAnswered first new old.show (all_asked (whole_lines (text ++ eaten))) texts
    answered = subst (λ (l : List Asked). AreAnswered first new old.show l texts) (sym lines-are)
        (answered-more first old.session new old.show (all_asked (whole_lines (text ++ s.eaten))) s.texts a
        answer s.answered one)

    parts : concat texts ≡ s.sent ++ (held ++ answer)
    parts = texts-more s.texts answer ∙ ap (λ (l : List ℕ). l ++ answer) s.parts
        ∙ append_assoc s.sent held answer

    pub serving-more : (held_now : List ℕ)
        → (sent : List ℕ) × Wrote at now sent × (held ++ answer ≡ sent ++ held_now) → at.faults ≤ now.faults
        → IsServing first (server_of new old.show feed) text piece rest before now held_now
    serving-more held_now put risen = record {
      eaten = eaten;
      parted = parted;
      fed = subst (λ (t : List ℕ). HasTaken feed t) moved its.taken;
      texts = texts;
      answered = answered;
      sent = s.sent ++ put.0;
      wrote = appends-both before.written at.written now.written s.sent put.0 s.wrote put.1;
      parts = parts ∙ ap (λ (l : List ℕ). s.sent ++ l) put.2 ∙ sym (append_assoc s.sent put.0 held_now);
      later = let l : before.faults ≤ at.faults = s.later in omega arith;
    }

    pub serving-stopped : WroteSome at now (held ++ answer)
        → HaveStopped first (all_asked (whole_lines (text ++ piece))) before now
    serving-stopped some =
        let more = whole-grow (text ++ eaten) rest in
        stopped-so (server_of new old.show feed) (all_asked (whole_lines (text ++ eaten))) texts before at
        answered s.sent (held ++ answer) s.wrote parts s.later now more.0
        (all_asked (whole_lines (text ++ piece)))
        (ap (λ (t : List ℕ). all_asked (whole_lines t))
        (ap (λ (p : List ℕ). text ++ p) parted ∙ sym (append_assoc text eaten rest)) ∙ more.1) some

  -- no line is whole any more, and what waits is written
  module _ (all : (t : List ℕ) → HasTaken old.feed t → TakesAll t left feed) where
    whole : text ++ piece ≡ (text ++ s.eaten) ++ left
    whole = ap (λ (p : List ℕ). text ++ p) s.parted ∙ sym (append_assoc text s.eaten left)

    last : {T E : Type 0} (result : Result T E) → WritesText held at now result → at.faults ≤ now.faults
        → MatchResult result (λ _. HaveAnswered first (server_of old.session old.show feed)
        (all_asked (whole_lines (text ++ piece))) before now)
        (λ _. HaveStopped first (all_asked (whole_lines (text ++ piece))) before now)
    last = written-so (server_of old.session old.show feed) (all_asked (whole_lines (text ++ piece))) s.texts
        before at (subst (λ (l : List Asked). AreAnswered first old.session old.show l s.texts)
        (sym (ap (λ (t : List ℕ). all_asked (whole_lines t)) whole
        ∙ ap (λ (l : List FedLine). all_asked l) (all (text ++ s.eaten) s.fed).none)) s.answered)
        s.sent held s.wrote s.parts s.later now

    pub serving-done : {T E : Type 0} (result : Result T E) → WritesText held at now result
        → at.faults ≤ now.faults → MatchResult result
        (λ _. HasServed first (server_of old.session old.show feed) (text ++ piece) before now)
        (λ _. HaveStopped first (all_asked (whole_lines (text ++ piece))) before now)
    serving-done {T} {E} (Ok done) wrote risen = record {
      fed = subst (λ (t : List ℕ). HasTaken feed t) (sym whole) (all (text ++ s.eaten) s.fed).taken;
      answered = last {T = T} {E = E} (Ok done) wrote risen;
    }
    serving-done {T} {E} (Err error) some risen = last {T = T} {E = E} (Err error) some risen

-- the end
module _ (first old : LineServer) (text : List ℕ) (before at : Outflow)
    (h : HasServed first old text before at) (feed : LineFeed) where
  ended : HaveAnswered first (server_of old.session old.show feed) (all_asked (whole_lines text)) before at
  ended = record {
    engine = h.answered.engine;
    show = h.answered.show;
    layers = h.answered.layers;
    texts = h.answered.texts;
    answers = h.answered.answers;
    wrote = h.answered.wrote;
    later = h.answered.later;
  }

  pub ended-none : (lines_of text ≡ whole_lines text ++ [])
      → HaveAnswered first (server_of old.session old.show feed) (all_asked (lines_of text)) before at
  ended-none is = subst
      (λ (l : List FedLine). HaveAnswered first (server_of old.session old.show feed) (all_asked l) before at)
      (sym (is ∙ append-nil (whole_lines text))) ended

  pub ended-one : {T E : Type 0} (line : FedLine) → lines_of text ≡ whole_lines text ++ line ∷ []
      → (a : Asked) → a ≡ asked_by line → (new : SessionData) (answer : List ℕ)
      → AnswersOne old.session new old.show a answer → (now : Outflow) (result : Result T E)
      → WritesText answer at now result → at.faults ≤ now.faults → MatchResult result
      (λ _. HaveAnswered first (server_of new old.show feed) (all_asked (lines_of text)) before now)
      (λ _. HaveStopped first (all_asked (lines_of text)) before now)
  ended-one line last a is new answer one now result =
      let all-are : all_asked (lines_of text) ≡ all_asked (whole_lines text) ++ a ∷ []
      = asked-more text (lines_of text) line last
      ∙ ap (λ (b : Asked). all_asked (whole_lines text) ++ b ∷ []) (sym is) in
      let texts : List (List ℕ) = h.answered.texts ++ answer ∷ [] in
      written-so (server_of new old.show feed) (all_asked (lines_of text)) texts before at
      (subst (λ (l : List Asked). AreAnswered first new old.show l texts) (sym all-are)
      (answered-more first old.session new old.show (all_asked (whole_lines text)) h.answered.texts a answer
      (answered-of h.answered) one)) (concat h.answered.texts) answer h.answered.wrote
      (texts-more h.answered.texts answer) h.answered.later now result
