-- What is known of a script by its first bytes, and what a feeder keeps of it.
use Rattle.std.proofs.lemmas.Bool.Decides.{nat_tests}
use Rattle.std.proofs.Common.{take, drop, get_or, ◌≡◌, ◌≢◌, ℕ, ◌+◌, ◌<◌, ◌≤◌, true, false, List, [], ◌∷◌}
use Rattle.std.proofs.Common.{◌++◌, append_assoc, length, length-append, refl, sym, ap, ◌∙◌, subst, inl, inr}
use Rattle.std.proofs.Common.{arith, rules}
use Rattle.std.specs.Prelude.{Option, Some, None, Result, Ok, Err, nat_lt, OnOk, IfErr, IsErrAnd}
use Rattle.std.specs.Option.{option_or}
use Rattle.std.proofs.lemmas.Bool.{cases_Bool, le-ltb}
use Rattle.std.proofs.lemmas.List.{append-nil, take-append-drop, take_more}
use Rattle.text_line.specs.Left.{Numbered, numbered_from, numbered_pieces}
use Rattle.text_line.specs.Lines.{is_line_feed}
use Rattle.text_line.specs.Reading.{first_fault, fault_in, values_in}
use Rattle.script_text.specs.declared.command.ScriptCommand.{ScriptCommand}
use Rattle.script_text.specs.declared.fault.ScriptFault.{ScriptFault}
use Rattle.script_text.specs.declared.fault.ScriptFault.TheVariants.{Long, NoMemory}
use Rattle.script_text.specs.declared.feeder.LineFeeder.{LineFeeder}
use Rattle.script_text.specs.Lines.{piece_read}
use Rattle.script_text.specs.Feeding.{Cut, cut, commands_on, whole_lines, length_fault, known_fault}
use Rattle.script_text.specs.Feeding.{fault_so_far, commands_so_far, fault_of, commands_of, Answers, IsMet}
use Rattle.script_text.specs.Fed.{IsNext, HasTaken, HasTakenByte, HasFed, HasEnded, completed}
use Rattle.script_text.proofs.Cuts.{with_last, cut-more, last_line, pieces-cut, numbered-more, fault-append}
use Rattle.script_text.proofs.Cuts.{or-none, commands-append, commands-stay, fault-one, commands-one}

-- the line that is to be completed
abbrev pub next_line : Cut → Numbered
next_line c = record { number = length c.lines + 1; bytes = c.rest }

numbered-next : (c : Cut) → numbered_from (1 + length c.lines) (c.rest ∷ []) ≡ next_line c ∷ []
numbered-next c = grind (arith, nat_tests)

-- its line feed completes it
lines-more : (c : Cut) → numbered_from 1 (c.lines ++ c.rest ∷ []) ≡ whole_lines c ++ next_line c ∷ []
lines-more c = grind (arith, nat_tests, numbered-more, numbered-next)

-- all lines, the last one among them, where no fault is known
fault-next : (c : Cut) → first_fault piece_read (whole_lines c) ≡ None
    → first_fault piece_read (numbered_from 1 (c.lines ++ c.rest ∷ [])) ≡ fault_in (piece_read (next_line c))
fault-next c clean = grind (arith, lines-more, fault-append, fault-one)

commands-next : (c : Cut) → first_fault piece_read (whole_lines c) ≡ None
    → commands_on (numbered_from 1 (c.lines ++ c.rest ∷ []))
    ≡ commands_on (whole_lines c) ++ values_in (piece_read (next_line c))
commands-next c clean = grind (arith, lines-more, commands-append, commands-one)

or-nothing : (f : Option ScriptFault) → option_or f None ≡ f
or-nothing f = grind (arith, nat_tests)

-- a line feed comes, where no fault is known
fault-fed : (c : Cut) → known_fault c ≡ None
    → known_fault (record { lines = c.lines ++ c.rest ∷ []; rest = [] }) ≡ fault_in (piece_read (next_line c))
fault-fed c clean = or-nothing _ ∙ fault-next c (or-none _ _ clean).0

-- where a fault is known, it is that of a line, or the last line is too long
data Known (c : Cut) (fault : ScriptFault) : Type 0 where
  in_line : first_fault piece_read (whole_lines c) ≡ Some fault → Known c fault
  in_rest : first_fault piece_read (whole_lines c) ≡ None → 128 < length c.rest
      → fault ≡ Long (length c.lines + 1) → Known c fault

known : (c : Cut) (fault : ScriptFault) → known_fault c ≡ Some fault → Known c fault
known c fault is = grind arith

long-read : (c : Cut) → 128 < length c.rest → piece_read (next_line c) ≡ Err (Long (length c.lines + 1))
long-read c long = let t : nat_lt 128 (length c.rest) ≡ true = search (rules, long) in rw t refl

-- and it stays so, whatever byte comes
known-stays : (c : Cut) (byte : ℕ) (fault : ScriptFault) → known_fault c ≡ Some fault
    → (known_fault (with_last c byte) ≡ Some fault)
    × (commands_on (whole_lines (with_last c byte)) ≡ commands_on (whole_lines c))
known-stays c byte fault is =
    grind (
      arith,
      cases_Bool,
      known,
      or-nothing,
      lines-more,
      fault-append,
      commands-stay,
      fault-next,
      long-read,
      commands-next,
      append-nil,
      length-append,
    )

-- a text with a fault keeps it, and its commands
pub fault-stays : (text more : List ℕ) (fault : ScriptFault) → fault_so_far text ≡ Some fault
    → (fault_so_far (text ++ more) ≡ Some fault) × (commands_so_far (text ++ more) ≡ commands_so_far text)
unfolding fault_so_far commands_so_far
fault-stays text [] fault is = rw (append-nil text) (is, refl)
fault-stays text (byte ∷ more) fault is =
    let e : text ++ byte ∷ more ≡ (text ++ byte ∷ []) ++ more = sym (append_assoc text (byte ∷ []) more) in
    let here = known-stays (cut text) byte fault is in
    let after = subst (λ (c : Cut). (known_fault c ≡ Some fault)
    × (commands_on (whole_lines c) ≡ commands_on (whole_lines (cut text)))) (sym (cut-more text byte)) here in
    let later = fault-stays (text ++ byte ∷ []) more fault after.0 in
    rw e (later.0, later.1 ∙ after.1)

-- what is known once a byte more came
fault-after : (text : List ℕ) (byte : ℕ) → fault_so_far (text ++ byte ∷ [])
    ≡ known_fault (with_last (cut text) byte)
unfolding fault_so_far
fault-after text byte = ap known_fault (cut-more text byte)

commands-after : (text : List ℕ) (byte : ℕ)
    → commands_so_far (text ++ byte ∷ []) ≡ commands_on (whole_lines (with_last (cut text) byte))
unfolding commands_so_far
commands-after text byte = ap (λ (c : Cut). commands_on (whole_lines c)) (cut-more text byte)

known-clean : (text : List ℕ) → fault_so_far text ≡ None → known_fault (cut text) ≡ None
unfolding fault_so_far
known-clean text clean = clean

commands-known : (text : List ℕ) → commands_so_far text ≡ commands_on (whole_lines (cut text))
unfolding commands_so_far
commands-known text = refl

-- the number and the bytes of the line that is to be completed
next-same : (feeder : LineFeeder) (text : List ℕ) → IsNext text feeder.number feeder.line.items
    → piece_read (record { number = feeder.number; bytes = feeder.line.items })
    ≡ piece_read (next_line (cut text))
next-same feeder text n = grind (arith, nat_tests)

-- a line feed came, and the line was judged
pub line-taken : (feeder now : LineFeeder) (text : List ℕ)
    (result : Result (Option ScriptCommand) ScriptFault)
    → feeder.fault ≡ None → HasTaken feeder text
    → result ≡ piece_read (record { number = feeder.number; bytes = feeder.line.items })
    → OnOk result ((now.number ≡ feeder.number + 1) × (now.line.items ≡ []) × (now.fault ≡ None))
    → IfErr result (λ fault. now.fault ≡ Some fault) → HasTakenByte text 10 now result
line-taken feeder now text result none h judged next kept = record {
  taken = taken result answer next kept;
  commands = commands-after text 10 ∙ commands-next (cut text) (or-none _ _ clean).0
      ∙ ap (λ (r : Result (Option ScriptCommand) ScriptFault). commands_on (whole_lines (cut text))
      ++ values_in r)
      (sym same)
      ∙ ap (λ (l : List ScriptCommand). l ++ values_in result) (sym (commands-known text));
  answer = answer;
}
  where
    start : fault_so_far text ≡ None
    start = sym h.kept ∙ none

    clean : known_fault (cut text) ≡ None
    clean = known-clean text start

    same : result ≡ piece_read (next_line (cut text))
    same = judged ∙ next-same feeder text (h.next start)

    answer : fault_so_far (text ++ 10 ∷ []) ≡ fault_in result
    answer = fault-after text 10 ∙ fault-fed (cut text) clean
        ∙ ap (λ (r : Result (Option ScriptCommand) ScriptFault). fault_in r) (sym same)

    taken : (r : Result (Option ScriptCommand) ScriptFault) → fault_so_far (text ++ 10 ∷ []) ≡ fault_in r
        → OnOk r ((now.number ≡ feeder.number + 1) × (now.line.items ≡ []) × (now.fault ≡ None))
        → IfErr r (λ fault. now.fault ≡ Some fault) → HasTaken now (text ++ 10 ∷ [])
    taken (Err fault) is next kept =
        record { kept = kept ∙ sym is; next = λ no. absurd (let e : Some fault ≡ None = sym is ∙ no in cc) }
    taken (Ok command) is next kept = record {
      kept = next.2 ∙ sym is;
      next = λ no. record {
        counted = (let n : feeder.number ≡ length (cut text).lines + 1 = (h.next start).counted in
            let m : now.number ≡ feeder.number + 1 = next.0 in
            let l : length ((cut text).lines ++ (cut text).rest ∷ []) ≡ length (cut text).lines + 1
            = length-append (cut text).lines ((cut text).rest ∷ []) in
            let e : now.number ≡ length ((cut text).lines ++ (cut text).rest ∷ []) + 1 = omega arith in
            e ∙ ap (λ (c : Cut). length c.lines + 1) (sym (cut-more text 10)));
        bytes = next.1 ∙ ap (λ (c : Cut). c.rest) (sym (cut-more text 10));
      };
    }

short-fault : (number : ℕ) (rest : List ℕ) → length rest ≤ 128 → length_fault number rest ≡ None
short-fault number rest short = rw (le-ltb 128 (length rest) short) refl

long-fault : (number : ℕ) (rest : List ℕ) → 128 < length rest → length_fault number rest ≡ Some (Long number)
long-fault number rest long = grind (arith, nat_tests)

-- a byte came that ends no line
module _ (feeder : LineFeeder) (text : List ℕ) (byte : ℕ) (none : feeder.fault ≡ None)
    (h : HasTaken feeder text)
    (other : is_line_feed byte ≡ false) where
  pending : fault_so_far text ≡ None
  pending = sym h.kept ∙ none

  extended : cut (text ++ byte ∷ [])
      ≡ record { lines = (cut text).lines; rest = (cut text).rest ++ byte ∷ [] }
  extended = cut-more text byte ∙ rw other refl

  same-commands : commands_so_far (text ++ byte ∷ []) ≡ commands_so_far text ++ []
  same-commands = grind (arith, nat_tests, commands-after, commands-known, append-nil)

  by-length : fault_so_far (text ++ byte ∷ [])
      ≡ length_fault (length (cut text).lines + 1) ((cut text).rest ++ byte ∷ [])
  by-length = fault-after text byte ∙ rw (
    other,
    (or-none (first_fault piece_read (whole_lines (cut text))) _ (known-clean text pending)).0,
  ) refl

  length-more : length ((cut text).rest ++ byte ∷ []) ≡ length feeder.line.items + 1
  length-more = grind (arith, nat_tests, pending, length-append)

  pub byte-taken : (now : LineFeeder) → length feeder.line.items < 128 → now.number ≡ feeder.number
      → now.line.items ≡ feeder.line.items ++ byte ∷ [] → now.fault ≡ None
      → HasTakenByte text byte now (Ok None)
  byte-taken now room number line clean =
      grind (arith, length-more, by-length, short-fault, pending, extended, same-commands)

  pub byte-refused : (now : LineFeeder) → 128 ≤ length feeder.line.items
      → now.fault ≡ Some (Long feeder.number) → HasTakenByte text byte now (Err (Long feeder.number))
  byte-refused now full kept = grind (arith, length-more, by-length, long-fault, pending, same-commands)

-- a whole text, whose last line needs no line feed
pieces-known : (text : List ℕ)
    → numbered_pieces text ≡ numbered_from 1 ((cut text).lines ++ last_line (cut text).rest)
pieces-known text = ap (numbered_from 1) (pieces-cut text)

-- a text with a known fault is refused for it
pub whole-refused : (text : List ℕ) (fault : ScriptFault) → fault_so_far text ≡ Some fault
    → (fault_of text ≡ Some fault) × (commands_of text ≡ commands_so_far text)
unfolding fault_so_far commands_so_far fault_of commands_of
whole-refused text fault is =
    grind (
      arith,
      pieces-known,
      known,
      last_line,
      numbered-more,
      fault-append,
      commands-stay,
      fault-next,
      long-read,
      commands-next,
      append-nil,
    )

-- one without is all right but for its last line
pub whole-clean : (text : List ℕ) → fault_so_far text ≡ None → (cut text).rest ≡ []
    → (fault_of text ≡ None) × (commands_of text ≡ commands_so_far text)
unfolding fault_so_far commands_so_far fault_of commands_of
whole-clean text clean empty = grind (arith, last_line, append-nil, pieces-known, or-none)

-- its last line is judged where it has bytes
pub whole-next : (text : List ℕ) (byte : ℕ) (bytes : List ℕ) → fault_so_far text ≡ None
    → (cut text).rest ≡ byte ∷ bytes
    → (fault_of text ≡ fault_in (piece_read (next_line (cut text))))
    × (commands_of text ≡ commands_so_far text ++ values_in (piece_read (next_line (cut text))))
unfolding fault_so_far commands_so_far fault_of commands_of
whole-next text byte bytes clean some =
    grind (arith, last_line, pieces-known, fault-next, or-none, commands-next)

-- nothing came yet
pub begun-taken : (now : LineFeeder) → now.fault ≡ None → now.number ≡ 1 → now.line.items ≡ []
    → HasTaken now []
unfolding cut fault_so_far
begun-taken now clean number line = grind (arith, nat_tests)

-- an error that is passed on is the answer
pub answers-err : (result : Result (Unit {0}) ScriptFault) (fault : ScriptFault) (known : Option ScriptFault)
    → IsErrAnd result (λ e. e ≡ fault) → result ≢ Err NoMemory → known ≡ Some fault → Answers result known
answers-err result fault known h i j = grind (arith, nat_tests)

-- a fault that was kept is answered again
pub fed-again : (feeder : LineFeeder) (text piece : List ℕ) (got : List ScriptCommand) (fault : ScriptFault)
    → feeder.fault ≡ Some fault → fault ≢ NoMemory → HasTaken feeder text
    → HasFed text (text ++ piece) feeder got got (Err fault)
fed-again feeder text piece got fault is other h =
    let stays = fault-stays text piece fault (sym h.kept ∙ is) in
    record {
      taken = record {
        kept = is ∙ sym stays.0;
        next = λ no. absurd (let e : Some fault ≡ None = sym stays.0 ∙ no in cc);
      };
      commands = record {
        more = [];
        known = stays.1 ∙ sym (append-nil (commands_so_far text));
        appended = sym (append-nil got);
      };
      answer = (stays.0, other);
    }

completed-text : (rest text : List ℕ) → (more : List ℕ) × (completed rest text ≡ text ++ more)
completed-text [] text = ([], sym (append-nil text))
completed-text (b ∷ bytes) text = (10 ∷ [], refl)

pub ended-again : (feeder : LineFeeder) (text : List ℕ) (got : List ScriptCommand) (fault : ScriptFault)
    → feeder.fault ≡ Some fault → fault ≢ NoMemory → HasTaken feeder text
    → HasEnded text feeder got got (Err fault)
ended-again feeder text got fault is other h =
    let c = completed-text (cut text).rest text in
    let f = fed-again feeder text c.0 got fault is other h in
    let w = whole-refused text fault (sym h.kept ∙ is) in
    record {
      taken = subst (λ (t : List ℕ). HasTaken feeder t) (sym c.1) f.taken;
      commands = record {
        more = [];
        known = w.1 ∙ sym (append-nil (commands_so_far text));
        appended = sym (append-nil got);
      };
      answer = (w.0, f.answer.1);
    }

no-bytes : (line : List ℕ) → length line ≡ 0 → line ≡ []
no-bytes [] none = refl
no-bytes (b ∷ bytes) none = absurd (omega arith)

-- the script ends behind a line feed
pub ended-clean : (feeder : LineFeeder) (text : List ℕ) (got : List ScriptCommand) → feeder.fault ≡ None
    → length feeder.line.items ≡ 0 → HasTaken feeder text → HasEnded text feeder got got (Ok tt)
ended-clean feeder text got none line h =
    let start : fault_so_far text ≡ None = sym h.kept ∙ none in
    let empty : (cut text).rest ≡ [] = sym (h.next start).bytes ∙ no-bytes feeder.line.items line in
    let w = whole-clean text start empty in
    record {
      taken = rw empty h;
      commands = record {
        more = [];
        known = w.1 ∙ sym (append-nil (commands_so_far text));
        appended = sym (append-nil got);
      };
      answer = w.0;
    }

-- or its last line was judged
pub ended-judged : (feeder now : LineFeeder) (text : List ℕ) (r : Result (Option ScriptCommand) ScriptFault)
    (before got : List ScriptCommand) (result : Result (Unit {0}) ScriptFault) → feeder.fault ≡ None
    → HasTaken feeder text → 0 < length feeder.line.items
    → r ≡ piece_read (record { number = feeder.number; bytes = feeder.line.items })
    → HasTakenByte text 10 now r → got ≡ before ++ values_in r → Answers result (fault_in r)
    → HasEnded text now before got result
ended-judged feeder now text r before got result none h some judged t added answer =
    by_rest (cut text).rest refl
  where
    start : fault_so_far text ≡ None
    start = sym h.kept ∙ none

    same : piece_read (next_line (cut text)) ≡ r
    same = sym (judged ∙ next-same feeder text (h.next start))

    by_rest : (rest : List ℕ) → (cut text).rest ≡ rest → HasEnded text now before got result
    by_rest [] are =
        absurd
        (let e : length feeder.line.items ≡ 0 = ap (λ (l : List ℕ). length l) ((h.next start).bytes ∙ are) in
        omega arith)
    by_rest (b ∷ bytes) are =
        let w = whole-next text b bytes start are in record {
          taken = rw are t.taken;
          commands = record {
            more = values_in r;
            known = w.1
                ∙ ap (λ (k : Result (Option ScriptCommand) ScriptFault). commands_so_far text ++ values_in k)
                same;
            appended = added;
          };
          answer = subst (λ (f : Option ScriptFault). Answers result f)
              (sym (w.0 ∙ ap (λ (k : Result (Option ScriptCommand) ScriptFault). fault_in k) same)) answer;
        }

-- a byte of a piece was refused, and so is the piece
pub fed-stopped : (text piece : List ℕ) (place byte : ℕ) (at now : LineFeeder)
    (before got : List ScriptCommand)
    (fault : ScriptFault) (result : Result (Unit {0}) ScriptFault) → place < length piece
    → byte ≡ get_or piece place 0 → HasFed text (text ++ take place piece) at before got (Ok tt)
    → HasTakenByte (text ++ take place piece) byte now (Err fault)
    → IsErrAnd result (λ e. e ≡ fault) → result ≢ Err NoMemory
    → HasFed text (text ++ piece) now before got result
fed-stopped text piece place byte at now before got fault result inside is f t e other =
    let first = text ++ take place piece in
    let whole : text ++ piece ≡ (first ++ byte ∷ []) ++ drop (place + 1) piece
    = ap (λ (l : List ℕ). text ++ l) (sym (take-append-drop (place + 1) piece)
    ∙ ap (λ (l : List ℕ). l ++ drop (place + 1) piece) (take_more piece place 0 inside
    ∙ ap (λ b. take place piece ++ b ∷ []) (sym is)))
    ∙ sym (append_assoc text (take place piece ++ byte ∷ []) (drop (place + 1) piece))
    ∙ ap (λ (l : List ℕ). l ++ drop (place + 1) piece)
    (sym (append_assoc text (take place piece) (byte ∷ []))) in
    let stays = fault-stays (first ++ byte ∷ []) (drop (place + 1) piece) fault t.answer in
    let known : commands_so_far (first ++ byte ∷ []) ≡ commands_so_far first
    = t.commands ∙ append-nil (commands_so_far first) in
    rw whole (record {
      taken = record {
        kept = t.taken.kept ∙ t.answer ∙ sym stays.0;
        next = λ no. absurd (let e : Some fault ≡ None = sym stays.0 ∙ no in cc);
      };
      commands = record {
        more = f.commands.more;
        known = stays.1 ∙ known ∙ f.commands.known;
        appended = f.commands.appended;
      };
      answer = answers-err result fault _ e other stays.0;
    })

-- with that byte the fault was met
pub met-there : (text piece : List ℕ) (place byte : ℕ) (first at now : LineFeeder)
    (before got : List ScriptCommand)
    (fault : ScriptFault) → place < length piece → byte ≡ get_or piece place 0
    → at.taken ≡ first.taken + place → now.taken ≡ at.taken + 1
    → HasFed text (text ++ take place piece) at before got (Ok tt)
    → HasTakenByte (text ++ take place piece) byte now (Err fault)
    → IsMet text piece first.taken now.taken fault
met-there text piece place byte first at now before got fault inside is so_far more f t = record {
  count = place;
  taken = omega arith;
  clean = f.answer;
  known = ap (λ (l : List ℕ). fault_so_far (text ++ l))
      (take_more piece place 0 inside ∙ ap (λ b. take place piece ++ b ∷ []) (sym is))
      ∙ ap fault_so_far (sym (append_assoc text (take place piece) (byte ∷ []))) ∙ t.answer;
}

-- what holds of a fault holds of an error that passes it on
pub of-passed : (result : Result (Unit {0}) ScriptFault) (fault : ScriptFault) (P : ScriptFault → Type 0)
    → IsErrAnd result (λ e. e ≡ fault) → P fault → IfErr result P
of-passed (Err e) fault P is holds = subst P (sym is) holds
of-passed (Ok done) fault P is holds = absurd is

grown-by : (text : List ℕ) (byte : ℕ) → (f : Option ScriptFault) → fault_so_far text ≡ f
    → (more : List ScriptCommand) × (commands_so_far (text ++ byte ∷ []) ≡ commands_so_far text ++ more)
grown-by text byte (Some fault) is =
    ([], (fault-stays text (byte ∷ []) fault is).1 ∙ sym (append-nil (commands_so_far text)))
grown-by text byte None is = elim (cases_Bool (is_line_feed byte)) [
  | inl e ↦ (
    values_in (piece_read (next_line (cut text))),
    commands-after text byte ∙ rw e (commands-next (cut text) (or-none _ _ (known-clean text is)).0)
        ∙ ap (λ (l : List ScriptCommand). l ++ values_in (piece_read (next_line (cut text))))
        (sym (commands-known text)),
  )
  | inr e ↦ (
    [],
    commands-after text byte ∙ rw e (sym (commands-known text)) ∙ sym (append-nil (commands_so_far text)),
  )
]

-- the commands that are known stay the first ones, whatever bytes come
pub commands-grow : (text bytes : List ℕ)
    → (more : List ScriptCommand) × (commands_so_far (text ++ bytes) ≡ commands_so_far text ++ more)
commands-grow text [] = ([], ap commands_so_far (append-nil text) ∙ sym (append-nil (commands_so_far text)))
commands-grow text (byte ∷ bytes) =
    let here = grown-by text byte (fault_so_far text) refl in
    let later = commands-grow (text ++ byte ∷ []) bytes in (
      here.0 ++ later.0,
      ap commands_so_far (sym (append_assoc text (byte ∷ []) bytes)) ∙ later.1
          ∙ ap (λ (l : List ScriptCommand). l ++ later.0) here.1
          ∙ append_assoc (commands_so_far text) here.0 later.0,
    )

-- of no text a command or a fault is known
pub begun-known : (fault_so_far [] ≡ None) × (commands_so_far [] ≡ [])
unfolding cut fault_so_far commands_so_far
begun-known = (refl, refl)

-- those of the whole text begin with them
pub commands-end : (text : List ℕ)
    → (more : List ScriptCommand) × (commands_of text ≡ commands_so_far text ++ more)
commands-end text = by_fault (fault_so_far text) refl
  where
    by_rest : fault_so_far text ≡ None → (rest : List ℕ) → (cut text).rest ≡ rest
        → (more : List ScriptCommand) × (commands_of text ≡ commands_so_far text ++ more)
    by_rest clean [] are = ([], (whole-clean text clean are).1 ∙ sym (append-nil (commands_so_far text)))
    by_rest clean (b ∷ bytes) are =
        (values_in (piece_read (next_line (cut text))), (whole-next text b bytes clean are).1)

    by_fault : (f : Option ScriptFault) → fault_so_far text ≡ f
        → (more : List ScriptCommand) × (commands_of text ≡ commands_so_far text ++ more)
    by_fault (Some fault) is =
        ([], (whole-refused text fault is).1 ∙ sym (append-nil (commands_so_far text)))
    by_fault None is = by_rest is (cut text).rest refl
