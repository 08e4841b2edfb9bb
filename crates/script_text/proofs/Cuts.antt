-- Texts that are cut behind each line feed, byte by byte.
use Rattle.std.proofs.lemmas.Bool.Decides.{nat_tests}
use Rattle.std.proofs.Common.{◌≡◌, ℕ, ◌+◌, List, [], ◌∷◌, ◌++◌, length, Option, Some, None, Result, Ok, Err}
use Rattle.std.proofs.Common.{refl, ap, ◌∙◌, inl, inr, arith}
use Rattle.std.specs.Prelude.{if◌then◌else◌}
use Rattle.std.specs.List.{onto_first}
use Rattle.std.specs.Option.{option_or}
use Rattle.std.proofs.lemmas.Bool.{cases_Bool}
use Rattle.text_line.specs.Left.{Numbered, numbered_from}
use Rattle.text_line.specs.Lines.{is_line_feed, pieces_of}
use Rattle.text_line.specs.Reading.{first_fault, fault_in, values_in, values_on, reading}
use Rattle.script_text.specs.declared.command.ScriptCommand.{ScriptCommand}
use Rattle.script_text.specs.declared.fault.ScriptFault.{ScriptFault}
use Rattle.script_text.specs.Lines.{piece_read}
use Rattle.script_text.specs.Faults.{script_of}
use Rattle.script_text.specs.Feeding.{Cut, within_line, with_first, cut, with_command, commands_on, fault_of}
use Rattle.script_text.specs.Feeding.{commands_of}

-- a cut text with one byte more
abbrev pub with_last : Cut → ℕ → Cut
with_last c byte = if is_line_feed byte then record { lines = c.lines ++ c.rest ∷ []; rest = [] }
    else record { lines = c.lines; rest = c.rest ++ byte ∷ [] }

-- bytes before and behind a text change places
apart : (x y : ℕ) (lines : List (List ℕ)) (rest : List ℕ)
    → with_first x (with_last (record { lines = lines; rest = rest }) y)
    ≡ with_last (with_first x (record { lines = lines; rest = rest })) y
apart x y lines rest = grind (arith, nat_tests)

-- a text is cut byte by byte from its front, too
pub cut-more : (text : List ℕ) (byte : ℕ) → cut (text ++ byte ∷ []) ≡ with_last (cut text) byte
unfolding cut
cut-more [] byte = elim (cases_Bool (is_line_feed byte)) [ inl e ↦ rw e refl | inr e ↦ rw e refl ]
cut-more (x ∷ text) byte =
    ap (with_first x) (cut-more text byte) ∙ apart x byte (cut text).lines (cut text).rest

-- the last line of a text, if it needs its line feed
abbrev pub last_line : List ℕ → List (List ℕ)
last_line [] = []
last_line (byte ∷ bytes) = (byte ∷ bytes) ∷ []

onto : (x : ℕ) (lines : List (List ℕ)) (rest : List ℕ)
    → onto_first x (lines ++ last_line rest)
    ≡ (within_line x lines rest).lines ++ last_line (within_line x lines rest).rest
onto x lines rest = grind (arith, nat_tests)

-- the lines of a text are those with line feed, and the last one
pub pieces-cut : (text : List ℕ) → pieces_of text ≡ (cut text).lines ++ last_line (cut text).rest
unfolding cut
pieces-cut [] = refl
pieces-cut (x ∷ text) = grind (arith, cases_Bool, onto, pieces-cut text)

-- lines are numbered on
pub numbered-more : (number : ℕ) (lines more : List (List ℕ)) → numbered_from number (lines ++ more)
    ≡ numbered_from number lines ++ numbered_from (number + length lines) more
numbered-more number [] more =
    ap (λ n. numbered_from n more) (let e : number ≡ number + length {A = List ℕ} [] = omega arith in e)
numbered-more number (line ∷ lines) more =
    ap (λ (l : List Numbered). record { number = number; bytes = line } ∷ l)
    (numbered-more (number + 1) lines more
    ∙ ap (λ n. numbered_from (number + 1) lines ++ numbered_from n more)
    (let e : number + 1 + length lines ≡ number + length (line ∷ lines) = omega arith in e))

-- the first fault of lines and later lines
pub fault-append : (xs ys : List Numbered)
    → first_fault piece_read (xs ++ ys) ≡ option_or (first_fault piece_read xs) (first_fault piece_read ys)
fault-append [] ys = refl
fault-append (x ∷ xs) ys = grind (arith, fault-append xs ys)

pub or-none : (a b : Option ScriptFault) → option_or a b ≡ None → (a ≡ None) × (b ≡ None)
or-none a b h = grind (arith, nat_tests)

-- the commands of lines without fault and of later lines
pub commands-append : (xs ys : List Numbered) → first_fault piece_read xs ≡ None
    → commands_on (xs ++ ys) ≡ commands_on xs ++ commands_on ys
commands-append [] ys none = refl
commands-append (x ∷ xs) ys none =
    let parts = or-none (fault_in (piece_read x)) (first_fault piece_read xs) none in
    ap (with_command (piece_read x)) (commands-append xs ys parts.1) ∙ behind (piece_read x) parts.0
  where
    behind : (r : Result (Option ScriptCommand) ScriptFault) → fault_in r ≡ None
        → with_command r (commands_on xs ++ commands_on ys) ≡ with_command r (commands_on xs)
        ++ commands_on ys
    behind (Ok None) clean = refl
    behind (Ok (Some command)) clean = refl
    behind (Err fault) clean = absurd cc

-- behind a fault no command counts
pub commands-stay : (xs ys : List Numbered) (fault : ScriptFault) → first_fault piece_read xs ≡ Some fault
    → commands_on (xs ++ ys) ≡ commands_on xs
commands-stay [] ys fault some = absurd cc
commands-stay (x ∷ xs) ys fault some =
    by_first (piece_read x) (λ later. commands-stay xs ys fault later) some
  where
    by_first : (r : Result (Option ScriptCommand) ScriptFault)
        → (first_fault piece_read xs ≡ Some fault → commands_on (xs ++ ys) ≡ commands_on xs)
        → option_or (fault_in r) (first_fault piece_read xs) ≡ Some fault
        → with_command r (commands_on (xs ++ ys)) ≡ with_command r (commands_on xs)
    by_first (Err named) stay some = refl
    by_first (Ok None) stay some = stay some
    by_first (Ok (Some command)) stay some = ap (λ (l : List ScriptCommand). command ∷ l) (stay some)

-- one line alone
pub fault-one : (x : Numbered) → first_fault piece_read (x ∷ []) ≡ fault_in (piece_read x)
fault-one x = grind arith

pub commands-one : (x : Numbered) → commands_on (x ∷ []) ≡ values_in (piece_read x)
commands-one x = grind arith

-- lines without fault are read as their commands
pub commands-clean : (xs : List Numbered) → first_fault piece_read xs ≡ None
    → values_on piece_read xs ≡ commands_on xs
commands-clean [] none = refl
commands-clean (x ∷ xs) none =
    let parts = or-none (fault_in (piece_read x)) (first_fault piece_read xs) none in
    ap (λ (l : List ScriptCommand). values_in (piece_read x) ++ l) (commands-clean xs parts.1)
    ∙ same (piece_read x) parts.0
  where
    same : (r : Result (Option ScriptCommand) ScriptFault) → fault_in r ≡ None
        → values_in r ++ commands_on xs ≡ with_command r (commands_on xs)
    same (Ok None) clean = refl
    same (Ok (Some command)) clean = refl
    same (Err fault) clean = absurd cc

-- a text is read as its commands or its first fault
pub script-by : (text : List ℕ) → script_of text ≡ reading (fault_of text) (commands_of text)
unfolding script_of fault_of commands_of
script-by text = grind (arith, commands-clean)
