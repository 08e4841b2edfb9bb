-- A line that spells a command is read as it, and the other way round.
use Rattle.std.proofs.lemmas.Bool.Decides.{nat_tests}
use Rattle.std.proofs.Common.{◌≡◌, ℕ, Bool, true, false, List, [], ◌∷◌, map, Option, Some, None}
use Rattle.std.proofs.Common.{Result, Ok, Err, ap, ◌∙◌, arith}
use Rattle.std.specs.Prelude.{if◌then◌else◌}
use Rattle.std.specs.Option.{option_map, option_map_or}
use Rattle.std.specs.Str.{bytes_eq}
use Rattle.std.proofs.lemmas.Bool.{cases_Bool, le-ltb, ltb-false}
use Rattle.std.proofs.lemmas.Slice.Eq.{bytes_eq-Decides}
use Rattle.text_line.specs.Fields.{fields_of, is_blank}
use Rattle.text_line.specs.Numbers.{number_of}
use Rattle.text_line.proofs.Reading.{Judges}
use Rattle.script_text.specs.declared.command.ScriptCommand.{ScriptCommand}
use Rattle.script_text.specs.declared.fault.ScriptFault.{ScriptFault}
use Rattle.script_text.specs.declared.fault.ScriptFault.TheVariants.{Line, Long}
use Rattle.script_text.specs.Spelling.{Names, SpellsCommand, IsBlankPiece, IsCommandPiece}
use Rattle.script_text.specs.Lines.{two_numbers, four_numbers, command_in, piece_read}

two_named : (digits : List (List ℕ)) (p : ℕ × ℕ) → two_numbers digits ≡ Some p
    → map number_of digits ≡ Some p.0 ∷ Some p.1 ∷ []
two_named digits p h = grind (arith, nat_tests)

four_named : (digits : List (List ℕ)) (p : ℕ × ℕ × ℕ × ℕ) → four_numbers digits ≡ Some p
    → map number_of digits ≡ Some p.0 ∷ Some p.1 ∷ Some p.2 ∷ Some p.3 ∷ []
four_named digits p h = grind (arith, nat_tests)

made : {X : Type 0} → (f : X → ScriptCommand) (numbers : Option X) (command : ScriptCommand)
    → option_map f numbers ≡ Some command → (x : X) × (numbers ≡ Some x) × (f x ≡ command)
made f numbers command h = grind (arith, nat_tests)

-- what spells a command is read as it
pub spelled_command : (line : List ℕ) (command : ScriptCommand) → SpellsCommand line command
    → command_in (fields_of line) ≡ Some command
spelled_command line command h = grind (arith, nat_tests)

-- what is read as a command spells it
module _ (line word : List ℕ) (digits : List (List ℕ)) (are : fields_of line ≡ word ∷ digits) where
  named : (name : List ℕ) → bytes_eq word name ≡ true → fields_of line ≡ name ∷ digits
  named name same = are ∙ ap (λ (first : List ℕ). first ∷ digits) ((bytes_eq-Decides word name).0 same)

  -- a word and two numbers
  two_read : (name : List ℕ) → bytes_eq word name ≡ true → (f : ℕ → ℕ → ScriptCommand)
      → ((x y : ℕ) → Names name (x ∷ y ∷ []) line → SpellsCommand line (f x y)) → (command : ScriptCommand)
      → option_map (λ p. f p.0 p.1) (two_numbers digits) ≡ Some command → SpellsCommand line command
  two_read name same f spells command is = grind (arith, nat_tests, made, named, two_named)

  read_command : (command : ScriptCommand) → command_in (word ∷ digits) ≡ Some command
      → SpellsCommand line command
  read_command command is = grind (arith, cases_Bool, two_read, made, named, four_named)

pub command_spelled : (line : List ℕ) (command : ScriptCommand) → command_in (fields_of line) ≡ Some command
    → SpellsCommand line command
command_spelled line command is = grind (arith, read_command)

-- a line that spells a command is not blank
not_blank : (line : List ℕ) (command : ScriptCommand) → SpellsCommand line command → is_blank line ≡ false
not_blank line command h = grind (arith, nat_tests)

-- what a line is read as, by what is known of it
abbrev read_as : ℕ → Bool → Bool → Option ScriptCommand → Result (Option ScriptCommand) ScriptFault
read_as number long blank command = if long then Err (Long number) else if blank then Ok None
    else option_map_or (λ command. Ok (Some command)) command (Err (Line number))

as_nothing : (number : ℕ) (long blank : Bool) (command : Option ScriptCommand)
    → read_as number long blank command ≡ Ok None → (long ≡ false) × (blank ≡ true)
as_nothing number long blank command h = grind (arith, nat_tests)

as_command : (number : ℕ) (long blank : Bool) (found : Option ScriptCommand) (command : ScriptCommand)
    → read_as number long blank found ≡ Ok (Some command) → (long ≡ false) × (found ≡ Some command)
as_command number long blank found command h = grind (arith, nat_tests)

-- so each line is read as what it is
pub pieces_judged : Judges piece_read IsBlankPiece IsCommandPiece
pieces_judged =
    grind (
      arith,
      nat_tests,
      as_nothing,
      ltb-false,
      le-ltb,
      as_command,
      command_spelled,
      not_blank,
      spelled_command,
    )
