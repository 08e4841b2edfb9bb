-- What one line of a script is read as.
use Rattle.std.specs.Prelude.{ℕ, nat_lt, if◌then◌else◌, List, [], ◌∷◌, length, codes, Option, Some, None}
use Rattle.std.specs.Prelude.{Result, Ok, Err}
use Rattle.std.specs.Option.{option_map, option_map_or, option_and_then}
use Rattle.std.specs.Str.{bytes_eq}
use Rattle.text_line.specs.Lines.{without_cr}
use Rattle.text_line.specs.Left.{Numbered}
use Rattle.text_line.specs.Fields.{fields_of, is_blank}
use Rattle.text_line.specs.Numbers.{number_of}
use Rattle.script_text.specs.declared.command.ScriptCommand.{ScriptCommand}
use Rattle.script_text.specs.declared.command.ScriptCommand.TheVariants.{Block, Free, Flood, Query}
use Rattle.script_text.specs.declared.fault.ScriptFault.{ScriptFault}
use Rattle.script_text.specs.declared.fault.ScriptFault.TheVariants.{Line, Long}

-- the numbers of two fields, if there are two and each is a number
abbrev pub two_numbers : List (List ℕ) → Option (ℕ × ℕ)
two_numbers (x ∷ y ∷ []) = option_and_then (λ m. option_map (λ n. (m, n)) (number_of y)) (number_of x)
two_numbers _ = None

-- the numbers of four fields, if there are four and each is a number
abbrev pub four_numbers : List (List ℕ) → Option (ℕ × ℕ × ℕ × ℕ)
four_numbers (x ∷ y ∷ others) = option_and_then
    (λ m. option_and_then (λ n. option_map (λ p. (m, n, p.0, p.1)) (two_numbers others)) (number_of y))
    (number_of x)
four_numbers _ = None

-- the command that the fields of a line are, if they are one
abbrev pub command_in : List (List ℕ) → Option ScriptCommand
command_in [] = None
command_in (word ∷ digits) =
    if bytes_eq word (codes "block") then option_map (λ p. Block p.0 p.1) (two_numbers digits)
    else if bytes_eq word (codes "free") then option_map (λ p. Free p.0 p.1) (two_numbers digits)
    else if bytes_eq word (codes "flood") then option_map (λ p. Flood p.0 p.1) (two_numbers digits)
    else if bytes_eq word (codes "query") then option_map (λ p. Query p.0 p.1 p.2 p.3) (four_numbers digits)
    else None

-- the command of a line that still has its carriage return, if it is one
abbrev pub command_on : List ℕ → Option ScriptCommand
command_on piece = command_in (fields_of (without_cr piece))

-- what a line is read as that still has its carriage return: a command, nothing where it is blank, or its
-- fault; T2: it has more than 128 bytes; T1: it is neither blank nor a command
abbrev pub piece_read : Numbered → Result (Option ScriptCommand) ScriptFault
piece_read piece =
    if nat_lt 128 (length piece.bytes) then Err (Long piece.number)
    else if is_blank (without_cr piece.bytes) then Ok None
    else option_map_or (λ command. Ok (Some command)) (command_on piece.bytes) (Err (Line piece.number))
