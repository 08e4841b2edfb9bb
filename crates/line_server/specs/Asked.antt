-- What a line of a session asks for.
use Rattle.std.specs.Prelude.{◌≡◌, ℕ, Bool, true, false, List, [], ◌∷◌, codes, refl, if◌then◌else◌}
use Rattle.std.specs.Option.{option_map_or}
use Rattle.std.specs.Str.{bytes_eq}
use Rattle.grid_moves.specs.declared.Ground.TheVariants as ground
use Rattle.text_line.specs.Fields.{fields_of}
use Rattle.text_line.specs.Numbers.{number_of}
use Rattle.line_feed.specs.declared.feed.FedLine.{FedLine}
use Rattle.line_feed.specs.declared.feed.FedLine.TheVariants.{TooLong, Bytes}
use Rattle.edit_replay.specs.Edited.{Edit, edit_at}
use Rattle.script_text.specs.declared.command.ScriptCommand.{ScriptCommand}
use Rattle.script_text.specs.declared.command.ScriptCommand.TheVariants as script
use Rattle.script_text.specs.Lines.{command_in, four_numbers, two_numbers}
use Rattle.line_server.specs.declared.asked.Asked.{Asked}
use Rattle.line_server.specs.declared.asked.Asked.TheVariants as asked

-- what a command of a script asks for
abbrev pub scripted : ScriptCommand → Asked
scripted (script.Block x y) = asked.Edit x y ground.Blocked
scripted (script.Free x y) = asked.Edit x y ground.Land
scripted (script.Flood x y) = asked.Edit x y ground.Water
scripted (script.Query sx sy gx gy) = asked.Query sx sy gx gy

-- what the fields of a line ask for: nothing where there is none; `near`, `field` and `costs` with their
-- numbers; a command of a script; or it is refused
abbrev pub asked_in : List (List ℕ) → Asked
asked_in [] = asked.Nothing
asked_in (word ∷ digits) =
    if bytes_eq word (codes "near")
    then option_map_or (λ p. asked.Near p.0 p.1 p.2 p.3) (four_numbers digits) asked.Refused
    else if bytes_eq word (codes "field")
    then option_map_or (λ p. asked.Field p.0 p.1) (two_numbers digits) asked.Refused
    else if bytes_eq word (codes "costs")
    then option_map_or (λ p. asked.Costs p.0 p.1) (two_numbers digits) asked.Refused
    else option_map_or scripted (command_in (word ∷ digits)) asked.Refused

-- what a line asks for
abbrev pub asked_by : FedLine → Asked
asked_by TooLong = asked.TooLong
asked_by (Bytes bytes) = asked_in (fields_of bytes.items)

-- the edits that it makes
abbrev pub edits_by : Asked → List Edit
edits_by (asked.Edit x y to) = edit_at x y to ∷ []
edits_by other = []

-- whether memory may be wanting for its answer
abbrev pub may_want : Asked → Bool
may_want (asked.Query sx sy gx gy) = true
may_want (asked.Near sx sy gx gy) = true
may_want (asked.Field x y) = true
may_want (asked.Costs x y) = true
may_want other = false

-- worked rows
pub of_blanks : asked_in (fields_of (codes " \t")) ≡ asked.Nothing
of_blanks = refl

pub near_four : asked_in (fields_of (codes "near 1 02 3 4")) ≡ asked.Near 1 2 3 4
unfolding number_of
near_four = refl

pub near_three : asked_in (fields_of (codes "near 1 2 3")) ≡ asked.Refused
unfolding number_of
near_three = refl

pub a_field : asked_in (fields_of (codes "field 7 8")) ≡ asked.Field 7 8
unfolding number_of
a_field = refl

pub flooded : asked_in (fields_of (codes "flood 7 8 ")) ≡ asked.Edit 7 8 ground.Water
unfolding number_of
flooded = refl

pub no_sign : asked_in (fields_of (codes "query 0 0 -1 2")) ≡ asked.Refused
unfolding number_of
no_sign = refl

pub a_note : asked_in (fields_of (codes "# note")) ≡ asked.Refused
a_note = refl
