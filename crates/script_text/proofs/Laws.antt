-- A text is read as the commands that it spells, or as its first fault.
use Rattle.std.proofs.Common.{◌≡◌, ℕ, List, [], refl}
use Rattle.text_line.specs.Left.{numbered_from, numbered_pieces}
use Rattle.text_line.specs.Lines.{pieces_of}
use Rattle.text_line.specs.Reading.{read_behind}
use Rattle.text_line.proofs.Reading.{Reads, lines_read}
use Rattle.script_text.specs.Spelling.{Spells}
use Rattle.script_text.specs.Lines.{piece_read}
use Rattle.script_text.specs.Faults.{BreaksFirst, script_of}
use Rattle.script_text.proofs.Commands.{pieces_judged}

pub script_read : (text : List ℕ) → Reads (Spells text) (BreaksFirst text) (script_of text)
unfolding script_of
script_read text = lines_read piece_read pieces_judged (numbered_pieces text)

-- at the beginning all its lines are left
pub script_begun : (text : List ℕ)
    → script_of text ≡ read_behind piece_read [] (numbered_from 1 (pieces_of text))
unfolding script_of
script_begun text = refl
