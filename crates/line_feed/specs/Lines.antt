-- The lines of a text, of which those that are too long have no bytes.
use Rattle.std.specs.Prelude.{ℕ, Bool, nat_lt, if◌then◌else◌, List, length, map}
use Rattle.text_line.specs.Lines.{pieces_of, without_cr}
use Rattle.line_feed.specs.declared.feed.FedLine.{FedLine}
use Rattle.line_feed.specs.declared.feed.FedLine.TheVariants.{TooLong, Bytes}

-- a line is too long with more than 128 bytes before its line feed or the end, its carriage return counted
abbrev pub is_long : List ℕ → Bool
is_long piece = nat_lt 128 (length piece)

-- a line that still has its carriage return
abbrev pub line_of : List ℕ → FedLine
line_of piece = if is_long piece then TooLong else Bytes (record { items = without_cr piece })

-- the lines of a whole text
abbrev pub lines_of : List ℕ → List FedLine
lines_of text = map line_of (pieces_of text)
