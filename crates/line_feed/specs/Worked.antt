-- Worked rows of the definition, by computing.
use Rattle.std.specs.Prelude.{◌≡◌, ℕ, List, [], ◌∷◌, ◌++◌, codes, replicate, refl}
use Rattle.script_text.specs.Feeding.{cut}
use Rattle.line_feed.specs.declared.feed.FedLine.{FedLine}
use Rattle.line_feed.specs.declared.feed.FedLine.TheVariants.{TooLong, Bytes}
use Rattle.line_feed.specs.Lines.{lines_of}
use Rattle.line_feed.specs.Fed.{whole_lines}

abbrev line : List ℕ → FedLine
line bytes = Bytes (record { items = bytes })

-- a line's one carriage return is dropped, and the last line needs no line feed
pub returns_dropped : lines_of (codes "a\r\nb\r") ≡ line (codes "a") ∷ line (codes "b") ∷ []
returns_dropped = refl

-- of two one stays, and one inside a line does
pub one_return_dropped : lines_of (codes "a\r\r\nb\rc\n") ≡ line (codes "a\r") ∷ line (codes "b\rc") ∷ []
one_return_dropped = refl

-- an empty line is a line, but not behind the last line feed
pub empty_lines : lines_of (codes "\n\r\n") ≡ line [] ∷ line [] ∷ []
empty_lines = refl

pub no_line : lines_of [] ≡ []
no_line = refl

-- any byte but the line feed may stand in a line
pub zero_byte : lines_of (0 ∷ 255 ∷ 10 ∷ 0 ∷ []) ≡ line (0 ∷ 255 ∷ []) ∷ line (0 ∷ []) ∷ []
zero_byte = refl

-- 128 bytes are no more than may be, a carriage return among them
pub of_128 : lines_of (replicate 128 32 ++ 10 ∷ []) ≡ line (replicate 128 32) ∷ []
of_128 = refl

pub return_of_128 : lines_of (replicate 127 32 ++ codes "\r\n") ≡ line (replicate 127 32) ∷ []
return_of_128 = refl

-- 129 are, in a last line without line feed too; the line behind it is as ever
pub of_129 : lines_of (replicate 129 32) ≡ TooLong ∷ []
of_129 = refl

pub return_of_129 : lines_of (replicate 128 32 ++ codes "\r\na\n") ≡ TooLong ∷ line (codes "a") ∷ []
return_of_129 = refl

-- a line that still waits for its line feed is none of those that are whole
pub last_waits : whole_lines (codes "a\nb") ≡ line (codes "a") ∷ []
unfolding cut
last_waits = refl
