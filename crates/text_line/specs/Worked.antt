-- Worked rows of the definitions, by computing.
use Rattle.std.specs.Prelude.{◌≡◌, true, false, [], ◌∷◌, Some, None, codes, refl}
use Rattle.text_line.specs.Lines.{pieces_of, lines_of}
use Rattle.text_line.specs.Fields.{fields_of, is_blank}
use Rattle.text_line.specs.Numbers.{number_of}
use Rattle.text_line.specs.Places.{fields_from, lines_at}

-- the last line needs no line feed, and an empty line is a line
pub last_line : lines_of (codes "a\n\nb") ≡ codes "a" ∷ [] ∷ codes "b" ∷ []
last_line = refl

-- behind the last line feed no line stands
pub last_feed : lines_of (codes "a\n") ≡ codes "a" ∷ []
last_feed = refl

pub no_line : lines_of [] ≡ []
no_line = refl

-- one carriage return is dropped at a line's end, in a last line without line feed too; of two one stays, and
-- one inside a line does
pub returns_dropped : lines_of (codes "a\r\n\r\r\nb\rc\r") ≡ codes "a" ∷ codes "\r" ∷ codes "b\rc" ∷ []
returns_dropped = refl

-- a piece keeps it
pub returns_kept : pieces_of (codes "a\r\n\r") ≡ codes "a\r" ∷ codes "\r" ∷ []
returns_kept = refl

-- fields are parted by any number of spaces and tabs; a carriage return is a byte of a field
pub parted : fields_of (codes " \tab  c\r\td ") ≡ codes "ab" ∷ codes "c\r" ∷ codes "d" ∷ []
parted = refl

pub blank_line : is_blank (codes " \t ") ≡ true
blank_line = refl

pub filled_line : is_blank (codes " . ") ≡ false
filled_line = refl

-- leading zeros count as digits
pub nine_digits : number_of (codes "000004096") ≡ Some 4096
unfolding number_of
nine_digits = refl

pub ten_digits : number_of (codes "0000004096") ≡ None
unfolding number_of
ten_digits = refl

pub no_digit : number_of [] ≡ None
unfolding number_of
no_digit = refl

pub signed : number_of (codes "+1") ≡ None
unfolding number_of
signed = refl

-- a line feed and a carriage return count as bytes of the text
pub second_line_at : lines_at (codes "a\r\n\nb") ≡ record { number = 1; place = 0; bytes = codes "a" } ∷
    record { number = 2; place = 3; bytes = [] } ∷ record { number = 3; place = 4; bytes = codes "b" } ∷ []
second_line_at = refl

pub second_field_at : fields_from 7 (codes " ab\t c") ≡ record { start = 8; end = 10; bytes = codes "ab" } ∷
    record { start = 12; end = 13; bytes = codes "c" } ∷ []
second_field_at = refl
