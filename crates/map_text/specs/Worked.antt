-- Worked rows of the grammar, by computing.
use Rattle.std.specs.Prelude.{◌≡◌, [], codes, refl, Ok, Err}
use Rattle.map_text.specs.declared.fault.MapFault.TheVariants.{Header, Side, Short, Missing, Byte, After}
use Rattle.map_text.specs.Faults.{map_of}
use Rattle.text_line.specs.Numbers.{number_of}

-- tabs in the header, carriage returns and empty lines at the end are read over
pub tabs_and_returns : map_of
    (codes "\ttype  octile \r\nheight\t2\r\nwidth 3\r\nmap\t\r\n...\r\n.@.\r\n\r\n\n")
    ≡ Ok (record { width = 3; height = 2; cells = codes "....@." })
unfolding map_of number_of
tabs_and_returns = refl

-- the last line needs no line feed
pub no_last_feed : map_of (codes "type octile\nheight 2\nwidth 3\nmap\n...\n.@.") ≡ Ok
    (record { width = 3; height = 2; cells = codes "....@." })
unfolding map_of number_of
no_last_feed = refl

pub empty_text : map_of [] ≡ Err (Header 1)
unfolding map_of
empty_text = refl

pub two_rows_of_three : map_of (codes "type octile\nheight 3\nwidth 3\nmap\n...\n...\n") ≡ Err (Missing 7)
unfolding map_of number_of
two_rows_of_three = refl

pub short_row : map_of (codes "type octile\nheight 3\nwidth 3\nmap\n...\n..\n") ≡ Err (Short 6)
unfolding map_of number_of
short_row = refl

pub short_last_row : map_of (codes "type octile\nheight 3\nwidth 3\nmap\n...\n...\n..") ≡ Err (Short 7)
unfolding map_of number_of
short_last_row = refl

pub strange_byte : map_of (codes "type octile\nheight 1\nwidth 3\nmap\n.x.\n") ≡ Err (Byte 5 2)
unfolding map_of number_of
strange_byte = refl

-- the side goes before a bad third line
pub no_height : map_of (codes "type octile\nheight 0\nbroad 3\nmap\n") ≡ Err (Side 2)
unfolding map_of number_of
no_height = refl

pub too_high : map_of (codes "type octile\nheight 4097\n") ≡ Err (Side 2)
unfolding map_of number_of
too_high = refl

-- ten digits are no number
pub ten_digits : map_of (codes "type octile\nheight 0000000001\n") ≡ Err (Header 2)
unfolding map_of number_of
ten_digits = refl

pub row_too_many : map_of (codes "type octile\nheight 1\nwidth 1\nmap\n.\n.\n") ≡ Err (After 6)
unfolding map_of number_of
row_too_many = refl

-- a line with a space is not empty
pub space_after : map_of (codes "type octile\nheight 1\nwidth 1\nmap\n.\n\n ") ≡ Err (After 7)
unfolding map_of number_of
space_after = refl
