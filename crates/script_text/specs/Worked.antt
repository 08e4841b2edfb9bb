-- Worked rows of the grammar, by computing.
use Rattle.std.specs.Prelude.{◌≡◌, [], ◌∷◌, ◌++◌, codes, replicate, refl, Ok, Err}
use Rattle.script_text.specs.declared.command.ScriptCommand.TheVariants.{Block, Free, Flood, Query}
use Rattle.script_text.specs.declared.fault.ScriptFault.TheVariants.{Line, Long}
use Rattle.script_text.specs.Faults.{script_of}
use Rattle.text_line.specs.Numbers.{number_of}

-- blank lines, tabs, carriage returns and leading zeros are read over, and the last line needs no line feed
pub four_commands : script_of (codes "query 0 1 2 1\r\n\n\tblock  1 01 \n \nfree 1 1\nflood 2 1") ≡ Ok
    (Query 0 1 2 1 ∷ Block 1 1 ∷ Free 1 1 ∷ Flood 2 1 ∷ [])
unfolding script_of number_of
four_commands = refl

pub empty_text : script_of [] ≡ Ok []
unfolding script_of
empty_text = refl

-- the first broken line is named, and blank ones are counted
pub misspelt : script_of (codes "free 1 1\n\nbolck 1 1\nfree\n") ≡ Err (Line 3)
unfolding script_of number_of
misspelt = refl

pub number_missing : script_of (codes "query 0 1 2") ≡ Err (Line 1)
unfolding script_of number_of
number_missing = refl

pub field_too_many : script_of (codes "block 1 1 1") ≡ Err (Line 1)
unfolding script_of number_of
field_too_many = refl

-- ten digits are no number
pub ten_digits : script_of (codes "free 1 0000000001") ≡ Err (Line 1)
unfolding script_of number_of
ten_digits = refl

-- 128 bytes are read, a carriage return among them
pub blank_of_128 : script_of (replicate 128 32) ≡ Ok []
unfolding script_of
blank_of_128 = refl

pub blank_and_return_of_128 : script_of (replicate 127 32 ++ codes "\r\n") ≡ Ok []
unfolding script_of
blank_and_return_of_128 = refl

-- 129 bytes are not, though the line is blank
pub blank_of_129 : script_of (replicate 129 32) ≡ Err (Long 1)
unfolding script_of
blank_of_129 = refl

pub blank_and_return_of_129 : script_of (replicate 128 32 ++ codes "\r\n") ≡ Err (Long 1)
unfolding script_of
blank_and_return_of_129 = refl

-- a misspelt line goes before a long one after it
pub misspelt_before_long : script_of (codes "free\n" ++ replicate 129 32) ≡ Err (Line 1)
unfolding script_of number_of
misspelt_before_long = refl
