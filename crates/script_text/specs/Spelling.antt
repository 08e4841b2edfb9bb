-- What the text of a script looks like.
use Rattle.std.specs.Prelude.{◌≡◌, ◌≤◌, ℕ, true, List, [], ◌∷◌, length, map, Some, codes}
use Rattle.text_line.specs.Lines.{without_cr}
use Rattle.text_line.specs.Left.{Numbered, numbered_pieces}
use Rattle.text_line.specs.Fields.{fields_of, is_blank}
use Rattle.text_line.specs.Numbers.{number_of}
use Rattle.text_line.specs.Reading.{SpellInOrder}
use Rattle.script_text.specs.declared.command.ScriptCommand.{ScriptCommand}
use Rattle.script_text.specs.declared.command.ScriptCommand.TheVariants.{Block, Free, Flood, Query}

-- the fields of a line are the word and numbers of these values
pub record Names (word numbers line : List ℕ) : Type 0 where
  pub digits : List (List ℕ)
  pub fields : fields_of line ≡ word ∷ digits
  pub values : map number_of digits ≡ map (λ n. Some n) numbers

-- the line spells the command
abbrev pub SpellsCommand : List ℕ → ScriptCommand → Type 0
SpellsCommand line (Block x y) = Names (codes "block") (x ∷ y ∷ []) line
SpellsCommand line (Free x y) = Names (codes "free") (x ∷ y ∷ []) line
SpellsCommand line (Flood x y) = Names (codes "flood") (x ∷ y ∷ []) line
SpellsCommand line (Query sx sy gx gy) = Names (codes "query") (sx ∷ sy ∷ gx ∷ gy ∷ []) line

-- a piece has at most 128 bytes, with its carriage return
abbrev pub IsShort : Numbered → Type 0
IsShort piece = length piece.bytes ≤ 128

abbrev pub IsBlankPiece : Numbered → Type 0
IsBlankPiece piece = IsShort piece × (is_blank (without_cr piece.bytes) ≡ true)

abbrev pub IsCommandPiece : Numbered → ScriptCommand → Type 0
IsCommandPiece piece command = IsShort piece × SpellsCommand (without_cr piece.bytes) command

-- each line is blank or spells the command at its place, and none has more than 128 bytes
abbrev pub Spells : List ℕ → List ScriptCommand → Type 0
Spells text commands = SpellInOrder IsBlankPiece IsCommandPiece (numbered_pieces text) commands
