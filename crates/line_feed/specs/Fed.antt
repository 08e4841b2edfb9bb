-- A text that comes in pieces: the lines that have their line feed, and what a feed keeps of the next one.
use Rattle.std.specs.Prelude.{◌≡◌, ℕ, false, List, [], ◌∷◌, ◌++◌, map}
use Rattle.script_text.specs.Feeding.{cut}
use Rattle.line_feed.specs.declared.feed.FedLine.{FedLine}
use Rattle.line_feed.specs.declared.feed.LineFeed.{LineFeed}
use Rattle.line_feed.specs.Lines.{is_long, line_of}

-- the lines of a text that have their line feed
abbrev pub whole_lines : List ℕ → List FedLine
whole_lines text = map line_of (cut text).lines

-- the feed keeps these bytes, which came behind the last line feed, or that they are too many
pub record HasKept (feed : LineFeed) (begun : List ℕ) : Type 0 where
  pub long : feed.too_long ≡ is_long begun
  pub bytes : feed.too_long ≡ false → feed.line.items ≡ begun

-- the feed has taken this text, in whatever pieces
abbrev pub HasTaken : LineFeed → List ℕ → Type 0
HasTaken feed text = HasKept feed (cut text).rest

-- behind a text it took a piece up to its first line feed, and the line that this completes comes behind
-- those before it
pub record CompletesLine (text piece : List ℕ) (feed : LineFeed) (line : FedLine) (rest : List ℕ)
    : Type 0 where
  pub head : List ℕ
  pub parted : piece ≡ head ++ 10 ∷ rest
  pub taken : HasTaken feed (text ++ head ++ 10 ∷ [])
  pub completed : whole_lines (text ++ head ++ 10 ∷ []) ≡ whole_lines text ++ line ∷ []

-- or it took the whole piece, which completes none
pub record TakesAll (text piece : List ℕ) (feed : LineFeed) : Type 0 where
  pub taken : HasTaken feed (text ++ piece)
  pub none : whole_lines (text ++ piece) ≡ whole_lines text
