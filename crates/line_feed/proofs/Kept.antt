-- What a feed keeps of a line, and what it hands over.
use Rattle.std.proofs.lemmas.Bool.Decides.{nat_tests}
use Rattle.std.proofs.Common.{◌≡◌, ℕ, ◌+◌, ◌<◌, true, false, List, [], ◌∷◌, ◌++◌, length, map, take, drop}
use Rattle.std.proofs.Common.{refl, sym, ap, ◌∙◌, arith}
use Rattle.std.proofs.lemmas.List.{map-append}
use Rattle.memchr.specs.Find.{Nowhere, Passes, is_byte}
use Rattle.text_line.specs.Lines.{without_cr}
use Rattle.script_text.specs.Feeding.{Cut, cut}
use Rattle.script_text.proofs.Cuts.{last_line, pieces-cut}
use Rattle.line_feed.specs.declared.feed.FedLine.{FedLine}
use Rattle.line_feed.specs.declared.feed.LineFeed.{LineFeed}
use Rattle.line_feed.specs.Lines.{is_long, line_of, lines_of}
use Rattle.line_feed.specs.Fed.{whole_lines, HasKept, CompletesLine, TakesAll}
use Rattle.line_feed.proofs.Cuts.{cut-all, cut-ended, parted}

pub takes-all : (text piece : List ℕ) (feed : LineFeed)
    → Nowhere (Passes (is_byte 10) piece) 0 (length piece)
    → HasKept feed ((cut text).rest ++ piece) → TakesAll text piece feed
takes-all text piece feed before kept =
    let e = cut-all text piece before in
    record { taken = rw e kept; none = ap (λ (c : Cut). map line_of c.lines) e }

pub completes : (text piece : List ℕ) (end : ℕ) (feed : LineFeed) (line : FedLine)
    → Nowhere (Passes (is_byte 10) piece) 0 end → end < length piece → Passes (is_byte 10) piece end
    → HasKept feed [] → line ≡ line_of ((cut text).rest ++ take end piece)
    → CompletesLine text piece feed line (drop (end + 1) piece)
completes text piece end feed line before inside at kept is =
    let e = cut-ended text piece end before (omega arith) in record {
      head = take end piece;
      parted = parted piece end inside at;
      taken = rw e kept;
      completed = ap (λ (c : Cut). map line_of c.lines) e
          ∙ map-append line_of (cut text).lines (((cut text).rest ++ take end piece) ∷ [])
          ∙ ap (λ (l : FedLine). whole_lines text ++ l ∷ []) (sym is);
    }

-- all lines of a text are those with line feed, and the last one
last-lines : (text : List ℕ) → lines_of text ≡ whole_lines text ++ map line_of (last_line (cut text).rest)
last-lines text =
    ap (map line_of) (pieces-cut text) ∙ map-append line_of (cut text).lines (last_line (cut text).rest)

pub none-left : (text : List ℕ) → (cut text).rest ≡ [] → lines_of text ≡ whole_lines text ++ []
none-left text none = last-lines text ∙ rw none refl

pub one-left : (text : List ℕ) (line : FedLine) → 0 < length (cut text).rest → line ≡ line_of (cut text).rest
    → lines_of text ≡ whole_lines text ++ line ∷ []
one-left text line some is =
    last-lines text ∙ ap (λ (l : List FedLine). whole_lines text ++ l) (alone (cut text).rest some is)
  where
    alone : (rest : List ℕ) → 0 < length rest → line ≡ line_of rest
        → map line_of (last_line rest) ≡ line ∷ []
    alone [] some is = absurd (omega arith)
    alone (b ∷ bytes) some is = ap (λ (l : FedLine). l ∷ []) (sym is)

-- nothing is kept of a line that is not begun, and something of one that is
no-bytes : (bytes : List ℕ) → length bytes ≡ 0 → bytes ≡ []
no-bytes [] none = refl
no-bytes (b ∷ bytes) none = absurd (omega arith)

pub kept-nothing : (feed : LineFeed) → feed.too_long ≡ false → length feed.line.items ≡ 0 → HasKept feed []
kept-nothing feed short none = record { long = short; bytes = λ _. no-bytes feed.line.items none }

pub not-begun : (feed : LineFeed) (begun : List ℕ) → HasKept feed begun → feed.too_long ≡ false
    → length feed.line.items ≡ 0 → begun ≡ []
not-begun feed begun kept short none = sym (kept.bytes short) ∙ no-bytes feed.line.items none

pub long-begun : (feed : LineFeed) (begun : List ℕ) → HasKept feed begun → feed.too_long ≡ true
    → 0 < length begun
long-begun feed begun kept long = let e : is_long begun ≡ true = sym kept.long ∙ long
    in grind (arith, nat_tests)

pub short-begun : (feed : LineFeed) (begun : List ℕ) → HasKept feed begun → feed.too_long ≡ false
    → 0 < length feed.line.items → 0 < length begun
short-begun feed begun kept short some = let e = ap length (kept.bytes short) in omega arith

-- the bytes of a line without its carriage return are its first ones
pub without_cr-first : (piece : List ℕ) → take (length (without_cr piece)) piece ≡ without_cr piece
without_cr-first [] = refl
without_cr-first (b ∷ []) = grind (arith, nat_tests)
without_cr-first (b ∷ c ∷ bytes) = ap (λ (l : List ℕ). b ∷ l) (without_cr-first (c ∷ bytes))
