-- The text of a certificate spells it.
use Rattle.std.proofs.Common.{◌≡◌, ℕ, ◌^◌, ◌<◌, Bool, true, ◌&&◌, List, [], ◌∷◌, ◌++◌, map}
use Rattle.std.proofs.Common.{refl, ap, ◌∙◌, arith, append_assoc}
use Rattle.std.specs.Prelude.{codes, decimal, None, Some, Option, if◌then◌else◌}
use Rattle.std.specs.List.{list_all}
use Rattle.std.proofs.lemmas.Bool.{and_parts, and_from}
use Rattle.std.proofs.lemmas.Bool.Decides.{nat_tests}
use Rattle.std.proofs.lemmas.Slice.Eq.{bytes_eq-Decides}
use Rattle.text_line.specs.Fields.{is_nothing}
use Rattle.text_line.specs.Lines.{lines_of}
use Rattle.text_line.proofs.Written.{AreDigits, four_digits, lines_then, nine_digits}
use Rattle.root2_cost.specs.declared.Cost.{Cost}
use Rattle.grid_moves.specs.declared.Cell.{Cell}
use Rattle.cell_lines.specs.Cells.{cell_text}
use Rattle.cell_lines.specs.Parts.{first_two, points_in}
use Rattle.cell_lines.proofs.Spaced.{filled_digits, is_spaced, line_of, line_parts, line_plain, point_back}
use Rattle.cell_lines.proofs.Spaced.{is_filled, point_filled, two_back}
use Rattle.potential_check.specs.declared.certificate.Claim.{Claim}
use Rattle.potential_check.specs.declared.certificate.Claim.TheVariants.{Least, NoWalk}
use Rattle.potential_check.specs.Certificate.{are_listed, are_sides, cells_of, is_short, is_small}
use Rattle.potential_check.specs.Forms.{ends_on, least_on, member_on, points_on, size_on}
use Rattle.potential_check.specs.Forms.{behind, value_on, words_after}
use Rattle.potential_check.specs.Spelling.{SpellInOrder, Spells, SpellsClaim}
use Rattle.potential_make.specs.Written.{certificate_text, claim_text, head_text, point_text, points_text}
use Rattle.potential_make.specs.Written.{texts_of, value_text}

-- a cell and its value have few enough digits for their line
abbrev pub fits_line : (Cell × Cost) → Bool
fits_line e = is_short e.0 && is_small e.1

pub coordinates : (c : Cell) → is_short c ≡ true
    → AreDigits 4 c.x (decimal c.x) × AreDigits 4 c.y (decimal c.y)
coordinates c short = (four_digits c.x (grind (arith, nat_tests)), four_digits c.y (grind (arith, nat_tests)))

pub cost_digits : (cost : Cost) → is_small cost ≡ true
    → AreDigits 9 cost.a (decimal cost.a) × AreDigits 9 cost.b (decimal cost.b)
cost_digits cost small =
    (nine_digits cost.a (grind (arith, nat_tests)), nine_digits cost.b (grind (arith, nat_tests)))

-- the lines, each by its first word and the others
abbrev Line : Type 0
Line = List ℕ × List (List ℕ)

abbrev number_line : List ℕ → List ℕ → Line
number_line word numbers = (word, map decimal numbers)

abbrev points_line : List Cell → Line
points_line points = (codes "points", map cell_text points)

abbrev value_line : (Cell × Cost) → Line
value_line e = number_line (codes "value") (e.0.x ∷ e.0.y ∷ e.1.a ∷ e.1.b ∷ [])

abbrev member_line : Cell → Line
member_line c = number_line (codes "in") (c.x ∷ c.y ∷ [])

abbrev claim_lines : Claim → List Line
claim_lines (Least cost points values) =
    number_line (codes "least") (cost.a ∷ cost.b ∷ []) ∷ points_line points ∷ map value_line values
claim_lines (NoWalk cells) = number_line (codes "none") [] ∷ map member_line cells

abbrev head_lines : ℕ → ℕ → Cell → Cell → List Line
head_lines width height s t =
    (codes "jps-cert", codes "1" ∷ []) ∷ number_line (codes "size") (width ∷ height ∷ [])
    ∷ number_line (codes "ends") (s.x ∷ s.y ∷ t.x ∷ t.y ∷ []) ∷ []

-- a line and its end
abbrev ended : Line → List ℕ
ended line = line_of line ++ codes "\n"

-- lines with their ends before a text
abbrev written : List Line → List ℕ → List ℕ
written [] rest = rest
written (line ∷ lines) rest = ended line ++ written lines rest

list_written : {X : Type 0} (line : X → Line) (xs : List X) (rest : List ℕ)
    → texts_of (λ x. ended (line x)) xs ++ rest ≡ written (map line xs) rest
list_written line [] rest = refl
list_written line (x ∷ xs) rest = append_assoc (ended (line x)) (texts_of (λ x. ended (line x)) xs) rest
    ∙ ap (λ (l : List ℕ). ended (line x) ++ l) (list_written line xs rest)

points_written : (points : List Cell) → points_text points ≡ ended (points_line points)
points_written points = ap (λ (l : List ℕ). codes "points" ++ l ++ codes "\n") (words points)
  where
    words : (points : List Cell)
        → texts_of point_text points ≡ texts_of (λ word. 32 ∷ word) (map cell_text points)
    words [] = refl
    words (p ∷ points) = ap (λ (l : List ℕ). point_text p ++ l) (words points)

claim_written : (claim : Claim) (rest : List ℕ) → claim_text claim ++ rest ≡ written (claim_lines claim) rest
claim_written (Least cost points values) rest =
    let first : List ℕ = ended (number_line (codes "least") (cost.a ∷ cost.b ∷ [])) in
    append_assoc (first ++ points_text points) (texts_of value_text values) rest
    ∙ append_assoc first (points_text points) (texts_of value_text values ++ rest)
    ∙ ap (λ (l : List ℕ). first ++ (l ++ (texts_of value_text values ++ rest))) (points_written points)
    ∙ ap (λ (l : List ℕ). first ++ (ended (points_line points) ++ l)) (list_written value_line values rest)
claim_written (NoWalk cells) rest = ap (λ (l : List ℕ). codes "none\n" ++ l) (list_written member_line cells rest)

head_written : (width height : ℕ) (s t : Cell) (rest : List ℕ)
    → head_text width height s t ++ rest ≡ written (head_lines width height s t) rest
head_written width height s t rest =
    let size : List ℕ = ended (number_line (codes "size") (width ∷ height ∷ [])) in
    let ends : List ℕ = ended (number_line (codes "ends") (s.x ∷ s.y ∷ t.x ∷ t.y ∷ [])) in
    append_assoc (codes "jps-cert 1\n" ++ size) ends rest ∙ append_assoc (codes "jps-cert 1\n") size (ends ++ rest)

-- lines of words are lines of the text
lines_back : (lines : List Line) (rest : List ℕ) → list_all is_spaced lines ≡ true
    → lines_of (written lines rest) ≡ map line_of lines ++ lines_of rest
lines_back [] rest all = refl
lines_back (line ∷ lines) rest all =
    let each = and_parts (is_spaced line) (list_all is_spaced lines) all in
    ap lines_of (append_assoc (line_of line) (codes "\n") (written lines rest))
    ∙ lines_then (line_of line) (written lines rest) (line_plain line each.0)
    ∙ ap (λ (l : List (List ℕ)). line_of line ∷ l) (lines_back lines rest each.1)

-- a line of words that spells this
record Says {X : Type 0} (on : List ℕ → Option X) (line : Line) (x : X) : Type 0 where
  spaced : is_spaced line ≡ true
  spells : on (line_of line) ≡ Some x

-- a word and numbers: the first two are read back, and the others stand behind them
first_says : (word : List ℕ) → list_all is_filled word ≡ true → (most m n : ℕ) (others : List ℕ)
    → AreDigits most m (decimal m) → AreDigits most n (decimal n)
    → list_all (list_all is_filled) (map decimal others) ≡ true
    → Says (λ l. first_two most (words_after word l)) (number_line word (m ∷ n ∷ others))
    ((m, n), map decimal others)
first_says word filled most m n others a b rest =
    let all : is_spaced (number_line word (m ∷ n ∷ others)) ≡ true =
    rw (filled, filled_digits (decimal m) a.all, filled_digits (decimal n) b.all, rest) refl in
    record {
      spaced = all;
      spells = rw (line_parts (number_line word (m ∷ n ∷ others)) all, (bytes_eq-Decides word word).1 refl)
          (two_back most m n (map decimal others) a b);
    }

two_filled : (most m n : ℕ) → AreDigits most m (decimal m) → AreDigits most n (decimal n)
    → list_all (list_all is_filled) (map decimal (m ∷ n ∷ [])) ≡ true
two_filled most m n a b = rw (filled_digits (decimal m) a.all, filled_digits (decimal n) b.all) refl

-- so the lines say what was written
size_says : (width height : ℕ) → width < 10 ^ 9 → height < 10 ^ 9 → are_sides width height ≡ true
    → Says size_on (number_line (codes "size") (width ∷ height ∷ [])) (width, height)
size_says width height w h are =
    let l = first_says (codes "size") refl 9 width height [] (nine_digits width w) (nine_digits height h)
    refl in
    record { spaced = l.spaced; spells = rw (l.spells, are) refl }

ends_says : (s t : Cell) → is_short s ≡ true → is_short t ≡ true
    → Says ends_on (number_line (codes "ends") (s.x ∷ s.y ∷ t.x ∷ t.y ∷ [])) (s, t)
ends_says s t p q =
    let a = coordinates s p in
    let b = coordinates t q in
    let l = first_says (codes "ends") refl 4 s.x s.y (t.x ∷ t.y ∷ []) a.0 a.1
    (two_filled 4 t.x t.y b.0 b.1) in
    record { spaced = l.spaced; spells = rw (l.spells, two_back 4 t.x t.y [] b.0 b.1) refl }

least_says : (cost : Cost) → is_small cost ≡ true
    → Says least_on (number_line (codes "least") (cost.a ∷ cost.b ∷ [])) cost
least_says cost small =
    let d = cost_digits cost small in
    let l = first_says (codes "least") refl 9 cost.a cost.b [] d.0 d.1 refl in
    record { spaced = l.spaced; spells = rw l.spells refl }

value_says : (e : Cell × Cost) → fits_line e ≡ true → Says value_on (value_line e) e
value_says (c, cost) fits =
    let f = and_parts (is_short c) (is_small cost) fits in
    let a = coordinates c f.0 in
    let b = cost_digits cost f.1 in
    let l = first_says (codes "value") refl 4 c.x c.y (cost.a ∷ cost.b ∷ []) a.0 a.1
    (two_filled 9 cost.a cost.b b.0 b.1) in
    record { spaced = l.spaced; spells = rw (l.spells, two_back 9 cost.a cost.b [] b.0 b.1) refl }

member_says : (c : Cell) → is_short c ≡ true → Says member_on (member_line c) c
member_says c short =
    let d = coordinates c short in
    let l = first_says (codes "in") refl 4 c.x c.y [] d.0 d.1 refl in
    record { spaced = l.spaced; spells = rw l.spells refl }

points_back : (points : List Cell) → list_all is_short points ≡ true
    → (list_all (list_all is_filled) (map cell_text points) ≡ true)
    × (points_in (map cell_text points) ≡ Some points)
points_back [] all = (refl, refl)
points_back (c ∷ points) all =
    let each = and_parts (is_short c) (list_all is_short points) all in
    let x : c.x < 10000 = grind (arith, nat_tests) in
    let y : c.y < 10000 = grind (arith, nat_tests) in
    let later = points_back points each.1 in
    (rw (point_filled c x y, later.0) refl, rw (point_back c x y, later.1) refl)

abbrev said : List (List ℕ) → Option (List Cell)
said words =
    if is_nothing (behind (codes "points") words) then None else points_in (behind (codes "points") words)

points_say : (c : Cell) (points : List Cell) → list_all is_short (c ∷ points) ≡ true
    → Says points_on (points_line (c ∷ points)) (c ∷ points)
points_say c points all =
    let back = points_back (c ∷ points) all in
    record {
      spaced = back.0;
      spells = ap said (line_parts (points_line (c ∷ points)) back.0) ∙ back.1;
    }

-- a list of what passes a test
module _ {X : Type 0} (p : X → Bool) (line : X → Line) (on : List ℕ → Option X)
    (says : (x : X) → p x ≡ true → Says on (line x) x) where
  list_says : (xs : List X) → list_all p xs ≡ true
      → (list_all is_spaced (map line xs) ≡ true) × SpellInOrder on (map line_of (map line xs)) xs
  list_says [] all = (refl, tt)
  list_says (x ∷ xs) all =
      let each = and_parts (p x) (list_all p xs) all in
      let first = says x each.0 in
      let later = list_says xs each.1 in
      (rw (first.spaced, later.0) refl, (first.spells, later.1))

-- a claim that fits: its numbers are short enough for their lines, and its list ascends
pub record FitsLeast (width height : ℕ) (cost : Cost) (points : List Cell)
    (values : List (Cell × Cost)) : Type 0 where
  pub cost_small : is_small cost ≡ true
  pub first : Cell
  pub more : List Cell
  pub points_are : points ≡ first ∷ more
  pub points_short : list_all is_short points ≡ true
  pub values_fit : list_all fits_line values ≡ true
  pub listed : are_listed width height (cells_of values) ≡ true

pub record FitsNone (width height : ℕ) (cells : List Cell) : Type 0 where
  pub cells_short : list_all is_short cells ≡ true
  pub listed : are_listed width height cells ≡ true

abbrev pub Fits : ℕ → ℕ → Claim → Type 0
Fits width height (Least cost points values) = FitsLeast width height cost points values
Fits width height (NoWalk cells) = FitsNone width height cells

-- the lines of a claim and what they spell
record ClaimLines (width height : ℕ) (s t : Cell) (claim : Claim) : Type 0 where
  first : List ℕ
  body : List (List ℕ)
  lines : map line_of (claim_lines claim) ≡ first ∷ body
  spaced : list_all is_spaced (claim_lines claim) ≡ true
  spells : SpellsClaim (record { width = width; height = height; start = s; goal = t }) claim first body

claim_spells : (width height : ℕ) (s t : Cell) (claim : Claim) → Fits width height claim
    → ClaimLines width height s t claim
claim_spells width height s t (Least cost points values) f =
    let first = least_says cost f.cost_small in
    let second : Says points_on (points_line points) points =
    say_points points f.first f.more f.points_are f.points_short in
    let list = list_says fits_line value_line value_on value_says values f.values_fit in
    record {
      first = line_of (number_line (codes "least") (cost.a ∷ cost.b ∷ []));
      body = line_of (points_line points) ∷ map line_of (map value_line values);
      lines = refl;
      spaced = and_from _ _ first.spaced (and_from _ _ second.spaced list.0);
      spells = record {
        second = line_of (points_line points);
        list = map line_of (map value_line values);
        body_is = refl;
        cost_is = first.spells;
        points_is = second.spells;
        values_are = list.1;
        listed = f.listed;
      };
    }
  where
    say_points : (points : List Cell) (c : Cell) (more : List Cell) → points ≡ c ∷ more
        → list_all is_short points ≡ true → Says points_on (points_line points) points
    say_points points c more e all = rw e (points_say c more (rw e at all))
claim_spells width height s t (NoWalk cells) f =
    let list = list_says is_short member_line member_on member_says cells f.cells_short in
    record {
      first = codes "none";
      body = map line_of (map member_line cells);
      lines = refl;
      spaced = list.0;
      spells = record { none_is = refl; cells_are = list.1; listed = f.listed };
    }

-- the whole text
pub text_spells : (width height : ℕ) (s t : Cell) (claim : Claim) → width < 10 ^ 9 → height < 10 ^ 9
    → are_sides width height ≡ true → is_short s ≡ true → is_short t ≡ true → Fits width height claim
    → Spells (certificate_text width height s t claim)
    (record { head = record { width = width; height = height; start = s; goal = t }; claim = claim })
text_spells width height s t claim w h sides p q f =
    let c = claim_spells width height s t claim f in
    let size = size_says width height w h sides in
    let ends = ends_says s t p q in
    let head : List Line = head_lines width height s t in
    let rest : List ℕ = written (claim_lines claim) (codes "end\n") in
    let is : certificate_text width height s t claim ≡ written head rest =
    append_assoc (head_text width height s t) (claim_text claim) (codes "end\n")
    ∙ ap (λ (l : List ℕ). head_text width height s t ++ l) (claim_written claim (codes "end\n"))
    ∙ head_written width height s t rest in
    record {
      version = codes "jps-cert 1";
      size = line_of (number_line (codes "size") (width ∷ height ∷ []));
      ends = line_of (number_line (codes "ends") (s.x ∷ s.y ∷ t.x ∷ t.y ∷ []));
      claim = c.first;
      body = c.body;
      others = [];
      lines = ap lines_of is ∙ lines_back head rest (rw (size.spaced, ends.spaced) refl)
          ∙ ap (λ (l : List (List ℕ)). map line_of head ++ l)
          (lines_back (claim_lines claim) (codes "end\n") c.spaced
          ∙ ap (λ (l : List (List ℕ)). l ++ codes "end" ∷ []) c.lines);
      version_is = refl;
      size_is = size.spells;
      ends_is = ends.spells;
      claim_is = c.spells;
      nothing = tt;
    }
