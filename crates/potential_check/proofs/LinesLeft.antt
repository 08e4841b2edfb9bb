-- What is left to read, before a line and after it.
use Rattle.std.proofs.lemmas.Grind.{common_steps}
use Rattle.std.proofs.lemmas.Bool.Decides.{nat_tests}
use Rattle.std.proofs.Common.{◌≡◌, ℕ, suc, ◌+◌, ◌^◌, ◌≤◌, ◌⊎◌, inl, inr, arith, refl, ap, sym, subst}
use Rattle.std.proofs.Common.{Bool, true, List, [], ◌∷◌, ◌++◌, length, Some, None, Result, Err}
use Rattle.std.specs.Prelude.{nat_le, ◌&&◌, if◌then◌else◌, map}
use Rattle.std.specs.List.{list_all, onto_first}
use Rattle.std.proofs.lemmas.Bool.{and_parts, leb-true, le-leb}
use Rattle.std.proofs.lemmas.List.{length-map}
use Rattle.text_line.specs.declared.lines.Line.{Line}
use Rattle.text_line.specs.Left.{Left, GivesNext}
use Rattle.text_line.specs.Lines.{is_line_feed, lines_of, pieces_of, without_cr}
use Rattle.text_line.proofs.Placing.{length-without_cr}
use Rattle.grid_moves.specs.declared.Cell.{Cell}
use Rattle.grid_moves.specs.Grid.{cell_number}
use Rattle.potential_check.specs.declared.certificate.Certificate.{Certificate}
use Rattle.potential_check.specs.declared.fault.CertFault.{CertFault}
use Rattle.potential_check.specs.declared.fault.CertFault.TheVariants as fault
use Rattle.potential_check.specs.Certificate.{ascend_from}
use Rattle.potential_check.specs.Text.{AreShort, Plain, State, Tells, absent_fault, at_claim, at_ends}
use Rattle.potential_check.specs.Text.{at_points, at_size, at_version, certificate_of, closed, ended, goes}
use Rattle.potential_check.specs.Text.{in_cells, in_values, next, read_left, step_fault}

-- a line that may follow
pub reads_on : (state after : State) (old new : Left) (line : Line) → GivesNext old (Some line) new
    → next state line.bytes.now ≡ goes after → read_left state old ≡ read_left after new
reads_on state after old new line h1 h2 = grind (arith, nat_tests)

-- one that may not
pub reads_fault : (state : State) (old new : Left) (line : Line) (fault : CertFault)
    → GivesNext old (Some line) new → step_fault (next state line.bytes.now) old.number ≡ Some fault
    → read_left state old ≡ Err fault
reads_fault state old new line fault h1 h2 = grind (arith, nat_tests)

-- a state needs a further line, or the certificate has ended
pub needs : (s : State) → ((p : Plain) × (s ≡ ended p))
    ⊎ ((n : ℕ) → (closed s n ≡ Err (fault.Line n)) × (absent_fault s n ≡ Some (fault.Line n)))
needs at_version = inr (λ n. (refl, refl))
needs at_size = inr (λ n. (refl, refl))
needs (at_ends w h) = inr (λ n. (refl, refl))
needs (at_claim head) = inr (λ n. (refl, refl))
needs (at_points head cost) = inr (λ n. (refl, refl))
needs (in_values head cost points least values) = inr (λ n. (refl, refl))
needs (in_cells head least cells) = inr (λ n. (refl, refl))
needs (ended p) = inl (p, refl)

-- no line, where one is needed
pub reads_absent : (state : State) (old new : Left) (fault : CertFault) → GivesNext old None new
    → absent_fault state old.number ≡ Some fault → read_left state old ≡ Err fault
reads_absent state old new fault h1 h2 = grind (arith, nat_tests, needs)

-- an answer tells what is read, given what is left to read
pub tells_on : (answer : Result Certificate CertFault) (read more : Result Plain CertFault) → read ≡ more
    → Tells answer more → Tells answer read
tells_on answer read more e t = subst (λ (r : Result Plain CertFault). Tells answer r) (sym e) t

-- lines stay short
pub short_next : (old new : Left) (line : Line) → GivesNext old (Some line) new → AreShort old
    → AreShort new × (length line.bytes.now ≤ 2 ^ 30) × (old.number + 1 ≤ 2 ^ 31)
short_next old new line h1 h2 = grind (arith, nat_tests, and_parts, leb-true)

-- the lines of a text are no longer than it, and no more
pub record Within (n : ℕ) (lines : List (List ℕ)) : Type 0 where
  pub few : length lines ≤ n
  pub short : list_all (λ l. nat_le (length l) n) lines ≡ true

weaker : (m n : ℕ) (lines : List (List ℕ)) → m ≤ n → list_all (λ l. nat_le (length l) m) lines ≡ true
    → list_all (λ l. nat_le (length l) n) lines ≡ true
weaker m n [] h all = refl
weaker m n (l ∷ lines) h all =
    let parts = and_parts (nat_le (length l) m) (list_all (λ l. nat_le (length l) m) lines) all in
    let most = leb-true (length l) m parts.0 in
    rw (le-leb (length l) n (omega arith), weaker m n lines h parts.1) refl

longer_first : (byte n : ℕ) (pieces : List (List ℕ)) → Within n pieces
    → Within (suc n) (onto_first byte pieces)
longer_first byte n pieces h1 = grind (arith, common_steps, le-leb, and_parts, leb-true, weaker)

one_more : (b n : ℕ) (pieces : List (List ℕ)) (feed : Bool) → Within n pieces
    → Within (suc n) (if feed then [] ∷ pieces else onto_first b pieces)
one_more b n pieces feed h1 = grind (arith, common_steps, le-leb, weaker, longer_first)

pieces_within : (text : List ℕ) → Within (length text) (pieces_of text)
pieces_within [] = record { few = omega arith; short = refl }
pieces_within (b ∷ bytes) =
    one_more b (length bytes) (pieces_of bytes) (is_line_feed b) (pieces_within bytes)

lines_within : (n : ℕ) (pieces : List (List ℕ)) → Within n pieces → Within n (map without_cr pieces)
lines_within n [] w = record { few = w.few; short = refl }
lines_within n (p ∷ pieces) w =
    let parts = and_parts (nat_le (length p) n) (list_all (λ l. nat_le (length l) n) pieces) w.short in
    let most = leb-true (length p) n parts.0 in
    let less = length-without_cr p in
    let later = lines_within n pieces (record { few = omega (arith, w.few); short = parts.1 }) in
    record {
      few = omega (arith, w.few, length-map pieces without_cr);
      short = rw (le-leb (length (without_cr p)) n (omega arith), later.short) refl;
    }

pub short_text : (text : List ℕ) → length text ≤ 2 ^ 30 → AreShort (record {
  lines = lines_of text;
  number
      = 1;
})
short_text text h =
    let within = lines_within (length text) (pieces_of text) (pieces_within text) in
    record {
      few = omega (arith, within.few);
      short = weaker (length text) (2 ^ 30) (lines_of text) h within.short;
    }

-- the first line
pub text_read : (text : List ℕ) (left : Left) → left ≡ record { lines = lines_of text; number = 1 }
    → certificate_of text ≡ read_left at_version left
unfolding certificate_of
text_read text left e = ap (λ (l : Left). read_left at_version l) (sym e)

-- cells ascend from n on, up to below m
abbrev pub ascend_to : ℕ → ℕ → List Cell → ℕ → Bool
ascend_to width n [] m = nat_le n m
ascend_to width n (c ∷ cells) m =
    nat_le n (cell_number width c) && ascend_to width (cell_number width c + 1) cells m

-- a further cell
pub ascend_to-pushed : (width n m : ℕ) (cells : List Cell) (c : Cell) → ascend_to width n cells m ≡ true
    → m ≤ cell_number width c → ascend_to width n (cells ++ c ∷ []) (cell_number width c + 1) ≡ true
ascend_to-pushed width n m [] c a h =
    let most = leb-true n m a in
    rw (
      le-leb n (cell_number width c) (omega arith),
      le-leb (cell_number width c + 1) (cell_number width
          c + 1) (omega arith),
    ) refl
ascend_to-pushed width n m (d ∷ cells) c a h =
    let parts = and_parts (nat_le n (cell_number width d)) (ascend_to width (cell_number width d + 1) cells
    m) a in
    rw (parts.0, ascend_to-pushed width (cell_number width d + 1) m cells c parts.1 h) refl

pub ascend_to-ascend : (width n m : ℕ) (cells : List Cell) → ascend_to width n cells m ≡ true
    → ascend_from width n cells ≡ true
ascend_to-ascend width n m [] a = refl
ascend_to-ascend width n m (d ∷ cells) a =
    let parts = and_parts (nat_le n (cell_number width d)) (ascend_to width (cell_number width d + 1) cells
    m) a in
    rw (parts.0, ascend_to-ascend width (cell_number width d + 1) m cells parts.1) refl
