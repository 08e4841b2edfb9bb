-- A file that is written, cell by cell.
use Rattle.std.proofs.lemmas.Bool.Decides.{nat_tests}
use Rattle.std.proofs.Common.{◌≡◌, ℕ, ◌+◌, ◌-◌, ◌*◌, ◌<◌, ◌≤◌, List, [], ◌∷◌, ◌++◌, length, take, ap, sym}
use Rattle.std.proofs.Common.{◌∙◌, arith, refl, subst, drop, suc, length-drop, Result}
use Rattle.std.specs.Prelude.{OnErr, Ok, Err, ℤ, pos, flat_map, slice_index_or, slice_set}
use Rattle.std.proofs.lemmas.List.{append-nil, append_assoc, take-append-drop, length-set, take_all}
use Rattle.std.proofs.lemmas.List.{take_more, take_more_set}
pub use Rattle.std.proofs.lemmas.Grind.{flat_map-append}
use Rattle.table_file.specs.Encoding.{entry_bytes}
use Rattle.text_line.specs.Writing.{Begins}
use Rattle.text_line.proofs.Begun.{begins_same, begins_on}

-- what is written and the bytes of the entries left are the bytes of all entries
pub record ArePut (old : List ℕ) (cells : ℕ) (entries left : List ℤ) (done : ℕ) (new : List ℕ) : Type 0 where
  pub long : length left ≡ (cells - done) * 8
  pub text : new ++ flat_map entry_bytes left ≡ old ++ flat_map entry_bytes entries
  pub kept : Begins old new

-- a clause on failures, where it always holds
pub on_err : {T E Q : Type 0} (result : Result T E) → Q → OnErr result Q
on_err (Ok v) q = tt
on_err (Err e) q = q

-- no cell is written yet
pub put_begun : (old : List ℕ) (cells : ℕ) (entries : List ℤ) → length entries ≡ cells * 8
    → ArePut old cells entries entries 0 old
put_begun old cells entries h = record { long = omega arith; text = refl; kept = begins_same old old refl }

-- there is a cell left
pub cell_left : (cells done : ℕ) (left : List ℤ) → length left ≡ (cells - done) * 8 → done < cells
    → 8 ≤ length left
cell_left cells done left long h = omega arith

-- one more is written
pub put_on : {old : List ℕ} {cells : ℕ} {entries left : List ℤ} {done : ℕ} {out : List ℕ}
    (cell others : List ℤ)
    (bytes new : List ℕ)
    → ArePut old cells entries left done out → done < cells → cell ≡ take 8 left → others ≡ drop 8 left
    → bytes ≡ flat_map entry_bytes cell → new ≡ out ++ bytes → ArePut old cells entries others (done + 1) new
put_on {old = old} {cells = cells} {left = left} {done = done} {out = out} cell others bytes new put h front
    back made added =
    let long = put.long in
    let fewer = length-drop 8 left in
    let same = ap (λ (l : List ℤ). length l) back in
    let whole : cell ++ others ≡ left =
    ap (λ (l : List ℤ). l ++ others) front ∙ ap (λ (l : List ℤ). take 8 left ++ l) back ∙ take-append-drop 8
    left
    in
    record {
      long = eight_fewer (length left) (length (drop 8 left)) (length others) cells done long fewer same h;
      text = ap (λ (l : List ℕ). l ++ flat_map entry_bytes others)
          (added ∙ ap (λ (l : List ℕ). out ++ l) made)
          ∙ append_assoc out (flat_map entry_bytes cell) (flat_map entry_bytes others)
          ∙ ap (λ (l : List ℕ). out ++ l) (sym (flat_map-append entry_bytes cell others))
          ∙ ap (λ (l : List ℤ). out ++ flat_map entry_bytes l) whole
          ∙ put.text;
      kept = subst (λ (l : List ℕ). Begins old l) (sym added) (begins_on old out bytes put.kept);
    }
  where
    eight_fewer : (n m k cells done : ℕ) → n ≡ (cells - done) * 8 → m ≡ n - 8 → k ≡ m → done < cells
        → k ≡ (cells - (done + 1)) * 8
    eight_fewer n m k cells done a b c d = omega arith

-- all are written
pub put_all : {old : List ℕ} {cells : ℕ} {entries left : List ℤ} {done : ℕ} {out : List ℕ}
    → ArePut old cells entries left done out → cells ≤ done → out ≡ old ++ flat_map entry_bytes entries
put_all {cells = cells} {left = []} {out = out} put h = sym (append-nil out) ∙ put.text
put_all {cells = cells} {left = x ∷ left} {done = done} put h =
    absurd (none_left (length left) cells done put.long h)
  where
    none_left : (n cells done : ℕ) → suc n ≡ (cells - done) * 8 → cells ≤ done → ⊥
    none_left n cells done e l = omega arith

-- the bytes of one more entry, put behind the others
pub entry_put : (cell : List ℤ) (bytes : List ℕ) (at low high : ℕ) → at < length cell
    → 2 * length cell ≤ length bytes → low ∷ high ∷ [] ≡ entry_bytes (slice_index_or cell at (pos 0))
    → take (2 * at) bytes ≡ flat_map entry_bytes (take at cell)
    → take (2 * (at + 1)) (slice_set (slice_set bytes (2 * at) low) (2 * at + 1) high)
    ≡ flat_map entry_bytes (take (at + 1) cell)
entry_put cell bytes at low high inside long is behind =
    let first : 2 * at < length bytes = omega arith in
    let second : 2 * at + 1 < length (slice_set bytes (2 * at) low) =
    rw (length-set bytes (2 * at) low) (omega arith) in
    ap (λ (n : ℕ). take n (slice_set (slice_set bytes (2 * at) low) (2 * at + 1) high)) (two_more at)
    ∙ take_more_set (slice_set bytes (2 * at) low) (2 * at + 1) high second
    ∙ ap (λ (l : List ℕ). l ++ high ∷ []) (take_more_set bytes (2 * at) low first)
    ∙ append_assoc (take (2 * at) bytes) (low ∷ []) (high ∷ [])
    ∙ ap (λ (l : List ℕ). l ++ low ∷ high ∷ []) behind
    ∙ ap (λ (l : List ℕ). flat_map entry_bytes (take at cell) ++ l) is
    ∙ sym (flat_map-append entry_bytes (take at cell) (slice_index_or cell at (pos 0) ∷ []))
    ∙ ap (flat_map entry_bytes) (sym (take_more cell at (pos 0) inside))
  where
    two_more : (n : ℕ) → 2 * (n + 1) ≡ 2 * n + 1 + 1
    two_more n = omega arith

-- a head and two parts, put one after another
pub file_put : (old head first second one two three : List ℕ) → one ≡ old ++ head → two ≡ one ++ first
    → three ≡ two ++ second → three ≡ old ++ (head ++ (first ++ second))
file_put old head first second one two three e f g = grind (arith, nat_tests, append_assoc)

-- the bytes of all entries
pub all_bytes : (cell : List ℤ) (bytes : List ℕ) (at : ℕ) → length cell ≤ at → length bytes ≤ 2 * length cell
    → take (2 * at) bytes ≡ flat_map entry_bytes (take at cell) → bytes ≡ flat_map entry_bytes cell
all_bytes cell bytes at end short put = grind (arith, nat_tests, take_all)
