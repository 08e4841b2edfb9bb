-- After both passes the tables are the grid's, and each change was counted.
use Rattle.std.proofs.lemmas.Bool.Decides.{nat_tests}
use Rattle.std.proofs.Common.{◌≡◌, ℕ, ◌+◌, ◌*◌, ◌≤◌, arith, Bool, true, [], ◌∷◌, mul-le-mul}
use Rattle.std.specs.Prelude.{min}
use Rattle.grid_moves.specs.declared.Cell.{Cell}
use Rattle.grid_moves.specs.declared.Dir.{Dir}
use Rattle.grid_moves.specs.declared.Dir.TheVariants.{N, NE, E, SE, S, SW, W, NW}
use Rattle.grid_moves.specs.Grid.{GridData, IsGrid}
use Rattle.pruning.specs.Turns.{is_diagonal}
use Rattle.plus_tables.specs.Tables.{TablesData, AreTablesOf}
use Rattle.table_repair.specs.declared.span.Span.{Span}
use Rattle.table_repair.specs.Counted.{places_differing}
use Rattle.table_repair.specs.Repaired.{AreTablesBut}
use Rattle.table_repair.specs.Mending.{AreRight, FollowBut, MendsKind, any_cell, is_in, is_in_reach}
use Rattle.table_repair.specs.Mending.{is_listed, is_straight, span_beside, span_length}
use Rattle.table_repair.proofs.Counting.{none_differing}
use Rattle.table_repair.proofs.Beginning.{straight_begins, diagonal_begins}

-- the four of each kind
pub all_straight : (d : Dir) → is_straight d ≡ true → is_listed (N ∷ E ∷ S ∷ W ∷ []) d ≡ true
all_straight d h = grind (arith, nat_tests)

-- the rows or columns, as code tells them
pub beside_is : {s : Span} (n : ℕ) {given side side_of : ℕ} → s ≡ span_beside n given → given ≡ side
    → side ≡ side_of → s ≡ span_beside n side_of
beside_is n e f g = rw (← g, ← f) e

pub straight_starts : {h : GridData} {c : Cell} {t : TablesData} {rows columns : Span} → AreTablesBut t h c
    → rows ≡ span_beside c.y h.height → columns ≡ span_beside c.x h.width → (d : Dir) → is_straight d ≡ true
    → FollowBut h t d (is_in rows columns)
straight_starts h i j d k = grind (arith, nat_tests, straight_begins)

pub diagonal_starts : {h : GridData} {c : Cell} {t now : TablesData} {n by : ℕ} {rows columns : Span}
    → AreTablesBut t h c → rows ≡ span_beside c.y h.height → columns ≡ span_beside c.x h.width → IsGrid h
    → by ≡ min n 4096 → MendsKind h is_straight (is_in rows columns) t now n
    → ((d : Dir) → is_listed (N ∷ E ∷ S ∷ W ∷ []) d ≡ true → AreRight h now d) → (d : Dir)
    → is_diagonal d ≡ true → FollowBut h now d (is_in_reach h rows columns by d)
diagonal_starts {h} {c} {t} {now} {n} {by} {rows} {columns} but r s grid is_by mends right d k =
    diagonal_begins c but.before h but.differ t now n by d rows columns r s grid
    (λ m few short. omega arith) but.tables mends (λ e l. right e (all_straight e l)) k

module _ {h : GridData} {starts : Cell → Bool} {t now new : TablesData} {m n : ℕ}
    (straight : MendsKind h is_straight starts t now m)
    (diagonal : MendsKind h is_diagonal any_cell now new n)
    (straight_right : (d : Dir) → is_listed (N ∷ E ∷ S ∷ W ∷ []) d ≡ true → AreRight h now d)
    (diagonal_right : (d : Dir) → is_listed (NE ∷ SE ∷ SW ∷ NW ∷ []) d ≡ true → AreRight h new d) where
  pub all_right : AreTablesOf new h
  all_right = grind (arith, nat_tests)

  pub all_counted : m + n ≡ places_differing t.entries new.entries
  all_counted =
      let first = straight.count new diagonal.sound.whole all_right in
      let second = diagonal.count new diagonal.sound.whole all_right in
      let none = none_differing new.entries in
      omega arith

-- steps of both passes
pub all_steps : (start now new m n w h rows columns : ℕ) → rows ≤ 3 → columns ≤ 3 → rows ≤ h → columns ≤ w
    → now ≤ start + m + 4 * (rows * columns) → new ≤ now + n + 4 * (3 * (w + h))
    → new ≤ start + 18 * (w + h) + (m + n)
all_steps start now new m n w h rows columns a b c e f g = grind (arith, mul-le-mul)

pub three_beside : (n side : ℕ) → span_length (span_beside n side) ≤ 3
three_beside n side = omega arith

pub some_beside : (n side : ℕ) → span_length (span_beside n side) ≤ side
some_beside n side = omega arith

pub length_is : (s : Span) (n side limit : ℕ) → s ≡ span_beside n side
    → span_length (span_beside n side) ≤ limit → span_length s ≤ limit
length_is s n side limit e l = rw e l
