-- Rows that lie between the same rows have the same entries along them.
use Rattle.std.proofs.Common.{◌≡◌, ℕ, ◌+◌, ◌<◌, arith, Bool, true, false, List, length, refl, ap, sym}
use Rattle.std.proofs.Common.{◌∙◌, subst}
use Rattle.std.specs.Prelude.{ℤ, Option, Some, unwrap_or}
use Rattle.std.proofs.lemmas.Bool.Decides.{nat_tests}
use Rattle.grid_moves.specs.declared.Cell.{Cell}
use Rattle.grid_moves.specs.declared.Dir.{Dir}
use Rattle.grid_moves.specs.declared.Dir.TheVariants.{E, W}
use Rattle.grid_moves.specs.Grid.{GridData, IsGrid, is_free, is_inside}
use Rattle.grid_moves.specs.Move.{column_ahead, legal_ahead}
use Rattle.grid_moves.proofs.Legal.{legal_is}
use Rattle.pruning.specs.Turns.{is_diagonal}
use Rattle.pruning.specs.Allowed.{can_move}
use Rattle.pruning.specs.Marked.{is_forced}
use Rattle.pruning.proofs.Bridging.{legal_leads}
use Rattle.plus_tables.specs.declared.lines.Band.{Band}
use Rattle.plus_tables.specs.declared.lines.Line.{Line}
use Rattle.plus_tables.specs.Entry.{table_entry}
use Rattle.plus_tables.specs.Local.{is_mark_by}
use Rattle.plus_tables.specs.declared.heading.Heading.{Heading}
use Rattle.plus_tables.specs.Rows.{is_along, AreSame, IsEntryRow, AreRowsSeen}
use Rattle.plus_tables.specs.Lines.{AreAlike, AreAlong, IsReady}
use Rattle.plus_tables.proofs.Following.{is_mark_by-straight}
use Rattle.plus_tables.proofs.Mirror.{along_seen}
use Rattle.plus_tables.proofs.Rowing.{row_legal, ring_forced, entry_from_is, along_each, next_along}

around_same : (g : GridData) (h : Heading) (n : ℕ) (a b c p q r : List Bool) → AreSame a p → AreSame b q
    → AreSame c r → length p ≡ g.width + 2 → length q ≡ g.width + 2 → length r ≡ g.width + 2
    → AreRowsSeen g h n a b c → AreRowsSeen g h n p q r
around_same g h n a b c p q r i j k l m o s = grind (arith, nat_tests)

module _ (g : GridData) (whole : IsGrid g) (h : Heading) (y m : ℕ) (above here below : List Bool)
    (one : AreRowsSeen g h y above here below) (other : AreRowsSeen g h m above here below) where
  same_free : (x : ℕ) → is_free g (record { x = x; y = y }) ≡ is_free g (record { x = x; y = m })
  same_free x = sym (one.here_is.cells x) ∙ other.here_is.cells x

  same_move : (x : ℕ) (d : Dir) → is_along d ≡ true
      → can_move g (record { x = x; y = y }) d ≡ can_move g (record { x = x; y = m }) d
  same_move x d along = subst
      (λ (e : Dir). can_move g (record { x = x; y = y }) e ≡ can_move g (record { x = x; y = m }) e)
      (along_seen h d along)
      (sym (row_legal g whole h y above here below one d g.corner refl (record { x = x; y = y }) refl)
      ∙ row_legal g whole h m above here below other d g.corner refl (record { x = x; y = m }) refl)

  same_forced : (x : ℕ) (d : Dir) → is_along d ≡ true → is_free g (record { x = x; y = m }) ≡ true
      → is_forced g (record { x = x; y = y }) d ≡ is_forced g (record { x = x; y = m }) d
  same_forced x d along f = subst
      (λ (e : Dir). is_forced g (record { x = x; y = y }) e ≡ is_forced g (record { x = x; y = m }) e)
      (along_seen h d along)
      (sym (ring_forced g whole h y above here below one x d (same_free x ∙ f))
      ∙ ring_forced g whole h m above here below other x d f)

  -- an entry is the same where that of the next cell is
  module _ (d : Dir) (along : is_along d ≡ true) (straight : is_diagonal d ≡ false) where
    abbrev same_at : ℕ → Type 0
    same_at x = table_entry g (record { x = x; y = y }) d ≡ table_entry g (record { x = x; y = m }) d

    marked : (w : Cell) → is_forced g w d ≡ is_mark_by g (table_entry g) d w
    marked w = sym (is_mark_by-straight g (table_entry g) d w straight)

    abbrev column_next : ℕ → ℕ
    column_next x = unwrap_or (column_ahead d x) 0

    same_by_next : (x : ℕ) → ((k : ℕ) → column_ahead d x ≡ Some k → k < g.width → same_at k) → same_at x
    same_by_next x next =
        sym (entry_from_is g (record { x = x; y = y }) d (can_move g (record { x = x; y = y }) d)
        (is_forced g (record { x = column_next x; y = y }) d)
        (table_entry g (record { x = column_next x; y = y }) d) refl
        (λ w e. ap (λ (v : Cell). is_forced g v d) (leads y w e) ∙ marked w)
        (λ w e. ap (λ (v : Cell). table_entry g v d) (leads y w e)))
        ∙ entry_from_is g (record { x = x; y = m }) d (can_move g (record { x = x; y = y }) d)
        (is_forced g (record { x = column_next x; y = y }) d)
        (table_entry g (record { x = column_next x; y = y }) d) (same_move x d along)
        (λ w e. same_forced (column_next x) d along (free_next w e)
        ∙ ap (λ (v : Cell). is_forced g v d) (leads m w e)
        ∙ marked w)
        (λ w e. let n = next_along g d along x m w e in
        ap (λ (i : ℕ). table_entry g (record { x = i; y = y }) d) (there m w e) ∙ next w.x n.0 n.1
        ∙ ap (λ (v : Cell). table_entry g v d) n.2)
      where
        there : (n : ℕ) (w : Cell) → legal_ahead g (record { x = x; y = n }) d ≡ Some w → column_next x ≡ w.x
        there n w e = ap (λ (o : Option ℕ). unwrap_or o 0) (next_along g d along x n w e).0

        leads : (n : ℕ) (w : Cell) → legal_ahead g (record { x = x; y = n }) d ≡ Some w
            → record { x = column_next x; y = n } ≡ w
        leads n w e = ap (λ (i : ℕ). let v : Cell = record { x = i; y = n } in v) (there n w e)
            ∙ (next_along g d along x n w e).2

        free_next : (w : Cell) → legal_ahead g (record { x = x; y = m }) d ≡ Some w
            → is_free g (record { x = column_next x; y = m }) ≡ true
        free_next w e = ap (λ (v : Cell). is_free g v) (leads m w e)
            ∙ (legal_is g (record { x = x; y = m }) w
            (legal_leads g (record { x = x; y = m }) w d e).legal).target

    pub row_again : m < g.height → (row : List ℤ) → IsEntryRow g m d row → IsEntryRow g y d row
    row_again on row is v at inside =
        let within : v.x < g.width = grind (arith, nat_tests) in
        let there : is_inside g (record { x = v.x; y = m }) ≡ true = grind (arith, nat_tests) in
        is (record { x = v.x; y = m }) refl there
        ∙ sym (along_each d along g.width same_at (λ x _ next. same_by_next x next) v.x within)
        ∙ ap (λ (n : ℕ). table_entry g (record { x = v.x; y = n }) d) (sym at)

-- the row that was swept last lies between the same rows as this one, so that it has the same entries along
-- it
module _ (g : GridData) (whole : IsGrid g) (y : ℕ) (band : Band) (last : Line) (alike : AreAlike band) where
  pub alike_along : (h : Heading) (ready : IsReady g h y band last)
      → AreRowsSeen g h y band.next.items band.here.items band.back.items → ready.rows.ahead < g.height
      → AreAlong g y last
  alike_along h ready around on =
      let m = ready.rows.ahead in
      let rows = ready.rows in
      let same = around_same g h m band.far.items band.next.items band.here.items band.next.items
      band.here.items band.back.items alike.far alike.next alike.here rows.next_is.long rows.here_is.long
      rows.back_is.long (rows.around_next (omega (arith, whole.sides.low))) in
      let again = row_again g whole h y m band.next.items band.here.items band.back.items around same in
      record {
        east = again E refl refl on last.east.items ready.along.east;
        west = again W refl refl on last.west.items ready.along.west;
      }
