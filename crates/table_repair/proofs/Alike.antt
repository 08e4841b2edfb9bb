-- Two grids that are alike around a cell have the same moves and marks there.
use Rattle.std.proofs.Common.{arith}
use Rattle.std.proofs.lemmas.Bool.Decides.{nat_tests}
use Rattle.std.proofs.Common.{◌≡◌, ℤ, true, false, refl, ap, sym, ◌∙◌}
use Rattle.std.specs.Prelude.{Option, Some, None, option_map, unwrap_or, pos, if◌then◌else◌, option_and_then}
use Rattle.grid_moves.specs.declared.Cell.{Cell}
use Rattle.grid_moves.specs.declared.Dir.{Dir}
use Rattle.grid_moves.specs.Grid.{GridData, is_free}
use Rattle.grid_moves.specs.Move.{ahead, corner_of, is_legal, legal_ahead, is_open, is_free_cell}
use Rattle.pruning.specs.declared.turns.Side.{Side}
use Rattle.pruning.specs.declared.turns.Side.TheVariants.{Right, Left}
use Rattle.pruning.specs.Turns.{turn, is_diagonal}
use Rattle.pruning.specs.Marked.{is_forced}
use Rattle.pruning.proofs.Bridging.{legal_leads}
use Rattle.pruning.proofs.Table.{by_parity}
use Rattle.plus_tables.specs.Entry.{table_entry}
use Rattle.plus_tables.specs.Local.{EntriesFollow, entry_by_next, entry_through, is_mark_by}
use Rattle.table_repair.specs.Differ.{DifferAtMostAt, is_near, IsKept, ChangesSpreadBack}
use Rattle.table_repair.proofs.Moving.{is_near-from, is_near-parts, near_ahead, near_back, near_itself}

-- the grids have one corner rule, and around p every cell is free in both or in neither
pub record AreAlike (g h : GridData) (p : Cell) : Type 0 where
  pub corner : h.corner ≡ g.corner
  pub free : (u : Cell) → is_near u p ≡ true → is_free h u ≡ is_free g u

pub alike_apart : (c : Cell) (g h : GridData) → DifferAtMostAt c g h → (p : Cell) → is_near p c ≡ false
    → AreAlike g h p
alike_apart c g h i p j = grind (arith, nat_tests)

module _ (g h : GridData) (p : Cell) (a : AreAlike g h p) where
  legal_same : (u v : Cell) → is_near u p ≡ true → is_near v p ≡ true → is_legal h u v ≡ is_legal g u v
  legal_same u v m n =
      let s = is_near-parts u p m in
      let t = is_near-parts v p n in
      let one : is_near (corner_of u v) p ≡ true = is_near-from (corner_of u v) p s.0 s.1 t.2 t.3 in
      let other : is_near (corner_of v u) p ≡ true = is_near-from (corner_of v u) p t.0 t.1 s.2 s.3 in
      rw (a.free u m, a.free v n, a.free (corner_of u v) one, a.free (corner_of v u) other, a.corner) refl

  abbrev over : GridData → Cell → Option Cell → Option Cell
  over k u o = option_and_then (λ v. if is_legal k u v then Some v else None) o

  over_same : (u v : Cell) → is_near u p ≡ true → is_near v p ≡ true → over h u (Some v) ≡ over g u (Some v)
  over_same u v m n = rw (legal_same u v m n) refl

  -- the moves to p, and from p
  pub moves_to : (u : Cell) (d : Dir) → ahead d u ≡ Some p → legal_ahead h u d ≡ legal_ahead g u d
  moves_to u d e = rw e (over_same u p (near_ahead d u p e) (near_itself p))

  pub moves_from : (d : Dir) → legal_ahead h p d ≡ legal_ahead g p d
  moves_from d = by_cell (ahead d p) refl
    where
      by_cell : (o : Option Cell) → ahead d p ≡ o → over h p o ≡ over g p o
      by_cell o q = grind (arith, nat_tests, over_same, near_itself, near_back, near_ahead)

  opens_same : (d : Dir) → is_open h p d ≡ is_open g p d
  opens_same d = by_cell (ahead d p) refl
    where
      by_cell : (o : Option Cell) → ahead d p ≡ o → is_free_cell h o ≡ is_free_cell g o
      by_cell o q = grind (arith, nat_tests)

  pub forced_same : (d : Dir) → is_forced h p d ≡ is_forced g p d
  forced_same d = grind (arith, nat_tests, opens_same, moves_from)

-- made from the entries at the next cell
module _ (g h : GridData) (d : Dir) (v : Cell) (a : AreAlike g h v) (kept : IsKept g h v d)
    (beside : is_diagonal d ≡ true → (s : Side) → IsKept g h v (turn s d)) where
  mark_same : is_mark_by h (table_entry h) d v ≡ is_mark_by g (table_entry g) d v
  mark_same = by_parity d
      (λ e. rw (forced_same g h v a d, beside e Right, beside e Left) refl)
      (λ e. rw (forced_same g h v a d, e) refl)

  pub through_same : entry_through h (table_entry h) d v ≡ entry_through g (table_entry g) d v
  through_same = rw (mark_same, kept) refl

-- the entry, made from the next cell, if there is one
abbrev entry_by : Dir → GridData → Option Cell → ℤ
entry_by d k o = unwrap_or (option_map (λ v. entry_through k (table_entry k) d v) o) (pos 0)

module _ (follow : EntriesFollow) where
  pub changes_spread_back : ChangesSpreadBack
  changes_spread_back c g h differ u d far kept beside =
      follow h u d ∙ by_ahead (ahead d u) refl ∙ sym (follow g u d)
    where
      by_legal : (o : Option Cell) → legal_ahead g u d ≡ o → entry_by d h o ≡ entry_by d g o
      by_legal None e = refl
      by_legal (Some v) e =
          let l = (legal_leads g u v d e).ahead_is in
          through_same g h d v (alike_apart c g h differ v (far v l)) (kept v l) (beside v l)

      by_ahead : (o : Option Cell) → ahead d u ≡ o
          → entry_by_next h (table_entry h) u d ≡ entry_by_next g (table_entry g) u d
      by_ahead None e = rw e refl
      by_ahead (Some v) e =
          let same : legal_ahead h u d ≡ legal_ahead g u d =
          moves_to g h v (alike_apart c g h differ v (far v e)) u d e in
          ap (λ (o : Option Cell). entry_by d h o) same ∙ by_legal (legal_ahead g u d) refl
