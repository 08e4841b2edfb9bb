-- Which entries wait before the first sweep: near the edited cell, and for the diagonals where straight
-- entries changed.
use Rattle.std.proofs.Common.{arith}
use Rattle.std.proofs.lemmas.Bool.Decides.{nat_tests}
use Rattle.std.proofs.Common.{◌≡◌, ℕ, ◌<◌, ◌≤◌, inl, inr, Bool, true, false, refl, sym, ◌∙◌}
use Rattle.std.specs.Prelude.{pos, Option, Some, None, option_map, unwrap_or}
use Rattle.grid_moves.specs.declared.Cell.{Cell}
use Rattle.grid_moves.specs.declared.Dir.{Dir}
use Rattle.grid_moves.specs.Grid.{GridData, IsGrid, is_inside}
use Rattle.grid_moves.specs.Move.{ahead, legal_ahead}
use Rattle.grid_moves.proofs.Legal.{legal_is, free_inside}
use Rattle.grid_moves.proofs.Places.{inside_from}
use Rattle.pruning.specs.declared.turns.Side.{Side}
use Rattle.pruning.specs.Turns.{turn, is_diagonal}
use Rattle.pruning.proofs.Bridging.{legal_leads, one_of}
use Rattle.pruning.proofs.Table.{turn_parity}
use Rattle.plus_tables.specs.Entry.{table_entry}
use Rattle.plus_tables.specs.Local.{entry_through}
use Rattle.plus_tables.specs.Tables.{TablesData, AreTablesOf, entry_at}
use Rattle.plus_tables.proofs.Following.{entries_follow}
use Rattle.table_repair.specs.declared.span.Span.{Span}
use Rattle.table_repair.specs.Differ.{DifferAtMostAt, IsKept, is_near}
use Rattle.table_repair.specs.Mending.{IsRight, AreRight, FollowBut, IsMended, MendsKind, is_straight, is_in}
use Rattle.table_repair.specs.Mending.{is_in_reach, span_beside}
use Rattle.table_repair.proofs.Alike.{changes_spread_back}
use Rattle.table_repair.proofs.Lines.{after_moved}
use Rattle.table_repair.proofs.Walking.{walk_short, true_false}
use Rattle.table_repair.proofs.Reach.{block_reached, line_reached, block_inside}

-- where no cell of the map lies ahead the entry is 0
edge_entry : (k : GridData) (u : Cell) (d : Dir) → ((v : Cell) → ahead d u ≡ Some v → is_inside k v ≡ false)
    → table_entry k u d ≡ pos 0
edge_entry k u d outside = entries_follow k u d ∙ by_legal (legal_ahead k u d) refl
  where
    by_legal : (o : Option Cell) → legal_ahead k u d ≡ o
        → unwrap_or (option_map (λ v. entry_through k (table_entry k) d v) o) (pos 0) ≡ pos 0
    by_legal None e = refl
    by_legal (Some v) e =
        let l = legal_leads k u v d e in
        let free = (legal_is k u v l.legal).target in
        let p = free_inside k v free in
        absurd (true_false (is_inside k v) (inside_from k v p.0 p.1) (outside v l.ahead_is))

module _ (c : Cell) (g h : GridData) (differ : DifferAtMostAt c g h) where
  pub same_inside : (v : Cell) → is_inside h v ≡ is_inside g v
  same_inside v = rw (differ.width, differ.height) refl

  pub follow_from : (t : TablesData) (d : Dir) (waits : Cell → Bool)
      → ((u : Cell) → is_inside h u ≡ true → entry_at t u d ≡ table_entry g u d)
      → ((v : Cell) → is_inside h v ≡ true → waits v ≡ false → is_near v c ≡ false)
      → ((v : Cell) → is_inside h v ≡ true → waits v ≡ false → is_diagonal d ≡ true → (s : Side)
      → IsKept g h v (turn s d)) → FollowBut h t d waits
  follow_from t d waits was far beside = record { next = next; last = last }
    where
      next : (u v : Cell) → is_inside h u ≡ true → ahead d u ≡ Some v → is_inside h v ≡ true
          → waits v ≡ false → IsRight h t v d → IsRight h t u d
      next u v i e j w r =
          was u i ∙ sym (changes_spread_back entries_follow c g h differ u d
          (λ x f. let same = one_of v x (sym e ∙ f) in rw (← same) (far v j w))
          (λ x f. let same = one_of v x (sym e ∙ f) in rw (← same) (sym r ∙ was v j))
          (λ x f k s. let same = one_of v x (sym e ∙ f) in rw (← same) (beside v j w k s)))

      last : (u : Cell) → is_inside h u ≡ true → ((v : Cell) → ahead d u ≡ Some v → is_inside h v ≡ false)
          → IsRight h t u d
      last u i outside = was u i
          ∙ edge_entry g u d (λ v e. sym (same_inside v) ∙ outside v e)
          ∙ sym (edge_entry h u d outside)

  pub far_apart : (rows columns : Span) (waits : Cell → Bool)
      → rows ≡ span_beside c.y h.height → columns ≡ span_beside c.x h.width
      → ((v : Cell) → is_inside h v ≡ true → is_in rows columns v ≡ true → waits v ≡ true)
      → (v : Cell) → is_inside h v ≡ true → waits v ≡ false → is_near v c ≡ false
  far_apart rows columns waits r s block v i w = grind (arith, nat_tests)

  -- before the straight sweeps
  pub straight_begins : (t : TablesData) (d : Dir) (rows columns : Span)
      → rows ≡ span_beside c.y h.height → columns ≡ span_beside c.x h.width → is_diagonal d ≡ false
      → AreTablesOf t g → FollowBut h t d (is_in rows columns)
  straight_begins t d rows columns r s k tables =
      grind (arith, nat_tests, follow_from, same_inside, far_apart, true_false)

  -- before those of a diagonal direction
  pub diagonal_begins : (t now : TablesData) (n by : ℕ) (d : Dir) (rows columns : Span)
      → rows ≡ span_beside c.y h.height → columns ≡ span_beside c.x h.width → IsGrid h
      → ((k : ℕ) → k ≤ n → k < 4096 → k ≤ by)
      → AreTablesOf t g → MendsKind h is_straight (is_in rows columns) t now n
      → ((e : Dir) → is_straight e ≡ true → AreRight h now e) → is_diagonal d ≡ true
      → FollowBut h now d (is_in_reach h rows columns by d)
  diagonal_begins t now n by d rows columns r s grid few tables mends right diagonal =
      follow_from now d (is_in_reach h rows columns by d) was
      (far_apart rows columns (is_in_reach h rows columns by d) r s
      (λ v i j. block_reached h rows columns by d v i j)) beside
    where
      turned_straight : (s : Side) → is_straight (turn s d) ≡ true
      turned_straight s = rw (turn_parity s d, diagonal) refl

      was : (u : Cell) → is_inside h u ≡ true → entry_at now u d ≡ table_entry g u d
      was u i = mends.others u d (rw diagonal refl) i ∙ tables.right u d (sym (same_inside u) ∙ i)

      reached : (v : Cell) (s : Side) → is_inside h v ≡ true
          → IsMended h now (turn s d) (is_in rows columns) n v → is_in_reach h rows columns by d v ≡ true
      reached v side i a =
          let there = block_inside h c rows columns r s a.start a.starts_there in
          let short = walk_short h (turn side d) a.start v a.moves grid there i a.reaches in
          line_reached h rows columns by d side diagonal v a.start a.moves (few a.moves a.few short)
          (after_moved (turn side d) a.moves v a.start a.reaches) a.starts_there i

      beside : (v : Cell) → is_inside h v ≡ true → is_in_reach h rows columns by d v ≡ false
          → is_diagonal d ≡ true → (s : Side) → IsKept g h v (turn s d)
      beside v i w k side = elim (mends.along v (turn side d) (turned_straight side) i) [
        | inl e ↦ sym (right (turn side d) (turned_straight side) v i) ∙ e
            ∙ tables.right v (turn side d) (sym (same_inside v) ∙ i)
        | inr a ↦ absurd (true_false (is_in_reach h rows columns by d v) (reached v side i a) w)
      ]
