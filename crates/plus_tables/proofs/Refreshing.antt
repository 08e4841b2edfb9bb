-- An entry is made from right entries at the next cell.
use Rattle.std.proofs.Common.{◌≡◌, arith, true, false, refl, sym, ◌∙◌}
use Rattle.std.specs.Prelude.{pos, Some, if◌then◌else◌}
use Rattle.std.proofs.lemmas.Bool.Decides.{nat_tests}
use Rattle.grid_moves.specs.declared.Cell.{Cell}
use Rattle.grid_moves.specs.declared.Dir.{Dir}
use Rattle.grid_moves.specs.Grid.{GridData, IsGrid, is_free}
use Rattle.grid_moves.specs.Move.{legal_ahead}
use Rattle.grid_moves.proofs.Legal.{legal_is}
use Rattle.pruning.specs.declared.turns.Side.TheVariants.{Right, Left}
use Rattle.pruning.proofs.Bridging.{legal_leads}
use Rattle.pruning.proofs.Table.{by_parity}
use Rattle.plus_tables.specs.Entry.{table_entry}
use Rattle.plus_tables.specs.Local.{from_before, is_mark_by}
use Rattle.plus_tables.specs.Tables.{TablesData, AreSized, RestsRight, IsShort, entry_at, is_on}
use Rattle.plus_tables.proofs.Following.{entries_follow}
use Rattle.plus_tables.proofs.Short.{table_entry-short}

-- a cell of the map lies on the tables
pub on_map : (t : TablesData) (g : GridData) (c : Cell) → AreSized t g → is_free g c ≡ true → is_on t c ≡ true
on_map t g c sized f = grind (arith, nat_tests)

module _ (t : TablesData) (g : GridData) (c : Cell) (d : Dir) (rests : RestsRight t g c d) where
  module _ (v : Cell) (e : legal_ahead g c d ≡ Some v) where
    pub next_free : is_free g v ≡ true
    next_free = (legal_is g c v (legal_leads g c v d e).legal).target

    -- the marks at the next cell are shown by the entries there
    same_mark : is_mark_by g (entry_at t) d v ≡ is_mark_by g (table_entry g) d v
    same_mark = by_parity d
        (λ h. rw (rests.beside h v e Right, rests.beside h v e Left) refl)
        (λ h. rw h refl)

    follows : table_entry g c d
        ≡ (if is_mark_by g (entry_at t) d v then pos 1 else from_before (entry_at t v d))
    follows = entries_follow g c d ∙ rw (e, same_mark, rests.ahead v e) refl

    pub entry_marked : is_mark_by g (entry_at t) d v ≡ true → pos 1 ≡ table_entry g c d
    entry_marked h = sym (follows ∙ rw h refl)

    pub entry_further : is_mark_by g (entry_at t) d v ≡ false → from_before (entry_at t v d)
        ≡ table_entry g c d
    entry_further h = sym (follows ∙ rw h refl)

    pub next_short : IsGrid g → IsShort (entry_at t v d)
    next_short whole = rw (rests.ahead v e) (table_entry-short g whole v d)
