-- The local law: an entry follows from the entries at the next cell.
use Rattle.std.proofs.lemmas.Bool.Decides.{nat_tests}
use Rattle.std.proofs.Common.{◌≡◌, ℕ, suc, ◌≤◌, arith, Bool, true, false, ◌&&◌, ◌||◌, refl, sym, ◌∙◌, subst}
use Rattle.std.specs.Prelude.{ℤ, pos, Option, Some, None, is_some, option_map, unwrap_or, if◌then◌else◌}
use Rattle.grid_moves.specs.declared.Cell.{Cell}
use Rattle.grid_moves.specs.declared.Dir.{Dir}
use Rattle.grid_moves.specs.Least.{FindsLeast, IsLeast}
use Rattle.grid_moves.specs.Grid.{GridData, is_free}
use Rattle.grid_moves.specs.Move.{legal_ahead}
use Rattle.grid_moves.proofs.Legal.{legal_is}
use Rattle.pruning.specs.Turns.{is_diagonal}
use Rattle.pruning.specs.Marked.{is_forced}
use Rattle.pruning.specs.First.{first_within, first_on_run, is_marked, first_mark, run_length}
use Rattle.pruning.proofs.Table.{turn_parity, by_parity}
use Rattle.pruning.proofs.Bridging.{legal_leads}
use Rattle.pruning.proofs.Firsts.{HoldsAfter, first_on_run-finds, first_on_run-next, first_on_run-none}
use Rattle.plus_tables.specs.Entry.{mark_or_run, table_entry}
use Rattle.plus_tables.specs.Local.{tells_mark, from_before, is_mark_by, entry_through, EntriesFollow}
use Rattle.pruning.proofs.Lengths.{run_length-next, run_length-none}

-- two tests that agree everywhere find the same
pub first_within-same : (g : GridData) (d : Dir) (one other : Cell → Bool) → ((v : Cell) → one v ≡ other v)
    → (n : ℕ) (x : Cell) → first_within n g d one x ≡ first_within n g d other x
first_within-same g d one other h n x = grind (arith, nat_tests)

-- what is asked under a test that fails adds nothing
pub nothing_more : (a b c : Bool) → b ≡ false → (a || (b && c)) ≡ a
nothing_more a b c h = grind arith

-- for a straight d the marked cells are those with a forced neighbour
pub is_marked-straight : (g : GridData) (v : Cell) (d : Dir) → is_diagonal d ≡ false
    → is_marked g v d ≡ is_forced g v d
is_marked-straight g v d h = nothing_more (is_forced g v d) (is_diagonal d) _ h

pub is_mark_by-straight : (g : GridData) (entry : Cell → Dir → ℤ) (d : Dir) (v : Cell) → is_diagonal d ≡ false
    → is_mark_by g entry d v ≡ is_forced g v d
is_mark_by-straight g entry d v h = nothing_more (is_forced g v d) (is_diagonal d) _ h

pub first_mark-straight : (g : GridData) (x : Cell) (d : Dir) → is_diagonal d ≡ false
    → first_mark g x d ≡ first_on_run g d (λ v. is_forced g v d) x
first_mark-straight g x d h = grind (arith, nat_tests, first_within-same, is_marked-straight)

-- a first mark is the least from one move on
pub first_mark-least : (g : GridData) (x : Cell) (d : Dir) (k : ℕ) → first_mark g x d ≡ Some k
    → IsLeast (HoldsAfter g d (λ v. is_marked g v d) x) 1 k
first_mark-least g x d k e =
    subst (λ (o : Option ℕ). FindsLeast (HoldsAfter g d (λ v. is_marked g v d) x) 1 o) e
    (first_on_run-finds g d (λ v. is_marked g v d) x)

first_mark-some : (g : GridData) (x : Cell) (d : Dir) (k : ℕ) → first_mark g x d ≡ Some k → 1 ≤ k
first_mark-some g x d k e = (first_mark-least g x d k e).in_range

-- the entry of a free cell
pub table_entry-free : (g : GridData) (c : Cell) (d : Dir) → is_free g c ≡ true
    → table_entry g c d ≡ mark_or_run (first_mark g c d) (run_length g c d)
table_entry-free g c d h = rw h refl

-- an entry above 0 tells of a mark
pub tells_mark-is : (g : GridData) (c : Cell) (d : Dir) → is_free g c ≡ true
    → tells_mark (table_entry g c d) ≡ is_some (first_mark g c d)
tells_mark-is g c d h = grind (arith, nat_tests, table_entry-free, first_mark-some)

-- so the marks at a free cell are shown by its entries
pub is_mark_by-is : (g : GridData) (d : Dir) (v : Cell) → is_free g v ≡ true
    → is_mark_by g (table_entry g) d v ≡ is_marked g v d
is_mark_by-is g d v h =
    grind (
      arith,
      nat_tests,
      by_parity,
      tells_mark-is,
      first_mark-straight,
      turn_parity,
      is_mark_by-straight,
      is_marked-straight,
    )

-- from one move further back
further : (b : Bool) (o : Option ℕ) (n : ℕ) → ((k : ℕ) → o ≡ Some k → 1 ≤ k)
    → mark_or_run (if b then Some 1 else option_map (λ k. suc k) o) (suc n)
    ≡ (if b then pos 1 else from_before (mark_or_run o n))
further b o n h = grind (arith, nat_tests)

pub entries_follow : EntriesFollow
entries_follow g c d = by_cell (legal_ahead g c d) refl
  where
    stuck : legal_ahead g c d ≡ None → (b : Bool)
        → (if b then mark_or_run (first_mark g c d) (run_length g c d) else pos 0) ≡ pos 0
    stuck e true = rw (first_on_run-none g d (λ v. is_marked g v d) c e, run_length-none g c d e) refl
    stuck e false = refl

    -- what the run from c finds, by what the run from v finds
    found : Cell → ℤ
    found v = if is_marked g v d then pos 1
        else from_before (mark_or_run (first_mark g v d) (run_length g v d))

    stepped : (v : Cell) → legal_ahead g c d ≡ Some v
        → mark_or_run (first_mark g c d) (run_length g c d) ≡ found v
    stepped v e = rw (first_on_run-next g d (λ v. is_marked g v d) c v e, run_length-next g c v d e)
        (further (is_marked g v d) (first_mark g v d) (run_length g v d) (λ k. first_mark-some g v d k))

    through : (v : Cell) → is_free g v ≡ true → entry_through g (table_entry g) d v ≡ found v
    through v f = rw (is_mark_by-is g d v f, table_entry-free g v d f) refl

    by_cell : (o : Option Cell) → legal_ahead g c d ≡ o → table_entry g c d
        ≡ unwrap_or (option_map (λ v. entry_through g (table_entry g) d v) o) (pos 0)
    by_cell None e = stuck e (is_free g c)
    by_cell (Some v) e =
        let legal = legal_is g c v (legal_leads g c v d e).legal in
        table_entry-free g c d legal.source
        ∙ stepped v e ∙ sym (through v legal.target)
