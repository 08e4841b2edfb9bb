-- What an offer leaves as it was.
use Rattle.std.proofs.Common.{◌≡◌, ℕ, ◌-◌, ◌<◌, ◌≤◌, length, List, Bool, true, false, arith}
use Rattle.std.specs.Prelude.{Option, Some, None, slice_get, slice_index_or}
use Rattle.std.proofs.lemmas.Bool.Decides.{nat_tests}
use Rattle.std.proofs.lemmas.Grind.{common_steps}
use Rattle.std.proofs.lemmas.Option.{slice_get_within, slice_get-get_or}
use Rattle.grid_moves.specs.declared.Cell.{Cell}
use Rattle.best_first.specs.declared.node.Node.{Node}
use Rattle.best_first.specs.declared.node.Offer.{Offer}
use Rattle.best_first.specs.declared.state.Layout.{Layout}
use Rattle.best_first.specs.Index.{entry_for}
use Rattle.best_first.specs.Table.{Table, node_for, is_bettered, offered, ClosedBelow}
use Rattle.std.proofs.lemmas.List.{length-set}
use Rattle.open_list.proofs.Changes.{get-append_left}
use Rattle.best_first.proofs.Lists.{got-added, get-set_other, got-set}
use Rattle.best_first.proofs.Mirrors.{some_node}

-- the node that is bettered
pub record IsBettered (nodes : List Node) (id key : ℕ) : Type 0 where
  pub node : Node
  pub node_is : slice_get nodes id ≡ Some node
  pub greater : key < node.key

pub bettered_node : (nodes : List Node) (id key : ℕ) → is_bettered nodes id key ≡ true
    → IsBettered nodes id key
bettered_node nodes id key h = grind (arith, nat_tests, common_steps)

module _ (layout : Layout) (goal : Cell) (o : Offer) (k : Table) where
  abbrev new : Node
  new = node_for goal o

  -- the slot of a node of no greater key
  pub offered_slot : (j : ℕ) (q : Node) → slice_get k.nodes j ≡ Some q → q.key ≤ new.key
      → slice_get (offered layout goal o k).nodes j ≡ Some q
  offered_slot j q h l =
      grind (arith, nat_tests, common_steps, bettered_node, some_node, get-set_other, get-append_left)

  -- closed nodes stay, and with them the bound on their keys
  pub closed_stays : (bound : ℕ) → ClosedBelow bound k → bound ≤ new.key
      → ClosedBelow bound (offered layout goal o k)
  closed_stays bound c l =
      grind (arith, nat_tests, common_steps, got-added, slice_get_within, length-set, got-set, bettered_node)

-- a node of a greater key is open
pub open_of : (key : ℕ) (k : Table) → ClosedBelow key k → (id : ℕ) (n : Node) → slice_get k.nodes id ≡ Some n
    → key < n.key → slice_get k.open_at id ≡ Some true
open_of key k c id n h l = by_flag (slice_index_or k.open_at id false)
    (slice_get-get_or k.open_at id false within)
  where
    within : id < length k.open_at
    within = let b = slice_get_within k.nodes id n h in let e = c.flags in omega arith

    by_flag : (b : Bool) → slice_get k.open_at id ≡ Some b → slice_get k.open_at id ≡ Some true
    by_flag b h1 = grind (arith, nat_tests, common_steps)

-- an entry but 0 tells what was looked up
pub entry_some : (o : Option ℕ) (e : ℕ) → e ≡ entry_for o → (e ≡ 0 → ⊥) → o ≡ Some (e - 1)
entry_some o e h1 h2 = grind (arith, nat_tests, common_steps)

-- an entry 0 tells that nothing was found
pub entry_none : (o : Option ℕ) (e : ℕ) → e ≡ entry_for o → e ≡ 0 → o ≡ None
entry_none o e h1 h2 = grind (arith, nat_tests, common_steps)
