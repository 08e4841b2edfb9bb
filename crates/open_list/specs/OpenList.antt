-- What a contract sees of a `Pool`.
use Rattle.std.specs.Prelude.{◌≡◌, ℕ, Bool, true, false, List, Some, slice_get}

-- the nodes by their numbers, whether each is open, and how many more nodes fit with no allocation
pub record OpenList (N : Type 0) : Type 0 where
  pub nodes : List N
  pub open_at : List Bool
  pub spare : ℕ

module _ {N : Type 0} where
  -- the number is that of an open node
  abbrev pub IsOpen : OpenList N → ℕ → Type 0
  IsOpen pool id = slice_get pool.open_at id ≡ Some true

  -- no node is open
  abbrev pub HasNoneOpen : OpenList N → Type 0
  HasNoneOpen pool = (id : ℕ) → ¬ IsOpen pool id

  -- the number is that of an open node that no open node is before
  pub record IsFirst (before : N → N → Bool) (pool : OpenList N) (id : ℕ) : Type 0 where
    pub is_open : IsOpen pool id
    pub node : N
    pub its_node : slice_get pool.nodes id ≡ Some node
    pub none_before : (other : ℕ) (n : N) → IsOpen pool other → slice_get pool.nodes other ≡ Some n
        → before n node ≡ false
