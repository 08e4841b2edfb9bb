-- How a pool lays out its nodes. No public clause cites this module.
use Rattle.std.specs.Prelude.{◌≡◌, ℕ, zero, suc, ◌-◌, ◌^◌, min, List, [], ◌∷◌, length, map, Bool, not, nat_eq}
use Rattle.std.specs.Prelude.{if◌then◌else◌, slice_get}
use Rattle.std.specs.Option.{option_map_or}
use Rattle.open_list.specs.declared.entry.Entry.{Entry}
use Rattle.open_list.specs.declared.entry.TheConstants.{NONE, CLOSED}

-- the list with the element at a number changed, where it has one
abbrev pub changed : {X : Type 0} → (X → X) → ℕ → List X → List X
changed f i [] = []
changed f zero (x ∷ xs) = f x ∷ xs
changed f (suc i) (x ∷ xs) = x ∷ changed f i xs

-- how many more entries fit with no allocation, as far as the limit on their number goes
abbrev pub spare_of : ℕ → ℕ → ℕ
spare_of len capacity = min capacity (2 ^ 28 - 1) - len

module _ {N : Type 0} where
  -- the entry of a node that is not closed
  abbrev pub is_open : Entry N → Bool
  is_open e = not (nat_eq e.prev CLOSED)

  -- the nodes without their links
  abbrev pub nodes_of : List (Entry N) → List N
  nodes_of es = map (λ e. e.node) es

  -- the link to the first child
  abbrev pub child_of : List (Entry N) → ℕ → ℕ
  child_of es i = option_map_or (λ e. e.child) (slice_get es i) NONE

  -- the link to the next sibling
  abbrev pub next_of : List (Entry N) → ℕ → ℕ
  next_of es i = option_map_or (λ e. e.next) (slice_get es i) NONE

  -- the link to the sibling before, and at a first child to its parent
  abbrev pub prev_of : List (Entry N) → ℕ → ℕ
  prev_of es i = option_map_or (λ e. e.prev) (slice_get es i) NONE

  abbrev pub with_node : N → Entry N → Entry N
  with_node node e = record e { node = node }

  abbrev pub with_next : ℕ → Entry N → Entry N
  with_next next e = record e { next = next }

  abbrev pub with_prev : ℕ → Entry N → Entry N
  with_prev prev e = record e { prev = prev }

  abbrev pub with_next_and_prev : ℕ → ℕ → Entry N → Entry N
  with_next_and_prev next prev e = record e { next = next; prev = prev }

  abbrev pub with_child_and_next : ℕ → ℕ → Entry N → Entry N
  with_child_and_next child next e = record e { child = child; next = next }

  -- the entry with the link that led to `old` leading to `new`
  abbrev pub relinked : ℕ → ℕ → Entry N → Entry N
  relinked old new e =
      (if nat_eq e.child old then record e { child = new } else record e { next = new })

  -- the tree at `child` is the first below `parent`, whose own tree then stands before `next`
  abbrev pub adopted : List (Entry N) → ℕ → ℕ → ℕ → List (Entry N)
  adopted es parent child next =
      let first = child_of es parent in
      changed (with_child_and_next child next) parent
      (changed (with_prev child) first (changed (with_next_and_prev first parent) child es))

  -- the tree at `id` is taken out of the list of siblings that it stood in
  abbrev pub detached : List (Entry N) → ℕ → List (Entry N)
  detached es id =
      let next = next_of es id in
      let prev = prev_of es id in
      changed (with_next NONE) id (changed (with_prev prev) next (changed (relinked id next) prev es))

  -- how many links lead on from this node to the end of its list, counted to `most`
  abbrev pub list_len_to : ℕ → List (Entry N) → ℕ → ℕ
  list_len_to zero es at = zero
  list_len_to (suc most) es at =
      option_map_or (λ e. suc (list_len_to most es e.next)) (slice_get es at) zero

  -- how many heaps stand in the list from this link on
  abbrev pub list_len : List (Entry N) → ℕ → ℕ
  list_len es at = list_len_to (length es) es at

  -- the nodes are the same, and the same ones are open
  pub record KeepsNodes (old new : List (Entry N)) : Type 0 where
    pub nodes : nodes_of new ≡ nodes_of old
    pub open_at : map is_open new ≡ map is_open old
