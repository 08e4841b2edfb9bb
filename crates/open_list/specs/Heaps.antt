-- The heaps that the links of a pool stand for. No public clause cites this module.
use Rattle.std.specs.Prelude.{◌≡◌, ℕ, ◌+◌, ◌≤◌, ◌<◌, ◌^◌, suc, List, length, map, Bool, false, nat_eq}
use Rattle.std.specs.Prelude.{if◌then◌else◌, Some, slice_get}
use Rattle.std.specs.Option.{option_map_or}
use Rattle.open_list.specs.declared.entry.Entry.{Entry}
use Rattle.open_list.specs.declared.entry.TheConstants.{NONE}
use Rattle.open_list.specs.Entry.{is_open, next_of, list_len, KeepsNodes}

-- a list of heaps: the first one's number, node and list of children, and the rest of the list
pub data Heaps (N : Type 0) : Type 0 where
  no_heap : Heaps N
  heap : ℕ → N → Heaps N → Heaps N → Heaps N

-- 1 where the numbers are equal
unfoldable pub one_at : ℕ → ℕ → ℕ
one_at id i = (if nat_eq id i then 1 else 0)

-- 1 at the number of an open node
unfoldable pub open_count : List Bool → ℕ → ℕ
open_count open_at i = option_map_or (λ b. (if b then 1 else 0)) (slice_get open_at i) 0

module _ {N : Type 0} where
  -- the link that leads to the list
  abbrev pub first_id : Heaps N → ℕ
  first_id no_heap = NONE
  first_id (heap id n children rest) = id

  -- how many heaps stand in the list
  abbrev pub heap_count : Heaps N → ℕ
  heap_count no_heap = 0
  heap_count (heap id n children rest) = suc (heap_count rest)

  -- how many nodes the heaps have
  abbrev pub node_count : Heaps N → ℕ
  node_count no_heap = 0
  node_count (heap id n children rest) = suc (node_count children + node_count rest)

  -- how often a number stands in the heaps
  abbrev pub count_at : Heaps N → ℕ → ℕ
  count_at no_heap i = 0
  count_at (heap id n children rest) i = one_at id i + count_at children i + count_at rest i

  module _ (before : N → N → Bool) (es : List (Entry N)) where
    -- the entries have these heaps as the children of `parent` from the one after `prev` on, and
    -- none of their nodes is before its parent
    abbrev pub AreChildren : ℕ → N → Heaps N → Type 0
    AreChildren prev parent no_heap = Unit {0}
    AreChildren prev parent (heap id n children rest) =
        (slice_get es id ≡ Some (record {
          node = n;
          child = first_id children;
          next = first_id rest;
          prev = prev;
        }))
        × (before n parent ≡ false) × AreChildren id n children × AreChildren id parent rest

    -- the entries have these heaps as a list of their own, in which links back have no meaning
    abbrev pub AreRoots : Heaps N → Type 0
    AreRoots no_heap = Unit {0}
    AreRoots (heap id n children rest) =
        (prev : ℕ)
        × (slice_get es id ≡ Some (record {
          node = n;
          child = first_id children;
          next = first_id rest;
          prev = prev;
        }))
        × AreChildren id n children × AreRoots rest

    -- the two lists of heaps, from these links on, have each open node once
    pub record HaveOpen (first second : ℕ) : Type 0 where
      pub firsts : Heaps N
      pub seconds : Heaps N
      pub first_is : first_id firsts ≡ first
      pub second_is : first_id seconds ≡ second
      pub first_roots : AreRoots firsts
      pub second_roots : AreRoots seconds
      pub once : (i : ℕ) → count_at firsts i + count_at seconds i ≡ open_count (map is_open es) i
      pub fits : node_count firsts + node_count seconds ≤ length es
      pub small : length es < 2 ^ 28

    -- one heap has each open node once, or none is open
    pub record IsHeap (root : ℕ) : Type 0 where
      pub all_open : HaveOpen NONE root
      pub alone : list_len es root ≤ 1

  -- the first heap of the list from `other` is joined with that of the list from `one`: the one that
  -- comes out stands before the rest of the list from `one`
  pub record IsJoined (before : N → N → Bool) (old new : List (Entry N)) (one other root : ℕ) : Type 0 where
    pub lists : HaveOpen before new (next_of old other) root
    pub shorter : list_len old other ≡ list_len new (next_of old other) + 1
    pub as_long : list_len new root ≡ list_len old one
    pub within : root < length new
    pub kept : KeepsNodes old new

  -- the first heap of the list from `todo` is put before the list from `done`
  pub record IsShifted (before : N → N → Bool) (old new : List (Entry N))
      (todo done rest : ℕ) : Type 0 where
    pub lists : HaveOpen before new rest todo
    pub shorter : list_len old todo ≡ list_len new rest + 1
    pub longer : list_len new todo ≡ list_len old done + 1
    pub kept : KeepsNodes old new

  -- the heap of `id` stands by itself, and that of `root` has the other open nodes
  pub record AreBeside (before : N → N → Bool) (es : List (Entry N)) (root id : ℕ) : Type 0 where
    pub lists : HaveOpen before es id root
    pub alone : list_len es root ≤ 1
    pub last : next_of es id ≡ NONE

  -- the heap of `id` is taken from below `root`
  pub record IsDetached (before : N → N → Bool) (old new : List (Entry N)) (root id : ℕ) : Type 0 where
    pub beside : AreBeside before new root id
    pub kept : KeepsNodes old new
