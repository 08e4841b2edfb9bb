-- What a map makes of the queries of a scenario's entries.
use Rattle.std.specs.Prelude.{◌≡◌, Bool, true, false, nat_eq, ◌&&◌, if◌then◌else◌, Option, Some, None, refl}
use Rattle.std.specs.Prelude.{ℕ, codes, not}
use Rattle.root2_cost.specs.declared.Cost.{Cost}
use Rattle.grid_moves.specs.declared.Cell.{Cell}
use Rattle.grid_moves.specs.declared.Corner.TheVariants.{Never}
use Rattle.grid_moves.specs.Layers.{Layers, is_on_map, layers_of, query_grid, shore}
use Rattle.grid_moves.specs.Reply as answer
use Rattle.grid_moves.specs.Reply.{IsRight, are_free_ends}
use Rattle.edit_replay.specs.declared.reply.Reply.{Reply}
use Rattle.edit_replay.specs.declared.reply.Reply.TheVariants as reply
use Rattle.plain_search.specs.Costs.{IsCostTo, least_cost}
use Rattle.scen_text.specs.declared.entry.Entry.{Entry}
use Rattle.scen_maker.specs.declared.costs.Settled.{Settled}
use Rattle.scen_maker.specs.declared.costs.Settled.TheVariants as settled

-- the entry is meant for a map of these sides
abbrev pub has_sides : Layers → Entry → Bool
has_sides ls entry = nat_eq entry.w ls.land.width && nat_eq entry.h ls.land.height

-- the ends of the entry's query
abbrev pub start_of : Entry → Cell
start_of entry = record { x = entry.sx; y = entry.sy }

abbrev pub goal_of : Entry → Cell
goal_of entry = record { x = entry.gx; y = entry.gy }

-- what a reply tells of the least cost
abbrev pub cost_in : Reply → Option Cost
cost_in (reply.Walk points cost taken) = Some cost
cost_in (reply.None taken) = None
cost_in reply.Outside = None
cost_in reply.Blocked = None

-- what a least walk between two free cells of the map costs, on the grid of the query; nothing where none
-- leads from one to the other
abbrev pub least_between : Layers → Cell → Cell → Option Cost
least_between ls from to = least_cost (query_grid ls from) from to

-- what the map makes of the entry's query: the entry is meant for another size; else an end lies outside;
-- else one is blocked; else the query is searched
abbrev pub settled_of : Layers → Entry → Settled
settled_of ls entry =
    let from = start_of entry in
    let to = goal_of entry in
    if not (has_sides ls entry) then settled.Scale
    else if not (is_on_map ls from && is_on_map ls to) then settled.Outside
    else if not (are_free_ends ls from to) then settled.Blocked
    else settled.Searched from to (least_between ls from to)

-- the entry is meant for this map, its ends are these free cells, and a least walk between them costs so
-- much, on the grid of the query; or none leads from one to the other
pub record IsSearched (ls : Layers) (entry : Entry) (from to : Cell) (found : Option Cost) : Type 0 where
  pub sides : has_sides ls entry ≡ true
  pub start : from ≡ start_of entry
  pub goal : to ≡ goal_of entry
  pub free : are_free_ends ls from to ≡ true
  pub least : IsCostTo (query_grid ls from) from to found

-- the entry is meant for another size; or an end lies outside, or is blocked; else its query was searched
abbrev pub IsSettled : Layers → Entry → Settled → Type 0
IsSettled ls entry settled.Scale = has_sides ls entry ≡ false
IsSettled ls entry settled.Outside =
    (has_sides ls entry ≡ true) × IsRight ls (start_of entry) (goal_of entry) answer.outside
IsSettled ls entry settled.Blocked =
    (has_sides ls entry ≡ true) × IsRight ls (start_of entry) (goal_of entry) answer.blocked
IsSettled ls entry (settled.Searched from to least) = IsSearched ls entry from to least

-- what a least walk costs, where one was found
abbrev pub least_in : Settled → Option Cost
least_in (settled.Searched from to least) = least
least_in other = None

-- each query is settled so
abbrev pub QueriesAreSettled : Type 0
QueriesAreSettled = (ls : Layers) (entry : Entry) → IsSettled ls entry (settled_of ls entry)

-- an entry of the map `.WW/.WW`, from one cell to another
abbrev pub on_shore : ℕ → ℕ → ℕ → ℕ → Entry
on_shore sx sy gx gy = record {
  line = 2;
  bucket = 0;
  name = record { start = 0; end = 5 };
  w = 3;
  h = 2;
  sx = sx;
  sy = sy;
  gx = gx;
  gy = gy;
  length = record { digits = 1; places = 0 };
}

-- worked rows: an end outside the map, and an entry for a map of other sides
pub past_the_border : settled_of shore (on_shore 0 0 3 0) ≡ settled.Outside
past_the_border = refl

pub of_a_smaller_map : settled_of (layers_of Never 2 2 (codes "....")) (on_shore 0 0 1 0) ≡ settled.Scale
of_a_smaller_map = refl
