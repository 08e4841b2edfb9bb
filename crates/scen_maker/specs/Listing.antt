-- How far the lines of entries have come.
use Rattle.std.specs.Prelude.{◌≡◌, ℕ, List}
use Rattle.std.specs.List.{list_all}
use Rattle.scen_text.specs.declared.entry.Entry.{Entry}
use Rattle.scen_maker.specs.Lengths.{is_line, length_lines, lengths_status}
use Rattle.scen_maker.specs.declared.lengths.Lengths.{Lengths}

-- these are the lines of the entries, and it is known whether all of them have one
pub record HaveListed (first now : Lengths) (entries : List Entry) (lines : List (List ℕ)) : Type 0 where
  pub are : lines ≡ length_lines first.costs first.text.items entries
  pub known : now.all ≡ list_all is_line lines
  pub same : now.costs ≡ first.costs
  pub kept : now.text ≡ first.text

-- these are the lines of the entries, and the status is theirs
pub record AreListed (first : Lengths) (entries : List Entry) (lines : List (List ℕ)) (status : ℕ) : Type
    0 where
  pub are : lines ≡ length_lines first.costs first.text.items entries
  pub same_status : status ≡ lengths_status (length_lines first.costs first.text.items entries)
