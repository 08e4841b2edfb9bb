-- Where the engines for small maps may be picked.
use Rattle.std.specs.Prelude.{◌≡◌, ℕ, Bool, true, false, List, Some}
use Rattle.word_list.specs.declared.request.Settings.{Settings}
use Rattle.word_list.specs.declared.rows.Command.{Command}
use Rattle.word_list.specs.declared.rows.Command.TheVariants.{Query, Scen}
use Rattle.word_list.specs.Calls.{call_of}
use Rattle.word_list.specs.Request.{Call}
use Rattle.word_list.specs.Settings.{is_for_small_maps}

-- whether an engine for small maps may serve a command: one query, and the queries of a scenario
abbrev pub takes_small_maps : Command → Bool
takes_small_maps Query = true
takes_small_maps Scen = true
takes_small_maps other = false

-- the picked engine may serve the command
abbrev pub IsServed : Command → Settings → Type 0
IsServed command set = takes_small_maps command ≡ false → is_for_small_maps set.pick ≡ false

-- words that spell a call pick one only for these two
abbrev pub SmallEnginesServeTwo : Type 0
SmallEnginesServeTwo = (words : List (List ℕ)) (call : Call) → call_of words ≡ Some call
    → IsServed call.request.command call.settings
