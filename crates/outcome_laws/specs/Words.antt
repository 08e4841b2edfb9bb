-- That one word of a refused list is named, that what a call does goes by its name, and that each command is
-- called by one.
use Rattle.std.specs.Prelude.{◌≡◌, ℕ, Bool, List, Some, slice_get}
use Rattle.std.specs.Option.{option_map}
use Rattle.jps_run.specs.Calls.{task, task_of}
use Rattle.word_list.specs.Calls.{call_of, is_call}
use Rattle.word_list.specs.Request.{Call, row_of}
use Rattle.word_list.specs.declared.rows.Command.{Command}
use Rattle.word_list.specs.Rule.{IsBadWord}

-- whatever lists are accepted, two numbers of the named word of one list are equal
abbrev pub BadWordsAreOne : Type 0
BadWordsAreOne = (accepts : List (List ℕ) → Bool) (words : List (List ℕ)) (one other : ℕ)
    → IsBadWord accepts words one → IsBadWord accepts words other → one ≡ other

-- words that spell a call have none
abbrev pub CallsHaveNone : Type 0
CallsHaveNone = (words : List (List ℕ)) (call : Call) (number : ℕ) → call_of words ≡ Some call
    → ¬ IsBadWord is_call words number

-- words that spell a call begin with the name of its command, as the command's task tells it
abbrev pub CallsGoByName : Type 0
CallsGoByName = (words : List (List ℕ)) (call : Call) → call_of words ≡ Some call
    → slice_get words 0 ≡ Some (task_of call).name

-- each command has a row by the name of its task
abbrev pub CommandsAreCalled : Type 0
CommandsAreCalled = (command : Command) (words : List (List ℕ))
    → option_map (λ row. row.command) (row_of (task command words).name) ≡ Some command
