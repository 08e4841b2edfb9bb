-- Worked rows of the names of commands, by computing.
use Rattle.std.specs.Prelude.{◌≡◌, true, [], bytes_eq, refl}
use Rattle.std.specs.List.{list_all}
use Rattle.word_list.specs.Request.{rows}
use Rattle.jps_run.specs.Calls.{task}

-- each row of the table names the command whose task has that name
pub named_by_tasks : list_all (λ one. bytes_eq one.name (task one.row.command []).name)
    rows ≡ true
named_by_tasks = refl
