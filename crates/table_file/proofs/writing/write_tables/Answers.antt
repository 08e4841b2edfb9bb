use Rattle.std.proofs.Common.{arith}
use Rattle.std.proofs.lemmas.Bool.Decides.{nat_tests}
use Rattle.std.proofs.Common.{◌≡◌, ◌++◌, List, ℕ, Result, ap, ◌∙◌}
use Rattle.std.specs.Prelude.{OnOk, None}
use Rattle.grid_moves.specs.declared.Corner.{Corner}
use Rattle.grid_moves.specs.Grid.{GridData}
use Rattle.table_file.specs.Encoding.{encoding}
use Rattle.table_file.specs.Faults.{table_fault_of}
use Rattle.table_file.proofs.Laws.{encoding_right, file_is, length-encoding}
use Rattle.table_file.proofs.writing.write_tables.Goals as goal

on_ok : {T E P Q R : Type 0} (answer written : Result T E) → answer ≡ written
    → OnOk written P → OnOk written Q
    → (P → Q → R) → OnOk answer R
on_ok answer written same h i all = grind (arith, nat_tests)

loaded_back : (land water : GridData) (corner : Corner) → land.corner ≡ corner
    → table_fault_of land water (encoding corner land water) ≡ None
loaded_back land water corner is = grind (arith, nat_tests, encoding_right)

pub returns-clause-text : goal.returns-clause-text
returns-clause-text c land water are are_too one corner =
    on_ok c.whole_or_nothing.result c.put_file-written.result c.whole_or_nothing.ensures.answer
    c.put_file-written.ensures.ok c.whole_or_nothing.ensures.ok
    (λ put kept. kept ∙ put ∙ ap (λ (l : List ℕ). c.args.out.now.items ++ l)
    (file_is land water c.args.corner c.args.land.now c.args.water.now one are are_too
    c.put_file-written.ensures.land c.put_file-written.ensures.water))

pub returns-clause-size : goal.returns-clause-size
returns-clause-size c land water = length-encoding land water c.args.corner

pub returns-clause-right : goal.returns-clause-right
returns-clause-right c land water is = loaded_back land water c.args.corner is
