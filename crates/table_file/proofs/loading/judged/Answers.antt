use Rattle.std.proofs.lemmas.Bool.Decides.{nat_tests}
use Rattle.std.proofs.Common.{◌≡◌, ◌*◌, ◌/◌, ℕ, arith, refl}
use Rattle.std.proofs.lemmas.Result.{err_from_is_err_and}
use Rattle.table_file.proofs.Comparing.{frame_decides, land_decides, water_decides}
use Rattle.table_file.proofs.loading.judged.Goals as goal

half : (n k : ℕ) → n ≡ 32 * k → n / 2 ≡ 16 * k
half n k is = omega arith

pub returns-in_err-body-clause-exact : goal.returns-in_err-body-clause-exact
returns-in_err-body-clause-exact c = grind (arith, nat_tests, err_from_is_err_and, frame_decides)

pub returns-in_err-first-clause-exact : goal.returns-in_err-first-clause-exact
returns-in_err-first-clause-exact c =
    let p = err_from_is_err_and c.from_residual-in_err-first.result c.from_residual-in_err-first.ensures.1 in
    rw (p.1, p.2) (λ other. land_decides c.args.land.now c.args.water.now c.args.text.now
    c.in_ok-body.ensures.right.0
    c.in_ok-body.body.now c.in_ok-body.ensures.right.1 _
    (c.in_err-first.ensures.exact c.args.land.now c.args.water.now refl other))

pub returns-in_err-second-clause-exact : goal.returns-in_err-second-clause-exact
returns-in_err-second-clause-exact c = grind (arith, nat_tests, err_from_is_err_and, water_decides, half)

pub returns-clause-exact : goal.returns-clause-exact
returns-clause-exact c = grind (arith, nat_tests, water_decides, half)
