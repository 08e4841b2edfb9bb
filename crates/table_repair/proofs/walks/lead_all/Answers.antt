-- Walk by walk.
use Rattle.std.proofs.Common.{ap, ◌∙◌}
use Rattle.arrayvec.specs.ArrayVec.{ArrayVec}
use Rattle.table_repair.specs.declared.walks.WalkBack.{WalkBack}
use Rattle.table_repair.proofs.InPlace.{place_begins, place_next, place_ends, led_on, its_inside, its_right}
use Rattle.table_repair.proofs.walks.lead_all.Goals as goal
use Rattle.table_repair.proofs.walks.lead_all.Goals.{in-Some, in_default}

abbrev nowhere : WalkBack
nowhere = record { at = record { x = 0; y = 0 } }

pub loop-i-init : goal.loop-i-init
loop-i-init g c = place_begins c.requires.standing

pub walk_on-requires-clause-inside : goal.walk_on-requires-clause-inside
walk_on-requires-clause-inside g c = its_inside nowhere c.loop-i.invariant c.as_slice.ensures.value
    (rw c.len-all.ensures.value at c.loop-i-test.true)

pub walk_on-requires-clause-right : goal.walk_on-requires-clause-right
walk_on-requires-clause-right g c = its_right nowhere c.loop-i.invariant c.as_slice.ensures.value
    (rw c.len-all.ensures.value at c.loop-i-test.true)

pub loop-i-preserved : goal.loop-i-preserved
loop-i-preserved g c =
    let within = rw c.len-all.ensures.value at c.loop-i-test.true in elim c.match-walk_on.branch [
      | in-Some w ↦ place_next nowhere c.loop-i.invariant c.as_slice.ensures.value within
          c.walk_on.ensures.mends c.walk_on.ensures.follows
          c.walk_on.ensures.onward c.walk_on.ensures.step c.walk_on.ensures.later
          w.in-Some.is (ap (λ (v : ArrayVec WalkBack). v.items) w.walks-is ∙ w.set_walk.ensures) w.onward-is
      | in_default w ↦ place_ends nowhere c.loop-i.invariant c.as_slice.ensures.value within
          c.walk_on.ensures.mends c.walk_on.ensures.follows
          c.walk_on.ensures.onward c.walk_on.ensures.step c.walk_on.ensures.later
          w.in_default.is (ap (λ (v : ArrayVec WalkBack). v.items) w.walks-is) w.onward-is
    ]

pub returns : goal.returns
returns g c = led_on c.loop-i.invariant (rw c.len-all.ensures.value at c.loop-i-test.false)
    c.truncate.ensures.items
