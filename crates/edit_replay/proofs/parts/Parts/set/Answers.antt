use Rattle.std.proofs.Common.{◌*◌, ◌≤◌, Bool, rules, ap, sym, ◌∙◌, subst, arith}
use Rattle.grid_moves.specs.declared.Ground.TheVariants.{Land, Water}
use Rattle.grid_moves.specs.Grid.{GridData, grid_with, is_free, is_ground}
use Rattle.grid_moves.specs.Layers.{Layers}
use Rattle.grid_moves.proofs.Layering.{is_inside-water, same_ground}
use Rattle.bit_grid.specs.Bits.{AreBitsOf}
use Rattle.plus_tables.specs.Tables.{AreTablesOf}
use Rattle.edit_replay.proofs.Following.{before_edit, found_by_bits, mended_both}
use Rattle.edit_replay.specs.Mended.{AreMended, MendsWithin}
use Rattle.edit_replay.proofs.parts.Parts.set.Goals as goal

pub mend-requires-clause-before : goal.mend-requires-clause-before
mend-requires-clause-before g c =
    let arm = c.in-Jumps-Tables-default in
    let kept = rw (arm.is, arm.finder-is) at c.requires.kept.serves in
    let ls = c.args.self.now.layers in
    let land = c.both.ensures.land ∙ ap (λ (ls : Layers). ls.land) c.set.ensures in
    let was = c.free-was_land.ensures ∙ ap (λ (g : GridData). is_free g c.args.c) c.land.ensures in
    subst (λ (h : GridData). AreTablesOf arm.tables.land h)
    (sym (before_edit ls.land c.args.c (is_ground Land c.args.to) c.free-was_land.result
    c.requires.inside was land))
    kept.1.0

pub mend-requires-in-Jumps-Tables-default-clause-before
    : goal.mend-requires-in-Jumps-Tables-default-clause-before
mend-requires-in-Jumps-Tables-default-clause-before g c =
    let arm = c.in-Jumps-Tables-default in
    let kept = rw (arm.is, arm.finder-is) at c.requires.kept.serves in
    let ls = c.args.self.now.layers in
    let water = c.both.ensures.water ∙ ap (λ (ls : Layers). ls.water) c.set.ensures in
    let was = c.free-was_water.ensures ∙ ap (λ (g : GridData). is_free g c.args.c) c.water.ensures in
    subst (λ (h : GridData). AreTablesOf arm.tables.water h)
    (sym (before_edit ls.water c.args.c (is_ground Water c.args.to) c.free-was_water.result
    (is_inside-water ls c.requires.kept.layers c.args.c ∙ c.requires.inside) was water))
    kept.1.1

pub returns-in-Jumps-Tables-default-clause-counted : goal.returns-in-Jumps-Tables-default-clause-counted
returns-in-Jumps-Tables-default-clause-counted g c =
    let arm = c.in-Jumps-Tables-default in
    let old = c.args.self.now.layers in
    let new = c.set.new.self in
    let of_land = c.mend.ensures.counted in
    let of_water = c.mend-in-Jumps-Tables-default.ensures.counted in
    let land = c.both.ensures.land in
    let water = c.both.ensures.water in
    let was_land = c.free-was_land.ensures ∙ ap (λ (g : GridData). is_free g c.args.c) c.land.ensures in
    let was_water = c.free-was_water.ensures ∙ ap (λ (g : GridData). is_free g c.args.c) c.water.ensures in
    let mended : AreMended old new c.args.steps.now c.mend-in-Jumps-Tables-default.new.steps = record {
      land = of_land.0;
      water = of_water.0;
      mends_land = subst (λ (h : GridData). MendsWithin h new.land of_land.0)
          (before_edit old.land c.args.c (is_ground Land c.args.to) c.free-was_land.result c.requires.inside
          was_land (ap (λ (ls : Layers). ls.land) c.set.ensures))
          (subst (λ (h : GridData). MendsWithin
          (grid_with h c.args.c c.free-was_land.result) h of_land.0) land
          of_land.1);
      mends_water = subst (λ (h : GridData). MendsWithin h new.water of_water.0)
          (before_edit old.water c.args.c (is_ground Water c.args.to) c.free-was_water.result
          (is_inside-water old c.requires.kept.layers c.args.c ∙ c.requires.inside)
          was_water (ap (λ (ls : Layers). ls.water) c.set.ensures))
          (subst (λ (h : GridData). MendsWithin
          (grid_with h c.args.c c.free-was_water.result) h of_water.0) water
          of_water.1);
      within = omega (arith, of_land.2, of_water.2);
    } in
    mended_both c.args.self.now.kept arm.tables arm.space old new c.args.steps.now
    c.mend-in-Jumps-Tables-default.new.steps (search rules) mended

pub returns-in-Jumps-Bits-default-clause-kept : goal.returns-in-Jumps-Bits-default-clause-kept
returns-in-Jumps-Bits-default-clause-kept g c =
    let arm = c.in-Jumps-Bits-default in
    let old = c.args.self.now.layers in
    let found = found_by_bits old _ _ _ _ arm.is arm.finder-is c.requires.kept.serves in
    let kept = rw arm.is at c.requires.kept.serves in
    let water = is_inside-water old c.requires.kept.layers c.args.c ∙ c.requires.inside in
    record {
      layers = c.both.ensures.layers;
      serves = (
        record {
          enough = subst (λ (ls : Layers). ls.land.height * ls.land.width
              ≤ arm.space.places) (sym c.set.ensures)
              kept.0.enough;
        },
        (
          subst (λ (g : GridData). AreBitsOf c.set-in-Jumps-Bits-default.new.self g)
              (sym (ap (λ (ls : Layers). ls.land) c.set.ensures
              ∙ ap (λ (b : Bool). grid_with old.land c.args.c b)
              (sym (c.eq.ensures ∙ same_ground c.args.to Land))))
              (c.set-in-Jumps-Bits-default.ensures.edited _ found.0 c.requires.inside),
          subst (λ (g : GridData). AreBitsOf c.set-in-Jumps-Bits-default-2.new.self g)
              (sym (ap (λ (ls : Layers). ls.water) c.set.ensures
              ∙ ap (λ (b : Bool). grid_with old.water c.args.c b)
              (sym (c.eq-in-Jumps-Bits-default.ensures ∙ same_ground c.args.to Water))))
              (c.set-in-Jumps-Bits-default-2.ensures.edited _ found.1 water),
        ),
      );
    }
