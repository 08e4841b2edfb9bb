use Rattle.std.proofs.Common.{rules, ◌+◌, ℤ, FitsSigned, inl, refl, w64}
use Rattle.std.proofs.lemmas.Bool.{or_parts}
use Rattle.grid_moves.specs.declared.Dir.{Dir}
use Rattle.grid_moves.specs.declared.Dir.TheVariants.{N, NE, E, SE, S, SW, W, NW}
use Rattle.potential_check.specs.Rising.{towards}
use Rattle.potential_check.proofs.Flat.{flat_ahead, flat_passed, none_steep, one_before}
use Rattle.potential_check.proofs.rising.may_climb.Goals as goal

pub returns : goal.returns
returns c = λ g none.
    let u = c.args.u in
    let from = c.args.middle.here in
    let to : Dir → ℤ = towards c.args.left c.args.middle c.args.right in
    let fits : FitsSigned w64 from = search rules in
    let west = one_before u.x c.before-west.result c.before-west.ensures.is in
    let north = one_before u.y c.before-north.result c.before-north.ensures.is in
    let but_nw = or_parts _ c.would_climb-nw.result none in
    let but_w = or_parts _ c.would_climb-w.result but_nw.0 in
    let but_sw = or_parts _ c.would_climb-sw.result but_w.0 in
    let but_s = or_parts _ c.would_climb-s.result but_sw.0 in
    let but_se = or_parts _ c.would_climb-se.result but_s.0 in
    let but_e = or_parts _ c.would_climb-e.result but_se.0 in
    let but_ne = or_parts c.would_climb-n.result c.would_climb-ne.result but_e.0 in
    none_steep g u from to
    (flat_ahead g u N u.x c.before-north.result from (to N) (inl refl) north
    (flat_passed _ from (to N) c.would_climb-n.result fits (search rules) c.would_climb-n.ensures but_ne.0))
    (flat_ahead g u NE (u.x + 1) c.before-north.result from (to NE) (inl refl) north
    (flat_passed _ from (to NE) c.would_climb-ne.result fits
    (search rules) c.would_climb-ne.ensures but_ne.1))
    (flat_ahead g u E (u.x + 1) u.y from (to E) (inl refl) (inl refl)
    (flat_passed _ from (to E) c.would_climb-e.result fits (search rules) c.would_climb-e.ensures but_e.1))
    (flat_ahead g u SE (u.x + 1) (u.y + 1) from (to SE) (inl refl) (inl refl)
    (flat_passed _ from (to SE) c.would_climb-se.result fits
    (search rules) c.would_climb-se.ensures but_se.1))
    (flat_ahead g u S u.x (u.y + 1) from (to S) (inl refl) (inl refl)
    (flat_passed _ from (to S) c.would_climb-s.result fits (search rules) c.would_climb-s.ensures but_s.1))
    (flat_ahead g u SW c.before-west.result (u.y + 1) from (to SW) west (inl refl)
    (flat_passed _ from (to SW) c.would_climb-sw.result fits
    (search rules) c.would_climb-sw.ensures but_sw.1))
    (flat_ahead g u W c.before-west.result u.y from (to W) west (inl refl)
    (flat_passed _ from (to W) c.would_climb-w.result fits (search rules) c.would_climb-w.ensures but_w.1))
    (flat_ahead g u NW c.before-west.result c.before-north.result from (to NW) west north
    (flat_passed _ from (to NW) c.would_climb-nw.result fits
    (search rules) c.would_climb-nw.ensures but_nw.1))
