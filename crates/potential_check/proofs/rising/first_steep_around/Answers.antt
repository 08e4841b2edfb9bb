use Rattle.std.proofs.Common.{rules, ◌≡◌, w64}
use Rattle.std.specs.Prelude.{Option, ℤ, FitsSigned}
use Rattle.grid_moves.specs.declared.Cell.{Cell}
use Rattle.grid_moves.specs.declared.Dir.{Dir}
use Rattle.grid_moves.specs.declared.Dir.TheVariants.{N, NE, E, SE, S, SW, W, NW}
use Rattle.grid_moves.specs.Move.{legal_ahead}
use Rattle.potential_check.specs.Rising.{steep_move, towards}
use Rattle.potential_check.proofs.Choices.{eight}
use Rattle.potential_check.proofs.Steep.{passed}
use Rattle.potential_check.proofs.rising.first_steep_around.Goals as goal

pub returns : goal.returns
returns c =
    let u = c.args.u in
    let from = c.args.middle.here in
    let is = c.moves_around-a.ensures.around in
    let height : Dir → ℤ = towards c.args.left c.args.middle c.args.right in
    let ahead : Dir → Option Cell = legal_ahead c.args.g.now u in
    let to : Dir → Option Cell = λ d. steep_move u from (height d) (ahead d) in
    let fits : FitsSigned w64 from = search rules in
    let n : c.steep_move.result ≡ to N =
    passed u from (height N) _ (ahead N) _ fits (search rules) c.steep_move.ensures (is N) in
    let ne : c.steep_move-2.result ≡ to NE =
    passed u from (height NE) _ (ahead NE) _ fits (search rules) c.steep_move-2.ensures (is NE) in
    let e : c.steep_move-3.result ≡ to E =
    passed u from (height E) _ (ahead E) _ fits (search rules) c.steep_move-3.ensures (is E) in
    let se : c.steep_move-4.result ≡ to SE =
    passed u from (height SE) _ (ahead SE) _ fits (search rules) c.steep_move-4.ensures (is SE) in
    let s : c.steep_move-5.result ≡ to S =
    passed u from (height S) _ (ahead S) _ fits (search rules) c.steep_move-5.ensures (is S) in
    let sw : c.steep_move-6.result ≡ to SW =
    passed u from (height SW) _ (ahead SW) _ fits (search rules) c.steep_move-6.ensures (is SW) in
    let w : c.steep_move-7.result ≡ to W =
    passed u from (height W) _ (ahead W) _ fits (search rules) c.steep_move-7.ensures (is W) in
    let nw : c.steep_move-8.result ≡ to NW =
    passed u from (height NW) _ (ahead NW) _ fits (search rules) c.steep_move-8.ensures (is NW) in
    let all = eight (to N) (to NE) (to E) (to SE) (to S) (to SW) (to W) (to NW) in
    cc (
      c.or.ensures,
      c.or-2.ensures,
      c.or-3.ensures,
      c.or-4.ensures,
      c.or-5.ensures,
      c.or-6.ensures,
      c.or-7.ensures,
    )
