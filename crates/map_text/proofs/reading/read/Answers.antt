use Rattle.std.proofs.Common.{◌≡◌, refl, ℕ, [], ◌∷◌, ◌++◌, ◌+◌, ◌≤◌, List, take, drop, ap, subst, sym, ◌∙◌}
use Rattle.std.proofs.Common.{length, arith, Result, Ok}
use Rattle.std.specs.List.{concat}
use Rattle.std.proofs.lemmas.List.{length_push}
use Rattle.std.proofs.lemmas.Result.{err_from_is_err_and}
use Rattle.text_line.specs.Lines.{lines_of}
use Rattle.text_line.specs.Left.{Left}
use Rattle.map_text.specs.declared.fault.MapFault.{MapFault}
use Rattle.map_text.specs.declared.fault.MapFault.TheVariants.{After}
use Rattle.map_text.specs.Map.{Map, IsMap}
use Rattle.map_text.specs.Faults.{height_of, width_of}
use Rattle.map_text.specs.Progress.{StandsAfterHeader}
use Rattle.map_text.proofs.Body.{row_passed, row_added, row_wrong, empty_passed, other_wrong, all_clean}
use Rattle.map_text.proofs.Body.{is_nothing_is}
use Rattle.map_text.proofs.Clean.{clean_map}
use Rattle.map_text.proofs.Spelled.{same_map}
use Rattle.map_text.proofs.Laws.{broken_tells, map_of_broken, map_of_clean}
use Rattle.map_text.proofs.reading.read.Goals as goal

pub returns-in_err-height : goal.returns-in_err-height
returns-in_err-height c =
    let p = err_from_is_err_and c.from_residual.result c.from_residual.ensures.1 in
    rw (p.1, p.2) (broken_tells c.args.text.now c.of-lines.result.lines c.in_err-height.field-0.0
    (ap (λ (left : Left). left.lines) c.of-lines.ensures) c.in_err-height.ensures)

pub returns-in_err-row_of : goal.returns-in_err-row_of
returns-in_err-row_of c =
    let lines = ap (λ (left : Left). left.lines) c.of-lines.ensures in
    let header = subst (λ (all : List (List ℕ)). StandsAfterHeader all c.header.new.lines
    (c.in_ok-height.height, c.in_ok-height.width)) lines c.in_ok-height.ensures in
    let wrong = row_wrong (lines_of c.args.text.now) c.loop-row.row c.in_ok-height.height c.in_ok-height.width
    c.loop-row.lines c.next.new.self c.next.result header.height header.width c.loop-row-test.true
    c.loop-row.invariant.stands c.next.ensures.steps c.in_err-row_of.field-0.0 c.in_err-row_of.ensures in
    let p =
    err_from_is_err_and c.from_residual-in_err-row_of.result c.from_residual-in_err-row_of.ensures.1 in
    rw (p.1, p.2) (broken_tells c.args.text.now (lines_of c.args.text.now)
    c.in_err-row_of.field-0.0 refl wrong)

pub loop-row-preserved : goal.loop-row-preserved
loop-row-preserved c =
    let lines = ap (λ (left : Left). left.lines) c.of-lines.ensures in
    let header = subst (λ (all : List (List ℕ)). StandsAfterHeader all c.header.new.lines
    (c.in_ok-height.height, c.in_ok-height.width)) lines c.in_ok-height.ensures in
    let right = c.in_ok-row_of.ensures in
    let passed = row_passed (lines_of c.args.text.now) c.loop-row.row c.in_ok-height.height
    c.in_ok-height.width c.loop-row.lines c.next.new.self c.next.result header.height header.width
    c.loop-row-test.true c.loop-row.invariant.stands c.next.ensures.steps right.0 in
    let added = row_added (lines_of c.args.text.now) c.loop-row.row c.in_ok-height.height c.in_ok-height.width
    c.loop-row.lines c.next.new.self c.next.result header.height header.width c.loop-row-test.true
    c.loop-row.invariant.stands c.next.ensures.steps c.in_ok-row_of.field-0.now right.1 in
    record {
      stands = passed;
      cells = rw (c.in_ok-extend_from_slice.ensures.items, c.loop-row.invariant.cells)
          (sym added);
    }

pub returns-then-not-is_empty : goal.returns-then-not-is_empty
returns-then-not-is_empty c =
    let row = c.in_ok-height.height + length c.loop-line.yielded in
    let lines = ap (λ (left : Left). left.lines) c.of-lines.ensures in
    let header = subst (λ (all : List (List ℕ)). StandsAfterHeader all c.header.new.lines
    (c.in_ok-height.height, c.in_ok-height.width)) lines c.in_ok-height.ensures in
    let after : height_of (lines_of c.args.text.now) ≤ row = omega (arith, header.height) in
    let filled = is_nothing_is c.in-Some.line.bytes.now ∙ sym c.if-not-is_empty.ensures in
    λ other. map_of_broken c.args.text.now (After c.in-Some.line.number)
    (other_wrong (lines_of c.args.text.now) row after c.loop-line.line-iterator
    c.next-in-loop-line.new.self c.in-Some.line c.loop-line.invariant c.in-Some.ensures.steps filled)

pub loop-line-preserved : goal.loop-line-preserved
loop-line-preserved c =
    let row = c.in_ok-height.height + length c.loop-line.yielded in
    let lines = ap (λ (left : Left). left.lines) c.of-lines.ensures in
    let header = subst (λ (all : List (List ℕ)). StandsAfterHeader all c.header.new.lines
    (c.in_ok-height.height, c.in_ok-height.width)) lines c.in_ok-height.ensures in
    let after : height_of (lines_of c.args.text.now) ≤ row = omega (arith, header.height) in
    let empty = is_nothing_is c.in-Some.line.bytes.now ∙ sym c.if-not-is_empty.ensures in
    let next : c.in_ok-height.height + length (c.loop-line.yielded ++ c.in-Some.line ∷ []) ≡ row + 1 =
    omega (arith, length_push c.loop-line.yielded c.in-Some.line) in
    rw next (empty_passed (lines_of c.args.text.now) row after c.loop-line.line-iterator
    c.next-in-loop-line.new.self c.in-Some.line c.loop-line.invariant c.in-Some.ensures.steps empty)

pub invariant_of-result : goal.invariant_of-result
invariant_of-result c =
    let row = c.in_ok-height.height + length c.loop-line.yielded in
    let lines = ap (λ (left : Left). left.lines) c.of-lines.ensures in
    let header = subst (λ (all : List (List ℕ)). StandsAfterHeader all c.header.new.lines
    (c.in_ok-height.height, c.in_ok-height.width)) lines c.in_ok-height.ensures in
    let after : height_of (lines_of c.args.text.now) ≤ row = omega (arith, header.height) in
    let clean = all_clean (lines_of c.args.text.now) row after c.loop-line.line-iterator
    c.next-in-loop-line.new.self c.loop-line.invariant c.in-None.ensures.steps in
    let rows : c.loop-row.row ≡ height_of (lines_of c.args.text.now) = omega (arith, header.height) in
    let cells = c.of.ensures ∙ c.loop-row.invariant.cells
    ∙ ap (λ (n : ℕ). concat (take n (drop 4 (lines_of c.args.text.now)))) rows in
    let whole : IsMap c.in_ok-height.width c.in_ok-height.height c.of.result =
    rw (header.width, header.height, cells) (clean_map (lines_of c.args.text.now) clean) in
    record { whole = whole }

pub returns : goal.returns
returns c =
    let row = c.in_ok-height.height + length c.loop-line.yielded in
    let lines = ap (λ (left : Left). left.lines) c.of-lines.ensures in
    let header = subst (λ (all : List (List ℕ)). StandsAfterHeader all c.header.new.lines
    (c.in_ok-height.height, c.in_ok-height.width)) lines c.in_ok-height.ensures in
    let after : height_of (lines_of c.args.text.now) ≤ row = omega (arith, header.height) in
    let clean = all_clean (lines_of c.args.text.now) row after c.loop-line.line-iterator
    c.next-in-loop-line.new.self c.loop-line.invariant c.in-None.ensures.steps in
    let rows : c.loop-row.row ≡ height_of (lines_of c.args.text.now) = omega (arith, header.height) in
    let cells = c.of.ensures ∙ c.loop-row.invariant.cells
    ∙ ap (λ (n : ℕ). concat (take n (drop 4 (lines_of c.args.text.now)))) rows in
    let same = same_map (record {
      width = c.in_ok-height.width;
      height = c.in_ok-height.height;
      cells
          = c.of.result;
    }) (width_of (lines_of c.args.text.now)) (height_of (lines_of c.args.text.now))
    (concat (take (height_of (lines_of c.args.text.now)) (drop 4 (lines_of c.args.text.now))))
    (sym header.width) (sym header.height) (sym cells) in
    map_of_clean c.args.text.now clean ∙
    ap (λ (map : Map). let read : Result Map MapFault = Ok map in read) same
