-- The first of the directions that begin least walks.
use Rattle.std.proofs.Common.{◌≡◌, ℕ, suc, ◌*◌, ◌<◌, arith, refl, ap, sym, ◌∙◌, subst, Bool, true, false, inl}
use Rattle.std.proofs.Common.{inr, List, [], ◌∷◌, length, get_or, map}
use Rattle.std.specs.Prelude.{◌&&◌, Option, Some, None, nat_eq, if◌then◌else◌, IsTrue, ◌↔◌}
use Rattle.std.proofs.lemmas.Bool.{cases_lt, eqb-true}
use Rattle.std.proofs.lemmas.List.{length-map, get_or-map}
use Rattle.grid_moves.specs.declared.Cell.{Cell}
use Rattle.grid_moves.specs.declared.Dir.{Dir}
use Rattle.grid_moves.specs.Grid.{GridData, cell_number, is_inside}
use Rattle.grid_moves.specs.Move.{all_dirs, dir_number, is_legal}
use Rattle.grid_moves.specs.Walk.{IsLeastWalk, is_walk}
use Rattle.grid_moves.proofs.Ahead.{legal_ahead-of}
use Rattle.root2_cost.specs.declared.Cost.{Cost}
use Rattle.cost_waves.specs.Begin.{Begins, IsCostTo}
use Rattle.cost_waves.specs.Stored.{WaveData, Tells, cost_at}
use Rattle.std.specs.List.{find}
use Rattle.cost_waves.specs.Stored.{has_dir}
use Rattle.first_moves.specs.First.{IsFirstMove, first_in}
use Rattle.first_moves.specs.declared.row.Run.{Run}
use Rattle.first_moves.specs.Row.{IsRow}
use Rattle.first_moves.specs.Runs.{runs_of}
use Rattle.grid_moves.proofs.Legal.{and_both}
use Rattle.grid_moves.proofs.Places.{inside_below}
use Rattle.grid_moves.proofs.Dirs.{dir_number-few, one_dir}

-- no direction of lesser number has the property
abbrev NoneBefore : (Dir → Bool) → ℕ → Type 0
NoneBefore has k = (e : Dir) → dir_number e < k → has e ≡ false

none_more : (has : Dir → Bool) (k : ℕ) (d : Dir) → dir_number d ≡ k → has d ≡ false → NoneBefore has k
    → NoneBefore has (suc k)
none_more has k d n f before e h = elim (cases_lt (dir_number e) k) [
  | inl less ↦ before e less
  | inr more ↦
      let is : dir_number e ≡ k = omega arith in
      subst (λ (c : Dir). has c ≡ false) (sym (one_dir e d (is ∙ sym n))) f
]

-- of the directions with the property, one before which there is none is the first move
found : (g : GridData) (s t : Cell) (has : Dir → Bool) → ((d : Dir) → IsTrue (has d) ↔ Begins g s t d)
    → (d : Dir) → has d ≡ true → NoneBefore has (dir_number d) → IsFirstMove g s t (Some d)
found g s t has iff d h before = (
  (iff d).0 h,
  λ e b. elim (cases_lt (dir_number e) (dir_number d)) [
    | inl less ↦ absurd (let here = (iff e).1 b in let none = before e less in cc)
    | inr more ↦ more
  ],
)

-- where there is none at all, there is no first move
not_found : (g : GridData) (s t : Cell) (has : Dir → Bool) → ((d : Dir) → IsTrue (has d) ↔ Begins g s t d)
    → (o : Option Cost) → IsCostTo g s t o → NoneBefore has 8 → IsFirstMove g s t None
not_found g s t has iff None cost none = inr cost
not_found g s t has iff (Some c) cost none = by_cells cost.cells cost.least
  where
    by_cells : (cells : List Cell) → IsLeastWalk g s t cells → IsFirstMove g s t None
    by_cells [] l = inl l.walk.ends
    by_cells (v ∷ cells) l =
        let parts = and_both (is_legal g s v) (is_walk g (v ∷ cells)) l.walk.legal in
        let a = legal_ahead-of g s v parts.0 in
        let not = none a.0 (dir_number-few a.0) in
        let is : has a.0 ≡ true = (iff a.0).1 (record { next = v; ahead = a.1; cells = cells; least = l }) in
        absurd (cc)

-- these are the directions from a number on
abbrev are_from : ℕ → List Dir → Bool
are_from k [] = nat_eq k 8
are_from k (d ∷ dirs) = nat_eq (dir_number d) k && are_from (suc k) dirs

-- the first direction with the property is the first move, where those that have it begin least walks
module _ (g : GridData) (s t : Cell) (has : Dir → Bool) (iff : (d : Dir) → IsTrue (has d) ↔ Begins g s t d)
    (o : Option Cost) (cost : IsCostTo g s t o) where
  first_from : (k : ℕ) (dirs : List Dir) → are_from k dirs ≡ true → NoneBefore has k
      → IsFirstMove g s t (find has dirs)
  first_from k [] all before =
      let end : k ≡ 8 = eqb-true k 8 all in not_found g s t has iff o cost (λ e h. before e (omega arith))
  first_from k (d ∷ dirs) all before =
      let parts = and_both (nat_eq (dir_number d) k) (are_from (suc k) dirs) all in
      let here : dir_number d ≡ k = eqb-true (dir_number d) k parts.0 in
      elim (has d) as (λ b. has d ≡ b → IsFirstMove g s t (if b then Some d else find has dirs)) [
        | true ↦ λ h. found g s t has iff d h (λ e l. before e (omega arith))
        | false ↦ λ h. first_from (suc k) dirs parts.1 (none_more has k d here h before)
      ] refl

  pub first_is : IsFirstMove g s t (find has all_dirs)
  first_is = first_from 0 all_dirs refl (λ e l. absurd (omega arith))

pub same_size : {k m n h w : ℕ} → m ≡ h → n ≡ w → k ≡ m * n → k ≡ h * w
same_size {k = k} {m = m} {n = n} {h = h} {w = w} p q e = e ∙ ap (λ (j : ℕ). j * n) p
    ∙ ap (λ (j : ℕ). h * j) q

-- what a pass tells is the row of its start
pub waves_row : (g : GridData) (s : Cell) (w : WaveData) (runs : List Run) → w.width ≡ g.width
    → length w.firsts ≡ g.height * g.width → Tells g s w → runs ≡ runs_of (map first_in w.firsts)
    → IsRow g s runs
waves_row g s w runs wide whole tells cut = record {
  members = map first_in w.firsts;
  whole = length-map w.firsts first_in ∙ whole;
  moves = moves;
  cut = cut;
}
  where
    moves : (t : Cell) → is_inside g t ≡ true
        → IsFirstMove g s t (get_or (map first_in w.firsts) (cell_number g.width t) None)
    moves t i =
        let low = inside_below g t i in
        let within : cell_number g.width t < length w.firsts =
        subst (λ (n : ℕ). cell_number g.width t < n) (sym whole) low in
        let is : get_or (map first_in w.firsts) (cell_number g.width t) None
        ≡ first_in (get_or w.firsts (cell_number w.width t) 0) =
        get_or-map first_in w.firsts (cell_number g.width t) 0 None within
        ∙ ap (λ (n : ℕ). first_in (get_or w.firsts (cell_number n t) 0)) (sym wide) in
        subst (λ (o : Option Dir). IsFirstMove g s t o) (sym is)
        (first_is g s t (has_dir (get_or w.firsts (cell_number w.width t) 0)) (λ d. tells.firsts t d i)
        (cost_at w t) (tells.costs t i))
