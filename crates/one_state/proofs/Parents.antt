-- The cells along the parents are points of a walk, of the cost at which the last one was taken.
use Rattle.std.proofs.Common.{◌≡◌, refl, ap, sym, ◌∙◌, subst, true, false, Bool, List, [], ◌∷◌, ◌++◌}
use Rattle.std.proofs.Common.{append_assoc}
use Rattle.std.specs.Prelude.{Option, Some, None, option_map, if◌then◌else◌}
use Rattle.std.proofs.lemmas.Option.{same_Some}
use Rattle.root2_cost.specs.declared.Cost.{Cost}
use Rattle.root2_cost.specs.Sums.{add_costs}
use Rattle.grid_moves.specs.declared.Cell.{Cell}
use Rattle.grid_moves.specs.Move.{is_same}
use Rattle.grid_moves.specs.Points.{are_lined, segment, steps_between, unfolded_from}
use Rattle.grid_moves.specs.Walk.{last_of}
use Rattle.grid_moves.proofs.Legal.{is_same-cell, is_same-itself}
use Rattle.grid_moves.proofs.Walks.{Goes, last-joined}
use Rattle.pruning.proofs.Exploring.{goes_further}
use Rattle.pruning.proofs.Running.{lined_moved, steps_moved}
use Rattle.pruning.proofs.Table.{by_test}
use Rattle.one_state.specs.Search.{Search, IsSound, Taken, begins, Offers, IsIn, IsRun, begun, further}
use Rattle.one_state.specs.Search.{points_to}
use Rattle.one_state.specs.Laws.{ParentsLeadBack}
use Rattle.one_state.proofs.Settling.{each_of, no_member, offer_walked}

-- one point more behind these
unfolded_further : (s : Cell) (rest cells : List Cell) (b c : Cell) (run : List Cell) → last_of s rest ≡ b
    → unfolded_from s rest ≡ Some cells → are_lined b c ≡ true → segment (steps_between b c) b c ≡ run
    → unfolded_from s (rest ++ (c ∷ [])) ≡ Some (cells ++ run)
unfolded_further s [] cells b c run e u l f =
    let lined : are_lined s c ≡ true = subst (λ (x : Cell). are_lined x c ≡ true) (sym e) l in
    let filled : segment (steps_between s c) s c ≡ run =
    subst (λ (x : Cell). segment (steps_between x c) x c ≡ run) (sym e) f in
    let none : [] ≡ cells = same_Some [] cells u in
    rw (lined, filled, sym none, append-nothing run) refl
  where
    append-nothing : (xs : List Cell) → xs ++ [] ≡ xs
    append-nothing [] = refl
    append-nothing (x ∷ xs) = ap (λ (ys : List Cell). x ∷ ys) (append-nothing xs)
unfolded_further s (v ∷ rest) cells b c run e u l f =
    by_parts (are_lined s v) (unfolded_from v rest) refl refl u
    (λ inner h. unfolded_further v rest inner b c run e h l f)
  where
    by_parts : (lined : Bool) (o : Option (List Cell)) → are_lined s v ≡ lined → unfolded_from v rest ≡ o
        → (if lined then option_map (λ xs. segment (steps_between s v) s v ++ xs) o else None) ≡ Some cells
        → ((inner : List Cell) → unfolded_from v rest ≡ Some inner
        → unfolded_from v (rest ++ (c ∷ [])) ≡ Some (inner ++ run))
        → unfolded_from s (v ∷ (rest ++ (c ∷ []))) ≡ Some (cells ++ run)
    by_parts false o i j h next = absurd (cc)
    by_parts true None i j h next = absurd (cc)
    by_parts true (Some inner) i j h next =
        let first = segment (steps_between s v) s v in
        let whole : first ++ inner ≡ cells = same_Some (first ++ inner) cells h in
        rw (i, next inner j, sym whole)
        (ap (λ (xs : List Cell). Some xs) (sym (append_assoc first inner run)))

module _ (p : Search) (sound : IsSound p) where
  -- the points to a cell, and the walk that they unfold to
  record LeadsBack (all : List Taken) (c : Cell) (cost : Cost) : Type 0 where
    rest : List Cell
    along : points_to all c ≡ p.start ∷ rest
    at_end : last_of p.start rest ≡ c
    cells : List Cell
    unfolds : unfolded_from p.start rest ≡ Some cells
    goes : Goes p.grid p.start c cells cost

  -- the parent's points, and one more
  one_further : (u x : Taken) (earlier : List Taken) → Offers p u x → LeadsBack earlier u.state.cell u.cost
      → LeadsBack (x ∷ earlier) x.state.cell x.cost
  one_further u x earlier o b =
      let run = offer_walked p u x o in
      let c : Cell = x.state.cell in
      record {
        rest = b.rest ++ (c ∷ []);
        along = rw (is_same-itself c, o.parent, b.along) refl;
        at_end = last-joined p.start b.rest (c ∷ []);
        cells = b.cells ++ run.cells;
        unfolds = unfolded_further p.start b.rest b.cells u.state.cell c run.cells b.at_end b.unfolds
            (lined_moved o.dir o.moves u.state.cell c o.hop.some run.moved)
            (ap (λ k. segment k u.state.cell c)
            (steps_moved o.dir o.moves u.state.cell c run.moved) ∙ run.filled);
        goes = subst (λ (q : Cost). Goes p.grid p.start c (b.cells ++ run.cells) q)
            (ap (λ (q : Cost). add_costs u.cost q) run.priced ∙ sym o.priced)
            (goes_further p.grid p.start u.state.cell c b.cells run.cells u.cost b.goes
            (record { legal = run.walks; ends = run.ends }));
      }

  leads_back : (all : List Taken) → IsRun p all → (u : Taken) → IsIn u all → LeadsBack all u.state.cell u.cost
  leads_back _ begun = each_of (λ u. LeadsBack (begins p ∷ []) u.state.cell u.cost) (begins p) []
      (record {
        rest = [];
        along = rw (is_same-itself p.start) refl;
        at_end = refl;
        cells = [];
        unfolds = refl;
        goes = record { legal = sound.free; ends = refl; priced = refl };
      })
      (λ u m. absurd (no_member u m))
  leads_back _ (further x earlier r n o) = each_of
      (λ u. LeadsBack (x ∷ earlier) u.state.cell u.cost) x earlier
      (one_further o.offered.by x earlier o.offered.offers
      (leads_back earlier r o.offered.by o.offered.member))
      (λ u m.
      let b = leads_back earlier r u m in
      let other : is_same x.state.cell u.state.cell ≡ false =
      apart x.state.cell u.state.cell (λ e. o.offered.fresh (record { by = u; member = m; is = sym e })) in
      record {
        rest = b.rest;
        along = rw other b.along;
        at_end = b.at_end;
        cells = b.cells;
        unfolds = b.unfolds;
        goes = b.goes;
      })
    where
      apart : (u v : Cell) → (u ≡ v → ⊥) → is_same u v ≡ false
      apart u v n = by_test (is_same u v) (λ e. absurd (n (is_same-cell u v e))) (λ e. e)

pub parents_lead_back : ParentsLeadBack
parents_lead_back p taken x sound run member =
    let b = leads_back p sound taken run x member in
    record {
      cells = b.cells;
      unfolds = rw (b.along, b.unfolds) refl;
      walk = record { legal = b.goes.legal; ends = b.goes.ends };
      priced = b.goes.priced;
    }
