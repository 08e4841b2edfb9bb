-- The lines of costs.
use Rattle.std.proofs.Common.{◌≡◌, ◌≤◌, ◌<◌, ◌+◌, ◌-◌, zero, suc, refl, sym, ap, ◌∙◌, subst, List, [], ◌∷◌}
use Rattle.std.proofs.Common.{◌++◌, ℕ, Bool, true, false, inl, inr, map, append-nil, append_assoc, arith}
use Rattle.std.specs.Prelude.{◌≢◌, ◌&&◌, nat_lt, if◌then◌else◌, codes, OnOk, Option, Some, None, Result, Ok}
use Rattle.std.specs.Prelude.{Err}
use Rattle.std.specs.Global.{Vec}
use Rattle.std.proofs.lemmas.Bool.Decides.{nat_tests}
use Rattle.std.proofs.lemmas.List.{map-append, map-id}
use Rattle.std.proofs.lemmas.List.FromFn.{fill_by_all, get_or-map-range_with_len, length-map-range_with_len}
use Rattle.std.proofs.lemmas.List.FromFn.{map-range_with_len_more}
use Rattle.std.specs.List.{concat, range_with_len}
use Rattle.root2_cost.specs.declared.Cost.{Cost}
use Rattle.cost_waves.specs.Stored.{Tells, WaveData, cost_at}
use Rattle.grid_moves.specs.declared.Cell.{Cell}
use Rattle.grid_moves.specs.Grid.{GridData, is_free}
use Rattle.grid_moves.proofs.Legal.{free_inside}
use Rattle.grid_moves.specs.Layers.{Layers, is_free_ground, query_grid}
use Rattle.grid_answers.specs.Distances.{cost_field, costs_answer, row_line, cost_lines, line_of_costs}
use Rattle.grid_answers.specs.Distances.{fields_to}
use Rattle.plain_search.specs.Costs.{least_cost}
use Rattle.plain_search.proofs.LeastCosts.{costs_are}
use Rattle.move_field.specs.Field.{field_text}
use Rattle.grid_answers.specs.Framed.{frame_line, framed_costs, framed_field}
use Rattle.grid_answers.specs.OfCell.{why_untold}
use Rattle.grid_answers.specs.Printing.{ArePrinted, HavePrinted, TellCosts, printed_line, row_costs}
use Rattle.grid_answers.proofs.Cells.{free-on, is-line, is-told}
use Rattle.line_work.specs.Working.{Adds, CanComplete, IsLeft}
use Rattle.grid_answers.specs.declared.costs.Distances.{Distances}
use Rattle.grid_answers.specs.declared.costs.CostLines.TheVariants as written

-- one field more, and one number
pub field-next : (costs : ℕ → Option Cost) (x : ℕ)
    → fields_to costs (x + 1) ≡ fields_to costs x ++ codes " " ++ cost_field (costs (x + 1))
field-next costs x = subst
    (λ (k : ℕ). fields_to costs k ≡ fields_to costs x ++ codes " " ++ cost_field (costs k)) {x = suc x}
    {y = x + 1} (omega arith) refl

pub fields-more : (costs : ℕ → Option Cost) (x : ℕ) (start at blank now : List ℕ) (cost : Option Cost)
    → at ≡ start ++ fields_to costs x → blank ≡ at ++ codes " " → now ≡ blank ++ cost_field cost
    → cost ≡ costs (x + 1) → now ≡ start ++ fields_to costs (x + 1)
fields-more costs x start at blank now cost a b put is =
    put ∙ ap (λ (l : List ℕ). l ++ cost_field cost) (b ∙ ap (λ (l : List ℕ). l ++ codes " ") a)
    ∙ ap (λ (l : List ℕ). l ++ cost_field cost) (append_assoc start (fields_to costs x) (codes " "))
    ∙ append_assoc start (fields_to costs x ++ codes " ") (cost_field cost)
    ∙ ap (λ (o : Option Cost). start ++ (fields_to costs x ++ codes " " ++ cost_field o)) is
    ∙ ap (λ (l : List ℕ). start ++ l) (sym (field-next costs x))

-- one row more is printed
pub printed-more : {T E : Type 0} (result : Result T E) (job : Distances) (row : ℕ) (before after : List ℕ)
    → OnOk result (after ≡ before ++ printed_line job.waves row)
    → OnOk result ((first : Distances) (rows : List ℕ) (lines : List (List ℕ))
    → HavePrinted first job rows lines
    → Adds (HavePrinted first job (rows ++ row ∷ [])) lines before after)
printed-more (Err error) job row before after put = tt
printed-more (Ok done) job row before after put = λ first rows lines h.
    let f : ℕ → List ℕ = printed_line first.waves in
    record {
      more = f row ∷ [];
      stand = record {
        all = ap (λ (l : List (List ℕ)). l ++ f row ∷ []) h.all ∙ sym (map-append f rows (row ∷ []));
        same = h.same;
      };
      appended = put ∙ ap (λ (w : WaveData). before ++ printed_line w row) h.same
          ∙ ap (λ (l : List ℕ). before ++ l) (sym (append-nil (f row)));
    }

-- the first lines can be completed
pub printed-complete : CanComplete HavePrinted ArePrinted false
printed-complete first now some others lines h =
    let f : ℕ → List ℕ = printed_line first.waves in
    record {
      more = map f others;
      status = 0;
      whole = record {
        all = ap (λ (l : List (List ℕ)). l ++ map f others) h.all ∙ sym (map-append f some others);
        good = refl;
      };
      some = left-over f others;
    }
  where
    left-over : (f : ℕ → List ℕ) (others : List ℕ) → IsLeft false others → map f others ≢ []
    left-over f [] (inl left) = absurd (left refl)
    left-over f (c ∷ others) (inl left) = λ empty. (let never : f c ∷ map f others ≡ [] = empty in cc)
    left-over f others (inr closed) = absurd (let never : false ≡ true = closed in cc)

-- and all are there at the end
pub printed-all : (job : Distances) (before : List ℕ) (first : Distances) (rows : List ℕ)
    (lines : List (List ℕ))
    → HavePrinted first job rows lines → Adds (λ all. ArePrinted first rows all 0) lines before before
printed-all job before first rows lines h = record {
  more = [];
  stand = record { all = append-nil lines ∙ h.all; good = refl };
  appended = sym (append-nil before);
}

below_test : (m n : ℕ) → m < n → nat_lt m n ≡ true
below_test m n h = grind (arith, nat_tests)

within : (a b : Bool) (o : Option Cost) → a ≡ true → b ≡ true → (if a && b then o else None) ≡ o
within true true o e f = refl
within true false o e f = absurd (cc)
within false b o e f = absurd (cc)

both : (a b : Bool) → a ≡ true → b ≡ true → (a && b) ≡ true
both true b e f = f
both false b e f = e

-- fields of the same costs are the same
fields-same : (p q : ℕ → Option Cost) (n : ℕ) → ((x : ℕ) → x ≤ n → p x ≡ q x) → fields_to p n ≡ fields_to q n
fields-same p q zero same = ap (λ (c : Option Cost). cost_field c) (same 0 (omega arith))
fields-same p q (suc n) same =
    ap (λ (f : List ℕ). f ++ codes " " ++ cost_field (p (suc n)))
    (fields-same p q n (λ x below. same x (omega arith)))
    ∙ ap (λ (c : Option Cost). fields_to q n ++ codes " " ++ cost_field c) (same (suc n) (omega arith))

-- what a pass from a free cell stores are its least costs
module _ (g : GridData) (s : Cell) (free : is_free g s ≡ true) (w : WaveData) (tells : Tells g s w)
    (wide : w.width ≡ g.width) (high : w.height ≡ g.height) where
  cost-is : (y x : ℕ) → y < g.height → x < g.width → row_costs w y x
      ≡ least_cost g s (record { x = x; y = y })
  cost-is y x low near =
      let c : Cell = record { x = x; y = y } in
      within (nat_lt x w.width) (nat_lt y w.height) (cost_at w c)
      (below_test x w.width (omega (arith, near, wide)))
      (below_test y w.height (omega (arith, low, high)))
      ∙ (costs_are g s c free).only (cost_at w c) (tells.costs c (both (nat_lt x g.width) (nat_lt y g.height)
      (below_test x g.width near) (below_test y g.height low)))

  line-is : (y : ℕ) → y < g.height → printed_line w y ≡ row_line g s y
  line-is y low =
      let some : s.x < g.width = (free_inside g s free).0 in
      ap (λ (k : ℕ). line_of_costs k (row_costs w y)) wide
      ∙ ap (λ (f : List ℕ). f ++ codes "\n") (fields-same (row_costs w y)
      (λ x. least_cost g s (record { x = x; y = y })) (g.width - 1)
      (λ x near. cost-is y x low (omega (arith, some, near))))

  lines-are : map (printed_line w) (range_with_len 0 g.height) ≡ cost_lines g s
  lines-are = fill_by_all (row_line g s) (map (printed_line w) (range_with_len 0 g.height)) g.height []
      (length-map-range_with_len (printed_line w) 0 g.height) (λ y low.
      get_or-map-range_with_len (printed_line w) 0 g.height y y [] low (omega arith) ∙ line-is y low)

-- one number more
pub number-next : (n : ℕ) → range_with_len 0 (n + 1) ≡ range_with_len 0 n ++ n ∷ []
number-next n =
    sym (map-id (range_with_len 0 (n + 1))) ∙ map-range_with_len_more (λ (k : ℕ). k) 0 n n (omega arith)
    ∙ ap (λ (l : List ℕ). l ++ n ∷ []) (map-id (range_with_len 0 n))

-- what one pass found is printed
pub cost-rows : (ls : Layers) (s : Cell) (job : Distances) (rows : Vec ℕ) (g : GridData) (h : ℕ)
    → g ≡ query_grid ls s → is_free_ground ls s ≡ true → why_untold ls s ≡ None → Tells g s job.waves
    → job.waves.width ≡ g.width → job.waves.height ≡ g.height → rows.items ≡ range_with_len 0 h
    → h ≡ g.height → TellCosts ls s (written.Rows job rows)
unfolding costs_answer
cost-rows ls s job rows g h is free none tells wide high below is_h = λ lines status t. (
  t.good,
  t.all
      ∙ ap (λ (l : List ℕ). map (printed_line job.waves) l) (below ∙ ap (range_with_len 0) is_h)
      ∙ lines-are g s (free-on ls s g is free) job.waves tells wide high
      ∙ ap (λ (k : GridData). cost_lines k s) is
      ∙ is-told ls s (λ line. line ∷ []) (λ k. cost_lines k s) none,
)

-- a line alone is printed
pub one-line : (ls : Layers) (s : Cell) (text : Vec ℕ) (line : List ℕ) → text.items ≡ line
    → why_untold ls s ≡ Some line → TellCosts ls s (written.Line text)
unfolding costs_answer
one-line ls s text line is why = λ lines status t. (
  t.1,
  t.0 ∙ ap (λ (l : List ℕ). l ∷ []) is ∙ is-line ls s (λ l. l ∷ []) (λ g. cost_lines g s) line why,
)

-- one line more
pub rows-next : (line : ℕ → List ℕ) (n : ℕ) (start at now : List ℕ)
    → at ≡ start ++ concat (map line (range_with_len 0 n)) → now ≡ at ++ line n
    → now ≡ start ++ concat (map line (range_with_len 0 (n + 1)))
rows-next line n start at now before put =
    put ∙ ap (λ (l : List ℕ). l ++ line n) before
    ∙ append_assoc start (concat (map line (range_with_len 0 n))) (line n)
    ∙ ap (λ (l : List ℕ). start ++ l) (sym (ap concat (map-range_with_len_more line 0 n n (omega arith))
    ∙ concat-snoc (map line (range_with_len 0 n)) (line n)))
  where
    concat-snoc : (ls : List (List ℕ)) (l : List ℕ) → concat (ls ++ l ∷ []) ≡ concat ls ++ l
    concat-snoc [] l = append-nil l
    concat-snoc (k ∷ ls) l = ap (λ (t : List ℕ). k ++ t) (concat-snoc ls l)
        ∙ sym (append_assoc k (concat ls) l)

-- a word with the sides, and all rows
pub framed-rows : (ls : Layers) (s : Cell) (w : WaveData) (g : GridData) (h : ℕ) (frame text : List ℕ)
    → g ≡ query_grid ls s → is_free_ground ls s ≡ true → why_untold ls s ≡ None → Tells g s w
    → w.width ≡ g.width → w.height ≡ g.height → h ≡ g.height → frame ≡ frame_line (codes "costs") g
    → text ≡ frame ++ concat (map (printed_line w) (range_with_len 0 h)) → text ≡ framed_costs ls s
unfolding framed_costs
framed-rows ls s w g h frame text is free none tells wide high is_h framed put =
    put ∙ ap (λ (l : List ℕ). l ++ concat (map (printed_line w) (range_with_len 0 h))) framed
    ∙ ap (λ (n : ℕ). frame_line (codes "costs") g ++ concat (map (printed_line w) (range_with_len 0 n))) is_h
    ∙ ap (λ (l : List (List ℕ)). frame_line (codes "costs") g ++ concat l)
    (lines-are g s (free-on ls s g is free) w tells wide high)
    ∙ ap (λ (k : GridData). frame_line (codes "costs") k ++ concat (cost_lines k s)) is
    ∙ is-told ls s (λ line. line) (λ k. frame_line (codes "costs") k ++ concat (cost_lines k s)) none

-- a word with the sides, and the letters of all rows
pub framed-letters : (ls : Layers) (t : Cell) (g : GridData) (frame text : List ℕ)
    → g ≡ query_grid ls t → why_untold ls t ≡ None → frame ≡ frame_line (codes "field") g
    → text ≡ frame ++ field_text g t → text ≡ framed_field ls t
unfolding framed_field
framed-letters ls t g frame text is none framed put =
    put ∙ ap (λ (l : List ℕ). l ++ field_text g t) framed
    ∙ ap (λ (k : GridData). frame_line (codes "field") k ++ field_text k t) is
    ∙ is-told ls t (λ line. line) (λ k. frame_line (codes "field") k ++ field_text k t) none

-- a line alone
pub costs-untold : (ls : Layers) (s : Cell) (line text : List ℕ) → text ≡ line → why_untold ls s ≡ Some line
    → text ≡ framed_costs ls s
unfolding framed_costs
costs-untold ls s line text is why =
    is ∙ is-line ls s (λ l. l) (λ g. frame_line (codes "costs") g ++ concat (cost_lines g s)) line why

pub field-untold : (ls : Layers) (t : Cell) (line text : List ℕ) → text ≡ line → why_untold ls t ≡ Some line
    → text ≡ framed_field ls t
unfolding framed_field
field-untold ls t line text is why =
    is ∙ is-line ls t (λ l. l) (λ g. frame_line (codes "field") g ++ field_text g t) line why
