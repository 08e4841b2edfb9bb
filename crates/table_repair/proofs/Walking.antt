-- One move back of a walk.
use Rattle.std.proofs.Common.{◌≡◌, ◌≢◌, ℕ, ◌+◌, ◌<◌, ◌⊎◌, inl, inr, arith, Bool, true, false, sym, refl}
use Rattle.std.proofs.Common.{◌∙◌, ◌||◌, length, length-set, get_or, ap}
use Rattle.std.specs.Prelude.{Some, None, ℤ, pos, [], ◌∷◌}
use Rattle.std.proofs.lemmas.Bool.{cases_Bool, or_from}
use Rattle.grid_moves.specs.declared.Cell.{Cell}
use Rattle.grid_moves.specs.declared.Dir.{Dir}
use Rattle.grid_moves.specs.declared.Dir.TheVariants.{N, NE, E, SE, S, SW, W, NW}
use Rattle.grid_moves.specs.Grid.{GridData, IsGrid, is_inside}
use Rattle.grid_moves.specs.Move.{ahead, is_same, legal_ahead}
use Rattle.grid_moves.proofs.Legal.{is_same-cell, is_same-itself}
use Rattle.pruning.proofs.Bridging.{one_of, legal_leads}
use Rattle.pruning.proofs.Running.{IsMoved, column_trend, row_trend}
use Rattle.grid_moves.proofs.Places.{inside_is}
use Rattle.grid_moves.specs.Move.{is_dir}
use Rattle.pruning.proofs.Table.{at_dir}
use Rattle.plus_tables.specs.Entry.{table_entry}
use Rattle.plus_tables.specs.Tables.{TablesData, IsWhole, AreTablesOf, RestsRight, is_on, entry_at}
use Rattle.plus_tables.specs.Tables.{tables_with, entry_place}
use Rattle.table_repair.specs.declared.walks.WalkBack.{WalkBack}
use Rattle.table_repair.specs.Abreast.{is_at_one, IsOnward}
use Rattle.table_repair.specs.Counted.{places_differing}
use Rattle.table_repair.specs.Mending.{IsRight, AreBesideRight, AreReady, IsMended, Mends, FollowBut, either}
use Rattle.table_repair.specs.Mending.{cell_after, behind_on}
use Rattle.table_repair.proofs.Counting.{entry-with, entry-with_other, count-with, with_itself}
use Rattle.table_repair.proofs.Lines.{behind_on-is, behind_on-from, one_behind, after_before, after_moved}
use Rattle.table_repair.proofs.Mends.{on_inside}

-- what waits for this cell, and for those that wait later
abbrev pub or_later : Cell → (Cell → Bool) → Cell → Bool
or_later v later w = is_same w v || later w

pub true_false : (b : Bool) → b ≡ true → b ≡ false → ⊥
true_false b h k = cc

-- the condition of a refresh
pub rests_right : (h : GridData) (t : TablesData) (d : Dir) (u v : Cell) → ahead d u ≡ Some v
    → is_inside h v ≡ true → IsRight h t v d → AreBesideRight h t d → RestsRight t h u d
rests_right h t d u v e i r beside = record {
  ahead = λ w l. let s = there w l in rw (← s) r;
  beside = λ k w l s. let same = there w l in rw (← same) (beside k s v i);
}
  where
    there : (w : Cell) → legal_ahead h u d ≡ Some w → v ≡ w
    there w l = one_of v w (sym e ∙ (legal_leads h u w d l).ahead_is)

-- two cells that are told apart are two
apart : (w u : Cell) → is_same w u ≡ false → w ≡ u → ⊥
apart w u s k = let t : is_same w u ≡ true = rw k (is_same-itself u) in absurd (cc)

-- none waits for a cell any more, where the entries behind it are right
passed : {h : GridData} {d : Dir} {t : TablesData} {at_cell : Cell} (later : Cell → Bool)
    → FollowBut h t d (or_later at_cell later)
    → ((p : Cell) → is_inside h p ≡ true → ahead d p ≡ Some at_cell → IsRight h t p d) → FollowBut h t d later
passed {at_cell = at_cell} later g right = record {
  next = λ p w j k l m q. elim (cases_Bool (is_same w at_cell)) [
    | inl s ↦ right p j (rw (← is_same-cell w at_cell s) k)
    | inr s ↦ g.next p w j k l (or_from (is_same w at_cell) (later w) s m) q
  ];
  last = g.last;
}

-- a refresh of a right entry leaves the tables as they are
pub nothing_set : (h : GridData) (t new : TablesData) (u : Cell) (d : Dir) → AreReady h t d
    → is_inside h u ≡ true → new ≡ tables_with t u d (table_entry h u d) → entry_at t u d ≡ table_entry h u d
    → new ≡ t
nothing_set h t new u d ready i is right =
    is ∙ ap (λ (x : ℤ). tables_with t u d x) (sym right)
    ∙ with_itself t ready.whole u (on_inside t h ready.sized u i) d

module _ {h : GridData} {d : Dir} (v : Cell) {t : TablesData} (ready : AreReady h t d) where
  -- there is no cell behind
  pub follows_end : behind_on h d v ≡ None → (later : Cell → Bool) → FollowBut h t d (or_later v later)
      → FollowBut h t d (either (is_at_one []) later)
  follows_end none later f =
      passed later f (λ p j k. let there = behind_on-from h d p v k j in absurd (cc))

  module _ (u : Cell) (behind : behind_on h d v ≡ Some u) {new : TablesData}
      (is : new ≡ tables_with t u d (table_entry h u d)) where
    there : (ahead d u ≡ Some v) × (is_inside h u ≡ true)
    there = behind_on-is h d u v behind

    on : is_on t u ≡ true
    on = on_inside t h ready.sized u there.1

    -- the entry behind was right
    pub follows_stay : entry_at t u d ≡ table_entry h u d → (later : Cell → Bool)
        → FollowBut h t d (or_later v later) → FollowBut h new d (either (is_at_one []) later)
    follows_stay stayed later f =
        let same = nothing_set h t new u d ready there.1 is stayed in
        rw same (passed later f (λ p j k. let one = one_behind d p u v k there.0 in rw one stayed))

    set_right : IsRight h new u d
    set_right = rw is (entry-with t ready.whole u on d (table_entry h u d))

    stays : (w : Cell) (f : Dir) → is_inside h w ≡ true → (w ≡ u → f ≡ d → ⊥)
        → entry_at new w f ≡ entry_at t w f
    stays w f j other = rw is (entry-with_other t ready.whole u on d f w (table_entry h u d)
        (on_inside t h ready.sized w j) other)

    right_kept : (w : Cell) → is_inside h w ≡ true → IsRight h t w d → IsRight h new w d
    right_kept w j r = elim (cases_Bool (is_same w u)) [
      | inl s ↦ (let same = is_same-cell w u s in rw same set_right)
      | inr s ↦ stays w d j (λ k l. apart w u s k) ∙ r
    ]

    pub onward_is : (next : WalkBack) → Some (record { at = u }) ≡ Some next → IsOnward h new d v next.at
    onward_is next e = rw (← same) (record { inside = there.1; right = set_right; behind = there.0 })
      where
        same : u ≡ next.at
        same = cc

    pub follows_on : (later : Cell → Bool) → FollowBut h t d (or_later v later)
        → FollowBut h new d (either (is_at_one (record { at = u } ∷ [])) later)
    follows_on later f = record { next = next; last = λ p j k. right_kept p j (f.last p j k) }
      where
        either_of : (a b : Bool) → ((a || false) || b) ≡ false → (a ≡ false) × (b ≡ false)
        either_of true b k = absurd (cc)
        either_of false b k = (refl, k)

        next : (p w : Cell) → is_inside h p ≡ true → ahead d p ≡ Some w → is_inside h w ≡ true
            → ((is_same w u || false) || later w) ≡ false → IsRight h new w d → IsRight h new p d
        next p w j k l m q = elim (cases_Bool (is_same w v)) [
          | inl s ↦
              let same = one_behind d p u v (rw (← is_same-cell w v s) k) there.0 in
              rw same set_right
          | inr s ↦
              let both = either_of (is_same w u) (later w) m in
              right_kept p j (f.next p w j k l (or_from (is_same w v) (later w) s both.1)
              (sym (stays w d l (λ x y. apart w u both.0 x)) ∙ q))
        ]

    -- the entry behind changed
    module _ (changed : entry_at t u d ≢ table_entry h u d) where
      count : (r : TablesData) → IsWhole r → AreTablesOf r h
          → places_differing t.entries r.entries ≡ places_differing new.entries r.entries + 1
      count r w a =
          let sized = ready.sized in
          let wide : t.width ≡ r.width = sized.width ∙ sym a.sized.width in
          let high : t.height ≡ r.height = sized.height ∙ sym a.sized.height in
          let long : length t.entries ≡ length r.entries
          = ready.whole.whole ∙ rw (wide, high) (sym w.whole) in
          let right : table_entry h u d ≡ get_or r.entries (entry_place t.width u d) (pos 0)
          = sym (a.right u d there.1)
          ∙ ap (λ (n : ℕ). get_or r.entries (entry_place n u d) (pos 0)) (sym wide) in
          rw is (count-with t ready.whole u on d (table_entry h u d) r.entries long right changed)

      along : (w : Cell) → is_inside h w ≡ true
          → (entry_at new w d ≡ entry_at t w d) ⊎ IsMended h new d (λ w. is_same w v) 1 w
      along w j = elim (cases_Bool (is_same w u)) [
        | inl s ↦ (let same = is_same-cell w u s in rw same (inr (record {
          right = set_right;
          moves = 1;
          few = omega arith;
          start = v;
          starts_there = is_same-itself v;
          reaches = after_before d 0 u v v there.0 refl;
        })))
        | inr s ↦ inl (stays w d j (λ k l. apart w u s k))
      ]

      same_dir : is_dir d d ≡ true
      same_dir = at_dir (λ d. is_dir d d) refl d

      pub mends_one : Mends h d (λ w. is_same w v) t new 1
      mends_one = record {
        width = rw is refl;
        height = rw is refl;
        corner = rw is refl;
        length_kept = rw is (length-set t.entries (entry_place t.width u d) (table_entry h u d));
        others = λ w f q j. stays w f j (λ k l. absurd (cc same_dir));
        along = along;
        count = count;
      }

-- a walk is shorter than the map
pub walk_short : (h : GridData) (d : Dir) (v u : Cell) (n : ℕ) → IsGrid h → is_inside h v ≡ true
    → is_inside h u ≡ true → cell_after d n u ≡ Some v → n < 4096
walk_short h d v u n grid i j r =
    let p = inside_is h v i in
    let q = inside_is h u j in
    let wide = grid.sides.narrow in
    let high = grid.sides.low in
    let m = after_moved d n u v r in
    by_dir d m.0 m.1 (omega arith) (omega arith) (omega arith) (omega arith)
  where
    by_dir : (d : Dir) → IsMoved (column_trend d) n u.x v.x → IsMoved (row_trend d) n u.y v.y
        → u.x < 4096 → v.x < 4096 → u.y < 4096 → v.y < 4096 → n < 4096
    by_dir N p q j k l m = omega arith
    by_dir NE p q j k l m = omega arith
    by_dir E p q j k l m = omega arith
    by_dir SE p q j k l m = omega arith
    by_dir S p q j k l m = omega arith
    by_dir SW p q j k l m = omega arith
    by_dir W p q j k l m = omega arith
    by_dir NW p q j k l m = omega arith
