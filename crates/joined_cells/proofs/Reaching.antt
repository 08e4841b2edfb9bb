-- What a flood keeps, cell by cell.
use Rattle.std.proofs.Common.{◌≡◌, ◌≢◌, ℕ, ◌+◌, ◌*◌, ◌<◌, inl, inr, arith, refl, ap, sym, ◌∙◌}
use Rattle.std.proofs.Common.{subst, Bool, true, false, List, [], ◌∷◌, ◌++◌, length, get_or, set, length-set}
use Rattle.std.proofs.Common.{length-append, count_by}
use Rattle.std.specs.List.{Contains}
use Rattle.std.specs.Option.{option_to_list}
use Rattle.std.specs.Prelude.{Option, Some, None, nat_eq, if◌then◌else◌}
use Rattle.std.proofs.lemmas.Bool.Decides.{nat_tests}
use Rattle.std.proofs.lemmas.List.{get_or-set_same, get_or-set_other}
use Rattle.std.proofs.lemmas.List.Elements.{Contains-append_left, Contains-append_right}
use Rattle.std.proofs.lemmas.List.Elements.{Contains-append_cases, Contains-push, Contains-push_cases}
use Rattle.std.proofs.lemmas.List.Sums.{sum_by-set}
use Rattle.std.proofs.lemmas.Bool.{and_parts}
use Rattle.grid_moves.specs.declared.Cell.{Cell}
use Rattle.grid_moves.specs.declared.Dir.{Dir}
use Rattle.grid_moves.specs.Grid.{GridData, cell_number, is_free, is_inside}
use Rattle.grid_moves.specs.Move.{is_legal, legal_ahead, all_dirs}
use Rattle.grid_moves.proofs.Ahead.{legal_ahead-is, legal_ahead-of}
use Rattle.grid_moves.proofs.Legal.{legal_is}
use Rattle.grid_moves.proofs.Places.{free_below, IsOn, is_on, free_on, same_or_apart}
use Rattle.grid_moves.proofs.Dirs.{In, first, later, in_all}
use Rattle.grid_moves.proofs.Turned.{legal_back}
use Rattle.joined_cells.specs.Flood.{Flood, flood_of, reached, reached_by, spread}
use Rattle.joined_cells.specs.Flooding.{label_at, IsNamed, Waits, Keeps, IsSettled, Stay}
use Rattle.joined_cells.proofs.Joining.{joined_itself, joined_more}

-- how many cells have no label
abbrev pub unlabelled : List ℕ → ℕ
unlabelled labels = count_by (λ n. nat_eq n 0) labels

contains_none : (c : Cell) → Contains [] c → ⊥
contains_none c h = omega (arith, h.1)

-- a cell gets a label that names a cell, and waits
module _ (g : GridData) (label : ℕ) (some : label ≢ 0) (v : Cell) (free : is_free g v ≡ true)
    (name : IsNamed g v label) (labels : List ℕ) (new : label_at g labels v ≡ 0) where
  abbrev place : ℕ
  place = cell_number g.width v

  module _ (whole : length labels ≡ g.height * g.width) where
    on : IsOn g v
    on = free_on g v free

    within : place < length labels
    within = rw whole (free_below g v free)

    -- it alone
    now_labelled : label_at g (set labels place label) v ≡ label
    now_labelled = get_or-set_same labels place label 0 within

    there : (c : Cell) → cell_number g.width c ≢ place → label_at g (set labels place label) c
        ≡ label_at g labels c
    there c n = get_or-set_other labels place (cell_number g.width c) label 0 n

    pub stay_labelled : Stay g labels (set labels place label)
    stay_labelled c n = there c (λ e. n (ap (λ (k : ℕ). get_or labels k 0) e ∙ new))

    pub one_less : unlabelled (set labels place label) + 1 ≡ unlabelled labels
    one_less = grind (arith, nat_tests, sum_by-set, within)

  pub keeps_labelled : (cells : List Cell) → Keeps g label cells labels
      → Keeps g label (cells ++ (v ∷ [])) (set labels place label)
  keeps_labelled cells k = record {
    whole = length-set labels place label ∙ k.whole;
    named = named;
    waits = λ c w. elim (Contains-push_cases cells v c w) [
      | inl old ↦ let b = k.waits c old in
          record {
            free = b.free;
            has = stay_labelled k.whole c (λ e. some (sym b.has ∙ e)) ∙ b.has;
          }
      | inr e ↦ subst (λ (d : Cell). Waits g label (set labels place label) d) e
          (record { free = free; has = now_labelled k.whole })
    ];
    spread = λ p q l n. elim (same_or_apart g p v (free_on g p (legal_is g p q l).source) (on k.whole)) [
      | inl e ↦ inr (subst (λ (d : Cell). Contains (cells ++ (v ∷ [])) d) (sym e) (Contains-push cells v))
      | inr a ↦
          let old : label_at g labels p ≢ 0 = λ z. n (there k.whole p a ∙ z) in
          elim (k.spread p q l old) [
            | inl e ↦ inl (stay_labelled k.whole q (λ z. old (sym e ∙ z)) ∙ e ∙ sym (there k.whole p a))
            | inr w ↦ inr (Contains-append_left cells (v ∷ []) p w)
          ]
    ];
  }
    where
      named : (c : Cell) → is_inside g c ≡ true → label_at g (set labels place label) c ≢ 0
          → IsNamed g c (label_at g (set labels place label) c)
      named c i n = elim (same_or_apart g c v (is_on g c i) (on k.whole)) [
        | inl e ↦ subst (λ (d : Cell). IsNamed g d (label_at g (set labels place label) d)) (sym e)
            (subst (λ (m : ℕ). IsNamed g v m) (sym (now_labelled k.whole)) name)
        | inr a ↦ subst (λ (m : ℕ). IsNamed g c m) (sym (there k.whole c a))
            (k.named c i (λ z. n (there k.whole c a ∙ z)))
      ]

-- the first cell of a flood is named by itself
pub named_itself : (g : GridData) (c : Cell) → is_free g c ≡ true → (label : ℕ)
    → label ≡ cell_number g.width c + 1 → IsNamed g c label
named_itself g c f label e = record { first = c; free = f; is = e; joined = joined_itself g c f }

-- where no cell waits, a flood may have any label
pub settled_as : (g : GridData) (label other : ℕ) (labels : List ℕ) → Keeps g label [] labels
    → Keeps g other [] labels
settled_as g label other labels k = record {
  whole = k.whole;
  named = k.named;
  waits = λ c w. absurd (contains_none c w);
  spread = k.spread;
}

-- a cell that is taken out of the list stood at its end
popped : (u : Cell) (before cells : List Cell) (out : Option Cell) → before ≡ cells ++ option_to_list out
    → out ≡ Some u → before ≡ cells ++ (u ∷ [])
popped u before cells out e is = e ∙ ap (λ (o : Option Cell). cells ++ option_to_list o) is

-- and is free
pub waiting_free : (g : GridData) (label : ℕ) (u : Cell) (before cells : List Cell) (out : Option Cell)
    → before ≡ cells ++ option_to_list out → out ≡ Some u → (labels : List ℕ) → Keeps g label before labels
    → is_free g u ≡ true
waiting_free g label u before cells out e is labels k =
    (k.waits u (subst (λ (b : List Cell). Contains b u) (sym (popped u before cells out e is))
    (Contains-push cells u))).free

module _ (g : GridData) (label : ℕ) (some : label ≢ 0) (u : Cell) where
  -- a cell that is taken out of the list is as one that waits
  pub taken : (cells : List Cell) (labels : List ℕ) → Keeps g label (cells ++ (u ∷ [])) labels
      → Keeps g label (u ∷ cells) labels
  taken cells labels k = record {
    whole = k.whole;
    named = k.named;
    waits = λ c w. k.waits c (elim (Contains-append_cases (u ∷ []) cells c w) [
      | inl one ↦ Contains-append_right cells (u ∷ []) c one
      | inr w ↦ Contains-append_left cells (u ∷ []) c w
    ]);
    spread = λ p q l n. elim (k.spread p q l n) [
      | inl e ↦ inl e
      | inr w ↦ inr (elim (Contains-append_cases cells (u ∷ []) p w) [
        | inl w ↦ Contains-append_right (u ∷ []) cells p w
        | inr one ↦ Contains-append_left (u ∷ []) cells p one
      ])
    ];
  }

  -- what one move from it leaves
  record Reaches (v : Cell) (f f' : Flood) : Type 0 where
    keeps : Keeps g label (u ∷ f'.waiting) f'.labels
    stay : Stay g f.labels f'.labels
    end : label_at g f'.labels v ≡ label
    weight : length f'.waiting + unlabelled f'.labels ≡ length f.waiting + unlabelled f.labels

  reaches : (v : Cell) → is_legal g u v ≡ true → (f : Flood) → Keeps g label (u ∷ f.waiting) f.labels
      → Reaches v f (reached (cell_number g.width v) label v f)
  unfolding reached
  reaches v l f k = by_test (nat_eq (label_at g f.labels v) 0) refl
    where
      here : Waits g label f.labels u
      here = k.waits u (Contains-append_left (u ∷ []) f.waiting u (Contains-push [] u))

      name : IsNamed g v label
      name =
          let n = k.named u (and_parts (is_inside g u) _ here.free).0 (λ z. some (sym here.has ∙ z)) in
          record {
            first = n.first;
            free = n.free;
            is = sym here.has ∙ n.is;
            joined = joined_more g n.first u v n.joined l;
          }

      one_longer : length (f.waiting ++ (v ∷ [])) ≡ length f.waiting + 1
      one_longer = length-append f.waiting (v ∷ [])

      by_test : (b : Bool) → nat_eq (label_at g f.labels v) 0 ≡ b → Reaches v f
          (if b then flood_of (set f.labels (cell_number g.width v) label) (f.waiting ++ (v ∷ [])) else f)
      by_test true e =
          let new : label_at g f.labels v ≡ 0 = grind (arith, nat_tests) in
          let free = (legal_is g u v l).target in
          let less = one_less g label some v free name f.labels new k.whole in
          let more = one_longer in
          record {
            keeps = keeps_labelled g label some v free name f.labels new (u ∷ f.waiting) k;
            stay = stay_labelled g label some v free name f.labels new k.whole;
            end = now_labelled g label some v free name f.labels new k.whole;
            weight = omega arith;
          }
      by_test false e =
          let n : label_at g f.labels v ≢ 0 = λ z. grind (arith, nat_tests) in
          record {
            keeps = k;
            stay = λ c z. refl;
            end = elim (k.spread v u (legal_back g u v l) n) [
              | inl same ↦ sym same ∙ here.has
              | inr w ↦ (k.waits v w).has
            ];
            weight = refl;
          }

  -- what moves in these directions leave
  pub record HasSpread (dirs : List Dir) (f f' : Flood) : Type 0 where
    pub keeps : Keeps g label (u ∷ f'.waiting) f'.labels
    pub stay : Stay g f.labels f'.labels
    pub ends : (d : Dir) (v : Cell) → In d dirs → legal_ahead g u d ≡ Some v → label_at g f'.labels v ≡ label
    pub weight : length f'.waiting + unlabelled f'.labels ≡ length f.waiting + unlabelled f.labels

  nothing : (f : Flood) → Keeps g label (u ∷ f.waiting) f.labels → HasSpread [] f f
  nothing f k = record { keeps = k; stay = λ c n. refl; ends = λ d v i e. elim i [ ]; weight = refl }

  -- one move, and then the others
  joined_to : (d : Dir) (dirs : List Dir) (f f1 f2 : Flood) → Stay g f.labels f1.labels
      → ((v : Cell) → legal_ahead g u d ≡ Some v → label_at g f1.labels v ≡ label)
      → length f1.waiting + unlabelled f1.labels ≡ length f.waiting + unlabelled f.labels
      → HasSpread dirs f1 f2 → HasSpread (d ∷ dirs) f f2
  joined_to d dirs f f1 f2 stay end weight s = record {
    keeps = s.keeps;
    stay = λ c n. s.stay c (λ z. n (sym (stay c n) ∙ z)) ∙ stay c n;
    ends = λ b v i e. by_place b v i e;
    weight = s.weight ∙ weight;
  }
    where
      by_place : (b : Dir) (v : Cell) → In b (d ∷ dirs) → legal_ahead g u b ≡ Some v
          → label_at g f2.labels v ≡ label
      by_place b v (first _) e = s.stay v (λ z. some (sym (end v e) ∙ z)) ∙ end v e
      by_place b v (later _ _ i) e = s.ends b v i e

  pub has_spread : (dirs : List Dir) (f : Flood) → Keeps g label (u ∷ f.waiting) f.labels
      → HasSpread dirs f (spread g label u dirs f)
  unfolding spread
  has_spread [] f k = nothing f k
  has_spread (d ∷ dirs) f k = by_end (legal_ahead g u d) refl (λ h j. has_spread dirs h j)
    where
      by_end : (o : Option Cell) → legal_ahead g u d ≡ o
          → ((h : Flood) → Keeps g label (u ∷ h.waiting) h.labels
          → HasSpread dirs h (spread g label u dirs h))
          → HasSpread (d ∷ dirs) f (spread g label u dirs (reached_by g.width label o f))
      by_end None e others = joined_to d dirs f f _ (λ c n. refl)
          (λ v a. absurd (let x : None ≡ Some v = sym e ∙ a in cc)) refl (others f k)
      by_end (Some v) e others =
          let r = reaches v (legal_ahead-is g u v d e) f k in
          joined_to d dirs f (reached (cell_number g.width v) label v f) _ r.stay
          (λ w a. let same : v ≡ w = cc in
          subst (λ (c : Cell). label_at g (reached (cell_number g.width v) label v f).labels c ≡ label) same
          r.end)
          r.weight (others (reached (cell_number g.width v) label v f) r.keeps)

  -- after all its moves it waits no more
  pub released : (cells : List Cell) (labels : List ℕ) → Keeps g label (u ∷ cells) labels
      → ((d : Dir) (v : Cell) → In d all_dirs → legal_ahead g u d ≡ Some v → label_at g labels v ≡ label)
      → Keeps g label cells labels
  released cells labels k ends = record {
    whole = k.whole;
    named = k.named;
    waits = λ c w. k.waits c (Contains-append_right (u ∷ []) cells c w);
    spread = λ p q l n. elim (k.spread p q l n) [
      | inl e ↦ inl e
      | inr w ↦ elim (Contains-append_cases (u ∷ []) cells p w) [
        | inl one ↦ elim (Contains-push_cases [] u p one) [
          | inl none ↦ absurd (contains_none p none)
          | inr same ↦ inl (
              let a = legal_ahead-of g p q l in
              let e = subst (λ (c : Cell). legal_ahead g c a.0 ≡ Some q) (sym same) a.1 in
              ends a.0 q (in_all a.0) e ∙ sym (k.waits p w).has)
        ]
        | inr w ↦ inr w
      ]
    ];
  }

  -- what looking at its moves leaves
  pub record HasStepped (before : List Cell) (labels : List ℕ) (f : Flood) : Type 0 where
    pub keeps : Keeps g label f.waiting f.labels
    pub stay : Stay g labels f.labels
    pub weight : length f.waiting + unlabelled f.labels + 1 ≡ length before + unlabelled labels

  pub stepped : (before cells : List Cell) (out : Option Cell) → before ≡ cells ++ option_to_list out
      → out ≡ Some u → (labels : List ℕ) → Keeps g label before labels → (f : Flood)
      → f ≡ spread g label u all_dirs (flood_of labels cells) → HasStepped before labels f
  stepped before cells out e one labels k f is =
      let last = popped u before cells out e one in
      let held = taken cells labels (subst (λ (b : List Cell). Keeps g label b labels) last k) in
      let s = has_spread all_dirs (flood_of labels cells) held in
      let long : length before ≡ length cells + 1 = ap length last ∙ length-append cells (u ∷ []) in
      let w = s.weight in
      subst (λ (h : Flood). HasStepped before labels h) (sym is) (record {
        keeps = released _ _ s.keeps s.ends;
        stay = s.stay;
        weight = omega arith;
      })

-- the first cell of a flood has its label, and waits
pub record HasBegun (g : GridData) (label : ℕ) (from : Cell) (labels later : List ℕ)
    (cells : List Cell) : Type 0 where
  pub keeps : Keeps g label cells later
  pub stay : Stay g labels later
  pub labelled : label_at g later from ≢ 0

module _ (g : GridData) (from : Cell) (free : is_free g from ≡ true) (labels : List ℕ)
    (settled : IsSettled g labels) (new : label_at g labels from ≡ 0) where
  begins : (label : ℕ) → label ≢ 0 → IsNamed g from label
      → HasBegun g label from labels (set labels (cell_number g.width from) label) (from ∷ [])
  begins label some name = record {
    keeps = keeps_labelled g label some from free name labels new [] (settled_as g 0 label labels settled);
    stay = stay_labelled g label some from free name labels new settled.whole;
    labelled = λ z. some (sym (now_labelled g label some from free name labels new settled.whole) ∙ z);
  }

  pub begun : (number : ℕ) → number ≡ cell_number g.width from → (cells : List Cell) → cells ≡ from ∷ []
      → HasBegun g (number + 1) from labels (set labels number (number + 1)) cells
  begun number is cells e =
      let some : number + 1 ≢ 0 = λ z. omega arith in
      let name = named_itself g from free (number + 1) (ap (λ (n : ℕ). n + 1) is) in
      subst (λ (cs : List Cell). HasBegun g (number + 1) from labels (set labels number (number + 1)) cs)
      (sym e)
      (subst (λ (n : ℕ). HasBegun g (number + 1) from labels (set labels n (number + 1)) (from ∷ [])) (sym is)
      (begins (number + 1) some name))
