-- Records: what is found of them from a head on, and what changes when one is added.
use Rattle.std.proofs.Common.{◌≡◌, ℕ, zero, suc, ◌/◌, ◌<◌, ◌≤◌, ◌⊎◌, inl, inr, length, List, [], ◌∷◌, ◌++◌}
use Rattle.std.proofs.Common.{Bool, true, false, refl, ap, sym, ◌∙◌, subst, arith}
use Rattle.std.specs.Prelude.{Option, Some, None, nat_eq, nat_lt, if◌then◌else◌, slice_get, slice_set}
use Rattle.std.specs.Prelude.{slice_index_or}
use Rattle.std.specs.Option.{option_map_or}
use Rattle.std.proofs.lemmas.Bool.Decides.{nat_tests}
use Rattle.std.proofs.lemmas.List.{length-append, length-set, get_or-set_same, get_or-set_other}
use Rattle.std.proofs.lemmas.Option.{get_or_from_slice_get, slice_get_within, unwrap_or-slice_get, same_Some}
use Rattle.best_first.specs.declared.index.Record.{Record}
use Rattle.best_first.specs.declared.state.Layout.TheVariants.{ByArrival}
use Rattle.best_first.specs.Index.{tag_of, entry_of, entry_before, entry_in, latest_of, LeadsBack, AreLinked}
use Rattle.best_first.specs.Index.{IsHead, AreRecords, IsPut}
use Rattle.open_list.proofs.Changes.{get_pushed, get-append_left}
use Rattle.best_first.proofs.Lists.{got-added}

-- a list read past its end
pub read_past : {X : Type 0} (xs : List X) (i : ℕ) (x : X) → slice_get xs i ≡ None → slice_index_or xs i x ≡ x
read_past xs i x h = sym (unwrap_or-slice_get xs i x) ∙ rw h refl

-- a cell's head, as it is read
pub head-is : (heads : List ℕ) (cell h : ℕ) → slice_get heads cell ≡ Some h → slice_index_or heads cell 0 ≡ h
head-is heads cell h e = get_or_from_slice_get heads cell h 0 e

-- tags are told apart, and tell their cells
pub tag-cell : (cell arrival : ℕ) → arrival < 9 → tag_of cell arrival / 16 ≡ cell
tag-cell cell arrival h = omega arith

one_tag : (c a d b : ℕ) → a < 9 → b < 9 → tag_of c a ≡ tag_of d b → (c ≡ d) × (a ≡ b)
one_tag c a d b h k e = (omega arith, omega arith)

-- the record of this number has the tag
pub record HasTag (records : List Record) (tag q : ℕ) : Type 0 where
  pub found : Record
  pub found_is : slice_get records q ≡ Some found
  pub tag_is : found.tag ≡ tag

-- what an entry leads to
pub entry-got : (records : List Record) (tag id : ℕ) → entry_of records tag ≡ suc id → HasTag records tag id
entry-got [] tag id e = absurd (omega (arith, e))
entry-got (x ∷ records) tag id e =
    by_later (λ r h. entry-got records tag r h) (entry_of records tag) refl (nat_eq x.tag tag) refl e
  where
    by_later : ((r : ℕ) → entry_of records tag ≡ suc r → HasTag records tag r) → (later : ℕ)
        → entry_of records tag ≡ later → (b : Bool) → nat_eq x.tag tag ≡ b
        → entry_before b later ≡ suc id → HasTag (x ∷ records) tag id
    by_later again zero l true b e = grind (arith, nat_tests)
    by_later again zero l false b e = absurd (omega (arith, e))
    by_later again (suc r) l b t e =
        let h = again r l in
        let at : suc r ≡ id = omega (arith, e) in
        subst (λ (i : ℕ). HasTag (x ∷ records) tag i) at
        (record { found = h.found; found_is = h.found_is; tag_is = h.tag_is })

-- no record with the tag is behind it
pub entry-last : (records : List Record) (tag q : ℕ) → HasTag records tag q → q < entry_of records tag
entry-last [] tag q h = absurd (let f = h.found_is in cc)
entry-last (x ∷ records) tag zero h = first (entry_of records tag)
  where
    same : nat_eq x.tag tag ≡ true
    same =
        let is = same_Some x h.found h.found_is in
        let t : x.tag ≡ tag = ap (λ (y : Record). y.tag) is ∙ h.tag_is in
        grind (arith, nat_tests)

    first : (later : ℕ) → 0 < entry_before (nat_eq x.tag tag) later
    first zero = rw same (omega arith)
    first (suc r) = omega arith
entry-last (x ∷ records) tag (suc q) h =
    behind (entry_of records tag)
    (entry-last records tag q (record { found = h.found; found_is = h.found_is; tag_is = h.tag_is }))
  where
    behind : (later : ℕ) → q < later → suc q < entry_before (nat_eq x.tag tag) later
    behind zero l = absurd (omega (arith, l))
    behind (suc r) l = omega (arith, l)

-- with one record more
pub entry-added : (records : List Record) (y : Record) (tag : ℕ)
    → entry_of (records ++ y ∷ []) tag
    ≡ (if nat_eq y.tag tag then suc (length records) else entry_of records tag)
entry-added [] y tag = refl
entry-added (x ∷ records) y tag =
    ap (λ (e : ℕ). entry_before (nat_eq x.tag tag) e) (entry-added records y tag) ∙ by_test (nat_eq y.tag tag)
  where
    by_test : (b : Bool)
        → entry_before (nat_eq x.tag tag) (if b then suc (length records) else entry_of records tag)
        ≡ (if b then suc (length (x ∷ records)) else entry_of (x ∷ records) tag)
    by_test true = refl
    by_test false = refl

-- the records with a tag are all found from an entry on
abbrev pub Follows : List Record → ℕ → ℕ → Type 0
Follows records tag entry = (q : ℕ) → HasTag records tag q → LeadsBack records (tag / 16) q entry

module _ (records : List Record) (tag : ℕ) where
  -- they are from the head on
  pub follows-head : (head : ℕ) → IsHead records (tag / 16) head → Follows records tag head
  follows-head head h = λ q t. h q t.found t.found_is (ap (λ (n : ℕ). n / 16) t.tag_is)

  -- an entry at which none is left
  pub entry_none : (entry : ℕ) → Follows records tag entry → (entry ≡ 0) ⊎ (length records < entry)
      → entry_of records tag ≡ 0
  entry_none entry f n = by_entry (entry_of records tag) refl
    where
      by_entry : (e : ℕ) → entry_of records tag ≡ e → e ≡ 0
      by_entry zero e = refl
      by_entry (suc id) e =
          let l = f id (entry-got records tag id e) in
          let w = slice_get_within records l.r l.found l.found_is in
          absurd (elim n [
            | inl z ↦ omega (arith, l.entry_is, z)
            | inr b ↦ omega (arith, l.entry_is, w, b)
          ])

  module _ (linked : AreLinked records) (r : ℕ) (y : Record) (at : slice_get records r ≡ Some y)
      (f : Follows records tag (suc r)) where
    -- the first one that is found is the last of all
    pub entry_here : y.tag ≡ tag → entry_of records tag ≡ suc r
    entry_here t = by_entry (entry_of records tag) refl
      where
        here : HasTag records tag r
        here = record { found = y; found_is = at; tag_is = t }

        by_entry : (e : ℕ) → entry_of records tag ≡ e → entry_of records tag ≡ suc r
        by_entry zero e = absurd (let l = entry-last records tag r here in omega (arith, l, e))
        by_entry (suc id) e =
            let l = entry-last records tag r here in
            let b = f id (entry-got records tag id e) in
            omega (arith, l, e, b.entry_is, b.later)

    -- where it is another one, they are found from the earlier one on
    pub follows-next : (y.tag ≡ tag → ⊥) → Follows records tag y.earlier
    follows-next n = λ q t.
        let b = f q t in
        let same : b.r ≡ r = omega (arith, b.entry_is) in
        let found : Some b.found ≡ Some y =
        sym b.found_is ∙ ap (λ (i : ℕ). slice_get records i) same ∙ at in
        let cell : y.tag / 16 ≡ tag / 16 =
        ap (λ (x : Record). x.tag / 16) (sym (same_Some b.found y found)) ∙ b.cell_is in
        subst (λ (c : ℕ). LeadsBack records c q y.earlier) cell
        (linked.lead q r t.found y t.found_is at (before q t (omega (arith, b.later, same)))
        (ap (λ (m : ℕ). m / 16) t.tag_is ∙ sym cell))
      where
        before : (q : ℕ) → HasTag records tag q → q ≤ r → q < r
        before q t l = by_place (apart q l)
          where
            apart : (i : ℕ) → i ≤ r → (i ≡ r) ⊎ (i < r)
            apart i h = grind arith

            by_place : (q ≡ r) ⊎ (q < r) → q < r
            by_place (inr b) = b
            by_place (inl e) =
                let found : Some t.found ≡ Some y =
                sym t.found_is ∙ ap (λ (i : ℕ). slice_get records i) e ∙ at in
                absurd (n (ap (λ (x : Record). x.tag) (sym (same_Some t.found y found)) ∙ t.tag_is))

-- what a head leads to
module _ (records : List Record) (cell : ℕ) where
  pub latest-is : (r : ℕ) (x : Record) → slice_get records r ≡ Some x → x.tag / 16 ≡ cell
      → latest_of (suc r) records cell ≡ suc r
  latest-is r x g e =
      let t : nat_eq (x.tag / 16) cell ≡ true = grind (arith, nat_tests) in
      rw g rw t refl

  -- it is of no later number
  pub latest_small : (head : ℕ) → latest_of head records cell ≤ length records
  latest_small zero = omega arith
  latest_small (suc r) = by_get (slice_get records r) refl
    where
      by_get : (o : Option Record) → slice_get records r ≡ o
          → (if option_map_or (λ x. nat_eq (x.tag / 16) cell) o false then suc r else 0) ≤ length records
      by_get None g = omega arith
      by_get (Some x) g =
          let w = slice_get_within records r x g in
          by_test (nat_eq (x.tag / 16) cell) w
        where
          by_test : (b : Bool) → r < length records → (if b then suc r else 0) ≤ length records
          by_test true w = omega (arith, w)
          by_test false w = omega arith

  -- where the cell has a record it is the head
  pub latest_leads : (head q : ℕ) → LeadsBack records cell q head
      → LeadsBack records cell q (latest_of head records cell)
  latest_leads head q b =
      let e : latest_of head records cell ≡ head = ap (λ (h : ℕ). latest_of h records cell) b.entry_is
      ∙ latest-is b.r b.found b.found_is b.cell_is ∙ sym b.entry_is in
      subst (λ (h : ℕ). LeadsBack records cell q h) (sym e) b

  -- and else 0
  pub latest_own : (head : ℕ)
      → (latest_of head records cell ≡ 0) ⊎ LeadsBack records cell 0 (latest_of head records cell)
  latest_own zero = inl refl
  latest_own (suc r) = by_get (slice_get records r) refl
    where
      by_get : (o : Option Record) → slice_get records r ≡ o
          → (latest_of (suc r) records cell ≡ 0) ⊎ LeadsBack records cell 0 (latest_of (suc r) records cell)
      by_get None g = inl (rw g refl)
      by_get (Some x) g = by_test (nat_eq (x.tag / 16) cell) refl
        where
          by_test : (b : Bool) → nat_eq (x.tag / 16) cell ≡ b
              → (latest_of (suc r) records cell ≡ 0)
              ⊎ LeadsBack records cell 0 (latest_of (suc r) records cell)
          by_test false t = inl (rw g rw t refl)
          by_test true t =
              let is : x.tag / 16 ≡ cell = grind (arith, nat_tests) in
              inr (record {
                r = r;
                entry_is = latest-is r x g is;
                later = omega arith;
                found = x;
                found_is = g;
                cell_is = is;
              })

-- a record is added for a cell and an arrival: the latest of the cell
module _ (heads : List ℕ) (records : List Record) (a : AreRecords heads records) (cell arrival : ℕ)
    (within : cell < length heads) (small : arrival < 9) where
  abbrev pub latest : Record
  latest = record {
    tag = tag_of cell arrival;
    earlier = latest_of (slice_index_or heads cell 0) records cell;
  }

  abbrev more : List Record
  more = records ++ latest ∷ []

  abbrev later : List ℕ
  later = slice_set heads cell (suc (length records))

  lifted : (c q entry : ℕ) → LeadsBack records c q entry → LeadsBack more c q entry
  lifted c q entry b = record {
    r = b.r;
    entry_is = b.entry_is;
    later = b.later;
    found = b.found;
    found_is = get-append_left records (latest ∷ []) b.r b.found b.found_is;
    cell_is = b.cell_is;
  }

  -- a record that is not the new one
  earlier_one : (q : ℕ) (x : Record) → slice_get more q ≡ Some x → q < length records
      → slice_get records q ≡ Some x
  earlier_one q x g l = elim (got-added records latest q x g) [
    | inl was ↦ was
    | inr new ↦ absurd (omega (arith, new.0, l))
  ]

  linked_more : AreLinked more
  linked_more = record {
    lead = λ q r x y g h l e. elim (got-added records latest r y h) [
      | inl was ↦ (let w = slice_get_within records r y was in
          lifted (y.tag / 16) q y.earlier
          (a.linked.lead q r x y (earlier_one q x g (omega (arith, w, l))) was l e))
      | inr new ↦ (let cell_is : y.tag / 16 ≡ cell =
          ap (λ (z : Record). z.tag / 16) new.1 ∙ tag-cell cell arrival small in
          let b = a.heads_lead cell q x (earlier_one q x g (omega (arith, new.0, l))) (e ∙ cell_is) in
          let c = latest_leads records cell (slice_index_or heads cell 0) q b in
          subst (λ (z : Record). LeadsBack more (z.tag / 16) q z.earlier) (sym new.1)
          (subst (λ (k : ℕ). LeadsBack more k q latest.earlier) (sym (tag-cell cell arrival small))
          (lifted cell q latest.earlier c)))
    ];
    earlier = λ r y h. elim (got-added records latest r y h) [
      | inl was ↦ a.linked.earlier r y was
      | inr new ↦ (let s = latest_small records cell (slice_index_or heads cell 0) in
          let e : y.earlier ≡ latest.earlier = ap (λ (z : Record). z.earlier) new.1 in
          omega (arith, new.0, s, e))
    ];
    own = λ r y h. elim (got-added records latest r y h) [
      | inl was ↦ elim (a.linked.own r y was) [
        | inl none ↦ inl none
        | inr b ↦ inr (lifted (y.tag / 16) 0 y.earlier b)
      ]
      | inr new ↦ elim (latest_own records cell (slice_index_or heads cell 0)) [
        | inl none ↦ inl (ap (λ (z : Record). z.earlier) new.1 ∙ none)
        | inr b ↦ inr (subst (λ (z : Record). LeadsBack more (z.tag / 16) 0 z.earlier) (sym new.1)
            (subst (λ (k : ℕ). LeadsBack more k 0 latest.earlier) (sym (tag-cell cell arrival small))
            (lifted cell 0 latest.earlier b)))
      ]
    ];
  }

  heads_more : (c : ℕ) → IsHead more c (slice_index_or later c 0)
  heads_more c = λ q x g e. by_cell q x g e (two c)
    where
      two : (c : ℕ) → (c ≡ cell) ⊎ (c ≡ cell → ⊥)
      two c = grind arith

      by_cell : (q : ℕ) (x : Record) → slice_get more q ≡ Some x → x.tag / 16 ≡ c
          → (c ≡ cell) ⊎ (c ≡ cell → ⊥) → LeadsBack more c q (slice_index_or later c 0)
      by_cell q x g e (inl here) =
          let w = slice_get_within more q x g in
          record {
            r = length records;
            entry_is = ap (λ (k : ℕ). slice_index_or later k 0) here
                ∙ get_or-set_same heads cell (suc (length records)) 0 within;
            later = omega (arith, w, length-append records (latest ∷ []));
            found = latest;
            found_is = get_pushed records latest;
            cell_is = tag-cell cell arrival small ∙ sym here;
          }
      by_cell q x g e (inr n) = elim (got-added records latest q x g) [
        | inl was ↦ subst (λ (k : ℕ). LeadsBack more c q k)
            (sym (get_or-set_other heads cell c (suc (length records)) 0 n))
            (lifted c q (slice_index_or heads c 0) (a.heads_lead c q x was e))
        | inr new ↦ absurd (n (sym e ∙ ap (λ (z : Record). z.tag / 16) new.1 ∙ tag-cell cell arrival small))
      ]

  -- and no other entry changes
  pub put_record : IsPut ByArrival heads later records more cell arrival (suc (length records))
  put_record = record {
    here = rw (is_small arrival small) (entry-added records latest (tag_of cell arrival) ∙ rw itself refl);
    others = λ c b n. elsewhere c b n (nat_lt b 9) refl;
    heads_are = record { linked = linked_more; heads_lead = heads_more };
    as_many = length-set heads cell (suc (length records));
  }
    where
      is_small : (n : ℕ) → n < 9 → nat_lt n 9 ≡ true
      is_small n h = grind (arith, nat_tests)

      itself : nat_eq (tag_of cell arrival) (tag_of cell arrival) ≡ true
      itself = grind (arith, nat_tests)

      apart : (c b : ℕ) → ((c ≡ cell) × (b ≡ arrival) → ⊥) → nat_lt b 9 ≡ true
          → nat_eq (tag_of cell arrival) (tag_of c b) ≡ false
      apart c b n l = by_test (nat_eq (tag_of cell arrival) (tag_of c b)) refl
        where
          by_test : (t : Bool) → nat_eq (tag_of cell arrival) (tag_of c b) ≡ t → t ≡ false
          by_test false e = refl
          by_test true e =
              let low : b < 9 = grind (arith, nat_tests) in
              let same : tag_of cell arrival ≡ tag_of c b = grind (arith, nat_tests) in
              let o = one_tag cell arrival c b small low same in
              absurd (n (sym o.0, sym o.1))

      elsewhere : (c b : ℕ) → ((c ≡ cell) × (b ≡ arrival) → ⊥) → (t : Bool) → nat_lt b 9 ≡ t
          → entry_in ByArrival later more c b ≡ entry_in ByArrival heads records c b
      elsewhere c b n false l = rw l refl
      elsewhere c b n true l =
          rw l (entry-added records latest (tag_of c b) ∙ rw (apart c b n l) refl)
