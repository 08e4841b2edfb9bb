-- What a text is read as, what it spells and how it breaks the form.
use Rattle.std.proofs.Common.{◌≡◌, ℕ, ◌+◌, ◌<◌, ◌≤◌, arith, refl, ap, Bool, false, List, [], ◌∷◌}
use Rattle.std.proofs.Common.{length, inl, inr}
use Rattle.std.specs.Prelude.{Option, Some, None, Result, Ok, Err, if◌then◌else◌, nat_lt}
use Rattle.std.proofs.lemmas.Bool.Decides.{nat_tests}
use Rattle.text_line.specs.Fields.{fields_of, is_blank}
use Rattle.text_line.specs.Lines.{lines_of}
use Rattle.text_line.specs.Reading.{SpellInOrder}
use Rattle.text_line.proofs.Reading.{Reads, Judges, lines_read}
use Rattle.walk_judge.specs.declared.fault.WalkFault.{WalkFault}
use Rattle.walk_judge.specs.declared.fault.WalkFault.TheVariants.{Count}
use Rattle.walk_judge.specs.declared.claims.Claimed.{Claimed}
use Rattle.walk_judge.specs.Claims.{AreFieldsOf}
use Rattle.walk_judge.specs.Walks.{Place, at_line, at_end, places_from, places_of, fields_read}
use Rattle.walk_judge.specs.Walks.{place_read, walks_of, BreaksFirst, IsBlank, IsLineOf, Spells}
use Rattle.walk_judge.proofs.Fields.{claimed_fields, fields_claimed, fields_there}

-- a place that breaks nothing and tells nothing
abbrev IsBlankPlace : ℕ → Place → Type 0
IsBlankPlace entries (at_line number before line) = IsBlank line
IsBlankPlace entries (at_end number before) = entries ≤ before

-- a place that tells this
abbrev IsPlaceOf : ℕ → Place → Claimed → Type 0
IsPlaceOf entries (at_line number before line) what = (before < entries) × IsLineOf line what
IsPlaceOf entries (at_end number before) what = ⊥

-- what the end is read as, given whether lines are missing
abbrev end_read : ℕ → Bool → Result (Option Claimed) WalkFault
end_read number few = if few then Err (Count number) else Ok None

module _ (entries : ℕ) where
  fields_blank : (number before : ℕ) (fields : List (List ℕ))
      → fields_read entries number before fields ≡ Ok None → fields ≡ []
  fields_blank number before fields h1 = grind (arith, nat_tests)

  fields_tell : (number before : ℕ) (fields : List (List ℕ)) (what : Claimed)
      → fields_read entries number before fields ≡ Ok (Some what)
      → (before < entries) × AreFieldsOf fields what
  fields_tell number before fields what h1 = grind (arith, nat_tests, claimed_fields)

  tell_fields : (number before : ℕ) (fields : List (List ℕ)) (what : Claimed) → before < entries
      → AreFieldsOf fields what → fields_read entries number before fields ≡ Ok (Some what)
  tell_fields number before fields what h1 h2 = grind (arith, nat_tests, fields_there, fields_claimed)

  end_blank : (number before : ℕ) → place_read entries (at_end number before) ≡ Ok None → entries ≤ before
  end_blank number before h1 = grind (arith, nat_tests)

  end_tells : (number before : ℕ) (what : Claimed)
      → place_read entries (at_end number before) ≡ Ok (Some what) → ⊥
  end_tells number before what h1 = grind (arith, nat_tests)

  blank_is : (place : Place) → place_read entries place ≡ Ok None → IsBlankPlace entries place
  blank_is (at_line number before line) read = fields_blank number before (fields_of line) read
  blank_is (at_end number before) read = end_blank number before read

  is_nothing_read : (place : Place) → IsBlankPlace entries place → place_read entries place ≡ Ok None
  is_nothing_read (at_line number before line) blank = ap (fields_read entries number before) blank
  is_nothing_read (at_end number before) all =
      let none : nat_lt before entries ≡ false = grind (arith, nat_tests) in rw none refl

  claimed_is : (place : Place) (what : Claimed) → place_read entries place ≡ Ok (Some what)
      → IsPlaceOf entries place what
  claimed_is (at_line number before line) what read = fields_tell number before (fields_of line) what read
  claimed_is (at_end number before) what read = end_tells number before what read

  is_claimed : (place : Place) (what : Claimed) → IsPlaceOf entries place what
      → place_read entries place ≡ Ok (Some what)
  is_claimed (at_line number before line) what is = tell_fields number before (fields_of line) what is.0 is.1
  is_claimed (at_end number before) what is = absurd is

  places_judged : Judges (place_read entries) (IsBlankPlace entries) (IsPlaceOf entries)
  places_judged =
      record { blank = blank_is; nothing = is_nothing_read; spelled = claimed_is; value = is_claimed }

  -- lines that are blank or tell the walks in order, of which there are as many as entries, and their places
  to_places : (number before : ℕ) (lines : List (List ℕ)) (walks : List Claimed)
      → SpellInOrder IsBlank IsLineOf lines walks → before + length walks ≡ entries
      → SpellInOrder (IsBlankPlace entries) (IsPlaceOf entries) (places_from number before lines) walks
  to_places number before [] walks none counted = inl (omega (arith, ap length none), none)
  to_places number before (line ∷ lines) walks spelled counted = elim spelled [
    | inl blank ↦ inl (blank.0, rw blank.0 (to_places (number + 1) before lines walks blank.1 counted))
    | inr first ↦
        let long = ap length first.are in
        let there : is_blank line ≡ false = fields_there (fields_of line) first.first first.spelled in
        inr (record {
          first = first.first;
          others = first.others;
          are = first.are;
          spelled = (omega arith, first.spelled);
          later = rw there (to_places (number + 1) (before + 1) lines first.others first.later (omega arith));
        })
  ]

  from_places : (number before : ℕ) (lines : List (List ℕ)) (walks : List Claimed) → before ≤ entries
      → SpellInOrder (IsBlankPlace entries) (IsPlaceOf entries) (places_from number before lines) walks
      → SpellInOrder IsBlank IsLineOf lines walks × (before + length walks ≡ entries)
  from_places number before [] walks few spelled = elim spelled [
    | inl all ↦ (all.1, omega (arith, ap length all.1, all.0))
    | inr first ↦ absurd first.spelled
  ]
  from_places number before (line ∷ lines) walks few spelled = elim spelled [
    | inl blank ↦
        let later = from_places (number + 1) before lines walks few (rw blank.0 at blank.1) in
        (inl (blank.0, later.0), later.1)
    | inr first ↦
        let there : is_blank line ≡ false = fields_there (fields_of line) first.first first.spelled.1 in
        let later = from_places (number + 1) (before + 1) lines first.others (omega (arith, first.spelled.0))
        (rw there at first.later) in
        let long = ap length first.are in (
          inr (record {
            first = first.first;
            others = first.others;
            are = first.are;
            spelled = first.spelled.1;
            later = later.0;
          }),
          omega (arith, later.1),
        )
  ]

  -- a text is read as what it spells, or as its first fault
  pub walks_read : (text : List ℕ)
      → Reads (Spells text entries) (BreaksFirst text entries) (walks_of text entries)
  unfolding walks_of
  walks_read text =
      let all = lines_read (place_read entries) places_judged (places_of text) in
      record {
        found = λ walks read.
            let spelled = from_places 1 0 (lines_of text) walks (omega arith) (all.found walks read) in
            record { spelled = spelled.0; counted = omega (arith, spelled.1) };
        only = λ walks spells.
            all.only walks
            (to_places 1 0 (lines_of text) walks spells.spelled (omega (arith, spells.counted)));
        first = all.first;
        broken = all.broken;
      }
