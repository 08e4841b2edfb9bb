-- The words of an entry and its fields.
use Rattle.std.proofs.lemmas.Bool.Decides.{nat_tests}
use Rattle.std.proofs.Common.{◌≡◌, ℕ, suc, ◌+◌, ◌-◌, ◌≤◌, List, [], ◌∷◌, ◌++◌, length, get_or, take, drop}
use Rattle.std.proofs.Common.{refl, sym, ap, ◌∙◌, arith}
use Rattle.std.proofs.lemmas.List.{length-append, get_or-append-add, take-append-drop, length-drop}
use Rattle.std.proofs.lemmas.List.{length-take-le}
use Rattle.text_line.specs.Places.{Placed}
use Rattle.scen_text.specs.Words.{Words, nothing, from_end, words_of}
use Rattle.scen_text.specs.Spelling.{Spans, HasWords}
use Rattle.scen_text.specs.Progress.{widened, HasWordsBefore}

-- the last seven
abbrev seven : Words → List Placed → List Placed
seven words left = words.w ∷ words.h ∷ words.sx ∷ words.sy ∷ words.gx ∷ words.gy ∷ words.listed ∷ left

seam : (xs ys : List Placed) (x : Placed) → xs ++ x ∷ ys ≡ (xs ++ x ∷ []) ++ ys
seam [] ys x = refl
seam (first ∷ xs) ys x = ap (λ (rest : List Placed). first ∷ rest) (seam xs ys x)

-- one more field
pub words_more : (all left : List Placed) (words : Words) (field : Placed)
    → HasWordsBefore all words (field ∷ left) → HasWordsBefore all (widened words field) left
words_more all left words field h = grind (arith, nat_tests, seam)

-- a field counted from the end
from_end_at : (bucket : Placed) (front back : List Placed) (i places : ℕ) → i + places ≡ length back
    → from_end places (bucket ∷ (front ++ back)) ≡ get_or (bucket ∷ (front ++ back))
    (suc (length front + i)) nothing
from_end_at bucket front back i places is = grind (arith, length-append)

from_end_is : (bucket : Placed) (front back : List Placed) (i places : ℕ) → i + places ≡ length back
    → from_end places (bucket ∷ (front ++ back)) ≡ get_or back i nothing
from_end_is bucket front back i places is = grind (arith, nat_tests, from_end_at, get_or-append-add)

same_words : (bucket bucket' w w' h h' sx sx' sy sy' gx gx' gy gy' listed listed' : Placed)
    (start start' end end' : ℕ)
    → bucket ≡ bucket' → start ≡ start' → end ≡ end' → w ≡ w' → h ≡ h' → sx ≡ sx' → sy ≡ sy' → gx ≡ gx'
    → gy ≡ gy' → listed ≡ listed'
    → (let a : Words = record {
      bucket = bucket;
      name = record { start = start; end = end };
      w = w;
      h = h;
      sx
          = sx;
      sy = sy;
      gx = gx;
      gy = gy;
      listed = listed;
    } in a)
    ≡ record {
      bucket = bucket';
      name = record { start = start'; end = end' };
      w = w';
      h = h';
      sx = sx';
      sy
          = sy';
      gx = gx';
      gy = gy';
      listed = listed';
    }
same_words bucket bucket' w w' h h' sx sx' sy sy' gx gx' gy gy' listed listed' start start' end end' e0 e1 e2
    e3 e4 e5 e6 e7 e8 e9 =
    rw (e0, e1, e2, e3, e4, e5, e6, e7, e8, e9) refl

module _ (words : Words) (name : List Placed) (spans : Spans name words.name) where
  abbrev all_fields : List Placed
  all_fields = words.bucket ∷ (name ++ seven words [])

  name_starts : words.name.start ≡ (get_or all_fields 1 nothing).start
  name_starts = rw spans.begins spans.start

  name_ends : (from_end 8 all_fields).end ≡ words.name.end
  name_ends =
      let fields : name ++ seven words [] ≡ spans.earlier ++ spans.last ∷ seven words []
      = ap (λ (front : List Placed). front ++ seven words []) spans.ends
      ∙ sym (seam spans.earlier (seven words []) spans.last) in
      let at = from_end_is words.bucket spans.earlier (spans.last ∷ seven words []) 0 8 refl in
      ap (λ (rest : List Placed). (from_end 8 (words.bucket ∷ rest)).end) fields
      ∙ ap (λ (field : Placed). field.end) at ∙ sym spans.end

  pub split_words : words_of all_fields ≡ words
  split_words = same_words _ words.bucket _ words.w _ words.h _ words.sx _ words.sy _ words.gx _ words.gy _
      words.listed _ words.name.start _ words.name.end
      refl (sym name_starts) name_ends
      (from_end_is words.bucket name (seven words []) 0 7 refl)
      (from_end_is words.bucket name (seven words []) 1 6 refl)
      (from_end_is words.bucket name (seven words []) 2 5 refl)
      (from_end_is words.bucket name (seven words []) 3 4 refl)
      (from_end_is words.bucket name (seven words []) 4 3 refl)
      (from_end_is words.bucket name (seven words []) 5 2 refl)
      (from_end_is words.bucket name (seven words []) 6 1 refl)

-- the words that fields have are those counted from both ends
pub words_are : (fields : List Placed) (words : Words) → HasWords fields words → words_of fields ≡ words
words_are fields words has = ap words_of has.are ∙ split_words words has.name has.spans

-- and there are nine fields or more
pub nine_fields : (fields : List Placed) (words : Words) → HasWords fields words → 9 ≤ length fields
nine_fields fields words has = grind (arith, length-append)

-- a list with an element has a last one
snoc_of : (x : Placed) (xs : List Placed)
    → (earlier : List Placed) × (last : Placed) × (x ∷ xs ≡ earlier ++ last ∷ [])
snoc_of x [] = ([], x, refl)
snoc_of x (y ∷ ys) =
    let later = snoc_of y ys in
    (x ∷ later.0, later.1, ap (λ (rest : List Placed). x ∷ rest) later.2)

words_from : (bucket : Placed) (name back : List Placed) → 1 ≤ length name → length back ≡ 7
    → (words : Words) × HasWords (bucket ∷ (name ++ back)) words
words_from bucket [] back some is = absurd (omega arith)
words_from bucket (n ∷ name) (a ∷ b ∷ c ∷ d ∷ e ∷ f ∷ g ∷ []) some is =
    let snoc = snoc_of n name in (
      record {
        bucket = bucket;
        name = record { start = n.start; end = snoc.1.end };
        w = a;
        h = b;
        sx = c;
        sy
            = d;
        gx = e;
        gy = f;
        listed = g;
      },
      record {
        name = n ∷ name;
        are = refl;
        spans = record {
          first = n;
          later = name;
          begins = refl;
          start = refl;
          earlier = snoc.0;
          last = snoc.1;
          ends
              = snoc.2;
          end = refl;
        };
      },
    )
words_from bucket (n ∷ name) back some is = absurd (omega arith)

parts_have_words : (bucket : Placed) (front back fields : List Placed) → front ++ back ≡ fields
    → 1 ≤ length front → length back ≡ 7 → HasWords (bucket ∷ fields) (words_of (bucket ∷ fields))
parts_have_words bucket front back fields are some is =
    let found = words_from bucket front back some is in
    let there : HasWords (bucket ∷ fields) found.0 = rw (sym are) found.1 in
    rw (words_are (bucket ∷ fields) found.0 there) there

-- nine fields or more have words
pub words_there : (bucket : Placed) (fields : List Placed) → 8 ≤ length fields
    → HasWords (bucket ∷ fields) (words_of (bucket ∷ fields))
words_there bucket fields long =
    let name = length fields - 7 in
    parts_have_words bucket (take name fields) (drop name fields) fields (take-append-drop name fields)
    (omega (arith, length-take-le name fields (omega arith))) (omega (arith, length-drop name fields))
