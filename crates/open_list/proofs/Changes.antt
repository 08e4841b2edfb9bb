-- What a list has after one element is changed.
use Rattle.std.proofs.Common.{◌≡◌, ◌≢◌, ℕ, ◌≤◌, zero, suc, List, [], ◌∷◌, ◌++◌, length, map, get_or, set}
use Rattle.std.proofs.Common.{Some, slice_get, take, drop, refl, ap, arith}
use Rattle.std.proofs.lemmas.Grind.{common_steps}
use Rattle.std.proofs.lemmas.Option.{same_Some, none-some}
use Rattle.open_list.specs.Entry.{changed}

module _ {X : Type 0} (f : X → X) where
  pub set-changed : (es : List X) (i : ℕ) (d : X) → set es i (f (get_or es i d)) ≡ changed f i es
  set-changed [] i d = refl
  set-changed (e ∷ es) zero d = refl
  set-changed (e ∷ es) (suc i) d = ap (λ l. e ∷ l) (set-changed es i d)

  pub changed_past : (i : ℕ) (es : List X) → length es ≤ i → changed f i es ≡ es
  changed_past i [] h = refl
  changed_past zero (e ∷ es) h = absurd (omega (arith, h))
  changed_past (suc i) (e ∷ es) h = ap (λ l. e ∷ l) (changed_past i es (omega (arith, h)))

  pub length-changed : (i : ℕ) (es : List X) → length (changed f i es) ≡ length es
  length-changed i [] = refl
  length-changed zero (e ∷ es) = refl
  length-changed (suc i) (e ∷ es) = ap suc (length-changed i es)

  pub get-changed : (i : ℕ) (es : List X) (e : X) → slice_get es i ≡ Some e
      → slice_get (changed f i es) i ≡ Some (f e)
  get-changed i [] e h = cc h
  get-changed zero (x ∷ es) e h = ap (λ y. Some (f y)) (same_Some x e h)
  get-changed (suc i) (x ∷ es) e h = get-changed i es e h

  pub get-changed_other : (i j : ℕ) (es : List X) → j ≢ i → slice_get (changed f i es) j ≡ slice_get es j
  get-changed_other i j [] ne = refl
  get-changed_other zero zero (x ∷ es) ne = absurd (ne refl)
  get-changed_other zero (suc j) (x ∷ es) ne = refl
  get-changed_other (suc i) zero (x ∷ es) ne = refl
  get-changed_other (suc i) (suc j) (x ∷ es) ne = get-changed_other i j es (λ h. ne (ap suc h))

  -- what g reads of an element stays, where the change keeps it
  pub map-changed : {Y : Type 0} (g : X → Y) (i : ℕ) (es : List X)
      → ((e : X) → slice_get es i ≡ Some e → g (f e) ≡ g e) → map g (changed f i es) ≡ map g es
  map-changed g i [] keeps = refl
  map-changed g zero (x ∷ es) keeps = ap (λ y. y ∷ map g es) (keeps x refl)
  map-changed g (suc i) (x ∷ es) keeps = ap (λ l. g x ∷ l) (map-changed g i es keeps)

  -- and changes as the element does
  pub map-changed_to : {Y : Type 0} (g : X → Y) (h : Y → Y) (i : ℕ) (es : List X)
      → ((e : X) → g (f e) ≡ h (g e)) → map g (changed f i es) ≡ changed h i (map g es)
  map-changed_to g h i [] same = refl
  map-changed_to g h zero (x ∷ es) same = ap (λ y. y ∷ map g es) (same x)
  map-changed_to g h (suc i) (x ∷ es) same = ap (λ l. g x ∷ l) (map-changed_to g h i es same)

module _ {X : Type 0} where
  pub set-is_changed : (es : List X) (i : ℕ) (x : X) → set es i x ≡ changed (λ _. x) i es
  set-is_changed [] i x = refl
  set-is_changed (e ∷ es) zero x = refl
  set-is_changed (e ∷ es) (suc i) x = ap (λ l. e ∷ l) (set-is_changed es i x)

  pub get-append_left : (es others : List X) (i : ℕ) (e : X) → slice_get es i ≡ Some e
      → slice_get (es ++ others) i ≡ Some e
  get-append_left [] others i e h = absurd (none-some e h)
  get-append_left (x ∷ es) others zero e h = h
  get-append_left (x ∷ es) others (suc i) e h = get-append_left es others i e h

  pub get_pushed : (es : List X) (e : X) → slice_get (es ++ e ∷ []) (length es) ≡ Some e
  get_pushed [] e = refl
  get_pushed (x ∷ es) e = get_pushed es e

  pub get_pushed_other : (es : List X) (e : X) (i : ℕ) → i ≢ length es
      → slice_get (es ++ e ∷ []) i ≡ slice_get es i
  get_pushed_other [] e zero ne = absurd (ne refl)
  get_pushed_other [] e (suc i) ne = refl
  get_pushed_other (x ∷ es) e zero ne = refl
  get_pushed_other (x ∷ es) e (suc i) ne = get_pushed_other es e i (λ h. ne (ap suc h))

  -- a whole list that was lent as a slice, and is back
  pub back : (new old : List X) (len : ℕ) → len ≡ length old → length new ≡ len
      → take len (new ++ drop (length new) old) ≡ new
  back new old len all same = grind (arith, common_steps)
