-- The fault of a text is the first way in which it differs from the encoding.
use Rattle.std.proofs.Common.{◌≡◌, ◌≢◌, ℕ, zero, suc, ◌+◌, ◌*◌, ◌<◌, ◌⊎◌, inl, inr, Bool, true, false, List}
use Rattle.std.proofs.Common.{[], ◌∷◌, length, take, drop, ap, sym, ◌∙◌, arith}
use Rattle.std.specs.Prelude.{ℤ, Option, Some, None, Result, IfErr, not, nat_eq, option_map}
use Rattle.std.specs.Prelude.{slice_get, if◌then◌else◌}
use Rattle.std.specs.Option.{option_or}
use Rattle.std.specs.Str.{bytes_eq}
use Rattle.std.proofs.lemmas.Bool.Decides.{nat_tests}
use Rattle.std.proofs.lemmas.List.{drop-drop}
use Rattle.std.proofs.lemmas.Slice.Eq.{bytes_eq-Decides}
use Rattle.grid_moves.specs.Grid.{GridData}
use Rattle.table_file.specs.declared.fault.TableFault.{TableFault}
use Rattle.table_file.specs.declared.fault.TableFault.TheVariants.{Head, Length, NoMemory}
use Rattle.table_file.specs.Encoding.{entry_bytes, entry_for, head_bytes, size_of}
use Rattle.table_file.specs.Faults.{Differs, IsFirstWrong, IsRightAt, Tells, entry_fault, first_wrong}
use Rattle.table_file.specs.Faults.{table_fault_of}
use Rattle.table_file.specs.Order.{Spot, spots_of}

same_some : {A : Type 0} (a b : A) → Some a ≡ Some b → a ≡ b
same_some a b same = cc

if_some : (b : Bool) (head s : Spot) (rest : Option Spot) → (if b then rest else Some head) ≡ Some s
    → ((b ≡ true) × (rest ≡ Some s)) ⊎ ((b ≡ false) × (head ≡ s))
if_some b head s rest h = grind (arith, nat_tests)

module _ (entry : Spot → ℤ) where
  two_on : (bytes : List ℕ) (k : ℕ) → drop (2 * k) (drop 2 bytes) ≡ drop (2 * suc k) bytes
  two_on bytes k = drop-drop (2 * k) 2 bytes ∙ ap (λ (n : ℕ). drop n bytes) (twice k)
    where
      twice : (n : ℕ) → 2 + 2 * n ≡ 2 * suc n
      twice n = omega arith

  later_first : (spots : List Spot) (bytes : List ℕ) (head s : Spot)
      → bytes_eq (take 2 bytes) (entry_bytes (entry head)) ≡ true → IsFirstWrong entry spots (drop 2 bytes) s
      → IsFirstWrong entry (head ∷ spots) bytes s
  later_first spots bytes head s right first = record {
    place = suc first.place;
    there = first.there;
    wrong = λ fine. first.wrong (ap (take 2) (two_on bytes first.place) ∙ fine);
    before = earlier;
  }
    where
      earlier : (k : ℕ) (t : Spot) → k < suc first.place → slice_get (head ∷ spots) k ≡ Some t
          → IsRightAt entry bytes k t
      earlier zero t below is = (bytes_eq-Decides (take 2 bytes) (entry_bytes (entry head))).0 right
          ∙ ap (λ (u : Spot). entry_bytes (entry u)) (same_some head t is)
      earlier (suc k) t below is = ap (take 2) (sym (two_on bytes k)) ∙ first.before k t (omega arith) is

  at_head : (spots : List Spot) (bytes : List ℕ) (head s : Spot)
      → bytes_eq (take 2 bytes) (entry_bytes (entry head)) ≡ false → head ≡ s
      → IsFirstWrong entry (head ∷ spots) bytes s
  at_head spots bytes head s h i = grind (arith, nat_tests)

  first_is : (spots : List Spot) (bytes : List ℕ) (s : Spot) → first_wrong entry spots bytes ≡ Some s
      → IsFirstWrong entry spots bytes s
  first_is [] bytes s is = absurd (cc)
  first_is (head ∷ spots) bytes s is =
      elim (if_some (bytes_eq (take 2 bytes) (entry_bytes (entry head))) head s
      (first_wrong entry spots (drop 2 bytes)) is) [
        | inl both ↦ later_first spots bytes head s both.0 (first_is spots (drop 2 bytes) s both.1)
        | inr both ↦ at_head spots bytes head s both.0 both.1
      ]

decided : (right whole : Bool) (wrong : Option Spot) (fault : TableFault) (P : TableFault → Type 0)
    → (right ≡ false → P Head) → (right ≡ true → whole ≡ false → P Length)
    → ((s : Spot) → right ≡ true → whole ≡ true → wrong ≡ Some s → P (entry_fault s))
    → option_or (if not right then Some Head else if not whole then Some Length else None)
    (option_map entry_fault wrong) ≡ Some fault → P fault
decided right whole wrong fault P h i j k = grind (arith, nat_tests)

module _ (land water : GridData) (text : List ℕ) where
  pub fault_differs : (fault : TableFault) → table_fault_of land water text ≡ Some fault
      → Differs land water text fault
  unfolding table_fault_of
  fault_differs fault is =
      let head = head_bytes land.corner land.width land.height in
      let test = bytes_eq-Decides head (take 13 text) in
      decided (bytes_eq head (take 13 text)) (nat_eq (length text) (size_of land))
      (first_wrong (entry_for land water) (spots_of land.width land.height) (drop 13 text)) fault
      (Differs land water text)
      (λ other same. let right = test.1 (sym same) in absurd (cc))
      (λ right other. (sym (test.0 right), longer other))
      (λ s right all wrong. (
        sym (test.0 right),
        exact all,
        first_is (entry_for land water) (spots_of land.width land.height) (drop 13 text) s wrong,
      )) is
    where
      longer : nat_eq (length text) (size_of land) ≡ false → length text ≢ size_of land
      longer other same = grind (arith, nat_tests)

      exact : nat_eq (length text) (size_of land) ≡ true → length text ≡ size_of land
      exact all = grind (arith, nat_tests)

  -- the same of an answer that tells the fault
  pub differs_by : {A : Type 0} (answer : Result A TableFault) → Tells answer (table_fault_of land water text)
      → IfErr answer (λ fault. fault ≢ NoMemory → Differs land water text fault)
  differs_by answer h = grind (arith, nat_tests, fault_differs)
