-- What runs tell of the members that were cut.
use Rattle.std.proofs.Common.{◌≡◌, ℕ, zero, suc, ◌+◌, ◌-◌, ◌<◌, ◌≤◌, arith, refl, ap, sym, ◌∙◌}
use Rattle.std.proofs.Common.{subst, true, false, List, [], ◌∷◌, ◌++◌, length, get_or, map, drop}
use Rattle.std.proofs.Common.{append_assoc, add-one, drop-cons, length-append}
use Rattle.std.specs.Prelude.{Option, None, nat_lt, if◌then◌else◌}
use Rattle.std.proofs.lemmas.Bool.{cases_lt}
use Rattle.std.proofs.lemmas.Bool.Decides.{nat_tests}
use Rattle.grid_moves.specs.declared.Dir.{Dir}
use Rattle.grid_moves.proofs.Dirs.{one_dir}
use Rattle.first_moves.specs.declared.row.Run.{Run}
use Rattle.first_moves.specs.First.{first_in}
use Rattle.first_moves.specs.Runs.{is_same_move, runs_from, runs_of}

-- equal members are one
pub same_move : (m n : Option Dir) → is_same_move m n ≡ true → m ≡ n
same_move m n h1 = grind (arith, nat_tests, one_dir)

-- a run that begins at s, and those of what follows it
abbrev runs_on : ℕ → ℕ → Option Dir → List (Option Dir) → List Run
runs_on s k m ms = record { start = s; first = m } ∷ runs_from k m ms

-- runs of the rest begin at its places
starts_high : (k : ℕ) (m : Option Dir) (ms : List (Option Dir)) (i : ℕ) (d : Run)
    → i < length (runs_from k m ms)
    → k ≤ (get_or (runs_from k m ms) i d).start
starts_high k m [] i d h = absurd (omega arith)
starts_high k m (x ∷ ms) i d h =
    elim (is_same_move m x) as (λ b. i < length (if b then runs_from (k + 1) m ms else runs_on k (k + 1) x ms)
    → k ≤ (get_or (if b then runs_from (k + 1) m ms else runs_on k (k + 1) x ms) i d).start) [
      | true ↦ λ l. let r = starts_high (k + 1) m ms i d l in omega (arith, r)
      | false ↦ λ l. by_place (λ j q. starts_high (k + 1) x ms j d q) i l
    ] h
  where
    by_place : ((j : ℕ) → j < length (runs_from (k + 1) x ms)
        → k + 1 ≤ (get_or (runs_from (k + 1) x ms) j d).start)
        → (j : ℕ) → j < length (runs_on k (k + 1) x ms) → k ≤ (get_or (runs_on k (k + 1) x ms) j d).start
    by_place later zero l = omega arith
    by_place later (suc j) l = let r = later j (omega (arith, l)) in omega (arith, r)

-- the member at place n, where m stands before place k and these from there on
abbrev member : ℕ → Option Dir → List (Option Dir) → ℕ → Option Dir
member k m ms n = if nat_lt n k then m else get_or ms (n - k) None

member_below : (k : ℕ) (m : Option Dir) (ms : List (Option Dir)) (n : ℕ) → n < k → member k m ms n ≡ m
member_below k m ms n h = let t : nat_lt n k ≡ true = grind (arith, nat_tests) in rw t refl

member_from : (k : ℕ) (m : Option Dir) (ms : List (Option Dir)) (n : ℕ) → k ≤ n
    → member k m ms n ≡ get_or ms (n - k) None
member_from k m ms n h = let t : nat_lt n k ≡ false = grind (arith, nat_tests) in rw t refl

-- one place later, where the first of them is m
member_later : (k : ℕ) (m : Option Dir) (ms : List (Option Dir)) (n : ℕ)
    → member (k + 1) m ms n ≡ member k m (m ∷ ms) n
member_later k m ms n = grind (arith, nat_tests, cases_lt, member_below, member_from)

-- run i begins at place n or before, unless it is the first one, and the next one after it
pub record IsRunOf (runs : List Run) (n i : ℕ) (d : Run) : Type 0 where
  pub within : i < length runs
  pub begun : 0 < i → (get_or runs i d).start ≤ n
  pub ends : suc i < length runs → n < (get_or runs (suc i) d).start

-- the run at place n tells its member
abbrev ReadsAt : ℕ → Option Dir → List Run → ℕ → Run → Option Dir → Type 0
ReadsAt s m runs n d is = (i : ℕ) → IsRunOf (record { start = s; first = m } ∷ runs) n i d
    → (get_or (record { start = s; first = m } ∷ runs) i d).first ≡ is

reads : (s k : ℕ) (m : Option Dir) (ms : List (Option Dir)) (n : ℕ) (d : Run) → n < k + length ms
    → ReadsAt s m (runs_from k m ms) n d (member k m ms n)
reads s k m [] n d h zero r = sym (member_below k m [] n (omega arith))
reads s k m [] n d h (suc i) r = absurd (let w = r.within in omega (arith, w))
reads s k m (x ∷ ms) n d h i r =
    elim (is_same_move m x) as (λ b. is_same_move m x ≡ b
    → ReadsAt s m (if b then runs_from (k + 1) m ms else runs_on k (k + 1) x ms) n d
    (member k m (x ∷ ms) n)) [
      | true ↦ λ e j q.
          reads s (k + 1) m ms n d (omega arith) j q ∙ member_later k m ms n
          ∙ ap (λ (y : Option Dir). member k m (y ∷ ms) n) (same_move m x e)
      | false ↦ λ e j q. by_place (reads k (k + 1) x ms n d (omega arith)) j q
    ] refl i r
  where
    high : (j : ℕ) → j < length (runs_on k (k + 1) x ms)
        → (get_or (runs_on k (k + 1) x ms) j d).start ≤ n → k ≤ n
    high zero l b = b
    high (suc j) l b = let t = starts_high (k + 1) x ms j d (omega (arith, l)) in omega (arith, t, b)

    by_place : ReadsAt k x (runs_from (k + 1) x ms) n d (member (k + 1) x ms n)
        → ReadsAt s m (runs_on k (k + 1) x ms) n d (member k m (x ∷ ms) n)
    by_place next zero r = let e = r.ends (omega arith) in
        sym (member_below k m (x ∷ ms) n (omega (arith, e)))
    by_place next (suc j) r =
        let w = r.within in
        let above : k ≤ n = high j (omega (arith, w)) (r.begun (omega arith)) in
        next j (record {
          within = omega (arith, w);
          begun = λ p. r.begun (omega arith);
          ends = λ p. r.ends (omega (arith, p));
        })
        ∙ member_later k x ms n
        ∙ member_from k x (x ∷ ms) n above
        ∙ sym (member_from k m (x ∷ ms) n above)

-- a run of a list tells the members at its places
pub first_there : (runs : List Run) (members : List (Option Dir)) (n i : ℕ) (d : Run) → runs ≡ runs_of members
    → n < length members → IsRunOf runs n i d → (get_or runs i d).first ≡ get_or members n None
first_there runs members n i d e h r =
    ap (λ (l : List Run). (get_or l i d).first) e
    ∙ by_list members h (subst (λ (l : List Run). IsRunOf l n i d) e r)
  where
    by_place : (m : Option Dir) (ms : List (Option Dir)) (n : ℕ) → member 1 m ms n ≡ get_or (m ∷ ms) n None
    by_place m ms zero = refl
    by_place m ms (suc n) = member_from 1 m ms (suc n) (omega arith)
        ∙ ap (λ (j : ℕ). get_or ms j None) (let less : suc n - 1 ≡ n = omega arith in less)

    by_list : (members : List (Option Dir)) → n < length members → IsRunOf (runs_of members) n i d
        → (get_or (runs_of members) i d).first ≡ get_or members n None
    by_list [] h r = absurd (omega arith)
    by_list (m ∷ ms) h r = reads 0 1 m ms n d (omega arith) i r ∙ by_place m ms n

-- the runs after one member more, of which x is the next
member_more : (all runs next : List Run) (k : ℕ) (m x : Option Dir) (ms : List (Option Dir))
    → all ≡ runs ++ runs_from k m (x ∷ ms) → length runs ≤ k
    → next ≡ (if is_same_move m x then runs else runs ++ record { start = k; first = x } ∷ [])
    → (all ≡ next ++ runs_from (k + 1) x ms) × (length next ≤ k + 1)
member_more all runs next k m x ms e few f = elim (is_same_move m x) as (λ b. is_same_move m x ≡ b
    → all ≡ runs ++ (if b then runs_from (k + 1) m ms else runs_on k (k + 1) x ms)
    → next ≡ (if b then runs else runs ++ record { start = k; first = x } ∷ [])
    → (all ≡ next ++ runs_from (k + 1) x ms) × (length next ≤ k + 1)) [
      | true ↦ λ s p q. (
        p ∙ ap (λ (y : Option Dir). runs ++ runs_from (k + 1) y ms) (same_move m x s)
            ∙ ap (λ (l : List Run). l ++ runs_from (k + 1) x ms) (sym q),
        let l = ap (λ (l : List Run). length l) q in omega (arith, l),
      )
      | false ↦ λ s p q. (
        p ∙ sym (append_assoc runs (record { start = k; first = x } ∷ []) (runs_from (k + 1) x ms))
            ∙ ap (λ (l : List Run). l ++ runs_from (k + 1) x ms) (sym q),
        let l =
            ap (λ (l : List Run). length l) q ∙ length-append runs (record { start = k; first = x } ∷ []) in
            omega (arith, l),
      )
    ] refl e f

-- after one byte more
pub byte_more : (all runs next : List Run) (bytes : List ℕ) (i : ℕ) (m : Option Dir) → i < length bytes
    → all ≡ runs ++ runs_from (i + 1) m (map first_in (drop i bytes)) → length runs ≤ i + 1
    → next ≡ (if is_same_move m (first_in (get_or bytes i 0)) then runs
    else runs ++ record { start = i + 1; first = first_in (get_or bytes i 0) } ∷ [])
    → (all ≡ next ++ runs_from (i + 1 + 1) (first_in (get_or bytes i 0)) (map first_in (drop (i + 1) bytes)))
    × (length next ≤ i + 1 + 1)
byte_more all runs next bytes i m h e few f =
    member_more all runs next (i + 1) m (first_in (get_or bytes i 0)) (map first_in (drop (i + 1) bytes))
    (e ∙ ap (λ (l : List ℕ). runs ++ runs_from (i + 1) m (map first_in l)) split) few f
  where
    split : drop i bytes ≡ get_or bytes i 0 ∷ drop (i + 1) bytes
    split = rw (add-one, drop-cons bytes i 0) refl
