-- Differences of costs: each is a cost less a cost, so that their order is that of two sums of costs.
use Rattle.std.proofs.lemmas.Bool.Decides.{nat_tests}
use Rattle.std.proofs.Common.{◌≡◌, ℕ, suc, ◌+◌, ◌*◌, ◌<◌, arith, ap, sym, ◌∙◌, subst}
use Rattle.std.specs.Prelude.{ℤ, pos, negsuc, ◌+ℤ◌, ◌-ℤ◌, ◌*ℤ◌, ◌<ℤ◌}
use Rattle.std.specs.Int.RustNames.{unsigned_abs}
use Rattle.std.proofs.lemmas.Int.{ints}
use Rattle.root2_cost.specs.declared.Cost.{Cost}
use Rattle.root2_cost.specs.declared.Signed.{Signed}
use Rattle.root2_cost.specs.Order.{is_positive, is_less, IsLess, IsAtMost}
use Rattle.root2_cost.specs.Sums.{add_costs, no_cost}
use Rattle.root2_cost.specs.Signed.{signed_of, add_signed, signed_difference, is_signed_less, IsSignedLess}
use Rattle.root2_cost.specs.Signed.{IsSignedAtMost, RisesAtMost}
use Rattle.root2_cost.specs.Rank.{rank_of, signed_rank, straight_rank, diagonal_rank}
use Rattle.root2_cost.specs.Laws.{HasShortParts, HasShortSides}
use Rattle.root2_cost.proofs.Less.{same_cost}
use Rattle.root2_cost.proofs.AtMost.{less_at_most}
use Rattle.root2_cost.proofs.Sums.{IsAtMost-add, IsAtMost-cancel_right}
use Rattle.root2_cost.proofs.Ranking.{less_ranks, ranks_less}

-- a whole number is at least 0 by this much
up : ℤ → ℕ
up (pos n) = n
up (negsuc n) = 0

-- or below 0 by this much
down : ℤ → ℕ
down (pos n) = 0
down (negsuc n) = suc n

parted : (z : ℤ) → z ≡ pos (up z) -ℤ pos (down z)
unfolding up down
parted z = grind (arith, nat_tests)

-- what is above 0, and what is below
abbrev gain : Signed → Cost
gain s = record { a = up s.a; b = up s.b }

abbrev loss : Signed → Cost
loss s = record { a = down s.a; b = down s.b }

pub same_signed : (p q : Signed) → p.a ≡ q.a → p.b ≡ q.b → p ≡ q
same_signed p q e f = grind (arith, nat_tests)

-- p less q where p is x less y and q is z less w
pub record Is (s : Signed) (x y : Cost) : Type 0 where
  pub a : s.a ≡ pos x.a -ℤ pos y.a
  pub b : s.b ≡ pos x.b -ℤ pos y.b

is_parted : (s : Signed) → Is s (gain s) (loss s)
is_parted s = record { a = parted s.a; b = parted s.b }

pub less_is : (p q : Signed) (x y z w : Cost) → Is p x y → Is q z w
    → is_signed_less p q ≡ is_less (add_costs x w) (add_costs z y)
less_is p q x y z w i j =
    let a : q.a -ℤ p.a ≡ pos (z.a + y.a) -ℤ pos (x.a + w.a) = omega (arith, ints, i.a, j.a) in
    let b : q.b -ℤ p.b ≡ pos (z.b + y.b) -ℤ pos (x.b + w.b) = omega (arith, ints, i.b, j.b) in
    ap (λ (n : ℤ). is_positive n (q.b -ℤ p.b)) a
    ∙ ap (λ (n : ℤ). is_positive (pos (z.a + y.a) -ℤ pos (x.a + w.a)) n) b

-- two bounds add up, and what stands on both sides may be left out
joined : (k l m n o p r : Cost) → IsAtMost k l → IsAtMost m n → add_costs k m ≡ add_costs o r
    → add_costs l n ≡ add_costs p r → IsAtMost o p
joined k l m n o p r g h e f =
    let sum : IsAtMost (add_costs k m) (add_costs l n) = IsAtMost-add k l m n g h in
    IsAtMost-cancel_right r o p (subst (λ (c : Cost). IsAtMost (add_costs o r) c) f
    (subst (λ (c : Cost). IsAtMost c (add_costs l n)) e sum))

pub signed_at_most-trans : (p q r : Signed) → IsSignedAtMost p q → IsSignedAtMost q r → IsSignedAtMost p r
signed_at_most-trans p q r g h =
    let x = gain p in
    let y = loss p in
    let z = gain q in
    let w = loss q in
    let s = gain r in
    let t = loss r in
    let first : IsAtMost (add_costs x w) (add_costs z y) =
    sym (less_is q p z w x y (is_parted q) (is_parted p)) ∙ g in
    let second : IsAtMost (add_costs z t) (add_costs s w) =
    sym (less_is r q s t z w (is_parted r) (is_parted q)) ∙ h in
    less_is r p s t x y (is_parted r) (is_parted p) ∙ joined (add_costs x w) (add_costs z y) (add_costs z t)
    (add_costs s w) (add_costs x t) (add_costs s y) (add_costs z w) first second
    (same_cost (add_costs (add_costs x w) (add_costs z t)) (add_costs (add_costs x t) (add_costs z w))
    (omega arith) (omega arith))
    (same_cost (add_costs (add_costs z y) (add_costs s w)) (add_costs (add_costs s y) (add_costs z w))
    (omega arith) (omega arith))

-- what is less is at most, and each is at most itself
pub signed_less-at_most : (p q : Signed) → IsSignedLess p q → IsSignedAtMost p q
signed_less-at_most p q h =
    let x = gain p in
    let y = loss p in
    let z = gain q in
    let w = loss q in
    let less : IsLess (add_costs x w) (add_costs z y) =
    sym (less_is p q x y z w (is_parted p) (is_parted q)) ∙ h in
    less_is q p z w x y (is_parted q) (is_parted p) ∙ less_at_most (add_costs x w) (add_costs z y) less

pub signed_at_most-refl : (p : Signed) → IsSignedAtMost p p
signed_at_most-refl p = grind (arith, nat_tests)

-- a difference with a cost more
more_is : (s : Signed) (x y c : Cost) → Is s x y → Is (add_signed s (signed_of c)) (add_costs x c) y
more_is s x y c i = record { a = omega (arith, ints, i.a); b = omega (arith, ints, i.b) }

pub bounds_add : (p q r : Signed) (m n : Cost) → RisesAtMost p m q → RisesAtMost q n r
    → RisesAtMost p (add_costs m n) r
bounds_add p q r m n g h =
    let x = gain p in
    let y = loss p in
    let z = gain q in
    let w = loss q in
    let s = gain r in
    let t = loss r in
    let first : IsAtMost (add_costs z y) (add_costs (add_costs x m) w) =
    sym (less_is (add_signed p (signed_of m)) q (add_costs x m) y z w (more_is p x y m (is_parted p))
    (is_parted q)) ∙ g in
    let second : IsAtMost (add_costs s w) (add_costs (add_costs z n) t) =
    sym (less_is (add_signed q (signed_of n)) r (add_costs z n) w s t (more_is q z w n (is_parted q))
    (is_parted r)) ∙ h in
    less_is (add_signed p (signed_of (add_costs m n))) r (add_costs x (add_costs m n)) y s t
    (more_is p x y (add_costs m n) (is_parted p)) (is_parted r)
    ∙ joined (add_costs z y) (add_costs (add_costs x m) w) (add_costs s w) (add_costs (add_costs z n) t)
    (add_costs s y) (add_costs (add_costs x (add_costs m n)) t) (add_costs z w) first second
    (same_cost (add_costs (add_costs z y) (add_costs s w)) (add_costs (add_costs s y) (add_costs z w))
    (omega arith) (omega arith))
    (same_cost (add_costs (add_costs (add_costs x m) w) (add_costs (add_costs z n) t))
    (add_costs (add_costs (add_costs x (add_costs m n)) t) (add_costs z w)) (omega arith) (omega arith))

pub telescope : (p q r : Signed)
    → add_signed (signed_difference q p) (signed_difference r q) ≡ signed_difference r p
telescope p q r =
    same_signed (add_signed (signed_difference q p) (signed_difference r q)) (signed_difference r p)
    (omega (arith, ints)) (omega (arith, ints))

-- the rank of a difference is that of what is gained, less that of what is lost
times : (z : ℤ) (k : ℕ) → z *ℤ pos k ≡ pos (up z * k) -ℤ pos (down z * k)
unfolding up down
times z k = grind (arith, nat_tests)

signed_rank_is : (s : Signed) → signed_rank s ≡ pos (rank_of (gain s)) -ℤ pos (rank_of (loss s))
signed_rank_is s =
    let e : s.a *ℤ pos straight_rank ≡ pos (up s.a * straight_rank) -ℤ pos (down s.a * straight_rank) =
    times s.a straight_rank in
    let f : s.b *ℤ pos diagonal_rank ≡ pos (up s.b * diagonal_rank) -ℤ pos (down s.b * diagonal_rank) =
    times s.b diagonal_rank in
    apart (s.a *ℤ pos straight_rank) (s.b *ℤ pos diagonal_rank) (up s.a * straight_rank)
    (down s.a * straight_rank) (up s.b * diagonal_rank) (down s.b * diagonal_rank) e f
  where
    apart : (m n : ℤ) (i j k l : ℕ) → m ≡ pos i -ℤ pos j → n ≡ pos k -ℤ pos l
        → m +ℤ n ≡ pos (i + k) -ℤ pos (j + l)
    apart m n i j k l e f = omega (arith, ints)

-- its parts are no longer than the value's
up_below : (z : ℤ) (n : ℕ) → unsigned_abs z < n → up z < n
unfolding up
up_below z n h = grind (arith, nat_tests)

down_below : (z : ℤ) (n : ℕ) → unsigned_abs z < n → down z < n
unfolding down
down_below z n h = grind (arith, nat_tests)

short_sum : (p q : Signed) → HasShortSides p → HasShortSides q → HasShortParts (add_costs (gain p) (loss q))
short_sum p q h i = grind (arith, nat_tests, up_below, down_below)

pub rank-add_costs : (p q : Cost) → rank_of (add_costs p q) ≡ rank_of p + rank_of q
rank-add_costs p q = omega arith

-- sums of two numbers and their differences
crossed : (m n : ℤ) (i j k l : ℕ) → m ≡ pos i -ℤ pos j → n ≡ pos k -ℤ pos l → i + l < k + j → m <ℤ n
crossed m n i j k l e f h = omega (arith, ints)

uncrossed : (m n : ℤ) (i j k l : ℕ) → m ≡ pos i -ℤ pos j → n ≡ pos k -ℤ pos l → m <ℤ n → i + l < k + j
uncrossed m n i j k l e f h = omega (arith, ints)

-- the lesser of two differences has the lesser rank, and the other way round
pub signed_ranks : (p q : Signed) → HasShortSides p → HasShortSides q → IsSignedLess p q
    → signed_rank p <ℤ signed_rank q
signed_ranks p q s t h =
    let less : IsLess (add_costs (gain p) (loss q)) (add_costs (gain q) (loss p)) =
    sym (less_is p q (gain p) (loss p) (gain q) (loss q) (is_parted p) (is_parted q)) ∙ h in
    let ranks = less_ranks (add_costs (gain p) (loss q)) (add_costs (gain q) (loss p))
    (short_sum p q s t) less in
    crossed (signed_rank p) (signed_rank q) (rank_of (gain p)) (rank_of (loss p)) (rank_of (gain q))
    (rank_of (loss q)) (signed_rank_is p) (signed_rank_is q)
    (subst (λ (n : ℕ). rank_of (gain p) + rank_of (loss q) < n) (rank-add_costs (gain q) (loss p))
    (subst (λ (n : ℕ). n < rank_of (add_costs (gain q) (loss p))) (rank-add_costs (gain p) (loss q)) ranks))

pub signed_ranks_less : (p q : Signed) → HasShortSides p → HasShortSides q → signed_rank p <ℤ signed_rank q
    → IsSignedLess p q
signed_ranks_less p q s t h =
    let sums = uncrossed (signed_rank p) (signed_rank q) (rank_of (gain p)) (rank_of (loss p))
    (rank_of (gain q))
    (rank_of (loss q)) (signed_rank_is p) (signed_rank_is q) h in
    let ranks : rank_of (add_costs (gain p) (loss q)) < rank_of (add_costs (gain q) (loss p)) =
    subst (λ (n : ℕ). n < rank_of (add_costs (gain q) (loss p))) (sym (rank-add_costs (gain p) (loss q)))
    (subst (λ (n : ℕ). rank_of (gain p) + rank_of (loss q) < n)
    (sym (rank-add_costs (gain q) (loss p))) sums) in
    less_is p q (gain p) (loss p) (gain q) (loss q) (is_parted p) (is_parted q)
    ∙ ranks_less (add_costs (gain p) (loss q)) (add_costs (gain q) (loss p)) (short_sum p q s t)
    (short_sum q p t s) ranks

-- where nothing is paid nothing rises
pub rises_nothing : (p : Signed) → RisesAtMost p no_cost p
rises_nothing p = grind (arith, nat_tests)

-- from nothing, a rise to a cost pays it
pub rise_from_nothing : (paid cost : Cost) → RisesAtMost (signed_of no_cost) paid (signed_of cost)
    → IsAtMost cost paid
rise_from_nothing paid cost h = grind (arith, nat_tests)

-- the rank of a difference with a cost more
pub signed_rank-more : (s : Signed) (c : Cost)
    → signed_rank (add_signed s (signed_of c)) ≡ signed_rank s +ℤ pos (rank_of c)
signed_rank-more s c =
    let e : (s.a +ℤ pos c.a) *ℤ pos straight_rank ≡ (s.a *ℤ pos straight_rank) +ℤ pos (c.a * straight_rank) =
    spread s.a c.a straight_rank in
    let f : (s.b +ℤ pos c.b) *ℤ pos diagonal_rank ≡ (s.b *ℤ pos diagonal_rank) +ℤ pos (c.b * diagonal_rank) =
    spread s.b c.b diagonal_rank in
    joined_ranks _ _ (s.a *ℤ pos straight_rank) (s.b *ℤ pos diagonal_rank) (c.a * straight_rank)
    (c.b * diagonal_rank) e f
  where
    joined_ranks : (m n k l : ℤ) (i j : ℕ) → m ≡ k +ℤ pos i → n ≡ l +ℤ pos j
        → m +ℤ n ≡ (k +ℤ l) +ℤ pos (i + j)
    joined_ranks m n k l i j e f = omega (arith, ints)

    apart : (x y : ℤ) (a b c d n k : ℕ) → x ≡ pos (a * k) -ℤ pos (b * k) → y ≡ pos (c * k) -ℤ pos (d * k)
        → (a + d) * k ≡ (c + n + b) * k → x ≡ y +ℤ pos (n * k)
    apart x y a b c d n k e f h = omega (arith, ints)

    counted : (z : ℤ) (n : ℕ) → up (z +ℤ pos n) + down z ≡ up z + n + down (z +ℤ pos n)
    counted z n =
        let e = parted z in
        let f = parted (z +ℤ pos n) in
        omega (arith, ints)

    spread : (z : ℤ) (n k : ℕ) → (z +ℤ pos n) *ℤ pos k ≡ (z *ℤ pos k) +ℤ pos (n * k)
    spread z n k =
        apart ((z +ℤ pos n) *ℤ pos k) (z *ℤ pos k) (up (z +ℤ pos n)) (down (z +ℤ pos n)) (up z) (down z) n k
        (times (z +ℤ pos n) k) (times z k) (ap (λ m. m * k) (counted z n))
