-- The lines of a set, one after the other.
use Rattle.std.proofs.Common.{◌≡◌, ℕ, zero, suc, ◌^◌, ◌<◌, Bool, true, false, cond, ◌≢◌, inl, inr, [], ◌∷◌, ◌++◌, sym, refl, ap, ◌∙◌, subst, ⊎_elim, arith}
use lib.Bits.{bit_xor}
use lib.Count.{count_trailing_zeros}
use Rattle.std.proofs.lemmas.Bool.{cases_lt, lt-ltb}
use Rattle.std.proofs.lemmas.Bool.Decides.{nat_tests}
use Rattle.std.proofs.lemmas.List.{append-nil}
use Rattle.orders.specs.Lists.{In, Rising}
use Rattle.orders.proofs.Lists.{in_append, in_front, in_back}
use Rattle.orders.proofs.Sorted.{rising_end}
use Rattle.tree.specs.Sets.{has, alone, lines_below, lines_of, ListsLines}
use Rattle.tree.proofs.Holding.{lt_below}
use Rattle.tree.proofs.Lowest.{low_there, low_none}
use Rattle.tree.proofs.Sets.{has_none, has_xor, has_pow}

none_below : (s n : ℕ) → ((j : ℕ) → j < n → has s j ≡ false) → lines_below s n ≡ []
unfolding lines_below
none_below s zero h = refl
none_below s (suc n) h = grind (arith, none_below s n (λ j l. h j (omega arith)), h n (omega arith))

-- the lowest line, and then those of the set without it
first_below : (s i n : ℕ) → has s i ≡ true → ((j : ℕ) → j < i → has s j ≡ false) → i < n → lines_below s n ≡ i ∷ lines_below (bit_xor s (2 ^ i)) n
unfolding lines_below
first_below s i zero t h l = absurd (omega arith)
first_below s i (suc n) t h l = ⊎_elim
    (λ lt. grind (arith, nat_tests, first_below s i n t h lt, has_xor, has_pow))
    (λ ge. grind (arith, nat_tests, has_xor, has_pow, none_below s n (λ j k. h j (omega arith)), none_below (bit_xor s (2 ^ i)) n (λ j k. grind (arith, nat_tests, has_xor, has_pow, h j (omega arith)))))
    (cases_lt i n)

pub no_line : (s : ℕ) → s ≡ 0 → lines_of s ≡ []
unfolding lines_of
no_line s e = none_below s 64 (λ j l. ap (λ x. has x j) e ∙ has_none j)

pub first_line : (s i a : ℕ) → s < 18446744073709551616 → s ≢ 0 → i ≡ count_trailing_zeros 64 s → a ≡ alone i → lines_of s ≡ i ∷ lines_of (bit_xor s a)
unfolding lines_of
first_line s i a w n e is =
    let t : has s i ≡ true = ap (has s) e ∙ low_there 64 s n w in
    let l = lt_below 64 s w i t in
    let p : a ≡ 2 ^ i = is ∙ ap (λ b. cond b (2 ^ i) 0) (lt-ltb i 64 l) in
    subst (λ x. lines_below s 64 ≡ i ∷ lines_below (bit_xor s x) 64) (sym p) (first_below s i 64 t (λ j k. low_none 64 s j (subst (λ x. j < x) e k)) l)

-- ---- each line once

below_all : (s n i : ℕ) → In i (lines_below s n) → (has s i ≡ true) × (i < n)
unfolding lines_below
below_all s zero i m = absurd m
below_all s (suc n) i m = ⊎_elim (λ a. let (t, l) = below_all s n i a in (t, omega arith)) (λ a. go (has s n) refl a) (in_append i (lines_below s n) _ m)
  where
    go : (b : Bool) → has s n ≡ b → In i (cond b (n ∷ []) []) → (has s i ≡ true) × (i < suc n)
    go true e (inl is) = (subst (λ j. has s j ≡ true) (sym is) e, omega arith)
    go true e (inr m) = absurd m
    go false e m = absurd m

all_below : (s n i : ℕ) → has s i ≡ true → i < n → In i (lines_below s n)
unfolding lines_below
all_below s zero i t l = absurd (omega arith)
all_below s (suc n) i t l = ⊎_elim
    (λ lt. in_front i (lines_below s n) _ (all_below s n i t lt))
    (λ ge. let e : n ≡ i = omega arith in in_back i (lines_below s n) _ (subst (λ b. In i (cond b (n ∷ []) [])) (sym (ap (has s) e ∙ t)) (inl (sym e))))
    (cases_lt i n)

rising_below : (s n : ℕ) → Rising (λ i j. i < j) (lines_below s n)
unfolding lines_below
rising_below s zero = tt
rising_below s (suc n) = go (has s n) (rising_below s n)
  where
    go : (b : Bool) → Rising (λ i j. i < j) (lines_below s n) → Rising (λ i j. i < j) (lines_below s n ++ cond b (n ∷ []) [])
    go true h = rising_end _ (lines_below s n) n h (λ i m. (below_all s n i m).1)
    go false h = subst (Rising (λ i j. i < j)) (sym (append-nil (lines_below s n))) h

pub lists_lines : (s : ℕ) → s < 18446744073709551616 → ListsLines s (lines_of s)
unfolding lines_of
lists_lines s w = record { members = λ i. (λ m. (below_all s 64 i m).0, λ t. all_below s 64 i t (lt_below 64 s w i t)); ascending = rising_below s 64 }
