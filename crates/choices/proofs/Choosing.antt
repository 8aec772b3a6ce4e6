-- The choices of exactly q lines of a set: they are the sets of q lines that it has, each once, and as many as Pascal's
-- rule says.
use Rattle.std.proofs.Common.{◌≡◌, ℕ, zero, suc, ◌+◌, ◌^◌, ◌<◌, ◌≤◌, Bool, true, false, cond, ◌⊎◌, List, [], ◌∷◌, ◌++◌, map, length, sym, refl, ap, ◌∙◌, subst, ap₂, inl, inr, ⊎_elim, add_comm, arith, length-append, pow_pos}
use lib.Bits.{bit_or, bit_xor, or_zero_r, or_disjoint}
use lib.Count.{ones}
use lib.ListN.{length-map}
use Rattle.std.proofs.lemmas.Bool.{both_ways, cases_Bool, cases_order}
use Rattle.tree.specs.Holding.{told}
use Rattle.tree.specs.Sets.{has, ◌⊆◌, Below}
use Rattle.tree.proofs.Sets.{no_test, has_none, has_one, only_one, same_lines, or_in, in_left, in_right, ones_same, ones_none, no_meet, one_more, below_lt, without, apart, empty}
use Rattle.tree.proofs.Told.{told_below, told_is}
use Rattle.orders.specs.Lists.{In, Rising}
use Rattle.choices.specs.Counts.{binom, choices, ChoicesLaw, NumberOfChoices}
use Rattle.orders.proofs.Lists.{each_in, in_each, in_append, in_front, in_back, in_map, map_in, some_in}

-- ---- exactly the sets of q lines of s below n

below_more : (n c : ℕ) → Below n c → Below (suc n) c
below_more n c h i e = let x = h i e in omega arith

below_less : (n c : ℕ) → Below (suc n) c → has c n ≡ false → Below n c
below_less n c h f i e = go (cases_order i n)
  where
    go : (i ≡ n) ⊎ ((i < n) ⊎ (n < i)) → i < n
    go (inl x) = absurd (both_ways (has c n) f (subst (λ j. has c j ≡ true) x e))
    go (inr (inl x)) = x
    go (inr (inr x)) = let y = h i e in absurd (omega arith)

not_below : (n c : ℕ) → Below n c → has c n ≡ false
not_below n c h = no_test (has c n) (λ e. let x = h n e in omega arith)

choices_are : (s n q c : ℕ) → In c (choices s n q) → c ⊆ s × Below n c × (ones c ≡ q)
choices_are s zero zero c m =
    let e : c ≡ 0 = ⊎_elim (λ e. e) absurd m in
    (λ i h. absurd (both_ways _ (has_none i) (subst (λ x. has x i ≡ true) e h)), λ i h. absurd (both_ways _ (has_none i) (subst (λ x. has x i ≡ true) e h)), ap ones e ∙ ones_none)
choices_are s zero (suc q) c m = absurd m
choices_are s (suc n) zero c m = let (sub, below, is) = choices_are s n zero c m in (sub, below_more n c below, is)
choices_are s (suc n) (suc q) c m =
    ⊎_elim (λ a. let (sub, below, is) = choices_are s n (suc q) c a in (sub, below_more n c below, is)) (λ a. go (has s n) refl (choices_are s n q) a)
    (in_append c (choices s n (suc q)) _ m)
  where
    go : (b : Bool) → has s n ≡ b → ((d : ℕ) → In d (choices s n q) → d ⊆ s × Below n d × (ones d ≡ q)) → In c (cond b (map (λ c. bit_or c (2 ^ n)) (choices s n q)) []) → c ⊆ s × Below (suc n) c × (ones c ≡ suc q)
    go true e ih a =
        let (d, in_d, is) = in_map (λ c. bit_or c (2 ^ n)) c (choices s n q) a in
        let (sub, below, count) = ih d in_d in (
          λ i h. ⊎_elim (sub i) (λ k. subst (λ j. has s j ≡ true) (sym (only_one n i k)) e) (or_in d (2 ^ n) i (subst (λ x. has x i ≡ true) is h)),
          λ i h. ⊎_elim (λ k. below_more n d below i k) (λ k. let x = only_one n i k in omega arith) (or_in d (2 ^ n) i (subst (λ x. has x i ≡ true) is h)),
          ap ones is ∙ one_more d n (not_below n d below) ∙ ap suc count,
        )
    go false e ih a = absurd a

-- a set without its line n, and with it again
put_back : (c n : ℕ) → has c n ≡ true → bit_or (bit_xor c (2 ^ n)) (2 ^ n) ≡ c
put_back c n h =
    same_lines _ c (λ i e. ⊎_elim (λ k. (without c n i k h).0) (λ k. subst (λ j. has c j ≡ true) (sym (only_one n i k)) h) (or_in _ _ i e)) (λ i e. go i e (cases_order i n))
  where
    go : (i : ℕ) → has c i ≡ true → (i ≡ n) ⊎ ((i < n) ⊎ (n < i)) → has (bit_or (bit_xor c (2 ^ n)) (2 ^ n)) i ≡ true
    go i e (inl x) = in_right _ _ i (subst (λ j. has (2 ^ n) j ≡ true) (sym x) (has_one n))
    go i e (inr (inl x)) = in_left _ _ i (apart c n i e (omega arith))
    go i e (inr (inr x)) = in_left _ _ i (apart c n i e (omega arith))

gone : (c n : ℕ) → has c n ≡ true → has (bit_xor c (2 ^ n)) n ≡ false
gone c n h = no_test _ (λ e. (without c n n e h).1 refl)

in_choices : (s n q c : ℕ) → c ⊆ s → Below n c → ones c ≡ q → In c (choices s n q)
in_choices s zero zero c sub below is = inl (empty c (λ i e. let x = below i e in omega arith))
in_choices s zero (suc q) c sub below is = absurd (let x = ap ones (empty c (λ i e. let x = below i e in omega arith)) in omega (arith, ones_none))
in_choices s (suc n) zero c sub below is =
    let z : 0 ≡ c = ones_same 0 c (λ i e. absurd (both_ways _ (has_none i) e)) (omega arith) in
    in_choices s n zero c sub (λ i e. absurd (both_ways _ (has_none i) (subst (λ x. has x i ≡ true) (sym z) e))) is
in_choices s (suc n) (suc q) c sub below is = go (cases_Bool (has c n)) (in_choices s n (suc q) c sub) (in_choices s n q (bit_xor c (2 ^ n)))
  where
    go : (has c n ≡ true) ⊎ (has c n ≡ false) → (Below n c → ones c ≡ suc q → In c (choices s n (suc q)))
        → (bit_xor c (2 ^ n) ⊆ s → Below n (bit_xor c (2 ^ n)) → ones (bit_xor c (2 ^ n)) ≡ q → In (bit_xor c (2 ^ n)) (choices s n q)) → In c (choices s (suc n) (suc q))
    go (inl h) ih₀ ih =
        let less : (i : ℕ) → has (bit_xor c (2 ^ n)) i ≡ true → has c i ≡ true = λ i e. (without c n i e h).0 in
        let count = one_more (bit_xor c (2 ^ n)) n (gone c n h) in
        let same = ap ones (put_back c n h) in
        let m = ih (λ i e. sub i (less i e)) (below_less n (bit_xor c (2 ^ n)) (λ i e. below i (less i e)) (gone c n h)) (omega arith) in
        in_back c (choices s n (suc q)) _ (subst (λ b. In c (cond b (map (λ c. bit_or c (2 ^ n)) (choices s n q)) [])) (sym (sub n h))
        (subst (λ x. In x (map (λ c. bit_or c (2 ^ n)) (choices s n q))) (put_back c n h) (map_in (λ c. bit_or c (2 ^ n)) _ (choices s n q) m)))
    go (inr h) ih₀ ih = in_front c (choices s n (suc q)) _ (ih₀ (below_less n c below h) is)

-- ---- how many choices

-- the lines of s below n
under : ℕ → ℕ → ℕ
under s n = told (λ i below. has s i) n

under_sub : (s n : ℕ) → under s n ⊆ s
unfolding under
under_sub s n i e = sym (told_is (λ i below. has s i) n i (told_below (λ i below. has s i) n i e)) ∙ e

under_all : (s n : ℕ) → Below n s → under s n ≡ s
unfolding under
under_all s n h = same_lines _ s (under_sub s n) (λ i e. told_is (λ i below. has s i) n i (h i e) ∙ e)

choices_count : (s n q : ℕ) → length (choices s n q) ≡ binom (ones (under s n)) q
unfolding binom under told
choices_count s zero zero = refl
choices_count s zero (suc q) = rw ones_none refl
choices_count s (suc n) zero = choices_count s n zero
choices_count s (suc n) (suc q) = length-append (choices s n (suc q)) _ ∙ go (has s n) (choices_count s n (suc q)) (choices_count s n q)
  where
    go : (b : Bool) → length (choices s n (suc q)) ≡ binom (ones (under s n)) (suc q) → length (choices s n q) ≡ binom (ones (under s n)) q
        → length (choices s n (suc q)) + length (cond b (map (λ c. bit_or c (2 ^ n)) (choices s n q)) []) ≡ binom (ones (bit_or (under s n) (cond b (2 ^ n) 0))) (suc q)
    go true e h =
        ap₂ (λ x y. x + y) e (length-map (choices s n q) _ ∙ h)
        ∙ add_comm _ _ ∙ sym (ap (λ k. binom k (suc q)) (one_more (under s n) n (not_below n (under s n) (told_below (λ i below. has s i) n))))
    go false e h = rw (or_zero_r (under s n)) (omega arith)

-- ---- each choice once

pairs_apart : {E : Type 0} (R : E → E → Type 0) (xs ys : List E) → Rising R xs → Rising R ys → ((x y : E) → In x xs → In y ys → R x y) → Rising R (xs ++ ys)
pairs_apart R [] ys h k f = k
pairs_apart R (x ∷ xs) ys h k f = (
  in_each (R x) (xs ++ ys) (λ z m. ⊎_elim (each_in (R x) xs h.0 z) (f x z (inl refl)) (in_append z xs ys m)),
  pairs_apart R xs ys h.1 k (λ a b m n. f a b (inr m) n),
)

rising_map : (f : ℕ → ℕ) (xs : List ℕ) → ((x y : ℕ) → In x xs → In y xs → x < y → f x < f y) → Rising (λ c d. c < d) xs → Rising (λ c d. c < d) (map f xs)
rising_map f [] h k = tt
rising_map f (x ∷ xs) h k = (
  in_each _ (map f xs) (λ z m. let (y, n, is) = in_map f z xs m in subst (λ v. f x < v) (sym is) (h x y (inl refl) (inr n) (each_in _ xs k.0 y n))),
  rising_map f xs (λ a b m n. h a b (inr m) (inr n)) k.1,
)

plus : (c n : ℕ) → Below n c → bit_or c (2 ^ n) ≡ c + 2 ^ n
plus c n h = or_disjoint c (2 ^ n) (no_meet c n (not_below n c h))

choices_rising : (s n q : ℕ) → Rising (λ c d. c < d) (choices s n q)
choices_rising s zero zero = (tt, tt)
choices_rising s zero (suc q) = tt
choices_rising s (suc n) zero = choices_rising s n zero
choices_rising s (suc n) (suc q) = go (has s n) (choices_rising s n (suc q)) (choices_rising s n q)
  where
    low : (p c : ℕ) → In c (choices s n p) → Below n c
    low p c m = (choices_are s n p c m).1

    go : (b : Bool) → Rising (λ c d. c < d) (choices s n (suc q)) → Rising (λ c d. c < d) (choices s n q)
        → Rising (λ c d. c < d) (choices s n (suc q) ++ cond b (map (λ c. bit_or c (2 ^ n)) (choices s n q)) [])
    go true h k =
        pairs_apart _ (choices s n (suc q)) (map (λ c. bit_or c (2 ^ n)) (choices s n q)) h
        (rising_map (λ c. bit_or c (2 ^ n)) (choices s n q) (λ x y a b l. omega (arith, plus x n (low q x a), plus y n (low q y b))) k)
        (λ x y a b.
        let (d, m, is) = in_map (λ c. bit_or c (2 ^ n)) y (choices s n q) b in
        let u = below_lt n x (low (suc q) x a) in
        omega (arith, plus d n (low q d m)))
    go false h k = pairs_apart _ (choices s n (suc q)) [] h tt (λ x y a b. absurd b)

pub choosing : ChoicesLaw
choosing s n q = record { members = λ c. (choices_are s n q c, λ h. in_choices s n q c h.0 h.1 h.2); ascending = choices_rising s n q }

pub number : (m q : ℕ) → NumberOfChoices m q (binom m q)
number m q s n h e = choices_count s n q ∙ ap (λ x. binom (ones x) q) (under_all s n h) ∙ ap (λ x. binom x q) e

-- ---- neither too few nor too many

binom_pos : (m q : ℕ) → q ≤ m → 1 ≤ binom m q
unfolding binom
binom_pos m zero h = omega arith
binom_pos zero (suc q) h = absurd (omega arith)
binom_pos (suc m) (suc q) h = omega (arith, binom_pos m q (omega arith))

pub binom_le : (m q : ℕ) → binom m q ≤ 2 ^ m
unfolding binom
binom_le m zero = omega (arith, pow_pos m)
binom_le zero (suc q) = omega arith
binom_le (suc m) (suc q) = omega (arith, binom_le m q, binom_le m (suc q))

-- of a set with at least q lines there is a choice
pub some_choice : (s n q : ℕ) → Below n s → q ≤ ones s → (c : ℕ) × In c (choices s n q)
some_choice s n q h k = some_in (choices s n q) (let e = number (ones s) q s n h refl in omega (arith, binom_pos (ones s) q k))
