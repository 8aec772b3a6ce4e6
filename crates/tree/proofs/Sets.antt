-- Sets of lines as numbers: what has a line, what is within what, and how many lines a set has.
use Rattle.std.proofs.Common.{◌≡◌, ℕ, zero, suc, ◌+◌, ◌*◌, ◌/◌, ◌%◌, ◌^◌, ◌<◌, ◌≤◌, Bool, true, false, not, ◌&&◌, ◌||◌, eqb, ◌≢◌, ◌⊎◌, sym, refl, ap, ◌∙◌, subst, ap₂, inl, inr, div-one, one-add, arith, pow_pos, pow_mono, shr-shr}
use native.Mathlib.Nat.{div-eq_of_lt}
use lib.Dec.{eqb-suc-suc, eqb-suc-zero, eqb-zero-suc}
use lib.Bits.{bit_and, bit_or, bit_xor, and_mask, and_mod, and_shr, or_mod, or_shr, xor_mod, xor_shr, and_step, or_step}
use lib.Count.{ones, ones_step, ones_cat}
use Rattle.std.proofs.lemmas.Bool.{eqb-true, eqb-false, eq-eqb, ne_eqb, both_ways, cases_Bool, and_parts, or_cases, or_left, or_right}
use Rattle.std.proofs.lemmas.Bool.Decides.{nat_tests}
use Rattle.tree.specs.Sets.{has, ◌⊆◌, within, Below}

-- ---- tests

pub no_test : (b : Bool) → (b ≡ true → ⊥) → b ≡ false
no_test true f = absurd (f refl)
no_test false f = refl

-- two tests that follow from each other
pub same_test : (a b : Bool) → (a ≡ true → b ≡ true) → (b ≡ true → a ≡ true) → a ≡ b
same_test true b f g = sym (f refl)
same_test false true f g = g refl
same_test false false f g = refl

abbrev pub differs : Bool → Bool → Bool
differs true b = not b
differs false b = b

-- ---- digit by digit

pub both_digits : (P : ℕ → ℕ → Type 0) → P 0 0 → ((s t : ℕ) → P (s / 2) (t / 2) → P s t) → (s t : ℕ) → P s t
both_digits P base step s t = go (s + t) s t (omega arith) (omega arith)
  where
    go : (n s t : ℕ) → s ≤ n → t ≤ n → P s t
    go zero zero zero h k = base
    go zero zero (suc t) h k = absurd (omega arith)
    go zero (suc s) t h k = absurd (omega arith)
    go (suc n) s t h k = step s t (go n (s / 2) (t / 2) (omega arith) (omega arith))

pub has_zero : (s : ℕ) → has s 0 ≡ eqb (s % 2) 1
unfolding has
has_zero s = ap (λ x. eqb (x % 2) 1) (div-one s)

pub has_suc : (s i : ℕ) → has s (suc i) ≡ has (s / 2) i
unfolding has
has_suc s i = ap (λ x. eqb (x % 2) 1) (sym (shr-shr s 1 i ∙ ap (λ k. s / 2 ^ k) (one-add i)))

pub has_none : (i : ℕ) → has 0 i ≡ false
has_none zero = has_zero 0
has_none (suc i) = has_suc 0 i ∙ has_none i

low_same : (a b : ℕ) → eqb (a % 2) 1 ≡ eqb (b % 2) 1 → a % 2 ≡ b % 2
low_same a b e = grind (arith, nat_tests)

-- sets with the same lines are the same set
pub same_set : (s t : ℕ) → ((i : ℕ) → has s i ≡ has t i) → s ≡ t
same_set =
    both_digits (λ s t. ((i : ℕ) → has s i ≡ has t i) → s ≡ t) (λ h. refl)
    (λ s t ih h.
    let high = ih (λ i. sym (has_suc s i) ∙ h (suc i) ∙ has_suc t i) in
    let low = low_same s t (sym (has_zero s) ∙ h 0 ∙ has_zero t) in
    omega arith)

pub same_lines : (s t : ℕ) → s ⊆ t → t ⊆ s → s ≡ t
same_lines s t h k = same_set s t (λ i. same_test (has s i) (has t i) (h i) (k i))

-- ---- what has a line

four : (P : ℕ → ℕ → Type 0) → P 0 0 → P 0 1 → P 1 0 → P 1 1 → (a b : ℕ) → a < 2 → b < 2 → P a b
four P p q r s zero zero h k = p
four P p q r s zero (suc zero) h k = q
four P p q r s zero (suc (suc b)) h k = absurd (omega arith)
four P p q r s (suc zero) zero h k = r
four P p q r s (suc zero) (suc zero) h k = s
four P p q r s (suc zero) (suc (suc b)) h k = absurd (omega arith)
four P p q r s (suc (suc a)) b h k = absurd (omega arith)

module _ (op : ℕ → ℕ → ℕ) (f : Bool → Bool → Bool) (low : (a b : ℕ) → op a b % 2 ≡ op (a % 2) (b % 2)) (rest : (a b : ℕ) → op a b / 2 ≡ op (a / 2) (b / 2))
    (digit : (a b : ℕ) → a < 2 → b < 2 → eqb (op a b) 1 ≡ f (eqb a 1) (eqb b 1)) where
  has_op : (s t i : ℕ) → has (op s t) i ≡ f (has s i) (has t i)
  has_op s t zero = has_zero (op s t) ∙ ap (λ x. eqb x 1) (low s t) ∙ digit (s % 2) (t % 2) (omega arith) (omega arith) ∙ sym (ap₂ f (has_zero s) (has_zero t))
  has_op s t (suc i) = has_suc (op s t) i ∙ ap (λ x. has x i) (rest s t) ∙ has_op (s / 2) (t / 2) i ∙ sym (ap₂ f (has_suc s i) (has_suc t i))

pub has_and : (s t i : ℕ) → has (bit_and s t) i ≡ (has s i && has t i)
has_and =
    has_op bit_and ◌&&◌ (λ a b. and_mod a b 1) (λ a b. and_shr a b 1)
    (four (λ a b. eqb (bit_and a b) 1 ≡ (eqb a 1 && eqb b 1)) refl refl refl refl)

pub has_or : (s t i : ℕ) → has (bit_or s t) i ≡ (has s i || has t i)
has_or =
    has_op bit_or ◌||◌ (λ a b. or_mod a b 1) (λ a b. or_shr a b 1)
    (four (λ a b. eqb (bit_or a b) 1 ≡ (eqb a 1 || eqb b 1)) refl refl refl refl)

pub has_xor : (s t i : ℕ) → has (bit_xor s t) i ≡ differs (has s i) (has t i)
has_xor =
    has_op bit_xor differs (λ a b. xor_mod a b 1) (λ a b. xor_shr a b 1)
    (four (λ a b. eqb (bit_xor a b) 1 ≡ differs (eqb a 1) (eqb b 1)) refl refl refl refl)

pow_half : (k : ℕ) → 2 ^ suc k / 2 ≡ 2 ^ k
pow_half k = omega arith

pub has_pow : (k i : ℕ) → has (2 ^ k) i ≡ eqb i k
has_pow zero zero = has_zero 1
has_pow zero (suc i) = has_suc 1 i ∙ has_none i ∙ sym (eqb-suc-zero i)
has_pow (suc k) zero = has_zero (2 ^ suc k) ∙ ap (λ x. eqb x 1) (let e : 2 ^ suc k % 2 ≡ 0 = omega arith in e) ∙ sym (eqb-zero-suc k)
has_pow (suc k) (suc i) = has_suc (2 ^ suc k) i ∙ ap (λ x. has x i) (pow_half k) ∙ has_pow k i ∙ sym (eqb-suc-suc i k)

pub has_one : (k : ℕ) → has (2 ^ k) k ≡ true
has_one k = has_pow k k ∙ eq-eqb k k refl

pub only_one : (k i : ℕ) → has (2 ^ k) i ≡ true → i ≡ k
only_one k i e = eqb-true i k (sym (has_pow k i) ∙ e)

-- ---- unions, meets, differences

pub or_in : (s t i : ℕ) → has (bit_or s t) i ≡ true → (has s i ≡ true) ⊎ (has t i ≡ true)
or_in s t i e = or_cases (has s i) (has t i) (sym (has_or s t i) ∙ e)

pub in_left : (s t : ℕ) → s ⊆ bit_or s t
in_left s t i e = has_or s t i ∙ or_left (has s i) (has t i) e

pub in_right : (s t : ℕ) → t ⊆ bit_or s t
in_right s t i e = has_or s t i ∙ or_right (has s i) (has t i) e

pub meet_left : (s t : ℕ) → bit_and s t ⊆ s
meet_left s t i e = (and_parts (has s i) (has t i) (sym (has_and s t i) ∙ e)).0

pub meet_right : (s t : ℕ) → bit_and s t ⊆ t
meet_right s t i e = (and_parts (has s i) (has t i) (sym (has_and s t i) ∙ e)).1

pub in_meet : (s t i : ℕ) → has s i ≡ true → has t i ≡ true → has (bit_and s t) i ≡ true
in_meet s t i e h = has_and s t i ∙ ap₂ ◌&&◌ e h

pub meet_mono : (c s t : ℕ) → s ⊆ t → bit_and c s ⊆ bit_and c t
meet_mono c s t h i e = in_meet c t i (meet_left c s i e) (h i (meet_right c s i e))

within_is : (a b : Bool) → (a ≡ true → b ≡ true) → (a && b) ≡ a
within_is true b h = h refl
within_is false b h = refl

pub within_sub : (s t : ℕ) → within s t ≡ true → s ⊆ t
unfolding within
within_sub s t e i h = meet_right s t i (ap (λ x. has x i) (eqb-true (bit_and s t) s e) ∙ h)

pub sub_within : (s t : ℕ) → s ⊆ t → within s t ≡ true
unfolding within
sub_within s t h = eq-eqb (bit_and s t) s (same_set (bit_and s t) s (λ i. has_and s t i ∙ within_is (has s i) (has t i) (h i)))

-- ---- how many lines

half_sub : (s t : ℕ) → s ⊆ t → s / 2 ⊆ t / 2
half_sub s t h i e = sym (has_suc t i) ∙ h (suc i) (has_suc s i ∙ e)

low_le : (a b : ℕ) → (eqb (a % 2) 1 ≡ true → eqb (b % 2) 1 ≡ true) → a % 2 ≤ b % 2
low_le a b f = go (cases_Bool (eqb (a % 2) 1))
  where
    go : (eqb (a % 2) 1 ≡ true) ⊎ (eqb (a % 2) 1 ≡ false) → a % 2 ≤ b % 2
    go (inl e) = let x = eqb-true (b % 2) 1 (f e) in omega arith
    go (inr e) = let x = eqb-false (a % 2) 1 e in omega arith

low_sub : (s t : ℕ) → s ⊆ t → s % 2 ≤ t % 2
low_sub s t h = low_le s t (λ e. sym (has_zero t) ∙ h 0 (has_zero s ∙ e))

pub ones_mono : (s t : ℕ) → s ⊆ t → ones s ≤ ones t
ones_mono =
    both_digits (λ s t. s ⊆ t → ones s ≤ ones t) (λ h. omega arith)
    (λ s t ih h. let a = ih (half_sub s t h) in let b = low_sub s t h in omega (arith, ones_step s, ones_step t))

-- a set within another that has no more lines is all of it
pub ones_same : (s t : ℕ) → s ⊆ t → ones t ≤ ones s → s ≡ t
ones_same =
    both_digits (λ s t. s ⊆ t → ones t ≤ ones s → s ≡ t) (λ h k. refl)
    (λ s t ih h k.
    let b = low_sub s t h in
    let c = ones_mono (s / 2) (t / 2) (half_sub s t h) in
    let a = ih (half_sub s t h) (omega (arith, ones_step s, ones_step t)) in
    let d : s % 2 ≡ t % 2 = omega (arith, ones_step s, ones_step t) in
    omega arith)

-- two sets together count as their union and their meet
pub ones_or_and : (s t : ℕ) → ones (bit_or s t) + ones (bit_and s t) ≡ ones s + ones t
ones_or_and =
    both_digits (λ s t. ones (bit_or s t) + ones (bit_and s t) ≡ ones s + ones t) refl
    (λ s t ih.
    let a = ap ones (or_shr s t 1) in
    let b = ap ones (and_shr s t 1) in
    omega (arith, ones_step s, ones_step t, ones_step (bit_or s t), ones_step (bit_and s t), or_step s t, and_step s t))

pub ones_none : ones 0 ≡ 0
unfolding ones
ones_none = refl

pub ones_one : (k : ℕ) → ones (2 ^ k) ≡ 1
unfolding ones
ones_one k = ap ones (let e : 2 ^ k ≡ 1 * 2 ^ k + 0 = omega arith in e) ∙ ones_cat k 1 0 (omega (arith, pow_pos k))

-- ---- one line more, one line less

pub empty : (s : ℕ) → ((i : ℕ) → has s i ≡ true → ⊥) → s ≡ 0
empty s h = same_set s 0 (λ i. no_test (has s i) (h i) ∙ sym (has_none i))

pub no_meet : (c n : ℕ) → has c n ≡ false → bit_and c (2 ^ n) ≡ 0
no_meet c n h = empty (bit_and c (2 ^ n)) (λ i k. both_ways (has c n) h (subst (λ j. has c j ≡ true) (only_one n i (meet_right c (2 ^ n) i k)) (meet_left c (2 ^ n) i k)))

pub one_more : (c n : ℕ) → has c n ≡ false → ones (bit_or c (2 ^ n)) ≡ suc (ones c)
one_more c n h = let a = ap ones (no_meet c n h) in omega (arith, ones_or_and c (2 ^ n), ones_one n, ones_none)

left_over : (a b : Bool) → differs a b ≡ true → b ≡ false → a ≡ true
left_over true b e h = refl
left_over false b e h = absurd (both_ways b h e)

-- c without its line n
pub without : (c n i : ℕ) → has (bit_xor c (2 ^ n)) i ≡ true → has c n ≡ true → (has c i ≡ true) × (i ≢ n)
without c n i e h =
    let d = sym (has_xor c (2 ^ n) i) ∙ e in
    let ne : i ≢ n = λ p. both_ways false refl (sym (ap₂ differs (subst (λ j. has c j ≡ true) (sym p) h) (subst (λ j. has (2 ^ n) j ≡ true) (sym p) (has_one n))) ∙ d) in
    (left_over (has c i) (has (2 ^ n) i) d (has_pow n i ∙ ne_eqb i n ne), ne)

pub apart : (c n i : ℕ) → has c i ≡ true → i ≢ n → has (bit_xor c (2 ^ n)) i ≡ true
apart c n i e h = has_xor c (2 ^ n) i ∙ ap₂ differs e (has_pow n i ∙ ne_eqb i n h)

-- ---- bounds

pub has_le : (g s : ℕ) → has s g ≡ true → 2 ^ g ≤ s
has_le zero s e = let x = eqb-true (s % 2) 1 (sym (has_zero s) ∙ e) in omega arith
has_le (suc g) s e = let x = has_le g (s / 2) (sym (has_suc s g) ∙ e) in omega arith

pub below_lt : (n s : ℕ) → Below n s → s < 2 ^ n
below_lt zero s h = let x = empty s (λ i e. let y = h i e in omega arith) in omega arith
below_lt (suc n) s h = let x = below_lt n (s / 2) (λ i e. let y = h (suc i) (has_suc s i ∙ e) in omega arith) in omega arith

-- ---- a word of the machine

-- what a shift and a mask tell
pub has_mask : (s i : ℕ) → eqb (bit_and (s / 2 ^ i) 1) 1 ≡ has s i
unfolding has
has_mask s i = ap (λ n. eqb n 1) (and_mask (s / 2 ^ i) 1)

-- a word has no line from its width on
pub has_past : (w s i : ℕ) → s < 2 ^ w → w ≤ i → has s i ≡ false
unfolding has
has_past w s i small past =
    let lt : s < 2 ^ i = omega (arith, pow_mono {i = w} {j = i} past) in
    ap (λ n. eqb (n % 2) 1) (div-eq_of_lt lt)
