-- Sets as words of a width: how many lines, what is within what, and the highest line, by the machine's operations.
use Rattle.std.proofs.Common.{rules, ◌*◌, ◌≡◌, ℕ, zero, suc, ◌+◌, ◌-◌, ◌/◌, ◌%◌, ◌^◌, ◌<◌, ◌≤◌, Bool, true, false, cond, not, ◌&&◌, eqb, ltb, ◌≢◌, ◌⊎◌, sym, refl, ap, ◌∙◌, subst, inl, inr, ⊎_elim, arith, pow_mono}
use lib.Arith.{bin_ind}
use lib.Bits.{bit_and}
use lib.Count.{ones, count_leading_zeros, leading_top}
use Rattle.std.proofs.lemmas.Bool.{eqb-true, eqb-false, eq-eqb, both_ways, cases_Bool, cases_order, le-ltb}
use Rattle.std.proofs.lemmas.Bool.Decides.{nat_tests}
use Rattle.tree.specs.Sets.{has, ◌⊆◌, within, Counts, Tells, Highest}
use Rattle.tree.proofs.Holding.{lt_below}
use Rattle.tree.proofs.Sets.{same_test, has_zero, has_suc, has_none, has_pow, has_le, has_mask, has_past, below_lt, empty, in_meet, meet_left, meet_right, within_sub, sub_within, ones_none, one_more}

pub ones_count : Counts ones
ones_count = record { none = ones_none; one_more = one_more }

-- ---- containment

-- the other lines of a word
has_not : (w s i : ℕ) → s < 2 ^ w → i < w → has (2 ^ w - 1 - s) i ≡ not (has s i)
has_not zero s i h l = absurd (omega arith)
has_not (suc w) s zero h l = has_zero (2 ^ suc w - 1 - s) ∙ turned (2 ^ suc w - 1 - s) s (omega arith) ∙ sym (ap not (has_zero s))
  where
    turned : (a b : ℕ) → a % 2 + b % 2 ≡ 1 → eqb (a % 2) 1 ≡ not (eqb (b % 2) 1)
    turned a b e = grind (arith, nat_tests)
has_not (suc w) s (suc i) h l =
    has_suc (2 ^ suc w - 1 - s) i ∙ ap (λ x. has x i) (let e : (2 ^ suc w - 1 - s) / 2 ≡ 2 ^ w - 1 - s / 2 = omega arith in e) ∙ has_not w (s / 2) i (omega arith) (omega arith)
    ∙ sym (ap not (has_suc s i))

-- by and-not
pub within_word : (w g s : ℕ) → g < 2 ^ w → s < 2 ^ w → eqb (bit_and g (2 ^ w - 1 - s)) 0 ≡ within g s
within_word w g s h l =
    same_test _ _
    (λ e. sub_within g s (λ i m. ⊎_elim (λ a. a) (λ a. absurd (both_ways _ (has_none i) (subst (λ x. has x i ≡ true) (eqb-true _ 0 e) (in_meet g (2 ^ w - 1 - s) i m (has_not w s i l (in_w i m) ∙ ap not a))))) (cases_Bool (has s i))))
    (λ e. eq-eqb _ 0 (empty _ (λ i m. both_ways _ (has_not w s i l (in_w i (meet_left g (2 ^ w - 1 - s) i m)) ∙ ap not (within_sub g s e i (meet_left g (2 ^ w - 1 - s) i m))) (meet_right g (2 ^ w - 1 - s) i m))))
  where
    in_w : (i : ℕ) → has g i ≡ true → i < w
    in_w = lt_below w g h

pub within_tells : (s t : ℕ) → Tells (within s t) (s ⊆ t)
within_tells s t = record { only = within_sub s t; when = sub_within s t }

-- ---- the highest line

pub highest : (s : ℕ) → s ≢ 0 → (g : ℕ) × Highest s g
highest =
    bin_ind (λ s. s ≢ 0 → (g : ℕ) × Highest s g) (λ n. absurd (n refl)) (λ s ih n. go s n ih (cases_Bool (eqb (s / 2) 0)))
  where
    at_zero : (s : ℕ) → s / 2 ≡ 0 → (i : ℕ) → 0 < i → has s i ≡ false
    at_zero s e zero h = absurd (omega arith)
    at_zero s e (suc i) h = has_suc s i ∙ ap (λ x. has x i) e ∙ has_none i

    past : (s g : ℕ) → Highest (s / 2) g → (i : ℕ) → suc g < i → has s i ≡ false
    past s g h zero k = absurd (omega arith)
    past s g h (suc i) k = has_suc s i ∙ h.none_above i (omega arith)

    go : (s : ℕ) → s ≢ 0 → (s / 2 ≢ 0 → (g : ℕ) × Highest (s / 2) g) → (eqb (s / 2) 0 ≡ true) ⊎ (eqb (s / 2) 0 ≡ false) → (g : ℕ) × Highest s g
    go s n ih (inl e) = let z = eqb-true (s / 2) 0 e in (0, record { there = has_zero s ∙ eq-eqb (s % 2) 1 (omega arith); none_above = at_zero s z })
    go s n ih (inr e) = let (g, h) = ih (eqb-false (s / 2) 0 e) in (suc g, record { there = has_suc s g ∙ h.there; none_above = past s g h })

pub one_highest : (s g h : ℕ) → Highest s g → Highest s h → g ≡ h
one_highest s g h a b =
    ⊎_elim (λ e. e) (⊎_elim (λ x. absurd (both_ways _ (a.none_above h x) b.there)) (λ x. absurd (both_ways _ (b.none_above g x) a.there))) (cases_order g h)

pub no_highest : (s g : ℕ) → Highest s g → s ≡ 0 → ⊥
no_highest s g a e = both_ways _ (has_none g) (subst (λ x. has x g ≡ true) e a.there)

-- by the leading zeros
pub highest_word : (w s g : ℕ) → 0 < s → s < 2 ^ w → count_leading_zeros w s + suc g ≡ w → Highest s g
highest_word w s g p h e =
    let (j, is, low, high) = leading_top w s p h in
    let (m, top) = highest s (omega arith) in
    let a = has_le m s top.there in
    let b = below_lt (suc m) s (λ i x. under m i top x) in
    let same : m ≡ g = one (λ l. let q : 2 ^ suc m ≤ 2 ^ j = pow_mono l in omega arith) (λ l. let q : 2 ^ suc j ≤ 2 ^ m = pow_mono l in omega arith) (cases_order m j) (omega arith) in
    subst (λ i. Highest s i) same top
  where
    under : (m i : ℕ) → Highest s m → has s i ≡ true → i < suc m
    under m i t x = ⊎_elim (λ l. omega arith) (⊎_elim (λ l. omega arith) (λ l. absurd (both_ways _ (t.none_above i l) x))) (cases_order i m)

    one : {m j : ℕ} → (m < j → ⊥) → (j < m → ⊥) → (m ≡ j) ⊎ ((m < j) ⊎ (j < m)) → j ≡ g → m ≡ g
    one f f' (inl l) q = l ∙ q
    one f f' (inr (inl l)) q = absurd (f l)
    one f f' (inr (inr l)) q = absurd (f' l)

-- one line alone, where the width has it
pub has_alone : (w i j : ℕ) → has (cond (ltb i w) (2 ^ i) 0) j ≡ (eqb j i && ltb i w)
has_alone w i j = go (ltb i w) (eqb j i) (has_pow i j)
  where
    go : (t e : Bool) → has (2 ^ i) j ≡ e → has (cond t (2 ^ i) 0) j ≡ (e && t)
    go true true h = h
    go true false h = h
    go false true h = has_none j
    go false false h = has_none j

-- ---- at the machine's width

pub has_word : (s i : ℕ) → i < 64 → eqb (bit_and (s / 2 ^ i) 1) 1 ≡ has s i
has_word s i l = has_mask s i

pub none_past : (s i : ℕ) → s < 18446744073709551616 → 64 ≤ i → has s i ≡ false
none_past = has_past 64

pub alone_word : (i j : ℕ) → i < 64 → has (1 * 2 ^ i % 18446744073709551616) j ≡ (eqb j i && ltb i 64)
alone_word i j l =
    let same : 1 * 2 ^ i % 18446744073709551616 ≡ cond (ltb i 64) (2 ^ i) 0 = search rules in
    ap (λ s. has s j) same ∙ has_alone 64 i j

pub alone_past : (i j : ℕ) → 64 ≤ i → has 0 j ≡ (eqb j i && ltb i 64)
alone_past i j l = ap (λ t. has (cond t (2 ^ i) 0) j) (sym (le-ltb i 64 l)) ∙ has_alone 64 i j

pub within_test : (a b : ℕ) → a < 18446744073709551616 → b < 18446744073709551616 → eqb (bit_and a (18446744073709551615 - b)) 0 ≡ within a b
within_test = within_word 64
