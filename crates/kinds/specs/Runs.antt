-- Lines that stand side by side: how many there are, where they end, and how many of them a set has.
use Rattle.std.specs.Prelude.{◌≡◌, ℕ, zero, suc, ◌+◌, ◌-◌, ◌*◌, ◌/◌, ◌%◌, ◌^◌, ◌<◌, ◌≤◌, Bool, cond, ◌==◌, bit_and, count_ones, nat_eq, refl}
use Rattle.std.proofs.Common.{sym, ap, ap₂, ◌∙◌, add-zero, arith, pow_pos, pow_mono, shl_lt, shr-shr}
use Rattle.std.proofs.lemmas.Nat.{and_comm, ones_cat, mod-pow-add}
use Rattle.std.proofs.lemmas.Nat.Bits.{and_high}
use Rattle.std.specs.Int.Count.{ones-ones}
use Rattle.std.proofs.Math.Pow.{ones_lt, high_ones}
use Rattle.tree.specs.Sets.{has}
use Rattle.tree.proofs.Sets.{ones_none, ones_one}
use Rattle.kinds.specs.Lanterns.{run, how_many}

pub same_many : (n : ℕ) (f g : ℕ → Bool) → ((k : ℕ) → k < n → f k ≡ g k) → how_many n f ≡ how_many n g
same_many zero f g h = refl
same_many (suc n) f g h = ap₂ (λ b m. cond b 1 0 + m) (h n (omega arith)) (same_many n f g (λ k l. h k (omega arith)))

raised_ones : (i a : ℕ) → count_ones (a * 2 ^ i) ≡ count_ones a
raised_ones i a = ap count_ones (sym (add-zero (a * 2 ^ i))) ∙ ones_cat i a 0 (pow_pos i) ∙ ap (λ n. count_ones a + n) ones_none ∙ add-zero (count_ones a)

pub run_ones : (i n : ℕ) → count_ones (run i n) ≡ n
run_ones i n = raised_ones i (2 ^ n - 1) ∙ ones-ones n

pub run_below : (i n k : ℕ) → i + n ≤ k → run i n < 2 ^ k
run_below i n k h = omega (arith, shl_lt {a = 2 ^ n - 1} n i (ones_lt n), pow_mono {i = n + i} {j = k} (omega arith))

digit_ones : (d : ℕ) → d < 2 → count_ones d ≡ cond (d == 1) 1 0
digit_ones zero h = ones_none
digit_ones (suc zero) h = ones_one 0
digit_ones (suc (suc d)) h = absurd (omega arith)

low_ones : (n h : ℕ) → count_ones (h % 2 ^ n) ≡ how_many n (has h)
unfolding has
low_ones zero h = ap count_ones (let e : h % 1 ≡ 0 = omega arith in e) ∙ ones_none
low_ones (suc n) h =
    ap (λ k. count_ones (h % 2 ^ k)) (let e : suc n ≡ 1 + n = omega arith in e) ∙ ap count_ones (mod-pow-add h 1 n)
    ∙ ones_cat n (h / 2 ^ n % 2) (h % 2 ^ n) (omega (arith, pow_pos n))
    ∙ ap₂ ◌+◌ (digit_ones (h / 2 ^ n % 2) (omega arith)) (low_ones n h)

has_raised : (h i b : ℕ) → has (h / 2 ^ i) b ≡ has h (i + b)
unfolding has
has_raised h i b = ap (λ x. nat_eq (x % 2) 1) (shr-shr h i b)

-- how many lines of the run a set has
pub run_meets : (i n h : ℕ) → count_ones (bit_and (run i n) h) ≡ how_many n (λ b. has h (i + b))
run_meets i n h =
    ap count_ones (and_comm (run i n) h ∙ ap (λ m. bit_and h m) (sym (high_ones n i)) ∙ and_high h n i)
    ∙ raised_ones i (h / 2 ^ i % 2 ^ n) ∙ low_ones n (h / 2 ^ i) ∙ same_many n _ _ (λ b l. has_raised h i b)
