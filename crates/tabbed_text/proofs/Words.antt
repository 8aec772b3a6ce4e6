-- The bytes of a word, the lowest first.
use Rattle.std.proofs.Common.{◌≡◌, ℕ, zero, suc, ◌+◌, ◌/◌, ◌%◌, ◌^◌, ◌<◌, [], ◌∷◌, ◌++◌, length, get_or, w64, sym, refl, ap, ◌∙◌, ⊎_elim, arith}
use Rattle.std.proofs.Math.Nat.{div-one, div-div-eq-div-mul, div-eq_of_lt, pow-succ', pow-le-pow_right}
use Rattle.std.proofs.lemmas.Bool.{cases_lt}
use Rattle.std.proofs.lemmas.List.{get_or_past}
use Rattle.std.specs.Int.{byte_at, bytes_low_first, to_le_bytes}
use Rattle.tree.specs.Names.{unpacked}

at_place : (i w : ℕ) → byte_at i w ≡ w / 256 ^ i % 256
at_place zero w = ap (λ n. n % 256) (sym (div-one w))
at_place (suc i) w = refl

low_first : (i n w k : ℕ) → k < n → get_or (bytes_low_first i n w) k 0 ≡ byte_at (i + k) w
low_first i zero w k h = let z : ⊥ = omega arith in absurd z
low_first i (suc n) w zero h = ap (λ j. byte_at j w) (omega arith)
low_first i (suc n) w (suc k) h = low_first (suc i) n w k (omega arith) ∙ ap (λ j. byte_at j w) (omega arith)

length_low_first : (i n w : ℕ) → length (bytes_low_first i n w) ≡ n
length_low_first i zero w = refl
length_low_first i (suc n) w = ap suc (length_low_first (suc i) n w)

-- byte k of a word; past its eight bytes 0
pub word_byte : (w k : ℕ) → w < 2 ^ 64 → get_or (to_le_bytes w64 w) k 0 ≡ w / 256 ^ k % 256
word_byte w k small =
    ⊎_elim
    (λ low. let at : byte_at (0 + k) w ≡ byte_at k w = ap (λ j. byte_at j w) (omega arith) in low_first 0 8 w k low ∙ at ∙ at_place k w)
    (λ high.
    let none : w / 256 ^ k ≡ 0 = div-eq_of_lt {n = w} {m = 256 ^ k} (omega (arith, pow-le-pow_right {n = 256} (omega arith) {i = 8} {j = k} high)) in
    get_or_past (to_le_bytes w64 w) k 0 (omega (arith, length_low_first 0 8 w)) ∙ sym (ap (λ n. n % 256) none))
    (cases_lt k 8)

-- one byte more of a word
pub unpacked_more : (k w : ℕ) → unpacked (k + 1) w ≡ unpacked k w ++ (w / 256 ^ k % 256 ∷ [])
unpacked_more zero w = ap (λ n. n % 256 ∷ []) (sym (div-one w))
unpacked_more (suc k) w =
    let e : suc k + 1 ≡ suc (k + 1) = omega arith in
    let q : w / 256 / 256 ^ k ≡ w / 256 ^ suc k = div-div-eq-div-mul w 256 (256 ^ k) ∙ ap (λ n. w / n) (sym (pow-succ' 256 k)) in
    ap (λ j. unpacked j w) e ∙ ap (λ l. w % 256 ∷ l) (unpacked_more k (w / 256)) ∙ ap (λ n. w % 256 ∷ (unpacked k (w / 256) ++ (n % 256 ∷ []))) q

pub ruleset word_bytes = (unpacked_more, word_byte)
