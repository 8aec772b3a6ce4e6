-- The numerals are just what `decimal` writes.
use Rattle.std.proofs.Common.{◌≡◌, ℕ, zero, suc, ◌^◌, ◌<◌, ◌≤◌, true, false, not, ◌&&◌, ◌||◌, eqb, leb, List, [], ◌∷◌, length, get_or, Some, decimal, sym, refl, ap, ◌∙◌, arith, rules}
use Rattle.std.specs.List.{All}
use Rattle.std.proofs.lemmas.Fmt.{digits_decimal, digits_value-decimal, decimal-digits_value, decimal_digit, decimal_nonempty, first_decimal}
use Rattle.std.proofs.lemmas.List.Elements.{All-nil, All-cons}
use Rattle.std.proofs.lemmas.Str.Parse.{IsNumeralModel, numerals_by_fold}
use Rattle.std.proofs.lemmas.Bool.{and_parts, and_from, cond-true, le-leb}
use Rattle.std.proofs.lemmas.Bool.Decides.{nat_tests}
use Rattle.tabbed_text.proofs.Chains.{cond_some}
use Rattle.tabbed_text.specs.Fields.{separates}
use Rattle.tabbed_text.specs.Numbers.{is_digit, all_digits, numeral, value_from, value, number_in}

own : IsNumeralModel (λ ds. all_digits ds ≡ true) value
own = numerals_by_fold _ (search rules) value_from (search rules)

-- digits, of which only a lone one is a zero in front
pub numeral_from : (bs : List ℕ) → all_digits bs ≡ true → 0 < length bs → (get_or bs 0 0 ≡ 48 → length bs ≡ 1) → numeral bs ≡ true
numeral_from [] digits some lead = let z : ⊥ = omega arith in absurd z
numeral_from (b ∷ bs) digits some lead = and_from _ _ digits (grind (arith, nat_tests, lead))

pub numeral_digits : (bs : List ℕ) → numeral bs ≡ true → (all_digits bs ≡ true) × (0 < length bs) × (get_or bs 0 0 ≡ 48 → length bs ≡ 1)
numeral_digits [] e = (refl, grind (arith, nat_tests), λ z. grind (arith, nat_tests))
numeral_digits (b ∷ bs) e =
    let p = and_parts (all_digits (b ∷ bs)) (not (eqb b 48) || eqb (length bs) 0) e in
    let lead = p.1 in
    (p.0, omega arith, λ z. grind (arith, nat_tests))

lead_decimal : (n : ℕ) → n < 2 ^ 64 → get_or (decimal n) 0 0 ≡ 48 → length (decimal n) ≡ 1
lead_decimal zero h e = ap length (decimal_digit 0 (omega arith))
lead_decimal (suc n) h e = let f = first_decimal (suc n) (omega arith) h in let z : ⊥ = omega arith in absurd z

pub numeral_decimal : (n : ℕ) → n < 2 ^ 64 → (numeral (decimal n) ≡ true) × (value (decimal n) ≡ n)
numeral_decimal n h =
    (numeral_from (decimal n) (digits_decimal own n h) (decimal_nonempty n h) (lead_decimal n h), digits_value-decimal own n h)

pub decimal_numeral : (bs : List ℕ) → numeral bs ≡ true → value bs < 2 ^ 64 → decimal (value bs) ≡ bs
decimal_numeral bs e h = let d = numeral_digits bs e in decimal-digits_value own bs d.0 d.1 d.2 h

-- ---- numbers within limits

pub number_written : (low high : ℕ) (bs : List ℕ) (n : ℕ) → high < 2 ^ 64 → number_in low high bs ≡ Some n → (bs ≡ decimal n) × (low ≤ n) × (n ≤ high)
number_written low high bs n small e =
    let s = cond_some (numeral bs && leb low (value bs) && leb (value bs) high) (value bs) n e in
    let well : numeral bs ≡ true = grind (arith, nat_tests) in
    let lo : low ≤ value bs = grind (arith, nat_tests) in
    let hi : value bs ≤ high = grind (arith, nat_tests) in
    let is = s.1 in
    (sym (decimal_numeral bs well (omega arith)) ∙ ap decimal is, omega arith, omega arith)

pub written_number : (low high n : ℕ) → high < 2 ^ 64 → low ≤ n → n ≤ high → number_in low high (decimal n) ≡ Some n
written_number low high n small lo hi =
    let d = numeral_decimal n (omega arith) in
    let v = d.1 in
    cond-true _ _ _ (and_from _ _ (and_from _ _ d.0 (le-leb low (value (decimal n)) (omega arith))) (le-leb (value (decimal n)) high (omega arith)))
    ∙ ap Some v

-- a number has no tab and no byte 10
digits_unparted : (bs : List ℕ) → all_digits bs ≡ true → All (λ b. separates b ≡ false) bs
digits_unparted [] e = All-nil (λ b. separates b ≡ false)
digits_unparted (b ∷ bs) e =
    let p = and_parts (is_digit b) (all_digits bs) e in
    let d = p.0 in
    All-cons (λ d. separates d ≡ false) b bs (grind (arith, nat_tests)) (digits_unparted bs p.1)

pub decimal_unparted : (n : ℕ) → n < 2 ^ 64 → All (λ b. separates b ≡ false) (decimal n)
decimal_unparted n h = digits_unparted (decimal n) (digits_decimal own n h)
