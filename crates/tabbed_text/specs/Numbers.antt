-- A number is written in decimal digits, without a zero in front but in 0 itself.
use Rattle.std.specs.Prelude.{ℕ, ◌+◌, ◌-◌, ◌*◌, Bool, true, false, cond, not, ◌&&◌, ◌||◌, List, [], ◌∷◌, length, Some, None, Option, ◌==◌, nat_le}

abbrev pub is_digit : ℕ → Bool
is_digit b = nat_le 48 b && nat_le b 57

abbrev pub all_digits : List ℕ → Bool
all_digits [] = true
all_digits (b ∷ bs) = is_digit b && all_digits bs

abbrev pub numeral : List ℕ → Bool
numeral [] = false
numeral (b ∷ bs) = all_digits (b ∷ bs) && (not (b == 48) || length bs == 0)

-- the number that digits write after those that wrote n
abbrev pub value_from : ℕ → List ℕ → ℕ
value_from n [] = n
value_from n (b ∷ bs) = value_from (10 * n + (b - 48)) bs

abbrev pub value : List ℕ → ℕ
value bs = value_from 0 bs

-- the number that the bytes write, where they write one from low to high
abbrev pub number_in : ℕ → ℕ → List ℕ → Option ℕ
number_in low high bs = cond (numeral bs && nat_le low (value bs) && nat_le (value bs) high) (Some (value bs)) None
