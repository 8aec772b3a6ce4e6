-- What the reading of a number keeps from byte to byte.
use Rattle.std.proofs.Common.{◌≡◌, ℕ, ◌+◌, ◌-◌, ◌*◌, ◌<◌, ◌≤◌, ◌&&◌, leb, List, [], ◌∷◌, length, get_or, drop, Some, None, sym, arith}
use Rattle.std.proofs.lemmas.Bool.{and_right, lt-leb, cond-false}
use Rattle.std.proofs.lemmas.List.{at_drop_more}
use Rattle.tabbed_text.specs.Numbers.{numeral, value_from, value, number_in}

-- more digits never write less
pub value_ge : (n : ℕ) (bs : List ℕ) → n ≤ value_from n bs
value_ge n [] = omega arith
value_ge n (b ∷ bs) = omega (arith, value_ge (10 * n + (b - 48)) bs)

pub none_high : (low high : ℕ) (bs : List ℕ) → high < value bs → None ≡ number_in low high bs
none_high low high bs h = sym (cond-false (numeral bs && leb low (value bs) && leb (value bs) high) (Some (value bs)) None (and_right _ _ (lt-leb (value bs) high h)))

pub value_step : (n : ℕ) (bs : List ℕ) (i : ℕ) → i < length bs → value_from n (drop i bs) ≡ value_from (10 * n + (get_or bs i 0 - 48)) (drop (i + 1) bs)
value_step n bs i h = at_drop_more (value_from n) bs i 0 h

-- a number that the digits read so far and the next one pass
pub none_past : (low high n i : ℕ) (bs : List ℕ) → value_from n (drop i bs) ≡ value bs → i < length bs → high < 10 * n + (get_or bs i 0 - 48) → None ≡ number_in low high bs
none_past low high n i bs kept more past =
    none_high low high bs (omega (arith, kept, value_step n bs i more, value_ge (10 * n + (get_or bs i 0 - 48)) (drop (i + 1) bs)))
