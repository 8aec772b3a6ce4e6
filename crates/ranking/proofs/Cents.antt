-- How far prices grow, and that each is the least whole number of cents.
use Rattle.std.proofs.Common.{◌≡◌, ℕ, zero, suc, ◌+◌, ◌-◌, ◌*◌, ◌/◌, ◌^◌, ◌<◌, ◌≤◌, eqb, refl, ap, ◌∙◌, mul-le-mul_left, pow-suc, mul-add, add-one, arith, lit<}
use native.Mathlib.Nat.{mul-sub, pow-le-pow_right}
use Rattle.std.proofs.lemmas.Bool.{cond_both}
use Rattle.tree.specs.declared.line.Part.{Part}
use Rattle.ranking.specs.Charges.{rise, grown, discounted, charge, LeastCents, InWholeCents}

-- a fifth a year at most doubles a price
rise_within : (growth price : ℕ) → growth ≤ 200 → rise growth price ≤ price
rise_within growth price h = omega (arith, mul-le-mul_left price h)

grown_within : (price growth i : ℕ) → growth ≤ 200 → grown price growth i ≤ price * 2 ^ i
grown_within price growth zero h = omega arith
grown_within price growth (suc i) h =
    let last = grown_within price growth i h in
    let more = rise_within growth (grown price growth i) h in
    let twice : 2 ^ suc i ≡ 2 ^ i + 2 ^ i = omega (arith, pow-suc 2 i) in
    omega (arith, ap (λ k. price * k) twice ∙ mul-add price (2 ^ i) (2 ^ i))

-- within ten years a price stays far below 64 bits
pub grown_below : (price growth i : ℕ) → price < 2 ^ 32 → growth ≤ 200 → i ≤ 10 → grown price growth i < 2 ^ 42
grown_below price growth i p g h =
    let few : 2 ^ i ≤ 2 ^ 10 = pow-le-pow_right {n = 2} (lit< tt) h in
    omega (arith, grown_within price growth i g, mul-le-mul_left price few)

pub charge_below : (year growth : ℕ) (part : Part) → part.price < 2 ^ 32 → growth ≤ 200 → year ≤ 10 → charge year growth part < 2 ^ 42
charge_below year growth part p g h =
    let now : discounted part < 2 ^ 42 = omega arith in
    cond_both (eqb year 0) (discounted part) (grown part.price growth year) (λ n. n < 2 ^ 42) (λ _. now) (λ _. grown_below part.price growth year p g h)

-- so there is room in 64 bits for one more rise
module _ (price growth i cents : ℕ) (e : cents ≡ grown price growth i) (p : price < 2 ^ 32) (g : growth ≤ 200) (h : i ≤ 10) where
  pub room_for_rise : cents * growth + 999 < 2 ^ 64
  room_for_rise = omega (arith, grown_below price growth i p g h, mul-le-mul_left cents g)

  pub room_for_sum : cents + rise growth cents < 2 ^ 64
  room_for_sum = omega (arith, grown_below price growth i p g h, rise_within growth cents g)

pub grown_more : (price growth i cents more : ℕ) → cents ≡ grown price growth i → more ≡ rise growth cents → cents + more ≡ grown price growth (i + 1)
grown_more price growth i cents more e f = cc (ap (grown price growth) (add-one i))

pub ruleset growth = (room_for_rise, room_for_sum, grown_more)

least_risen : (price growth : ℕ) → LeastCents (price * (1000 + growth)) (price + rise growth price)
least_risen price growth =
    let e = mul-add price 1000 growth in
    record { not_below = omega arith; least = λ m h. omega arith }

least_discounted : (price discount : ℕ) → discount ≤ 1000 → LeastCents (price * (1000 - discount)) (price - price * discount / 1000)
least_discounted price discount h =
    let e = mul-sub price 1000 discount in
    let most = mul-le-mul_left price h in
    record { not_below = omega arith; least = λ m l. omega arith }

module _ (year growth : ℕ) (part : Part) (r : ℕ) where
  pub whole_now : year ≡ 0 → r ≡ discounted part → InWholeCents year growth part r
  whole_now now e =
      record {
        from_list_price = refl;
        from_year_to_year = λ i. least_risen (grown part.price growth i) growth;
        less_discount_in_year_zero = λ n h. rw e (least_discounted part.price part.discount h);
        grown_in_later_years = λ later. absurd (omega arith);
      }

  pub whole_later : 0 < year → r ≡ grown part.price growth year → InWholeCents year growth part r
  whole_later later e =
      record {
        from_list_price = refl;
        from_year_to_year = λ i. least_risen (grown part.price growth i) growth;
        less_discount_in_year_zero = λ now h. absurd (omega arith);
        grown_in_later_years = λ n. e;
      }
