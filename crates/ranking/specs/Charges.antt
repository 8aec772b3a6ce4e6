-- What a part costs in cents: in year 0 its list price less the discount, later its list price with the growth of each year.
use Rattle.std.specs.Prelude.{◌≡◌, ℕ, zero, suc, ◌+◌, ◌-◌, ◌*◌, ◌/◌, ◌<◌, ◌≤◌, cond, List, [], ◌∷◌, map, ◌==◌}
use Rattle.tree.specs.declared.line.Part.{Part}

-- the growth of a price over one year, per mille, rounded up
abbrev pub rise : ℕ → ℕ → ℕ
rise growth price = (price * growth + 999) / 1000

-- the price after a number of years
abbrev pub grown : ℕ → ℕ → ℕ → ℕ
grown price growth zero = price
grown price growth (suc i) = grown price growth i + rise growth (grown price growth i)

-- the list price less its discount, per mille; the discount is rounded down
abbrev pub discounted : Part → ℕ
discounted p = p.price - p.price * p.discount / 1000

abbrev pub charge : ℕ → ℕ → Part → ℕ
charge year growth p = cond (year == 0) (discounted p) (grown p.price growth year)

-- n is the least whole number of cents that is not below x thousandths of a cent
pub record LeastCents (x n : ℕ) : Type 0 where
  pub not_below : x ≤ 1000 * n
  pub least : (m : ℕ) → x ≤ 1000 * m → n ≤ m

-- r is charged for the part: every price that comes by a fraction is the least whole number of cents not below it
pub record InWholeCents (year growth : ℕ) (part : Part) (r : ℕ) : Type 0 where
  pub from_list_price : grown part.price growth 0 ≡ part.price
  pub from_year_to_year : (i : ℕ) → LeastCents (grown part.price growth i * (1000 + growth)) (grown part.price growth (suc i))
  pub less_discount_in_year_zero : year ≡ 0 → part.discount ≤ 1000 → LeastCents (part.price * (1000 - part.discount)) r
  pub grown_in_later_years : 0 < year → r ≡ grown part.price growth year

-- a charge worked out by hand
pub record Worked : Type 0 where
  pub price : ℕ
  pub discount : ℕ
  pub growth : ℕ
  pub year : ℕ
  pub cents : ℕ

abbrev pub charged : Worked → ℕ
charged w = charge w.year w.growth (record { rarity = 0; class = 0; discount = w.discount; price = w.price })

-- the charge of each row is the row's answer
abbrev pub WorkedOut : List Worked → Type 0
WorkedOut rows = map charged rows ≡ map (λ w. w.cents) rows

abbrev pub worked : List Worked
worked =
    record { price = 12500; discount = 100; growth = 30; year = 0; cents = 11250 }
    ∷ record { price = 12500; discount = 100; growth = 30; year = 1; cents = 12875 }
    ∷ record { price = 12500; discount = 100; growth = 30; year = 2; cents = 13262 }
    ∷ record { price = 1; discount = 0; growth = 1; year = 1; cents = 2 }
    ∷ record { price = 999; discount = 1; growth = 0; year = 0; cents = 999 }
    ∷ []
