-- What a ranking means: the weights of parts, how weights are joined, and which of two weights comes first.
use Rattle.std.specs.Prelude.{◌≡◌, ℕ, ◌+◌, ◌≤◌, min, max, Bool, true, nat_le}
use Rattle.tree.specs.declared.line.Part.{Part}
use Rattle.orders.specs.Orders.{Total, lex, by}

pub record Model (W : Type 0) : Type 0 where
  -- the weight of no parts
  pub zero : W
  -- the weight of one part, from its numbers and its charge in cents
  pub of_part : Part → ℕ → W
  -- the weight of two sets together
  pub join : W → W → W
  -- the first comes before the second, or they are the same
  pub le : W → W → Bool

pub record Lawful {W : Type 0} (m : Model W) : Type 0 where
  pub order : Total m.le
  pub commutative : (a b : W) → m.join a b ≡ m.join b a
  pub associative : (a b c : W) → m.join (m.join a b) c ≡ m.join a (m.join b c)
  pub unit : (a : W) → m.join m.zero a ≡ a
  pub grows : (a b : W) → m.le a (m.join a b) ≡ true

-- the sum of two 64-bit numbers, or 2 ^ 64 − 1 where the sum is more; above 64 bits never less than either
abbrev pub stopped : ℕ → ℕ → ℕ
stopped a b = max (max a b) (min (a + b) 18446744073709551615)

-- how numbers are joined so that a ranking may go by them
pub record LawfulJoin (join : ℕ → ℕ → ℕ) : Type 0 where
  pub commutative : (a b : ℕ) → join a b ≡ join b a
  pub associative : (a b c : ℕ) → join (join a b) c ≡ join a (join b c)
  pub unit : (a : ℕ) → join 0 a ≡ a
  pub grows : (a b : ℕ) → a ≤ join a b

-- by a number that each part counts: the smaller comes first
abbrev pub by_number : (Part → ℕ → ℕ) → (ℕ → ℕ → ℕ) → Model ℕ
by_number counted join = record { zero = 0; of_part = counted; join = join; le = nat_le }

-- the sum of what the parts count
abbrev pub summed : (Part → ℕ → ℕ) → Model ℕ
summed counted = by_number counted stopped

abbrev pub price : Model ℕ
price = summed (λ part charge. charge)

abbrev pub rarity : Model ℕ
rarity = summed (λ part charge. part.rarity)

abbrev pub size : Model ℕ
size = summed (λ part charge. 1)

-- the worst class of the parts
abbrev pub class : Model ℕ
class = by_number (λ part charge. part.class) max

-- two weights side by side: the upper decides, and where it is the same the lower
abbrev pub paired : {U L : Type 0} → Model U → Model L → Model (U × L)
paired u l =
    record {
      zero = (u.zero, l.zero);
      of_part = λ part charge. (u.of_part part charge, l.of_part part charge);
      join = λ a b. (u.join a.0 b.0, l.join a.1 b.1);
      le = lex (by (λ w. w.0) u.le) (by (λ w. w.1) l.le);
    }
