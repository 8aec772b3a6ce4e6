-- What a set of lines weighs under a ranking: the weights of its parts joined, each part once, and the empty set zero.
-- Gates and lines past the last weigh nothing. `charge_of` is what a part is charged.
use Rattle.std.specs.Prelude.{◌≡◌, ℕ, zero, suc, ◌+◌, ◌^◌, true, false, cond, ◌&&◌, List, [], ◌∷◌, length, ◌==◌, bit_or, bit_xor}
use Rattle.tree.specs.Holding.{the_line}
use Rattle.tree.specs.Lines.{part_line}
use Rattle.tree.specs.Sets.{has, ◌⊆◌}
use Rattle.tree.specs.declared.line.Part.{Part}
use Rattle.tree.specs.declared.line.Line.{Line}
use Rattle.tree.specs.declared.line.Line.TheVariants as line
use Rattle.tree.specs.declared.line.Row.{Row}
use Rattle.ranking.specs.Models.{Model}

-- how often line i stands in the list
abbrev pub times : ℕ → List ℕ → ℕ
times i [] = 0
times i (j ∷ js) = cond (i == j) 1 0 + times i js

-- the list has each part that is in the set s once, and nothing else
abbrev pub PartsOfSet : List Row → ℕ → List ℕ → Type 0
PartsOfSet rows s is = (i : ℕ) → times i is ≡ cond (has s i && part_line (the_line rows i)) 1 0

module _ {W : Type 0} (m : Model W) (charge_of : Part → ℕ) where
  abbrev pub line_weight : Line → W
  line_weight (line.Part p) = m.of_part p (charge_of p)
  line_weight (line.Gate g) = m.zero

  -- the weight of the lines below n that s has
  unfoldable pub weigh_below : List Row → ℕ → ℕ → W
  weigh_below rows s zero = m.zero
  weigh_below rows s (suc n) = m.join (weigh_below rows s n) (cond (has s n) (line_weight (the_line rows n)) m.zero)

  -- the weight of the set s
  unfoldable pub weigh : List Row → ℕ → W
  weigh rows s = weigh_below rows s (length rows)

  -- the weights of the lines of a list, joined in its order
  abbrev pub joined : List Row → List ℕ → W
  joined rows [] = m.zero
  joined rows (i ∷ is) = m.join (line_weight (the_line rows i)) (joined rows is)

-- What holds of the weights of sets, for any tree and any charge.
module _ {W : Type 0} (m : Model W) where
  -- the empty set weighs zero
  abbrev pub WeighsNone : Type 0
  WeighsNone = (charge_of : Part → ℕ) (rows : List Row) → weigh m charge_of rows 0 ≡ m.zero

  -- a set weighs what its parts weigh, joined in any order
  abbrev pub InAnyOrder : Type 0
  InAnyOrder = (charge_of : Part → ℕ) (rows : List Row) (s : ℕ) (is : List ℕ) → PartsOfSet rows s is → weigh m charge_of rows s ≡ joined m charge_of rows is

  -- with the weight of a part joined to that of a set without it, the set with the part is weighed
  abbrev pub WeighsOneMore : (weight : W) (part : Part) (charge : ℕ) (more : W) → Type 0
  WeighsOneMore weight part charge more =
      (charge_of : Part → ℕ) (rows : List Row) (s i : ℕ)
      → weight ≡ weigh m charge_of rows s → has s i ≡ false → the_line rows i ≡ line.Part part → charge_of part ≡ charge
      → more ≡ weigh m charge_of rows (bit_or s (2 ^ i))

  -- a set weighs what a set within it and the rest of it weigh, joined; the rest is what the two differ in
  abbrev pub WeighsInTwo : Type 0
  WeighsInTwo =
      (charge_of : Part → ℕ) (rows : List Row) (s t : ℕ) → s ⊆ t
      → weigh m charge_of rows t ≡ m.join (weigh m charge_of rows s) (weigh m charge_of rows (bit_xor t s))

  -- a set within another weighs at most as much
  abbrev pub WeighsNoLess : Type 0
  WeighsNoLess =
      (charge_of : Part → ℕ) (rows : List Row) (s t : ℕ) → s ⊆ t
      → m.le (weigh m charge_of rows s) (weigh m charge_of rows t) ≡ true
