-- Sets are ordered by weight, then fewer parts, then the set that has the lowest line in which the two differ.
use Rattle.std.specs.Prelude.{◌≡◌, ℕ, Bool, List, count_ones, nat_le}
use Rattle.orders.specs.Orders.{Total, lex, by}
use Rattle.tree.specs.Sets.{set_le}
use Rattle.tree.specs.declared.line.Part.{Part}
use Rattle.tree.specs.declared.line.Row.{Row}
use Rattle.ranking.specs.Models.{Model}
use Rattle.ranking.specs.Weights.{weigh}
use Rattle.ranking.specs.declared.set_order.Weighed.{Weighed}

abbrev pub size_then_line : ℕ → ℕ → Bool
size_then_line = lex (by count_ones nat_le) set_le

-- of sets that carry their weights
abbrev pub weighed_le : {W : Type 0} → (W → W → Bool) → Weighed W → Weighed W → Bool
weighed_le le = lex (by (λ w. w.weight) le) (by (λ w. w.set) size_then_line)

-- of the sets of a tree
abbrev pub set_at_most : {W : Type 0} → Model W → (Part → ℕ) → List Row → ℕ → ℕ → Bool
set_at_most m charge_of rows = lex (by (weigh m charge_of rows) m.le) size_then_line

-- where the weights carried are those of the sets, r says whether the one set comes before the other or is the same;
-- and that is a total order: any two sets compare, and only a set itself is both before and after it
pub record OrdersSets {W : Type 0} (m : Model W) (a b : Weighed W) (r : Bool) : Type 0 where
  pub by_weight_size_and_line : (charge_of : Part → ℕ) (rows : List Row)
      → a.weight ≡ weigh m charge_of rows a.set → b.weight ≡ weigh m charge_of rows b.set
      → r ≡ set_at_most m charge_of rows a.set b.set
  pub total : (charge_of : Part → ℕ) (rows : List Row) → Total (set_at_most m charge_of rows)
