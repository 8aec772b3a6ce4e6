-- A way is a set of chosen parts and a set of open gates. Ways are ordered by the weight of the chosen parts, then fewer
-- chosen parts, then a way with an open gate first; after that the lowest differing chosen part decides, then the lowest
-- differing open gate: the way that has it is first.
use Rattle.std.specs.Prelude.{ℕ, Bool, cond, List, ◌==◌, count_ones, nat_le}
use Rattle.orders.specs.Orders.{lex, by}
use Rattle.tree.specs.Holding.{holding}
use Rattle.tree.specs.Sets.{◌⊆◌, set_le}
use Rattle.tree.specs.declared.line.Part.{Part}
use Rattle.tree.specs.declared.line.Row.{Row}
use Rattle.ranking.specs.Models.{Model}
use Rattle.ranking.specs.Weights.{weigh}
use Rattle.cut_sets.specs.declared.way.Way.{Way}

-- 0 for a way with an open gate, 1 for a way with none
abbrev pub finished : Way → ℕ
finished w = cond (w.gates == 0) 1 0

abbrev pub fewer_chosen : Way → Way → Bool
fewer_chosen = by (λ w. count_ones w.chosen) nat_le

abbrev pub open_first : Way → Way → Bool
open_first = by finished nat_le

abbrev pub lowest_chosen : Way → Way → Bool
lowest_chosen = by (λ w. w.chosen) set_le

abbrev pub lowest_gate : Way → Way → Bool
lowest_gate = by (λ w. w.gates) set_le

-- what decides between ways of the same weight
abbrev pub size_then_lines : Way → Way → Bool
size_then_lines = lex fewer_chosen (lex open_first (lex lowest_chosen lowest_gate))

module _ {W : Type 0} (m : Model W) (charge_of : Part → ℕ) (rows : List Row) where
  abbrev pub lighter : Way → Way → Bool
  lighter = by (λ w. weigh m charge_of rows w.chosen) m.le

  -- the order of ways
  abbrev pub way_le : Way → Way → Bool
  way_le = lex lighter size_then_lines

-- a way stands for the sets of parts that have its chosen parts and under which its open gates hold
pub record StandsFor (rows : List Row) (w : Way) (s : ℕ) : Type 0 where
  pub chosen : w.chosen ⊆ s
  pub gates : w.gates ⊆ holding rows s
