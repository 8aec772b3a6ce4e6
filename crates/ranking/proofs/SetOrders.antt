-- The order of sets is total, under every ranking.
use Rattle.std.proofs.Common.{◌≡◌, ℕ, Bool, true, false, cond, leb, List, ◌∙◌, ap₂}
use lib.Count.{ones}
use Rattle.orders.specs.Orders.{Total, by}
use Rattle.tree.specs.Sets.{set_le}
use Rattle.tree.specs.declared.line.Part.{Part}
use Rattle.tree.specs.declared.line.Row.{Row}
use Rattle.tree.proofs.Lowest.{set_order}
use Rattle.orders.proofs.Orders.{leb_total, by_ranked, lex_total}
use Rattle.ranking.specs.Models.{Model, Lawful}
use Rattle.ranking.specs.SetOrder.{size_then_line, weighed_le, set_at_most, OrdersSets}
use Rattle.ranking.specs.Weights.{weigh}
use Rattle.ranking.specs.declared.set_order.Weighed.{Weighed}

sizes_total : Total size_then_line
sizes_total = lex_total (by ones leb) set_le (by_ranked ones leb leb_total.ranked) set_order

pub sets_total : {W : Type 0} (m : Model W) → Lawful m → (charge_of : Part → ℕ) (rows : List Row) → Total (set_at_most m charge_of rows)
sets_total m law charge_of rows = lex_total (by (weigh m charge_of rows) m.le) size_then_line (by_ranked (weigh m charge_of rows) m.le law.order.ranked) sizes_total

pub orders_sets : {W : Type 0} (m : Model W) → Lawful m → (a b : Weighed W) (r : Bool) → r ≡ weighed_le m.le a b → OrdersSets m a b r
orders_sets m law a b r is =
    record {
      by_weight_size_and_line = λ charge_of rows p q.
          is ∙ ap₂ (λ x y. cond (m.le x y) (cond (m.le y x) (size_then_line a.set b.set) true) false) p q;
      total = sets_total m law;
    }
