-- Ways that carry the weight of their chosen parts, and their order: by the weights carried, and then as ways are ordered.
use Rattle.std.specs.Prelude.{◌≡◌, ℕ, Bool, List, map}
use Rattle.orders.specs.Lists.{Each}
use Rattle.orders.specs.Orders.{lex, by}
use Rattle.orders.specs.Sorted.{insert}
use Rattle.tree.specs.declared.line.Part.{Part}
use Rattle.tree.specs.declared.line.Row.{Row}
use Rattle.ranking.specs.Models.{Model}
use Rattle.ranking.specs.Weights.{weigh}
use Rattle.cut_sets.specs.Ways.{size_then_lines, way_le}
use Rattle.lister.specs.declared.waiting.Waiting.{Waiting}

-- the weight carried is that of the chosen parts
abbrev pub Carries : {W : Type 0} → Model W → (Part → ℕ) → List Row → Waiting W → Type 0
Carries m charge_of rows w = w.weight ≡ weigh m charge_of rows w.way.chosen

-- by the weights carried, then as ways of one weight are ordered
abbrev pub waiting_le : {W : Type 0} → (W → W → Bool) → Waiting W → Waiting W → Bool
waiting_le le = lex (by (λ w. w.weight) le) (by (λ w. w.way) size_then_lines)

-- where the weights carried are those of the chosen parts, r says whether the one way comes before the other or is the same
abbrev pub OrdersWaiting : {W : Type 0} → Model W → (a b : Waiting W) (r : Bool) → Type 0
OrdersWaiting m a b r =
    (charge_of : Part → ℕ) (rows : List Row) → Carries m charge_of rows a → Carries m charge_of rows b → r ≡ way_le m charge_of rows a.way b.way

-- a way that waits goes into a list of others just where the rule puts it
abbrev pub InsertsWays : {W : Type 0} → Model W → Type 0
InsertsWays {W} m =
    (charge_of : Part → ℕ) (rows : List Row) (w : Waiting W) (ws : List (Waiting W))
    → Carries m charge_of rows w → Each (Carries m charge_of rows) ws
    → map (λ v. v.way) (insert (waiting_le m.le) w ws) ≡ insert (way_le m charge_of rows) w.way (map (λ v. v.way) ws)
