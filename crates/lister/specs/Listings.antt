-- The rows of a listing as a tree, what is added to a way by them, and ways whose weights go by them.
use Rattle.std.specs.Prelude.{◌≡◌, ℕ, cond, List, [], ◌∷◌, map, Some, None, Option, bit_or}
use Rattle.std.specs.List.{slice_get}
use Rattle.orders.specs.Lists.{Each}
use Rattle.tree.specs.declared.line.Part.{Part}
use Rattle.tree.specs.declared.line.Line.{Line}
use Rattle.tree.specs.declared.line.Line.TheVariants as line
use Rattle.tree.specs.declared.line.Row.{Row}
use Rattle.tree.specs.Sets.{has, alone}
use Rattle.ranking.specs.Models.{Model}
use Rattle.lister.specs.Waiting.{Carries}
use Rattle.lister.specs.declared.waiting.Waiting.{Waiting}
use Rattle.lister.specs.declared.listing.ChargedRow.{ChargedRow}

-- its lines with their names
abbrev pub rows_of : List ChargedRow → List Row
rows_of = map (λ r. r.row)

-- a part is charged what charge_of says, a gate nothing
abbrev pub LineCharged : (Part → ℕ) → Line → ℕ → Type 0
LineCharged charge_of (line.Part p) charge = charge ≡ charge_of p
LineCharged charge_of (line.Gate g) charge = charge ≡ 0

-- so is each line
abbrev pub ChargedBy : (Part → ℕ) → List ChargedRow → Type 0
ChargedBy charge_of = Each (λ r. LineCharged charge_of r.row.line r.charge)

-- by any charge of parts that the rows have: where w carries the weight of its chosen parts, v carries that of its own
abbrev pub KeepsWeight : {W : Type 0} → Model W → List ChargedRow → (w v : Waiting W) → Type 0
KeepsWeight m rows w v = (charge_of : Part → ℕ) → ChargedBy charge_of rows → Carries m charge_of (rows_of rows) w → Carries m charge_of (rows_of rows) v

module _ {W : Type 0} (m : Model W) where
  -- line i added to a way, if there is one: a gate as open; a part as chosen, and its weight joined if it is new
  abbrev pub with_row : Waiting W → ℕ → ℕ → Line → Waiting W
  with_row w i charge (line.Gate g) = record { way = record { chosen = w.way.chosen; gates = bit_or w.way.gates (alone i) }; weight = w.weight }
  with_row w i charge (line.Part p) =
      cond (has w.way.chosen i) w
      (record { way = record { chosen = bit_or w.way.chosen (alone i); gates = w.way.gates }; weight = m.join w.weight (m.of_part p charge) })

  abbrev pub with_found : Waiting W → ℕ → Option ChargedRow → Waiting W
  with_found w i None = w
  with_found w i (Some r) = with_row w i r.charge r.row.line

  -- the lines of a list added, one after the other
  abbrev pub with_lines : List ChargedRow → Waiting W → List ℕ → Waiting W
  with_lines rows w [] = w
  with_lines rows w (i ∷ is) = with_lines rows (with_found w i (slice_get rows i)) is
