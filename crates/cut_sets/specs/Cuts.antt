-- Which lines of a tree are parts and which are gates, which sets of parts are cut sets, and which of those are minimal.
use Rattle.std.specs.Prelude.{◌≡◌, ℕ, ◌^◌, Bool, true, not, ◌↔◌, List, length, bit_xor}
use Rattle.orders.specs.Lists.{In}
use Rattle.tree.specs.Holding.{the_line, top, told, holding, holds}
use Rattle.tree.specs.Lines.{part_line}
use Rattle.tree.specs.Sets.{has, ◌⊆◌}
use Rattle.tree.specs.declared.line.Gate.{Gate}
use Rattle.tree.specs.declared.line.Line.{Line}
use Rattle.tree.specs.declared.line.Line.TheVariants as line
use Rattle.tree.specs.declared.line.Row.{Row}
use Rattle.choices.specs.Counts.{choices}

-- the lines that pass a test
unfoldable pub lines_that : (Line → Bool) → List Row → ℕ
lines_that test rows = told (λ i below. test (the_line rows i)) (length rows)

-- the lines that are parts
abbrev pub parts : List Row → ℕ
parts rows = lines_that part_line rows

-- the lines that are gates
abbrev pub gates_of : List Row → ℕ
gates_of rows = lines_that (λ l. not (part_line l)) rows

-- a set of parts under which the top holds
pub record CutSet (rows : List Row) (s : ℕ) : Type 0 where
  pub of_parts : s ⊆ parts rows
  pub top_holds : holds rows s (top rows) ≡ true

-- a cut set of which no proper subset is one
pub record Minimal (rows : List Row) (s : ℕ) : Type 0 where
  pub cuts : CutSet rows s
  pub least : (u : ℕ) → u ⊆ s → CutSet rows u → u ≡ s

-- s has line i, and is a cut set without it
abbrev pub Spares : List Row → ℕ → ℕ → Type 0
Spares rows s i = (has s i ≡ true) × CutSet rows (bit_xor s (2 ^ i))

-- a gate holds exactly when some choice of exactly `need` of its children all hold
abbrev pub GatesHoldByChoice : List Row → Type 0
GatesHoldByChoice rows =
    (i : ℕ) (g : Gate) (s : ℕ) → the_line rows i ≡ line.Gate g
    → (holds rows s i ≡ true) ↔ ((c : ℕ) × In c (choices g.children i g.need) × c ⊆ holding rows s)
