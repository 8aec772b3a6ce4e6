-- Which lines of a tree hold when the parts of a set have failed. One walk up the lines decides it, since children stand
-- below their gate. The laws of it stand at the end: a part holds exactly when it is in the set, a gate exactly when at
-- least `need` of its children hold.
use Rattle.std.specs.Prelude.{◌≡◌, ℕ, zero, suc, ◌-◌, ◌^◌, Bool, cond, List, [], ◌∷◌, length, bit_and, bit_or, count_ones, nat_le}
use Rattle.tree.specs.Lines.{never}
use Rattle.tree.specs.Sets.{has, ◌⊆◌}
use Rattle.tree.specs.declared.line.Part.{Part}
use Rattle.tree.specs.declared.line.Gate.{Gate}
use Rattle.tree.specs.declared.line.Line.{Line}
use Rattle.tree.specs.declared.line.Line.TheVariants as line
use Rattle.tree.specs.declared.line.Row.{Row}

-- line i; past the last line, a gate that never holds
abbrev pub the_line : List Row → ℕ → Line
the_line [] i = never
the_line (r ∷ rs) zero = r.line
the_line (r ∷ rs) (suc i) = the_line rs i

abbrev pub top : List Row → ℕ
top rows = length rows - 1

-- a set told line by line from below: whether it has line i may depend on what it has of the lines below
unfoldable pub told : (ℕ → ℕ → Bool) → ℕ → ℕ
told f zero = 0
told f (suc n) = bit_or (told f n) (cond (f n (told f n)) (2 ^ n) 0)

-- whether line i holds for the set s of failed parts, by the lines below it that hold
abbrev pub holds_by : Line → ℕ → ℕ → ℕ → Bool
holds_by (line.Part p) s i below = has s i
holds_by (line.Gate g) s i below = nat_le g.need (count_ones (bit_and g.children below))

abbrev pub line_holds : List Row → ℕ → ℕ → ℕ → Bool
line_holds rows s i below = holds_by (the_line rows i) s i below

-- the lines that hold for s
unfoldable pub holding : List Row → ℕ → ℕ
holding rows s = told (line_holds rows s) (length rows)

-- whether line i holds for s
abbrev pub holds : List Row → ℕ → ℕ → Bool
holds rows s i = has (holding rows s) i

-- the laws of holding, over a tree
pub record HoldingLaws (rows : List Row) : Type 0 where
  pub part : (i : ℕ) (p : Part) (s : ℕ) → the_line rows i ≡ line.Part p → holds rows s i ≡ has s i
  pub gate : (i : ℕ) (g : Gate) (s : ℕ) → the_line rows i ≡ line.Gate g → holds rows s i ≡ nat_le g.need (count_ones (bit_and g.children (holding rows s)))
  pub more : (s u : ℕ) → s ⊆ u → holding rows s ⊆ holding rows u
