-- A tree with some of its parts fixed as failed or as sound, and what that does to holding.
use Rattle.std.specs.Prelude.{ℕ, zero, suc, ◌^◌, Bool, false, cond, List, [], ◌∷◌, Some, None, Ok, Err, Option, Result, codes, bit_and, bit_or, bit_xor}
use Rattle.tree.specs.Lines.{line_at, part_line}
use Rattle.tree.specs.Sets.{has}
use Rattle.tree.specs.declared.line.Line.{Line}
use Rattle.tree.specs.declared.line.Line.TheVariants.{Gate}
use Rattle.tree.specs.declared.line.Row.{Row}
use Rattle.kinds.specs.declared.fixing.Fixing.{Fixing}
use Rattle.kinds.specs.declared.fixing.State.{State}
use Rattle.kinds.specs.declared.fixing.State.TheVariants.{Failed, Sound}

-- a gate without children that needs this many
abbrev pub childless : ℕ → Line
childless need = Gate (record { children = 0; need = need })

-- what stands for a fixed part: a failed one always holds, a sound one never does
abbrev pub fixed_line : State → Line
fixed_line Failed = childless 0
fixed_line Sound = childless 1

-- as it is printed
abbrev pub state_text : State → List ℕ
state_text Failed = codes "failed"
state_text Sound = codes "sound"

-- ---- one part fixed

abbrev pub is_part : Option Line → Bool
is_part None = false
is_part (Some l) = part_line l

-- another line i under the same name
abbrev pub relined : List Row → ℕ → Line → List Row
relined [] i l = []
relined (r ∷ rs) zero l = record { line = l; name = r.name } ∷ rs
relined (r ∷ rs) (suc i) l = r ∷ relined rs i l

-- line i, where it is a part, is fixed; any other line stays, and so does all else
abbrev pub fixed_rows : List Row → ℕ → State → List Row
fixed_rows rows i state = cond (is_part (line_at rows i)) (relined rows i (fixed_line state)) rows

abbrev pub fix_answer : List Row → ℕ → Result Unit (ℕ × ℕ × ℕ × ℕ)
fix_answer rows i = cond (is_part (line_at rows i)) (Ok tt) (Err (14, 88, 0, 0))

-- the set s with line i, where that has failed, and without it, where it is sound
abbrev pub in_state : State → ℕ → ℕ → ℕ
in_state Failed i s = bit_or s (2 ^ i)
in_state Sound i s = bit_xor s (bit_and s (2 ^ i))

-- ---- all that is fixed

-- line i under two sets of fixed lines
abbrev pub overlaid_line : ℕ → ℕ → ℕ → Line → Line
overlaid_line failed sound i l = cond (has failed i) (fixed_line Failed) (cond (has sound i) (fixed_line Sound) l)

abbrev pub overlaid_row : ℕ → ℕ → ℕ → Row → Row
overlaid_row failed sound i r = record { line = overlaid_line failed sound i r.line; name = r.name }

-- the lines from line i on
abbrev pub overlaid_from : ℕ → ℕ → ℕ → List Row → List Row
overlaid_from i failed sound [] = []
overlaid_from i failed sound (r ∷ rs) = overlaid_row failed sound i r ∷ overlaid_from (suc i) failed sound rs

-- a tree whose lines in the two sets are fixed
abbrev pub overlaid : ℕ → ℕ → List Row → List Row
overlaid failed sound rows = overlaid_from 0 failed sound rows

-- what a fixing means, from what the tree below it means
abbrev pub fixed_over : {T : Type 0} → (T → List Row) → Fixing T → List Row
fixed_over below f = overlaid f.failed f.sound (below f.inner)
