-- The lines of a tree by their numbers, from 0 on.
use Rattle.std.specs.Prelude.{ℕ, Bool, true, false, List, Option}
use Rattle.std.specs.Option.{option_map}
use Rattle.std.specs.List.{slice_get}
use Rattle.tree.specs.declared.line.Line.{Line}
use Rattle.tree.specs.declared.line.Line.TheVariants as line
use Rattle.tree.specs.declared.line.Name.{Name}
use Rattle.tree.specs.declared.line.Row.{Row}

abbrev pub line_at : List Row → ℕ → Option Line
line_at rows i = option_map (λ r. r.line) (slice_get rows i)

abbrev pub name_at : List Row → ℕ → Option Name
name_at rows i = option_map (λ r. r.name) (slice_get rows i)

abbrev pub part_line : Line → Bool
part_line (line.Part p) = true
part_line (line.Gate g) = false

-- a gate that never holds
abbrev pub never : Line
never = line.Gate (record { children = 0; need = 1 })

-- the name A
abbrev pub first_name : Name
first_name = record { head = 65; tail = 0; len = 1 }
