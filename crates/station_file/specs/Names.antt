-- Names in fields, and the line that has a name.
use Rattle.std.specs.Prelude.{ℕ, suc, cond, List, [], ◌∷◌, Some, None, Option}
use Rattle.tree.specs.Names.{well_named, name_of, same_name}
use Rattle.tree.specs.declared.line.Name.{Name}
use Rattle.tree.specs.declared.line.Row.{Row}

-- the name that a field writes
abbrev pub name_from : List ℕ → Option Name
name_from bs = cond (well_named bs) (Some (name_of bs)) None

-- the first of the rows, which are the lines from i on, that has the name n
abbrev pub first_named : ℕ → List Row → Name → Option ℕ
first_named i [] n = None
first_named i (r ∷ rs) n = cond (same_name r.name n) (Some i) (first_named (suc i) rs n)

-- the line that a field names
abbrev pub line_named : List Row → Option Name → Option ℕ
line_named rows None = None
line_named rows (Some n) = first_named 0 rows n
