-- The lines that a read tree holds.
use Rattle.std.specs.Prelude.{List, [], ◌∷◌}
use Rattle.tree.specs.Names.{name_of}
use Rattle.tree.specs.declared.line.Row.{Row}
use Rattle.station_file.specs.Records.{gate}
use Rattle.station_file.specs.declared.read_tree.ReadTree.{ReadTree}

-- what a read tree means
abbrev pub rows_of : ReadTree → List Row
rows_of t = t.rows.items

-- one gate without children that never holds, named A
abbrev pub smallest : List Row
smallest = record { line = gate 0 1; name = name_of (65 ∷ []) } ∷ []
