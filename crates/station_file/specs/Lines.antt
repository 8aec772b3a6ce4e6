-- A line of a station file stands below the lines above it, and its number comes after theirs.
use Rattle.std.specs.Prelude.{ℕ, suc, List, length}
use Rattle.tree.specs.declared.line.Row.{Row}
use Rattle.station_file.specs.declared.record.Record.{Record}

abbrev pub rows_above : Record → List Row
rows_above r = r.above.now

-- the number of the line, from 1
abbrev pub line_of : Record → ℕ
line_of r = suc (length r.above.now)
