use Rattle.std.proofs.Common.{◌≡◌, [], length}
use Rattle.tabbed_text.specs.Fields.{lines_of}
use Rattle.tabbed_text.specs.Remains.{remains}
use Rattle.station_file.specs.Files.{read_rows}
use Rattle.station_file.proofs.reader.read_rows.Given as goal

abbrev pub invariant-loop-fields : goal.invariant-loop-fields
invariant-loop-fields l = read_rows l.rows.items (lines_of (remains l.fields)) ≡ read_rows [] (lines_of l.bytes)

abbrev pub decreases-loop-fields : goal.decreases-loop-fields
decreases-loop-fields l = length (remains l.fields)
