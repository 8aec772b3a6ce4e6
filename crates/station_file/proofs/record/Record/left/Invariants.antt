use Rattle.std.proofs.Common.{◌≡◌, ◌+◌, length}
use Rattle.tabbed_text.specs.Fields.{more_fields}
use Rattle.tabbed_text.specs.Remains.{remains}
use Rattle.station_file.proofs.record.Record.left.Given as goal

abbrev pub invariant-loop-n : goal.invariant-loop-n
invariant-loop-n l = l.n + length (more_fields (remains l.fields)) ≡ length (more_fields (remains l.self.fields))
