use Rattle.std.proofs.Common.{◌≡◌, ◌+◌, ◌≤◌, length}
use Rattle.std.specs.Iterator.Adapters.{enumerate_source, enumerate_count}
use Rattle.tabbed_text.specs.Fields.{more_fields}
use Rattle.tabbed_text.specs.Remains.{remains}
use Rattle.station_file.specs.Lines.{line_of, rows_above}
use Rattle.station_file.specs.Records.{children}
use Rattle.station_file.proofs.record.Record.children.Given as goal

abbrev pub invariant-loop-k : goal.invariant-loop-k
invariant-loop-k l =
    let left = more_fields (remains (enumerate_source l.k-iterator)) in
    (goal.iterator-loop-k).can_next l.k-iterator × (goal.iterator-loop-k).is_finite l.k-iterator
    × (children (line_of l.self) (l.first + enumerate_count l.k-iterator) (rows_above l.self) l.set left
    ≡ children (line_of l.self) l.first (rows_above l.self) 0 (more_fields (remains l.self.fields)))
    × (l.first + enumerate_count l.k-iterator + length left ≤ 20)
