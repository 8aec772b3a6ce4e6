-- What a station file says, by its questions in the order in which they are asked.
use Rattle.std.specs.Prelude.{ℕ, suc, ◌-◌, cond, ◌&&◌, List, [], ◌∷◌, ◌++◌, length, Ok, Err, Result, ◌==◌, nat_le, slice_index}
use Rattle.tree.specs.declared.line.Row.{Row}
use Rattle.tabbed_text.specs.Fields.{lines_of}
use Rattle.tabbed_text.specs.Questions.{then}
use Rattle.station_file.specs.Faults.{station_fault}
use Rattle.station_file.specs.Records.{record_of}
use Rattle.station_file.specs.declared.faults.StationCause.TheVariants.{Size, NoEnd, TooManyLines}
use Rattle.station_file.specs.declared.faults.StationFault.{StationFault}

-- the rows of more lines, by their fields, after the rows above; each line must be at most the 64th
abbrev pub read_rows : List Row → List (List (List ℕ)) → Result (List Row) StationFault
read_rows rows [] = Ok rows
read_rows rows (fs ∷ more) =
    cond (nat_le 64 (length rows)) (Err (station_fault (suc (length rows)) 0 TooManyLines))
    (then (record_of (suc (length rows)) rows fs) (λ r. read_rows (rows ++ (r ∷ [])) more))

-- has the file 1 to 16,384 bytes, and is its last byte 10?
abbrev pub read_file : List ℕ → Result (List Row) StationFault
read_file bs =
    cond (nat_le 1 (length bs) && nat_le (length bs) 16384)
    (cond (slice_index bs (length bs - 1) == 10) (read_rows [] (lines_of bs)) (Err (station_fault 0 0 NoEnd)))
    (Err (station_fault 0 0 Size))

-- whether it was read
abbrev pub outcome : Result (List Row) StationFault → Result (Unit {0}) StationFault
outcome (Ok rows) = Ok tt
outcome (Err f) = Err f

-- the rows read, or where the file is refused those of before
abbrev pub rows_or : Result (List Row) StationFault → List Row → List Row
rows_or (Ok rows) old = rows
rows_or (Err f) old = old
