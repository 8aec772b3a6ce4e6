-- The number and the layer of each refusal of a station file.
use Rattle.std.specs.Prelude.{ℕ, Ok, Err, Result}
use Rattle.station_file.specs.declared.faults.FieldCause.{FieldCause}
use Rattle.station_file.specs.declared.faults.FieldCause.TheVariants.{NotName, NotNumber}
use Rattle.station_file.specs.declared.faults.FieldFault.{FieldFault}
use Rattle.station_file.specs.declared.faults.StationCause.{StationCause}
use Rattle.station_file.specs.declared.faults.StationCause.TheVariants.{Size, NoEnd, TooManyLines, Letter, NameTaken, FieldCount, UnknownChild, ChildTwice}
use Rattle.station_file.specs.declared.faults.StationLayer.TheVariants.{Field, Station}
use Rattle.station_file.specs.declared.faults.StationFault.{StationFault}

abbrev pub field_number : FieldCause → ℕ
field_number NotName = 5
field_number NotNumber = 8

abbrev pub station_number : StationCause → ℕ
station_number Size = 1
station_number NoEnd = 2
station_number TooManyLines = 3
station_number Letter = 4
station_number NameTaken = 6
station_number FieldCount = 7
station_number UnknownChild = 9
station_number ChildTwice = 10

abbrev pub field_fault : ℕ → ℕ → FieldCause → FieldFault
field_fault line field cause = record { line = line; field = field; cause = cause }

abbrev pub station_fault : ℕ → ℕ → StationCause → StationFault
station_fault line field cause = record { line = line; field = field; layer = Station cause }

-- a field's fault, carried whole by the station's
abbrev pub raised : FieldFault → StationFault
raised f = record { line = f.line; field = f.field; layer = Field f.cause }

-- an answer of the field layer as one of the station's
abbrev pub up : {A : Type 0} → Result A FieldFault → Result A StationFault
up (Ok a) = Ok a
up (Err f) = Err (raised f)
