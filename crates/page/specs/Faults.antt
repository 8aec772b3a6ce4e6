-- The number and the layer of each refusal of a page.
use Rattle.std.specs.Prelude.{ℕ, Ok, Err, Result}
use Rattle.station_file.specs.Faults.{field_number, station_number}
use Rattle.station_file.specs.declared.faults.StationFault.{StationFault}
use Rattle.station_file.specs.declared.faults.StationLayer.{StationLayer}
use Rattle.station_file.specs.declared.faults.StationLayer.TheVariants as station
use Rattle.page.specs.declared.faults.PageCause.{PageCause}
use Rattle.page.specs.declared.faults.PageCause.TheVariants.{NoOrder, OrderField, NoRoom}
use Rattle.page.specs.declared.faults.PageFault.{PageFault}
use Rattle.page.specs.declared.faults.PageLayer.{PageLayer}
use Rattle.page.specs.declared.faults.PageLayer.TheVariants.{Field, Station, Page}

abbrev pub page_number : PageCause → ℕ
page_number NoRoom = 31
page_number NoOrder = 40
page_number OrderField = 41

-- the number of a refusal
abbrev pub number_of : PageLayer → ℕ
number_of (Field c) = field_number c
number_of (Station c) = station_number c
number_of (Page c) = page_number c

-- the letter of the layer where it arose: N, S or P
abbrev pub layer_of : PageLayer → ℕ
layer_of (Field c) = 78
layer_of (Station c) = 83
layer_of (Page c) = 80

abbrev pub page_fault : ℕ → ℕ → PageCause → PageFault
page_fault line field cause = record { line = line; field = field; layer = Page cause }

abbrev pub raised_layer : StationLayer → PageLayer
raised_layer (station.Field c) = Field c
raised_layer (station.Station c) = Station c

-- a station's fault, carried whole by the page's
abbrev pub raised : StationFault → PageFault
raised f = record { line = f.line; field = f.field; layer = raised_layer f.layer }

-- an answer of the station layer as one of the page's
abbrev pub up : {A : Type 0} → Result A StationFault → Result A PageFault
up (Ok a) = Ok a
up (Err f) = Err (raised f)
