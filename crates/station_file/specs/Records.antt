-- What one line of a station file says, by its questions in the order in which they are asked. `line` is its number
-- from 1, `rows` are the lines above it, and fields count from 1.
use Rattle.std.specs.Prelude.{ℕ, suc, ◌^◌, cond, ◌&&◌, List, [], ◌∷◌, length, drop, is_some, Some, None, Ok, Err, Option, Result, bit_or, nat_le}
use Rattle.std.specs.Option.{ok_or}
use Rattle.tree.specs.Sets.{has}
use Rattle.tree.specs.declared.line.Line.{Line}
use Rattle.tree.specs.declared.line.Line.TheVariants as a_line
use Rattle.tree.specs.declared.line.Name.{Name}
use Rattle.tree.specs.declared.line.Row.{Row}
use Rattle.tabbed_text.specs.Numbers.{number_in}
use Rattle.tabbed_text.specs.Questions.{then}
use Rattle.station_file.specs.Faults.{field_fault, station_fault, up}
use Rattle.station_file.specs.Letters.{kind_of}
use Rattle.station_file.specs.Names.{name_from, first_named, line_named}
use Rattle.station_file.specs.declared.faults.FieldCause.TheVariants.{NotName, NotNumber}
use Rattle.station_file.specs.declared.faults.FieldFault.{FieldFault}
use Rattle.station_file.specs.declared.faults.StationCause.TheVariants.{Letter, NameTaken, FieldCount, UnknownChild, ChildTwice}
use Rattle.station_file.specs.declared.faults.StationFault.{StationFault}
use Rattle.station_file.specs.declared.letters.Kind.{Kind}
use Rattle.station_file.specs.declared.letters.Kind.TheVariants.{Part, And, Or, AtLeast, Always, Never}

-- is the field there and one of the six letters?
abbrev pub kind_field : ℕ → List (List ℕ) → Result Kind StationFault
kind_field line [] = Err (station_fault line 2 Letter)
kind_field line (f ∷ fs) = ok_or (kind_of f) (station_fault line 2 Letter)

-- is the first field a name?
abbrev pub name_field : ℕ → List ℕ → Result Name FieldFault
name_field line bs = ok_or (name_from bs) (field_fault line 1 NotName)

-- is the name new?
abbrev pub new_name : ℕ → List Row → Name → Result Name StationFault
new_name line rows n = cond (is_some (first_named 0 rows n)) (Err (station_fault line 1 NameTaken)) (Ok n)

-- is the number well formed and within its limits?
abbrev pub number_field : ℕ → ℕ → ℕ → ℕ → List ℕ → Result ℕ FieldFault
number_field low high line field bs = ok_or (number_in low high bs) (field_fault line field NotNumber)

-- is the child the name of a line above, and new in this line?
abbrev pub child_field : ℕ → ℕ → ℕ → Option ℕ → Result ℕ StationFault
child_field line field set None = Err (station_fault line field UnknownChild)
child_field line field set (Some i) = cond (has set i) (Err (station_fault line field ChildTwice)) (Ok i)

-- the children that the fields name, child by child, besides those of the set
abbrev pub children : ℕ → ℕ → List Row → ℕ → List (List ℕ) → Result ℕ StationFault
children line field rows set [] = Ok set
children line field rows set (f ∷ fs) =
    then (child_field line field set (line_named rows (name_from f))) (λ i.
    children line (suc field) rows (bit_or set (2 ^ i)) fs)

abbrev pub gate : ℕ → ℕ → Line
gate set need = a_line.Gate (record { children = set; need = need })

-- are there from low to high fields after the letter?
abbrev pub counted : {A : Type 0} → ℕ → ℕ → ℕ → List (List ℕ) → Result A StationFault → Result A StationFault
counted low high line fs k = cond (nat_le low (length fs) && nat_le (length fs) high) k (Err (station_fault line 0 FieldCount))

-- the next field; where there is none, the line has too few
abbrev pub next_field : ℕ → List (List ℕ) → Result (List ℕ) StationFault
next_field line [] = Err (station_fault line 0 FieldCount)
next_field line (f ∷ fs) = Ok f

-- is no field left?
abbrev pub none_left : ℕ → List (List ℕ) → Result (Unit {0}) StationFault
none_left line [] = Ok tt
none_left line (f ∷ fs) = Err (station_fault line 0 FieldCount)

abbrev pub part_numbers : ℕ → List ℕ → List ℕ → List ℕ → List ℕ → Result Line StationFault
part_numbers line r c d p =
    then (up (number_field 0 60000 line 3 r)) (λ rarity.
    then (up (number_field 0 9 line 4 c)) (λ class.
    then (up (number_field 0 1000 line 5 d)) (λ discount.
    then (up (number_field 0 10000000 line 6 p)) (λ price.
    Ok (a_line.Part (record { rarity = rarity; class = class; discount = discount; price = price }))))))

-- E: six fields in all
abbrev pub part_body : ℕ → List (List ℕ) → Result Line StationFault
part_body line [] = Err (station_fault line 0 FieldCount)
part_body line (r ∷ []) = Err (station_fault line 0 FieldCount)
part_body line (r ∷ (c ∷ [])) = Err (station_fault line 0 FieldCount)
part_body line (r ∷ (c ∷ (d ∷ []))) = Err (station_fault line 0 FieldCount)
part_body line (r ∷ (c ∷ (d ∷ (p ∷ [])))) = part_numbers line r c d p
part_body line (r ∷ (c ∷ (d ∷ (p ∷ (x ∷ xs))))) = Err (station_fault line 0 FieldCount)

-- the gate with that need over the children that the fields name
abbrev pub gate_of : ℕ → ℕ → List Row → ℕ → List (List ℕ) → Result Line StationFault
gate_of line field rows need fs = then (children line field rows 0 fs) (λ set. Ok (gate set need))

-- A needs all its children, O one of them: 3 to 14 fields in all
abbrev pub all_body : ℕ → List Row → List (List ℕ) → Result Line StationFault
all_body line rows fs =
    counted 1 12 line fs (gate_of line 3 rows (length fs) fs)

abbrev pub any_body : ℕ → List Row → List (List ℕ) → Result Line StationFault
any_body line rows fs = counted 1 12 line fs (gate_of line 3 rows 1 fs)

-- V: a need, which is 1 to the number of the children's fields, and then the children, 4 to 15 fields in all
abbrev pub vote_fields : ℕ → List Row → List (List ℕ) → Result Line StationFault
vote_fields line rows [] = Err (station_fault line 0 FieldCount)
vote_fields line rows (n ∷ fs) =
    then (up (number_field 1 (length fs) line 3 n)) (λ need.
    gate_of line 4 rows need fs)

abbrev pub vote_body : ℕ → List Row → List (List ℕ) → Result Line StationFault
vote_body line rows fs = counted 2 13 line fs (vote_fields line rows fs)

-- T always holds, F never does: two fields in all
abbrev pub bare_body : ℕ → ℕ → List (List ℕ) → Result Line StationFault
bare_body line need [] = Ok (gate 0 need)
bare_body line need (f ∷ fs) = Err (station_fault line 0 FieldCount)

abbrev pub body : ℕ → List Row → Kind → List (List ℕ) → Result Line StationFault
body line rows Part fs = part_body line fs
body line rows And fs = all_body line rows fs
body line rows Or fs = any_body line rows fs
body line rows AtLeast fs = vote_body line rows fs
body line rows Always fs = bare_body line 0 fs
body line rows Never fs = bare_body line 1 fs

-- the row of a line with a first field and others
abbrev pub row_of : ℕ → List Row → List ℕ → List (List ℕ) → Result Row StationFault
row_of line rows first others =
    then (kind_field line others) (λ kind.
    then (up (name_field line first)) (λ name.
    then (new_name line rows name) (λ fresh.
    then (body line rows kind (drop 1 others)) (λ l.
    Ok (record { line = l; name = fresh })))))

-- the row of a line by its fields
abbrev pub record_of : ℕ → List Row → List (List ℕ) → Result Row StationFault
record_of line rows [] = Err (station_fault line 2 Letter)
record_of line rows (first ∷ others) = row_of line rows first others
