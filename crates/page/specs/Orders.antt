-- The order line, by its questions in the order in which they are asked: is there a byte 10 among the first 32 bytes,
-- with exactly four fields before it, and is each field right, from the left?
use Rattle.std.specs.Prelude.{◌≡◌, ℕ, Bool, cond, take, List, [], ◌∷◌, Some, None, Ok, Err, Option, Result, ◌==◌}
use Rattle.std.specs.Option.{ok_or}
use Rattle.std.specs.List.{list_any}
use Rattle.station_file.specs.Files.{read_file}
use Rattle.tree.specs.declared.line.Row.{Row}
use Rattle.tabbed_text.specs.Fields.{fields_of, after}
use Rattle.tabbed_text.specs.Numbers.{number_in}
use Rattle.tabbed_text.specs.Questions.{then}
use Rattle.tabbed_text.specs.declared.letters.UnknownLetter.{UnknownLetter}
use Rattle.page.specs.Faults.{page_fault, up}
use Rattle.page.specs.declared.faults.PageCause.TheVariants.{NoOrder, OrderField}
use Rattle.page.specs.declared.faults.PageFault.{PageFault}
use Rattle.page.specs.declared.order.Criterion.{Criterion}
use Rattle.page.specs.declared.order.Criterion.TheVariants.{Price, Rarity, Class, Size}
use Rattle.page.specs.declared.order.Order.{Order}

-- whether byte 10 stands among the first n bytes
abbrev pub line_within : ℕ → List ℕ → Bool
line_within n bs = list_any (λ b. b == 10) (take n bs)

-- P, R, C and S
abbrev pub criterion_of_letter : ℕ → Option Criterion
criterion_of_letter b =
    cond (b == 80) (Some Price) (cond (b == 82) (Some Rarity) (cond (b == 67) (Some Class)
    (cond (b == 83) (Some Size) None)))

-- the criterion that a field of one letter says
abbrev pub criterion_of : List ℕ → Option Criterion
criterion_of [] = None
criterion_of (b ∷ []) = criterion_of_letter b
criterion_of (b ∷ (d ∷ bs)) = None

-- r is the criterion that the letter says, or that it says none
abbrev pub Letters : ℕ → Result Criterion UnknownLetter → Type 0
Letters b r = r ≡ ok_or (criterion_of_letter b) (record {})

abbrev pub criterion_field : List ℕ → Result Criterion PageFault
criterion_field bs = ok_or (criterion_of bs) (page_fault 1 3 OrderField)

abbrev pub order_number : ℕ → ℕ → ℕ → List ℕ → Result ℕ PageFault
order_number low high field bs = ok_or (number_in low high bs) (page_fault 1 field OrderField)

abbrev pub order_fields : List ℕ → List ℕ → List ℕ → List ℕ → Result Order PageFault
order_fields y g l k =
    then (order_number 0 10 1 y) (λ year.
    then (order_number 0 200 2 g) (λ growth.
    then (criterion_field l) (λ criterion.
    then (order_number 1 64 4 k) (λ sets.
    Ok (record { terms = record { year = year; growth = growth }; criterion = criterion; sets = sets })))))

-- the order of a line by its fields
abbrev pub order_line : List (List ℕ) → Result Order PageFault
order_line [] = Err (page_fault 1 0 NoOrder)
order_line (y ∷ []) = Err (page_fault 1 0 NoOrder)
order_line (y ∷ (g ∷ [])) = Err (page_fault 1 0 NoOrder)
order_line (y ∷ (g ∷ (l ∷ []))) = Err (page_fault 1 0 NoOrder)
order_line (y ∷ (g ∷ (l ∷ (k ∷ [])))) = order_fields y g l k
order_line (y ∷ (g ∷ (l ∷ (k ∷ (x ∷ xs))))) = Err (page_fault 1 0 NoOrder)

abbrev pub order_of : List ℕ → Result Order PageFault
order_of bs = cond (line_within 32 bs) (order_line (fields_of bs)) (Err (page_fault 1 0 NoOrder))

-- the order and the rows of the station file, where both are read
abbrev pub task_read : List ℕ → Result (Order × List Row) PageFault
task_read bs = then (order_of bs) (λ order. then (up (read_file (after 10 bs))) (λ rows. Ok (order, rows)))

-- what is answered then, and what the tree holds
abbrev pub order_told : Result (Order × List Row) PageFault → Result Order PageFault
order_told (Ok task) = Ok task.0
order_told (Err f) = Err f

abbrev pub rows_told : Result (Order × List Row) PageFault → List Row → List Row
rows_told (Ok task) old = task.1
rows_told (Err f) old = old
