-- The texts that the program writes: the line of a refused page, and the charge sheet.
use Rattle.std.specs.Prelude.{ℕ, List, [], ◌∷◌, ◌++◌, Some, None, Ok, Err, codes, decimal, sum_by, Option, Result}
use Rattle.std.specs.Option.{ok_or}
use Rattle.std.specs.List.{flat_map}
use Rattle.tree.specs.Names.{spelled}
use Rattle.tree.specs.declared.line.Line.{Line}
use Rattle.tree.specs.declared.line.Line.TheVariants as a_line
use Rattle.tree.specs.declared.line.Name.{Name}
use Rattle.tree.specs.declared.line.Row.{Row}
use Rattle.tabbed_text.specs.Fields.{tabbed}
use Rattle.tabbed_text.specs.Questions.{then}
use Rattle.tabbed_text.specs.Whole.{room_for, with_text}
use Rattle.ranking.specs.Charges.{charge}
use Rattle.page.specs.Faults.{number_of, layer_of, page_fault}
use Rattle.page.specs.Orders.{task_read}
use Rattle.page.specs.declared.faults.PageCause.TheVariants.{NoRoom}
use Rattle.page.specs.declared.faults.PageFault.{PageFault}
use Rattle.page.specs.declared.sheet.Charged.{Charged}

-- fields with tabs between them, and byte 10
abbrev pub line_of : List (List ℕ) → List ℕ
line_of fs = tabbed fs ++ (10 ∷ [])

-- `refused`, number, layer, line and field
abbrev pub refused_line : PageFault → List ℕ
refused_line f =
    line_of (codes "refused" ∷ (decimal (number_of f.layer) ∷ ((layer_of f.layer ∷ []) ∷ (decimal f.line ∷ (decimal f.field ∷ [])))))

-- a part's name and its charge; a gate is not charged
abbrev pub charged : ℕ → ℕ → Line → Name → Option Charged
charged year growth (a_line.Part p) n = Some (record { name = n; cents = charge year growth p })
charged year growth (a_line.Gate g) n = None

abbrev pub charged_row : ℕ → ℕ → Row → Option Charged
charged_row year growth r = charged year growth r.line r.name

abbrev pub charged_at : ℕ → ℕ → Option Row → Option Charged
charged_at year growth None = None
charged_at year growth (Some r) = charged_row year growth r

abbrev pub charge_line : Charged → List ℕ
charge_line c = line_of (spelled c.name ∷ (decimal c.cents ∷ []))

abbrev pub text_of : Option Charged → List ℕ
text_of None = []
text_of (Some c) = charge_line c

abbrev pub cost_of : Option Charged → ℕ
cost_of None = 0
cost_of (Some c) = c.cents

abbrev pub row_text : ℕ → ℕ → Row → List ℕ
row_text year growth r = text_of (charged_row year growth r)

abbrev pub total_cost : ℕ → ℕ → List Row → ℕ
total_cost year growth rows = sum_by (λ r. cost_of (charged_row year growth r)) rows

abbrev pub total_line : ℕ → List ℕ
total_line n = line_of (codes "total" ∷ (decimal n ∷ []))

-- a line for each part, and the total
abbrev pub sheet : ℕ → ℕ → List Row → List ℕ
sheet year growth rows =
    flat_map (row_text year growth) rows ++ total_line (total_cost year growth rows)

-- the sheet that an input asks for
abbrev pub sheet_of : List ℕ → Result (List ℕ) PageFault
sheet_of bs = then (task_read bs) (λ task. Ok (sheet task.0.terms.year task.0.terms.growth task.1))

-- what is answered where a text is to be written, and what the page bytes then hold
unfoldable pub answered : Result (List ℕ) PageFault → List ℕ → Result ℕ PageFault
answered (Ok text) out = ok_or (room_for text out) (page_fault 0 0 NoRoom)
answered (Err f) out = Err f

unfoldable pub left_in : Result (List ℕ) PageFault → List ℕ → List ℕ
left_in (Ok text) out = with_text text out
left_in (Err f) out = out
