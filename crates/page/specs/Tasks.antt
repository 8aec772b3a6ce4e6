-- What an input looks like from the side of one who writes it: a line with the order, and then a station file.
use Rattle.std.specs.Prelude.{◌≡◌, ℕ, ◌≤◌, true, List, [], ◌∷◌, ◌++◌, length, Ok, Err, decimal, Result}
use Rattle.tree.specs.Rules.{keeps_rules}
use Rattle.tree.specs.declared.line.Row.{Row}
use Rattle.tabbed_text.specs.Fields.{tabbed, after}
use Rattle.station_file.specs.Descriptions.{Describes, ReadsExactly}
use Rattle.station_file.specs.declared.faults.StationFault.{StationFault}
use Rattle.page.specs.Faults.{raised}
use Rattle.page.specs.declared.faults.PageFault.{PageFault}
use Rattle.page.specs.declared.order.Criterion.{Criterion}
use Rattle.page.specs.declared.order.Criterion.TheVariants.{Price, Rarity, Class, Size}
use Rattle.page.specs.declared.order.Order.{Order}

-- P, R, C and S
abbrev pub letter : Criterion → ℕ
letter Price = 80
letter Rarity = 82
letter Class = 67
letter Size = 83

-- year, growth, letter and number of sets
abbrev pub order_words : Order → List (List ℕ)
order_words o =
    decimal o.terms.year ∷ (decimal o.terms.growth ∷ ((letter o.criterion ∷ []) ∷ (decimal o.sets ∷ [])))

-- the four fields with single tabs between them, and byte 10
abbrev pub order_text : Order → List ℕ
order_text o = tabbed (order_words o) ++ (10 ∷ [])

-- an order within the limits
pub record OrderOk (o : Order) : Type 0 where
  pub low_year : o.terms.year ≤ 10
  pub low_growth : o.terms.growth ≤ 200
  pub some_sets : 1 ≤ o.sets
  pub few_sets : o.sets ≤ 64

-- the input is the order's line and a station file, within the size limit, of a tree that keeps the rules
pub record DescribesTask (bs : List ℕ) (o : Order) (rows : List Row) : Type 0 where
  pub file : List ℕ
  pub whole : bs ≡ order_text o ++ file
  pub limits : OrderOk o
  pub describes : Describes file rows
  pub ruled : keeps_rules rows ≡ true
  pub small : length file ≤ 16384

-- an input is accepted exactly when it describes an order and a tree, and these are what is read from it
pub record ReadsTaskExactly (bs : List ℕ) (answer : Result Order PageFault) (old new : List Row) : Type 0 where
  pub accepts : (o : Order) (rows : List Row) → DescribesTask bs o rows → (answer ≡ Ok o) × (new ≡ rows)
  pub described : (o : Order) → answer ≡ Ok o → DescribesTask bs o new
  pub unchanged : (f : PageFault) → answer ≡ Err f → new ≡ old

-- an order that is read: the station file after its line decides
pub record LeadsOn (bs : List ℕ) (o : Order) : Type 0 where
  pub takes : (old new : List Row) → ReadsExactly (after 10 bs) (Ok tt) old new → ReadsTaskExactly bs (Ok o) old new
  pub refuses : (f : StationFault) (old new : List Row) → ReadsExactly (after 10 bs) (Err f) old new → ReadsTaskExactly bs (Err (raised f)) old new

-- what the answer of the order line says of the whole input
abbrev pub DecidesTask : List ℕ → Result Order PageFault → Type 0
DecidesTask bs (Ok o) = LeadsOn bs o
DecidesTask bs (Err f) = (old : List Row) → ReadsTaskExactly bs (Err f) old old
