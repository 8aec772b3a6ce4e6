-- The waiting rule, as one works it by hand: which ways wait, which sets have been given, and what a step makes of them.
use Rattle.std.specs.Prelude.{◌≡◌, ℕ, ◌+◌, ◌^◌, ◌<◌, ◌≤◌, Bool, true, false, List, [], ◌∷◌, ◌++◌, map, length, bit_and, bit_or, bit_xor}
use Rattle.std.specs.List.{list_any}
use Rattle.orders.specs.Sorted.{insert_all}
use Rattle.tree.specs.Holding.{the_line, top}
use Rattle.tree.specs.Sets.{alone, within, Highest}
use Rattle.tree.specs.declared.line.Part.{Part}
use Rattle.tree.specs.declared.line.Line.{Line}
use Rattle.tree.specs.declared.line.Line.TheVariants as line
use Rattle.tree.specs.declared.line.Row.{Row}
use Rattle.choices.specs.Counts.{choices}
use Rattle.ranking.specs.Models.{Model}
use Rattle.cut_sets.specs.Cuts.{parts, gates_of}
use Rattle.cut_sets.specs.Ways.{way_le}
use Rattle.cut_sets.specs.declared.way.Way.{Way}

-- the ways that wait, in their order, equal ones side by side; and the sets given, in the order in which they came
pub record Search : Type 0 where
  pub waiting : List Way
  pub given : List ℕ

abbrev pub search_of : List Way → List ℕ → Search
search_of ws sets = record { waiting = ws; given = sets }

-- whether a whole set of the list is within s
abbrev pub some_within : List ℕ → ℕ → Bool
some_within sets s = list_any (λ g. within g s) sets

-- the lines of c added to a way, the parts as chosen and the gates as open
abbrev pub adding : List Row → Way → ℕ → Way
adding rows w c = record { chosen = bit_or w.chosen (bit_and c (parts rows)); gates = bit_or w.gates (bit_and c (gates_of rows)) }

-- a way without its open gate g
abbrev pub closing : Way → ℕ → Way
closing w g = record { chosen = w.chosen; gates = bit_xor w.gates (2 ^ g) }

-- the choices of exactly `need` children of line i as a gate
abbrev pub choices_of : Line → ℕ → List ℕ
choices_of (line.Part p) i = []
choices_of (line.Gate g) i = choices g.children i g.need

abbrev pub choices_at : List Row → ℕ → List ℕ
choices_at rows i = choices_of (the_line rows i) i

-- the ways that enter when gate g of a way is closed: one for each choice
abbrev pub entering : List Row → Way → ℕ → List Way
entering rows w g = map (adding rows (closing w g)) (choices_at rows g)

-- line i alone, as chosen part or as open gate
unfoldable pub way_of : Line → ℕ → Way
way_of (line.Part p) i = record { chosen = alone i; gates = 0 }
way_of (line.Gate g) i = record { chosen = 0; gates = alone i }

-- the top, as chosen part or as open gate
abbrev pub top_way : List Row → Way
top_way rows = adding rows (record { chosen = 0; gates = 0 }) (2 ^ top rows)

-- one way waits, and no set is given
abbrev pub loaded : List Row → Search
loaded rows = search_of (top_way rows ∷ []) []

module _ {W : Type 0} (m : Model W) (charge_of : Part → ℕ) (rows : List Row) (slots : ℕ) where
  -- a step takes the first way: the head of the list, which is in order at each state that steps reach (Laws)
  pub data Step : Search → Search → Type 0 where
    -- its chosen parts contain a whole set already given: it is struck
    struck : {w : Way} {ws : List Way} {sets : List ℕ}
        → some_within sets w.chosen ≡ true
        → Step (search_of (w ∷ ws) sets) (search_of ws sets)
    -- otherwise, if a gate is open: the highest is closed, and one way enters for each choice, if all fit the slots
    closed : {w : Way} {ws : List Way} {sets : List ℕ} (g : ℕ)
        → some_within sets w.chosen ≡ false → Highest w.gates g
        → length ws + length (entering rows w g) ≤ slots
        → Step (search_of (w ∷ ws) sets) (search_of (insert_all (way_le m charge_of rows) (entering rows w g) ws) sets)
    -- otherwise its chosen parts are the next set
    gave : {w : Way} {ws : List Way} {sets : List ℕ}
        → some_within sets w.chosen ≡ false → w.gates ≡ 0
        → Step (search_of (w ∷ ws) sets) (search_of ws (sets ++ (w.chosen ∷ [])))

  -- step after step
  pub data Steps : Search → Search → Type 0 where
    none : {d : Search} → Steps d d
    then : {d e f : Search} → Step d e → Steps e f → Steps d f

  -- the first way is not struck, and of the ways left and those entering there are more than slots: the step is not made
  pub record Blocked (d : Search) : Type 0 where
    pub way : Way
    pub others : List Way
    pub gate : ℕ
    pub taken : d.waiting ≡ way ∷ others
    pub not_struck : some_within d.given way.chosen ≡ false
    pub highest : Highest way.gates gate
    pub too_many : slots < length others + length (entering rows way gate)
