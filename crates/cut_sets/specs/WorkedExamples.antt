-- Small trees with equal parts, worked out by hand under the price ranking in year 0. A set is written as a word whose
-- lowest bit is line 0: 0b011 has lines 0 and 1.
use Rattle.std.specs.Prelude.{◌≡◌, ℕ, suc, ◌+◌, true, List, [], ◌∷◌}
use Rattle.tree.specs.Names.{name_of}
use Rattle.tree.specs.Rules.{keeps_rules}
use Rattle.tree.specs.declared.line.Line.{Line}
use Rattle.tree.specs.declared.line.Line.TheVariants as line
use Rattle.tree.specs.declared.line.Row.{Row}
use Rattle.ranking.specs.Charges.{charge}
use Rattle.ranking.specs.Models.{price}
use Rattle.cut_sets.specs.WaitingRule.{Search, search_of, loaded, Step, Steps, Blocked}

-- what comes of a tree
pub data Outcome : Type 0 where
  -- these sets, and then nothing waits
  lists : List ℕ → Outcome
  first_step_made : Outcome
  blocked_at_once : Outcome

pub record Worked : Type 0 where
  pub lines : List Line
  pub slots : ℕ
  pub outcome : Outcome

-- the lines from line i on, named A, B, C and so on
abbrev pub lettered : ℕ → List Line → List Row
lettered i [] = []
lettered i (l ∷ ls) = record { line = l; name = name_of ((65 + i) ∷ []) } ∷ lettered (suc i) ls

abbrev pub Comes : List Row → ℕ → Outcome → Type 0
Comes rows slots (lists sets) = Steps price (charge 0 0) rows slots (loaded rows) (search_of [] sets)
Comes rows slots first_step_made = (e : Search) × Step price (charge 0 0) rows slots (loaded rows) e
Comes rows slots blocked_at_once = Blocked price (charge 0 0) rows slots (loaded rows)

-- the tree keeps the rules, and the outcome is the one worked out
abbrev pub ComesOut : Worked → Type 0
ComesOut w = (keeps_rules (lettered 0 w.lines) ≡ true) × Comes (lettered 0 w.lines) w.slots w.outcome

abbrev pub part : Line
part = line.Part (record { rarity = 2000; class = 3; discount = 0; price = 100 })

-- at least `need` of the children
abbrev pub vote : ℕ → ℕ → Line
vote need children = line.Gate (record { children = children; need = need })

abbrev pub twelve : List Line → List Line
twelve ls =
    part ∷ part ∷ part ∷ part ∷ part ∷ part ∷ part ∷ part ∷ part ∷ part ∷ part ∷ part ∷ ls

abbrev pub worked : List Worked
worked =
    -- the top always holds: the empty set
    record { lines = vote 0 0b0 ∷ []; slots = 512; outcome = lists (0b0 ∷ []) }
    -- the top never holds
    ∷ record { lines = vote 1 0b0 ∷ []; slots = 512; outcome = lists [] }
    -- two of three parts
    ∷ record { lines = part ∷ part ∷ part ∷ vote 2 0b111 ∷ []; slots = 512; outcome = lists (0b011 ∷ 0b101 ∷ 0b110 ∷ []) }
    -- part 0, or parts 0 and 1 together
    ∷ record { lines = part ∷ part ∷ vote 2 0b011 ∷ vote 1 0b101 ∷ []; slots = 512; outcome = lists (0b001 ∷ []) }
    -- six of twelve parts: 924 ways enter
    ∷ record { lines = twelve (vote 6 0b111111111111 ∷ []); slots = 924; outcome = first_step_made }
    ∷ record { lines = twelve (vote 6 0b111111111111 ∷ []); slots = 923; outcome = blocked_at_once }
    -- the lines that a lantern of one tier with two lamps has, with other names
    ∷ record { lines = part ∷ part ∷ vote 1 0b011 ∷ vote 1 0b100 ∷ []; slots = 512; outcome = lists (0b001 ∷ 0b010 ∷ []) }
    ∷ []
