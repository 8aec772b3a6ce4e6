-- What the waiting rule does, for a tree, a ranking and what each part is charged: it lists the minimal cut sets in their
-- order, each state of the search has at most one next, and with enough slots the list is whole.
use Rattle.std.specs.Prelude.{◌≡◌, ℕ, ◌^◌, ◌<◌, ◌≤◌, true, ◌≢◌, ◌⊎◌, ◌↔◌, List, [], ◌∷◌, length, count_ones}
use Rattle.orders.specs.Lists.{In, Rising}
use Rattle.orders.specs.Orders.{Total}
use Rattle.orders.specs.Sorted.{Ascending}
use Rattle.tree.specs.Holding.{the_line}
use Rattle.tree.specs.Sets.{◌⊆◌}
use Rattle.tree.specs.declared.line.Part.{Part}
use Rattle.tree.specs.declared.line.Gate.{Gate}
use Rattle.tree.specs.declared.line.Line.TheVariants as line
use Rattle.tree.specs.declared.line.Row.{Row}
use Rattle.choices.specs.Counts.{binom}
use Rattle.ranking.specs.Models.{Model}
use Rattle.ranking.specs.SetOrder.{set_at_most}
use Rattle.ranking.specs.Weights.{weigh}
use Rattle.cut_sets.specs.Cuts.{parts, gates_of, Minimal}
use Rattle.cut_sets.specs.Ways.{way_le, StandsFor}
use Rattle.cut_sets.specs.WaitingRule.{Search, entering, loaded, Step, Steps, Blocked}
use Rattle.cut_sets.specs.declared.way.Way.{Way}

-- with m children and need q, as many ways enter as there are choices of q of m
abbrev pub AsManyEnterAsChoices : List Row → Type 0
AsManyEnterAsChoices rows =
    (w : Way) (i : ℕ) (g : Gate) → the_line rows i ≡ line.Gate g → length (entering rows w i) ≡ binom (count_ones g.children) g.need

-- a minimal cut set remains until it is given
abbrev pub Remains : List Row → Search → ℕ → Type 0
Remains rows d s = Minimal rows s × (In s d.given → ⊥)

abbrev pub SomeRemains : List Row → Search → Type 0
SomeRemains rows d = (s : ℕ) × Remains rows d s

module _ {W : Type 0} (m : Model W) (charge_of : Part → ℕ) (rows : List Row) where
  -- by weight, then fewer parts, then the set that has the lowest line in which the two differ
  abbrev pub ComesBefore : ℕ → ℕ → Type 0
  ComesBefore s u = (set_at_most m charge_of rows s u ≡ true) × (s ≢ u)

  -- the sets given are the first of all minimal cut sets, in their order, and none twice
  pub record ListsMinimalCutSetsInOrder (d : Search) : Type 0 where
    pub minimal : (s : ℕ) → In s d.given → Minimal rows s
    pub ascending : Rising ComesBefore d.given
    pub first : (s u : ℕ) → In s d.given → Remains rows d u → ComesBefore s u
    -- where nothing waits none remains
    pub all_given : d.waiting ≡ [] → SomeRemains rows d → ⊥
    -- some way that waits stands for each that remains
    pub stood_for : (s : ℕ) → Remains rows d s → (w : Way) × In w d.waiting × StandsFor rows w s
    -- the first way weighs no more than any that remains
    pub outlook : (w : Way) (ws : List Way) → d.waiting ≡ w ∷ ws → (s : ℕ) → Remains rows d s
        → m.le (weigh m charge_of rows w.chosen) (weigh m charge_of rows s) ≡ true

  -- the ways wait in their order, and have parts chosen and gates open
  pub record WaysWaitInOrder (d : Search) : Type 0 where
    pub ascending : Ascending (way_le m charge_of rows) d.waiting
    pub chosen : (w : Way) → In w d.waiting → w.chosen ⊆ parts rows
    pub gates : (w : Way) → In w d.waiting → w.gates ⊆ gates_of rows
    -- each as a word with a bit for each line
    pub in_words : (w : Way) → In w d.waiting → (w.chosen < 2 ^ length rows) × (w.gates < 2 ^ length rows)

  -- all minimal cut sets are given, in their order, and nothing waits
  pub record ListsAll (d : Search) : Type 0 where
    pub none_waits : d.waiting ≡ []
    pub whole : (s : ℕ) → Minimal rows s ↔ In s d.given
    pub ascending : Rising ComesBefore d.given

  -- from some number of slots on
  abbrev pub ListsAllWithEnoughSlots : Type 0
  ListsAllWithEnoughSlots =
      (enough : ℕ) × ((slots : ℕ) → enough ≤ slots → (d : Search) × Steps m charge_of rows slots (loaded rows) d × ListsAll d)

  module _ (slots : ℕ) where
    -- each state of a search is empty, blocked, or has exactly one next, and only one of these; and steps end
    pub record StepsOneWay : Type 0 where
      pub goes_on : (d : Search) → (d.waiting ≡ []) ⊎ (Blocked m charge_of rows slots d ⊎ ((e : Search) × Step m charge_of rows slots d e))
      pub one_next : (d e f : Search) → Step m charge_of rows slots d e → Step m charge_of rows slots d f → e ≡ f
      pub blocked_stays : (d e : Search) → Blocked m charge_of rows slots d → Step m charge_of rows slots d e → ⊥
      pub empty_stays : (d e : Search) → d.waiting ≡ [] → Step m charge_of rows slots d e → ⊥
      pub empty_not_blocked : (d : Search) → d.waiting ≡ [] → Blocked m charge_of rows slots d → ⊥
      pub ends : (left : Search → ℕ) × ((d e : Search) → Step m charge_of rows slots d e → left e < left d)

-- ---- for every charge of parts and every number of slots

module _ {W : Type 0} (m : Model W) (rows : List Row) where
  abbrev pub OrdersWays : Type 0
  OrdersWays = (charge_of : Part → ℕ) → Total (way_le m charge_of rows)

  abbrev pub GoesOneWay : Type 0
  GoesOneWay = (charge_of : Part → ℕ) (slots : ℕ) → StepsOneWay m charge_of rows slots

  abbrev pub ListsAllInTheEnd : Type 0
  ListsAllInTheEnd = (charge_of : Part → ℕ) → ListsAllWithEnoughSlots m charge_of rows

  -- at each state that steps reach from the loaded search
  abbrev pub Always : ((Part → ℕ) → ℕ → Search → Type 0) → Type 0
  Always P = (charge_of : Part → ℕ) (slots : ℕ) (d : Search) → Steps m charge_of rows slots (loaded rows) d → P charge_of slots d

  abbrev pub AlwaysListsInOrder : Type 0
  AlwaysListsInOrder = Always (λ charge_of slots d. ListsMinimalCutSetsInOrder m charge_of rows d)

  abbrev pub AlwaysWaitsInOrder : Type 0
  AlwaysWaitsInOrder = Always (λ charge_of slots d. WaysWaitInOrder m charge_of rows d)
