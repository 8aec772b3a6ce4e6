-- What comes next in a search: one more set, nothing more, or a step that is not made for want of slots; and when which.
use Rattle.std.specs.Prelude.{◌≡◌, ℕ, true, ◌⊎◌, ◌↔◌, List, [], ◌∷◌, ◌++◌, length}
use Rattle.tree.specs.declared.line.Part.{Part}
use Rattle.tree.specs.declared.line.Row.{Row}
use Rattle.ranking.specs.Models.{Model}
use Rattle.ranking.specs.SetOrder.{set_at_most}
use Rattle.cut_sets.specs.WaitingRule.{Search, loaded, Step, Steps, Blocked}
use Rattle.cut_sets.specs.Laws.{Remains, SomeRemains, Always}

module _ {W : Type 0} (m : Model W) (charge_of : Part → ℕ) (rows : List Row) (slots : ℕ) where
  -- steps lead from d, with no set given on the way, to a step that gives s and leaves f
  abbrev pub Gives : Search → ℕ → Search → Type 0
  Gives d s f =
      (e : Search) × Steps m charge_of rows slots d e × (e.given ≡ d.given) × Step m charge_of rows slots e f × (f.given ≡ d.given ++ (s ∷ []))

  -- steps lead from d, with no set given on the way, to e where nothing waits
  abbrev pub Empties : Search → Search → Type 0
  Empties d e = Steps m charge_of rows slots d e × (e.given ≡ d.given) × (e.waiting ≡ [])

  -- steps lead from d, with no set given on the way, to e from which the step is not made
  abbrev pub Blocks : Search → Search → Type 0
  Blocks d e = Steps m charge_of rows slots d e × (e.given ≡ d.given) × Blocked m charge_of rows slots e

  -- from the loaded search, after k sets a step is not made before the next is given
  abbrev pub RunOut : ℕ → Type 0
  RunOut k = (e : Search) × Steps m charge_of rows slots (loaded rows) e × (length e.given ≡ k) × Blocked m charge_of rows slots e

  -- what comes next from d: one more set, an empty search, or a step that is not made, and only one of these
  pub record ComesNext (d : Search) : Type 0 where
    pub one_of : ((e : Search) × Empties d e) ⊎ (((e : Search) × Blocks d e) ⊎ ((s : ℕ) × (f : Search) × Gives d s f))
    pub gives : ((s : ℕ) × (f : Search) × Gives d s f) ↔ (SomeRemains rows d × (RunOut (length d.given) → ⊥))
    pub empties : ((e : Search) × Empties d e) ↔ ((SomeRemains rows d → ⊥) × (RunOut (length d.given) → ⊥))
    pub blocks : ((e : Search) × Blocks d e) ↔ RunOut (length d.given)
    -- the set that is given remained, and is the first that did
    pub first_left : (s : ℕ) (f : Search) → Gives d s f
        → Remains rows d s × ((u : ℕ) → Remains rows d u → set_at_most m charge_of rows s u ≡ true)
    -- there is one answer, and one state after it
    pub one_set : (s u : ℕ) (f g : Search) → Gives d s f → Gives d u g → (s ≡ u) × (f ≡ g)
    pub one_empty : (e f : Search) → Empties d e → Empties d f → e ≡ f
    pub one_block : (e f : Search) → Blocks d e → Blocks d f → e ≡ f

-- for every charge of parts and every number of slots, at each state that steps reach from the loaded search
abbrev pub AlwaysComesNext : {W : Type 0} → Model W → List Row → Type 0
AlwaysComesNext m rows = Always m rows (λ charge_of slots d. ComesNext m charge_of rows slots d)
