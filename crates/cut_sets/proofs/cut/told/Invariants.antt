use Rattle.std.proofs.Common.{◌≡◌, ℕ, Bool}
use Rattle.tree.specs.Holding.{told}
use Rattle.cut_sets.proofs.cut.told.Given as goal

abbrev pub invariant-loop-i : goal.invariant-loop-i
invariant-loop-i g l =
    goal.F-IsAlwaysCallable g l.test
    × ((f : ℕ → ℕ → Bool) → ((i below : ℕ) (r : Bool) → goal.F-post g l.test i below r → r ≡ f i below) → l.set ≡ told f l.i)
