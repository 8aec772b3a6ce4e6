-- What is said of all that a list holds.
use Rattle.std.specs.Prelude.{◌≡◌, ℕ, ◌+◌, ◌⊎◌, List, [], ◌∷◌}

abbrev pub In : {E : Type 0} → E → List E → Type 0
In x [] = ⊥
In x (y ∷ ys) = (x ≡ y) ⊎ In x ys

-- P of each of the list
abbrev pub Each : {E : Type 0} → (E → Type 0) → List E → Type 0
Each P [] = Unit {0}
Each P (y ∷ ys) = P y × Each P ys

-- each stands in the relation R to all that come after it
abbrev pub Rising : {E : Type 0} → (E → E → Type 0) → List E → Type 0
Rising R [] = Unit {0}
Rising R (x ∷ xs) = Each (R x) xs × Rising R xs

-- the sum of what f counts for each of the list; by such sums lists are compared that hold the same items in another order
abbrev pub total : {E : Type 0} → (E → ℕ) → List E → ℕ
total f [] = 0
total f (x ∷ xs) = f x + total f xs
