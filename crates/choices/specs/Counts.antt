-- How many sets of exactly q of m lines there are: by Pascal's rule, by the table of the rule, and by listing the sets.
use Rattle.std.specs.Prelude.{◌≡◌, ℕ, zero, suc, ◌+◌, ◌^◌, ◌<◌, ◌≤◌, Bool, true, cond, ◌&&◌, ◌↔◌, List, [], ◌∷◌, ◌++◌, map, length, bit_or, count_ones, nat_eq, slice_index, slice_index_or}
use Rattle.tree.specs.Sets.{has, ◌⊆◌, Below}
use Rattle.orders.specs.Lists.{In, Rising}

-- by Pascal's rule
unfoldable pub binom : ℕ → ℕ → ℕ
binom m zero = 1
binom zero (suc q) = 0
binom (suc m) (suc q) = binom m q + binom m (suc q)

-- ---- the table

-- row m, column q of a table
abbrev pub entry : List (List ℕ) → ℕ → ℕ → ℕ
entry t m q = slice_index (slice_index_or t m []) q

-- Pascal's rule at all of the 13 rows of a table
pub record Pascal (t : List (List ℕ)) : Type 0 where
  pub first_column : (m : ℕ) → m ≤ 12 → entry t m 0 ≡ 1
  pub first_row : (q : ℕ) → q < 12 → entry t 0 (q + 1) ≡ 0
  pub sums : (m q : ℕ) → m < 12 → q < 12 → entry t (m + 1) (q + 1) ≡ entry t m q + entry t m (q + 1)

-- a test at every number below n
abbrev pub every : ℕ → (ℕ → Bool) → Bool
every zero p = true
every (suc n) p = p n && every n p

-- the test of Pascal's rule
abbrev pub keeps_pascal : List (List ℕ) → Bool
keeps_pascal t =
    every 13 (λ m. nat_eq (entry t m 0) 1) && every 12 (λ q. nat_eq (entry t 0 (q + 1)) 0)
    && every 12 (λ m. every 12 (λ q. nat_eq (entry t (m + 1) (q + 1)) (entry t m q + entry t m (q + 1))))

-- ---- the sets

-- the sets of exactly q of the lines below n that s has
abbrev pub choices : ℕ → ℕ → ℕ → List ℕ
choices s zero zero = 0 ∷ []
choices s zero (suc q) = []
choices s (suc n) zero = choices s n zero
choices s (suc n) (suc q) = choices s n (suc q) ++ cond (has s n) (map (λ c. bit_or c (2 ^ n)) (choices s n q)) []

-- those are listed, and each once: as numbers they ascend
pub record Choosing (s n q : ℕ) : Type 0 where
  pub members : (c : ℕ) → In c (choices s n q) ↔ (c ⊆ s × Below n c × (count_ones c ≡ q))
  pub ascending : Rising (λ c d. c < d) (choices s n q)

abbrev pub ChoicesLaw : Type 0
ChoicesLaw = (s n q : ℕ) → Choosing s n q

-- of each set of m lines there are k choices of exactly q
abbrev pub NumberOfChoices : ℕ → ℕ → ℕ → Type 0
NumberOfChoices m q k = (s n : ℕ) → Below n s → count_ones s ≡ m → length (choices s n q) ≡ k
