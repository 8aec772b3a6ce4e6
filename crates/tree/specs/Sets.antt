-- A set of lines is a number: its bit i stands for line i. No definition here fixes how many bits a set has,
-- but for `alone` and `lines_of`, which say which lines a word of the machine can have.
use Rattle.std.specs.Prelude.{◌≡◌, ℕ, zero, suc, ◌/◌, ◌%◌, ◌^◌, ◌<◌, Bool, true, false, cond, ◌||◌, ◌≢◌, ◌↔◌, List, [], ◌∷◌, ◌++◌, ◌==◌, bit_and, bit_or, bit_xor, nat_lt}
use Rattle.std.specs.Int.Count.{count_trailing_zeros}
use Rattle.orders.specs.Lists.{In, Rising}

unfoldable pub has : ℕ → ℕ → Bool
has s i = s / 2 ^ i % 2 == 1

-- line i alone
abbrev pub alone : ℕ → ℕ
alone i = cond (nat_lt i 64) (2 ^ i) 0

infix 20 ◌⊆◌
-- every line of s is in t
abbrev pub ◌⊆◌ : ℕ → ℕ → Type 0
s ⊆ t = (i : ℕ) → has s i ≡ true → has t i ≡ true

-- the test of it
unfoldable pub within : ℕ → ℕ → Bool
within s t = bit_and s t == s

-- every line of s is below line n
abbrev pub Below : ℕ → ℕ → Type 0
Below n s = (i : ℕ) → has s i ≡ true → i < n

-- the lines of s below line n, from the lowest on
unfoldable pub lines_below : ℕ → ℕ → List ℕ
lines_below s zero = []
lines_below s (suc n) = lines_below s n ++ cond (has s n) (n ∷ []) []

-- the lines of a word of the machine
unfoldable pub lines_of : ℕ → List ℕ
lines_of s = lines_below s 64

-- the list has each line of s, and each once: they ascend
pub record ListsLines (s : ℕ) (is : List ℕ) : Type 0 where
  pub members : (i : ℕ) → In i is ↔ (has s i ≡ true)
  pub ascending : Rising (λ i j. i < j) is

-- a count of lines: none of the empty set, and one more for each line that a set does not have yet
pub record Counts (count : ℕ → ℕ) : Type 0 where
  pub none : count 0 ≡ 0
  pub one_more : (s i : ℕ) → has s i ≡ false → count (bit_or s (2 ^ i)) ≡ suc (count s)

-- the test b says whether P
pub record Tells (b : Bool) (P : Type 0) : Type 0 where
  pub only : b ≡ true → P
  pub when : P → b ≡ true

-- g is the highest line of s
pub record Highest (s g : ℕ) : Type 0 where
  pub there : has s g ≡ true
  pub none_above : (i : ℕ) → g < i → has s i ≡ false

-- the lowest line of a set that has one: a set x has its lowest line below line x
unfoldable pub lowest : ℕ → ℕ
lowest x = count_trailing_zeros x x

-- s is t, or has the lowest line in which the two differ
unfoldable pub set_le : ℕ → ℕ → Bool
set_le s t = s == t || has s (lowest (bit_xor s t))

-- i is the lowest line in which s and t differ
pub record LowestApart (s t i : ℕ) : Type 0 where
  pub apart : has s i ≢ has t i
  pub same_below : (j : ℕ) → j < i → has s j ≡ has t j

-- b says that s comes first: it is t, or has the lowest line in which the two differ
pub record ComesFirst (s t : ℕ) (b : Bool) : Type 0 where
  pub same : s ≡ t → b ≡ true
  pub apart : s ≢ t → (i : ℕ) × LowestApart s t i × (b ≡ has s i)
