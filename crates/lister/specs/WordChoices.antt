-- The choices of lines of a word, which has none from the 64th on.
use Rattle.std.specs.Prelude.{ℕ, List}
use Rattle.choices.specs.Counts.{choices}

-- the sets of exactly q lines of s
unfoldable pub choices_in : ℕ → ℕ → List ℕ
choices_in s q = choices s 64 q
