-- The questions that terms are asked, and the number of each refusal.
use Rattle.std.specs.Prelude.{ℕ, cond, Ok, Err, Result, nat_le}
use Rattle.ranking.specs.declared.terms.TermsCause.{TermsCause}
use Rattle.ranking.specs.declared.terms.TermsCause.TheVariants.{Year, Growth}

-- what terms say
pub record Said : Type 0 where
  pub year : ℕ
  pub growth : ℕ

-- the number of each refusal
abbrev pub terms_number : TermsCause → ℕ
terms_number Year = 11
terms_number Growth = 12

-- the year and the growth, where both may be, or the number of the refusal
abbrev pub asked : ℕ → ℕ → Result (ℕ × ℕ) ℕ
asked year growth = cond (nat_le year 10) (cond (nat_le growth 200) (Ok (year, growth)) (Err 12)) (Err 11)
