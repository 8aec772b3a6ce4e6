-- What is written for an input: its text where there is one and it has room, else the line of the refusal, and nothing
-- where that has no room either.
use Rattle.std.specs.Prelude.{ℕ, cond, List, length, Ok, Err, Result, nat_le}
use Rattle.tabbed_text.specs.Whole.{with_text}
use Rattle.page.specs.Faults.{page_fault}
use Rattle.page.specs.Pages.{refused_line}
use Rattle.page.specs.declared.answer.Written.{Written}
use Rattle.page.specs.declared.answer.Written.TheVariants.{Sheet, Refusal}
use Rattle.page.specs.declared.faults.PageCause.TheVariants.{NoRoom}
use Rattle.page.specs.declared.faults.PageFault.{PageFault}

-- the text, or the refusal where there is none or it has no room
unfoldable pub reply : Result (List ℕ) PageFault → List ℕ → Result (List ℕ) PageFault
reply (Ok text) out = cond (nat_le (length text) (length out)) (Ok text) (Err (page_fault 0 0 NoRoom))
reply (Err f) out = Err f

-- the page bytes after it
unfoldable pub replied : Result (List ℕ) PageFault → List ℕ → List ℕ
replied (Ok text) out = with_text text out
replied (Err f) out = with_text (refused_line f) out

-- the length of what has room
abbrev pub fitted : List ℕ → List ℕ → ℕ
fitted text out = cond (nat_le (length text) (length out)) (length text) 0

unfoldable pub written_for : Result (List ℕ) PageFault → List ℕ → Written
written_for (Ok text) out = Sheet (fitted text out)
written_for (Err f) out = Refusal (fitted (refused_line f) out)

abbrev pub length_of : Written → ℕ
length_of (Sheet n) = n
length_of (Refusal n) = n
