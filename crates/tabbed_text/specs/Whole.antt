-- A text is written at the start of lent bytes, and those beyond it stay; where it has no room, all stay.
use Rattle.std.specs.Prelude.{ℕ, cond, List, ◌++◌, length, drop, Some, None, Option, nat_le}

-- the length of the text, where it has room
abbrev pub room_for : List ℕ → List ℕ → Option ℕ
room_for text out = cond (nat_le (length text) (length out)) (Some (length text)) None

abbrev pub with_text : List ℕ → List ℕ → List ℕ
with_text text out = cond (nat_le (length text) (length out)) (text ++ drop (length text) out) out
