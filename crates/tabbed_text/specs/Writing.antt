-- Bytes are written into a list from a place on; what lies past the end of the list is counted, not written.
use Rattle.std.specs.Prelude.{◌≡◌, ℕ, suc, ◌+◌, ◌-◌, ◌^◌, min, max, List, [], ◌∷◌, length, slice_set}
use Rattle.tabbed_text.specs.declared.writer.Writer.{Writer}

abbrev pub placed : List ℕ → ℕ → List ℕ → List ℕ
placed xs at [] = xs
placed xs at (y ∷ ys) = placed (slice_set xs at y) (suc at) ys

-- a place moves on by n, and stops at the highest number of 64 bits
abbrev pub moved : ℕ → ℕ → ℕ
moved at n = max at (min (at + n) (2 ^ 64 - 1))

-- the bytes were written into xs from the place `at` on, which left ys and the place `next`
pub record Put (bytes xs : List ℕ) (at : ℕ) (ys : List ℕ) (next : ℕ) : Type 0 where
  pub placed_from_place : ys ≡ placed xs at bytes
  pub place_moves_on : next ≡ moved at (length bytes)

-- a writer wrote the bytes, and writes into the same slice as before
pub record Writes (bytes : List ℕ) (before after : Writer) : Type 0 where
  pub put : Put bytes before.out.now before.at after.out.now after.at
  pub same_slice : after.out.ghost_name ≡ before.out.ghost_name
