-- The six letters of a record.
use Rattle.std.specs.Prelude.{◌≡◌, ℕ, Bool, cond, ◌&&◌, List, [], ◌∷◌, Some, None, Option, Result, ◌==◌, nat_le}
use Rattle.std.specs.Option.{ok_or}
use Rattle.tabbed_text.specs.declared.letters.UnknownLetter.{UnknownLetter}
use Rattle.station_file.specs.declared.letters.Kind.{Kind}
use Rattle.station_file.specs.declared.letters.Kind.TheVariants.{Part, And, Or, AtLeast, Always, Never}

-- E, A, O, V, T and F
abbrev pub kind_of_letter : ℕ → Option Kind
kind_of_letter b =
    cond (b == 69) (Some Part) (cond (b == 65) (Some And) (cond (b == 79) (Some Or)
    (cond (b == 86) (Some AtLeast) (cond (b == 84) (Some Always) (cond (b == 70) (Some Never) None)))))

-- the kind that a field of one letter says
abbrev pub kind_of : List ℕ → Option Kind
kind_of [] = None
kind_of (b ∷ []) = kind_of_letter b
kind_of (b ∷ (d ∷ bs)) = None

-- r is the kind that the letter says, or that it says none
abbrev pub Letters : ℕ → Result Kind UnknownLetter → Type 0
Letters b r = r ≡ ok_or (kind_of_letter b) (record {})

-- whether a record of that kind has so many fields after its letter
abbrev pub has_count : Kind → ℕ → Bool
has_count Part n = n == 4
has_count And n = nat_le 1 n && nat_le n 12
has_count Or n = nat_le 1 n && nat_le n 12
has_count AtLeast n = nat_le 2 n && nat_le n 13
has_count Always n = n == 0
has_count Never n = n == 0

-- the most fields that such a record has after its letter
abbrev pub most_fields : Kind → ℕ
most_fields Part = 4
most_fields And = 12
most_fields Or = 12
most_fields AtLeast = 13
most_fields Always = 0
most_fields Never = 0
