-- A text is cut into lines, each ended by byte 10, and a line into fields, parted by tabs (byte 9). Every tab parts two
-- fields: where tabs meet, and at a line's ends, a field is empty, and an empty line has one field.
use Rattle.std.specs.Prelude.{◌≡◌, ℕ, Bool, true, false, cond, ◌||◌, List, [], ◌∷◌, ◌++◌, map, Some, None, Option, ◌==◌}
use Rattle.std.specs.List.{flat_map, onto_first, slice_split, All}

-- what stands before the first s
abbrev pub up_to : ℕ → List ℕ → List ℕ
up_to s [] = []
up_to s (b ∷ bs) = cond (b == s) [] (b ∷ up_to s bs)

-- what stands after the first s
abbrev pub after : ℕ → List ℕ → List ℕ
after s [] = []
after s (b ∷ bs) = cond (b == s) bs (after s bs)

-- the pieces between the s
abbrev pub pieces : ℕ → List ℕ → List (List ℕ)
pieces s bs = slice_split (λ b. b == s) bs

-- the pieces before each s, and one more where the text does not end with s
abbrev pub ended : ℕ → List ℕ → List (List ℕ)
ended s [] = []
ended s (b ∷ bs) = cond (b == s) ([] ∷ ended s bs) (onto_first b (ended s bs))

-- the fields of the first line
abbrev pub fields_of : List ℕ → List (List ℕ)
fields_of bs = pieces 9 (up_to 10 bs)

-- fields with single tabs between them
abbrev pub tabbed : List (List ℕ) → List ℕ
tabbed [] = []
tabbed (f ∷ fs) = f ++ flat_map (λ g. 9 ∷ g) fs

-- the lines, each by its fields
abbrev pub lines_of : List ℕ → List (List (List ℕ))
lines_of bs = map (pieces 9) (ended 10 bs)

-- whether a byte ends a field
abbrev pub separates : ℕ → Bool
separates b = b == 9 || b == 10

-- the fields that follow in the line, where a field has just ended
abbrev pub more_fields : List ℕ → List (List ℕ)
more_fields [] = []
more_fields (b ∷ bs) = cond (b == 9) (fields_of bs) []

-- whether a field ends where these bytes begin
abbrev pub parted : List ℕ → Bool
parted [] = true
parted (b ∷ bs) = separates b

-- f is the bytes of xs up to the next tab, byte 10 or the end, and ys is all that follows it
pub record FieldOf (xs f ys : List ℕ) : Type 0 where
  pub whole : xs ≡ f ++ ys
  pub unparted : All (λ b. separates b ≡ false) f
  pub parted_after : parted ys ≡ true

-- no field follows in the line, and the walk stays
pub record NoField (xs ys : List ℕ) : Type 0 where
  pub none : more_fields xs ≡ []
  pub stays : ys ≡ xs

-- a tab, then the field f, and ys is all that follows it
pub record NextField (xs f ys : List ℕ) : Type 0 where
  pub whole : xs ≡ 9 ∷ (f ++ ys)
  pub unparted : All (λ b. separates b ≡ false) f
  pub parted_after : parted ys ≡ true
  pub leads : more_fields xs ≡ f ∷ more_fields ys

-- the byte of a field that has just one
abbrev pub letter_of : List ℕ → Option ℕ
letter_of [] = None
letter_of (b ∷ []) = Some b
letter_of (b ∷ (d ∷ bs)) = None
