-- The first line of what is left, and the lines after it.
use Rattle.std.proofs.Common.{◌≡◌, ℕ, suc, ◌<◌, ◌≤◌, Bool, true, false, eqb, List, [], ◌∷◌, map, length, refl, ap, arith}
use Rattle.std.proofs.lemmas.Bool.{cond_both}
use Rattle.std.specs.List.{onto_first}
use Rattle.tabbed_text.specs.Fields.{up_to, after, pieces, ended, fields_of, lines_of}

line_cons : (b : ℕ) (bs : List ℕ) (n : Bool) → eqb b 10 ≡ n → (ended 10 bs ≡ up_to 10 bs ∷ ended 10 (after 10 bs)) → ended 10 (b ∷ bs) ≡ up_to 10 (b ∷ bs) ∷ ended 10 (after 10 (b ∷ bs))
line_cons b bs true f h = simp f
line_cons b bs false f h = simp f (ap (onto_first b) h)

line_one : (b : ℕ) (n : Bool) → eqb b 10 ≡ n → ended 10 (b ∷ []) ≡ up_to 10 (b ∷ []) ∷ ended 10 (after 10 (b ∷ []))
line_one b true f = simp f
line_one b false f = simp f

first_ended : (b : ℕ) (bs : List ℕ) → ended 10 (b ∷ bs) ≡ up_to 10 (b ∷ bs) ∷ ended 10 (after 10 (b ∷ bs))
first_ended b [] = line_one b (eqb b 10) refl
first_ended b (d ∷ bs) = line_cons b (d ∷ bs) (eqb b 10) refl (first_ended d bs)

pub first_line : (xs : List ℕ) → 0 < length xs → lines_of xs ≡ fields_of xs ∷ lines_of (after 10 xs)
first_line [] h = let z : ⊥ = omega arith in absurd z
first_line (b ∷ bs) h = ap (map (pieces 9)) (first_ended b bs)

after_le : (b : ℕ) (bs : List ℕ) → length (after 10 (b ∷ bs)) ≤ length bs
after_le b [] = cond_both (eqb b 10) [] [] (λ xs. length xs ≤ 0) (λ _. omega arith) (λ _. omega arith)
after_le b (d ∷ bs) = cond_both (eqb b 10) (d ∷ bs) (after 10 (d ∷ bs)) (λ xs. length xs ≤ suc (length bs)) (λ _. omega arith) (λ _. omega (arith, after_le d bs))

pub after_shorter : (xs : List ℕ) → 0 < length xs → length (after 10 xs) < length xs
after_shorter [] h = let z : ⊥ = omega arith in absurd z
after_shorter (b ∷ bs) h = omega (arith, after_le b bs)
