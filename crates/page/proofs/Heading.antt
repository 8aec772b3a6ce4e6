-- Whether byte 10 stands among the first bytes, from byte to byte, and the line that it ends.
use Rattle.std.proofs.Common.{◌≡◌, ℕ, zero, suc, ◌<◌, Bool, true, false, ◌||◌, eqb, List, [], ◌∷◌, ◌++◌, length, refl, ap, arith}
use Rattle.std.proofs.lemmas.Bool.{both_ways, eqb-true, or_right}
use Rattle.tabbed_text.specs.Fields.{up_to, after}
use Rattle.page.specs.Orders.{line_within}

whole_cons : (n b : ℕ) (bs : List ℕ) (t : Bool) → eqb b 10 ≡ t → (t || line_within n bs) ≡ true → (line_within n bs ≡ true → bs ≡ up_to 10 bs ++ (10 ∷ after 10 bs))
    → b ∷ bs ≡ up_to 10 (b ∷ bs) ++ (10 ∷ after 10 (b ∷ bs))
whole_cons n b bs true f e more = let is = eqb-true b 10 f in simp f (ap (λ x. x ∷ bs) is)
whole_cons n b bs false f e more = simp f (ap (λ xs. b ∷ xs) (more e))

pub line_whole : (n : ℕ) (bs : List ℕ) → line_within n bs ≡ true → bs ≡ up_to 10 bs ++ (10 ∷ after 10 bs)
line_whole zero bs e = absurd (both_ways false refl e)
line_whole (suc n) [] e = absurd (both_ways false refl e)
line_whole (suc n) (b ∷ bs) e = whole_cons n b bs (eqb b 10) refl e (line_whole n bs)

pub within_line : (n : ℕ) (xs rest : List ℕ) → length xs < n → line_within n (xs ++ (10 ∷ rest)) ≡ true
within_line zero xs rest h = let z : ⊥ = omega arith in absurd z
within_line (suc n) [] rest h = refl
within_line (suc n) (x ∷ xs) rest h = or_right (eqb x 10) _ (within_line n xs rest (omega arith))
