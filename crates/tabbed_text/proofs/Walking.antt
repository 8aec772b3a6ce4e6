-- The next field of what a walk has yet to read, how many follow, and the next line.
use Rattle.std.proofs.Common.{◌≡◌, ℕ, suc, ◌+◌, ◌-◌, ◌<◌, ◌≤◌, Bool, true, false, cond, eqb, ltb, not, List, [], ◌∷◌, ◌++◌, length, get_or, take, drop, count_by, Some, None, sym, refl, ap, ◌∙◌, arith}
use Rattle.std.specs.List.{prefix_len, take_while, position_or_len, position, onto_first, All}
use Rattle.std.proofs.lemmas.Bool.{cond-true, cond-false, eq-eqb, eqb-true, ltb-false}
use Rattle.std.proofs.lemmas.List.{drop-drop, take_all, drop_all}
use Rattle.std.proofs.lemmas.List.Elements.{All-nil, All-cons}
use Rattle.std.proofs.lemmas.List.Folds.{length-prefix_len}
use Rattle.std.proofs.lemmas.List.Splits.{length-slice_split}
use Rattle.std.proofs.lemmas.List.Sums.{prefix_len-le-length, take_while-cons}
use Rattle.tabbed_text.proofs.Chains.{cond_some, cond_none}
use Rattle.tabbed_text.specs.Fields.{up_to, after, fields_of, separates, more_fields, parted, FieldOf}

-- ---- a field, and what follows it

abbrev pub unparted : ℕ → Bool
unparted b = not (separates b)

abbrev field_len : List ℕ → ℕ
field_len [] = 0
field_len (b ∷ bs) = cond (separates b) 0 (suc (field_len bs))

one_more : (p : Bool) (n m : ℕ) → n ≡ m → cond (not p) (1 + n) 0 ≡ cond p 0 (suc m)
one_more true n m e = refl
one_more false n m e = omega arith

field_len_is : (xs : List ℕ) → prefix_len unparted xs ≡ field_len xs
field_len_is [] = refl
field_len_is (b ∷ bs) = one_more (separates b) (prefix_len unparted bs) (field_len bs) (field_len_is bs)

more_cons : (b : ℕ) (bs : List ℕ) (t n : Bool) → eqb b 9 ≡ t → eqb b 10 ≡ n → fields_of bs ≡ take (field_len bs) bs ∷ more_fields (drop (field_len bs) bs) → fields_of (b ∷ bs) ≡ take (field_len (b ∷ bs)) (b ∷ bs) ∷ more_fields (drop (field_len (b ∷ bs)) (b ∷ bs))
more_cons b bs true true e f h = let z : ⊥ = omega (arith, eqb-true b 9 e, eqb-true b 10 f) in absurd z
more_cons b bs false true e f h = simp (e, f)
more_cons b bs true false e f h = simp (e, f)
more_cons b bs false false e f h = simp (e, f) (ap (onto_first b) h)

pub first_more : (xs : List ℕ) → fields_of xs ≡ take (field_len xs) xs ∷ more_fields (drop (field_len xs) xs)
first_more [] = refl
first_more (b ∷ bs) = more_cons b bs (eqb b 9) (eqb b 10) refl refl (first_more bs)

after_cons : (b : ℕ) (bs : List ℕ) (t n : Bool) → eqb b 9 ≡ t → eqb b 10 ≡ n → after 10 (drop (field_len bs) bs) ≡ after 10 bs → after 10 (drop (field_len (b ∷ bs)) (b ∷ bs)) ≡ after 10 (b ∷ bs)
after_cons b bs true n e f h = simp e
after_cons b bs false true e f h = simp (e, f)
after_cons b bs false false e f h = simp (e, f) h

pub after_more : (xs : List ℕ) → after 10 (drop (field_len xs) xs) ≡ after 10 xs
after_more [] = refl
after_more (b ∷ bs) = after_cons b bs (eqb b 9) (eqb b 10) refl refl (after_more bs)

field_cons : (b : ℕ) (bs : List ℕ) (p : Bool) → separates b ≡ p → FieldOf bs (take (field_len bs) bs) (drop (field_len bs) bs)
    → FieldOf (b ∷ bs) (take (field_len (b ∷ bs)) (b ∷ bs)) (drop (field_len (b ∷ bs)) (b ∷ bs))
field_cons b bs true e h = simp e (record { whole = refl; unparted = All-nil (λ d. separates d ≡ false); parted_after = e })
field_cons b bs false e h = simp e (record { whole = ap (λ xs. b ∷ xs) h.whole; unparted = All-cons (λ d. separates d ≡ false) b (take (field_len bs) bs) e h.unparted; parted_after = h.parted_after })

pub field_here : (xs : List ℕ) → FieldOf xs (take (field_len xs) xs) (drop (field_len xs) xs)
field_here [] = record { whole = refl; unparted = All-nil (λ d. separates d ≡ false); parted_after = refl }
field_here (b ∷ bs) = field_cons b bs (separates b) refl (field_here bs)

pub len_fits : (xs : List ℕ) (n : ℕ) → n ≡ prefix_len unparted xs → n ≤ length xs
len_fits xs n is = omega (arith, prefix_len-le-length unparted xs)

pub unparted_at : (xs f : List ℕ) (k d : ℕ) → f ≡ take (prefix_len unparted xs) xs → k < length f → separates (get_or f k d) ≡ false
unparted_at xs f k d is h =
    let all : All (λ b. separates b ≡ false) f = rw (is, field_len_is xs) (field_here xs).unparted in
    all k d h

-- f is what stands from a place on before the first tab or byte 10
module _ (bs f : List ℕ) (at : ℕ) (is : f ≡ take (prefix_len unparted (drop at bs)) (drop at bs)) where
  field_is : f ≡ take (field_len (drop at bs)) (drop at bs)
  field_is = is ∙ ap (λ n. take n (drop at bs)) (field_len_is (drop at bs))

  left_is : drop (field_len (drop at bs)) (drop at bs) ≡ drop (at + length f) bs
  left_is =
      let n : length f ≡ field_len (drop at bs) = ap length is ∙ length-prefix_len unparted (drop at bs) ∙ field_len_is (drop at bs) in
      let k : at + field_len (drop at bs) ≡ at + length f = omega arith in
      drop-drop (field_len (drop at bs)) at bs ∙ ap (λ m. drop m bs) k

  field_at : FieldOf (drop at bs) f (drop (at + length f) bs)
  field_at = rw (← left_is, field_is) (field_here (drop at bs))

  pub whole_at : drop at bs ≡ f ++ drop (at + length f) bs
  whole_at = field_at.whole

  pub parted_at : parted (drop (at + length f) bs) ≡ true
  parted_at = field_at.parted_after

  pub fields_at : fields_of (drop at bs) ≡ f ∷ more_fields (drop (at + length f) bs)
  fields_at = rw (← left_is, field_is) (first_more (drop at bs))

  pub after_at : after 10 (drop (at + length f) bs) ≡ after 10 (drop at bs)
  after_at = ap (after 10) (sym left_is) ∙ after_more (drop at bs)

-- ---- how many fields a line has

up_to_cons : (b : ℕ) (bs : List ℕ) (n : Bool) → eqb b 10 ≡ n → up_to 10 bs ≡ take_while (λ d. not (eqb d 10)) bs → up_to 10 (b ∷ bs) ≡ take_while (λ d. not (eqb d 10)) (b ∷ bs)
up_to_cons b bs true f h = simp f
up_to_cons b bs false f h =
    cond-false (eqb b 10) [] (b ∷ up_to 10 bs) f ∙ ap (λ l. b ∷ l) h
    ∙ sym (take_while-cons (λ d. not (eqb d 10)) b bs ∙ ap (λ t. cond (not t) (b ∷ take_while (λ d. not (eqb d 10)) bs) []) f)

up_to_is : (bs : List ℕ) → up_to 10 bs ≡ take_while (λ d. not (eqb d 10)) bs
up_to_is [] = refl
up_to_is (b ∷ bs) = up_to_cons b bs (eqb b 10) refl (up_to_is bs)

-- one more than its tabs
pub fields_count : (xs : List ℕ) → length (fields_of xs) ≡ 1 + count_by (λ b. eqb b 9) (take_while (λ b. not (eqb b 10)) xs)
fields_count xs = omega (arith, length-slice_split (λ b. eqb b 9) (up_to 10 xs), ap (count_by (λ b. eqb b 9)) (up_to_is xs))

pub more_count : (xs : List ℕ) → 0 < length xs → get_or xs 0 0 ≡ 9 → length (more_fields xs) ≡ 1 + count_by (λ b. eqb b 9) (take_while (λ b. not (eqb b 10)) (take (length xs - 1) (drop 1 xs)))
more_count [] some tab = let z : ⊥ = omega arith in absurd z
more_count (b ∷ bs) some tab =
    let all : take (length (b ∷ bs) - 1) bs ≡ bs = take_all (length (b ∷ bs) - 1) bs (omega arith) in
    rw all (ap length (cond-true (eqb b 9) (fields_of bs) [] (eq-eqb b 9 tab)) ∙ fields_count bs)

-- ---- where the next line starts

abbrev line_len : List ℕ → ℕ
line_len [] = 0
line_len (b ∷ bs) = cond (eqb b 10) 0 (suc (line_len bs))

line_len_is : (xs : List ℕ) → position_or_len (λ b. eqb b 10) xs ≡ line_len xs
line_len_is [] = refl
line_len_is (b ∷ bs) = one_more (eqb b 10) (position_or_len (λ d. eqb d 10) bs) (line_len bs) (line_len_is bs)

cut_cons : (b : ℕ) (bs : List ℕ) (n : Bool) → eqb b 10 ≡ n → after 10 bs ≡ drop (suc (line_len bs)) bs → after 10 (b ∷ bs) ≡ drop (suc (line_len (b ∷ bs))) (b ∷ bs)
cut_cons b bs true f h = simp f
cut_cons b bs false f h = simp f h

after_cut : (xs : List ℕ) → after 10 xs ≡ drop (suc (line_len xs)) xs
after_cut [] = refl
after_cut (b ∷ bs) = cut_cons b bs (eqb b 10) refl (after_cut bs)

pub after_some : (bs : List ℕ) (i : ℕ) → Some i ≡ position (λ b. eqb b 10) bs → drop (i + 1) bs ≡ after 10 bs
after_some bs i e =
    let p = cond_some (ltb (position_or_len (λ b. eqb b 10) bs) (length bs)) (position_or_len (λ b. eqb b 10) bs) i (sym e) in
    let k : suc (line_len bs) ≡ i + 1 = omega (arith, p.1, line_len_is bs) in
    sym (after_cut bs ∙ ap (λ m. drop m bs) k)

pub after_none : (bs : List ℕ) → None ≡ position (λ b. eqb b 10) bs → drop (length bs) bs ≡ after 10 bs
after_none bs e =
    let p = ltb-false (position_or_len (λ b. eqb b 10) bs) (length bs) (cond_none _ _ (sym e)) in
    drop_all (length bs) bs (omega arith) ∙ sym (after_cut bs ∙ drop_all (suc (line_len bs)) bs (omega (arith, p, line_len_is bs)))

-- what the reading of a field and of a line asks for
pub ruleset field_steps = (len_fits, whole_at, unparted_at, parted_at, fields_at, after_at)

pub ruleset line_ends = (after_some, after_none)
