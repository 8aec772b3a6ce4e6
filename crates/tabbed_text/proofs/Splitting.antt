-- Cutting a text into lines and fields undoes writing it, and writing undoes cutting.
use Rattle.std.proofs.Common.{◌≡◌, ℕ, suc, ◌-◌, ◌<◌, Bool, true, false, eqb, ◌⊎◌, List, [], ◌∷◌, ◌++◌, map, length, get_or, refl, ap, ◌∙◌, subst, inl, inr, arith}
use Rattle.std.specs.List.{flat_map, onto_first, join_with_byte, All}
use Rattle.std.proofs.lemmas.List.{append-nil, length-map}
use Rattle.std.proofs.lemmas.List.Elements.{All-nil, All-cons, All-head, All-tail, All-append, All-weaker}
use Rattle.std.proofs.lemmas.List.Splits.{slice_split_none, slice_split_at, join_with_byte-slice_split}
use Rattle.std.proofs.lemmas.Bool.{cond_both, cond-true, cond-false, eq-eqb, eqb-true, eqb-false, or_parts}
use Rattle.tabbed_text.specs.Fields.{pieces, ended, tabbed, lines_of, separates}

-- ---- fields

tabbed_joined : (fs : List (List ℕ)) → tabbed fs ≡ join_with_byte 9 fs
tabbed_joined [] = refl
tabbed_joined (f ∷ []) = append-nil f
tabbed_joined (f ∷ (g ∷ fs)) = ap (λ l. f ++ (9 ∷ l)) (tabbed_joined (g ∷ fs))

pub tabbed_pieces : (bs : List ℕ) → tabbed (pieces 9 bs) ≡ bs
tabbed_pieces bs = tabbed_joined (pieces 9 bs) ∙ join_with_byte-slice_split 9 bs

-- a byte is no tab, is no end of a line, and is neither
abbrev Untabbed : ℕ → Type 0
Untabbed b = eqb b 9 ≡ false

abbrev Unended : ℕ → Type 0
Unended b = eqb b 10 ≡ false

abbrev pub Inner : ℕ → Type 0
Inner b = separates b ≡ false

no_tab : (b : ℕ) → Inner b → Untabbed b
no_tab b e = (or_parts (eqb b 9) (eqb b 10) e).0

no_end : (b : ℕ) → Inner b → Unended b
no_end b e = (or_parts (eqb b 9) (eqb b 10) e).1

pub pieces_tabbed : (fs : List (List ℕ)) → 0 < length fs → All (All (λ b. eqb b 9 ≡ false)) fs → pieces 9 (tabbed fs) ≡ fs
pieces_tabbed [] some free = absurd (omega arith)
pieces_tabbed (f ∷ []) some free = ap (pieces 9) (append-nil f) ∙ slice_split_none (λ b. eqb b 9) f (All-head (All Untabbed) f [] free)
pieces_tabbed (f ∷ (g ∷ fs)) some free =
    slice_split_at (λ b. eqb b 9) f 9 (tabbed (g ∷ fs)) (All-head (All Untabbed) f (g ∷ fs) free) (eq-eqb 9 9 refl)
    ∙ ap (λ gs. f ∷ gs) (pieces_tabbed (g ∷ fs) (omega arith) (All-tail (All Untabbed) f (g ∷ fs) free))

-- ---- lines

ended_more : (f rest : List ℕ) → All Unended f → ended 10 (f ++ (10 ∷ rest)) ≡ f ∷ ended 10 rest
ended_more [] rest free = refl
ended_more (b ∷ f) rest free =
    cond-false (eqb b 10) ([] ∷ ended 10 (f ++ (10 ∷ rest))) (onto_first b (ended 10 (f ++ (10 ∷ rest)))) (All-head Unended b f free)
    ∙ ap (onto_first b) (ended_more f rest (All-tail Unended b f free))

joined_unended : (fs : List (List ℕ)) → All (All Inner) fs → All Unended (flat_map (λ g. 9 ∷ g) fs)
joined_unended [] free = All-nil Unended
joined_unended (f ∷ fs) free =
    let rest : List ℕ = flat_map (λ g. 9 ∷ g) fs in
    let here = All-weaker Inner Unended no_end f (All-head (All Inner) f fs free) in
    let tab : Unended 9 = refl in
    All-cons Unended 9 (f ++ rest) tab (All-append Unended f rest here (joined_unended fs (All-tail (All Inner) f fs free)))

tabbed_unended : (fs : List (List ℕ)) → All (All Inner) fs → All Unended (tabbed fs)
tabbed_unended [] free = All-nil Unended
tabbed_unended (f ∷ fs) free =
    let here = All-weaker Inner Unended no_end f (All-head (All Inner) f fs free) in
    All-append Unended f (flat_map (λ g. 9 ∷ g) fs) here (joined_unended fs (All-tail (All Inner) f fs free))

-- a line that is written in front of a text is its first line
pub lines_cons : (fs : List (List ℕ)) (rest : List ℕ) → 0 < length fs → All (λ f. All (λ b. separates b ≡ false) f) fs → lines_of (tabbed fs ++ (10 ∷ rest)) ≡ fs ∷ lines_of rest
lines_cons fs rest some free =
    ap (map (pieces 9)) (ended_more (tabbed fs) rest (tabbed_unended fs free))
    ∙ ap (λ gs. gs ∷ lines_of rest) (pieces_tabbed fs some (All-weaker (All Inner) (All Untabbed) (All-weaker Inner Untabbed no_tab) fs free))

-- fields of such bytes
pub inner_cons : (f : List ℕ) (fs : List (List ℕ)) → All Inner f → All (All Inner) fs → All (All Inner) (f ∷ fs)
inner_cons f fs here more = All-cons (All Inner) f fs here more

pub four_inner : (a b c d : List ℕ) → All Inner a → All Inner b → All Inner c → All Inner d → All (All Inner) (a ∷ (b ∷ (c ∷ (d ∷ []))))
four_inner a b c d p q r s =
    inner_cons a (b ∷ (c ∷ (d ∷ []))) p (inner_cons b (c ∷ (d ∷ [])) q (inner_cons c (d ∷ []) r (inner_cons d [] s (All-nil (All Inner)))))

some_onto : (b : ℕ) (fs : List (List ℕ)) → 0 < length (onto_first b fs)
some_onto b [] = omega arith
some_onto b (f ∷ fs) = omega arith

some_ended : (s b : ℕ) (bs : List ℕ) → 0 < length (ended s (b ∷ bs))
some_ended s b bs =
    cond_both (eqb b s) ([] ∷ ended s bs) (onto_first b (ended s bs)) (λ fs. 0 < length fs) (λ _. omega arith)
    (λ _. some_onto b (ended s bs))

-- a text with no lines has no bytes
pub no_lines : (bs : List ℕ) → length (lines_of bs) ≡ 0 → bs ≡ []
no_lines [] e = refl
no_lines (b ∷ bs) e =
    let z : ⊥ = omega (arith, some_ended 10 b bs, length-map (ended 10 (b ∷ bs)) (pieces 9)) in absurd z

-- the text has no bytes, or its last is 10
abbrev pub Ends : List ℕ → Type 0
Ends bs = (length bs ≡ 0) ⊎ (get_or bs (length bs - 1) 0 ≡ 10)

-- the first line of a text and what follows it
pub record FirstLine (bs : List ℕ) : Type 0 where
  pub line : List ℕ
  pub rest : List ℕ
  pub whole : bs ≡ line ++ (10 ∷ rest)
  pub cut : ended 10 bs ≡ line ∷ ended 10 rest
  pub ends : Ends rest

last_later : (b d : ℕ) (ds : List ℕ) → get_or (b ∷ (d ∷ ds)) (length (b ∷ (d ∷ ds)) - 1) 0 ≡ 10 → get_or (d ∷ ds) (length (d ∷ ds) - 1) 0 ≡ 10
last_later b d ds e =
    let k : length (b ∷ (d ∷ ds)) - 1 ≡ suc (length (d ∷ ds) - 1) = omega arith in
    subst (λ n. get_or (b ∷ (d ∷ ds)) n 0 ≡ 10) k e

ends_later : (b : ℕ) (bs : List ℕ) → get_or (b ∷ bs) (length (b ∷ bs) - 1) 0 ≡ 10 → Ends bs
ends_later b [] e = inl refl
ends_later b (d ∷ ds) e = inr (last_later b d ds e)

first_cons : (b : ℕ) (bs : List ℕ) (t : Bool) → eqb b 10 ≡ t → get_or (b ∷ bs) (length (b ∷ bs) - 1) 0 ≡ 10 → ((eqb b 10 ≡ false) → FirstLine bs) → FirstLine (b ∷ bs)
first_cons b bs true t e more =
    let n = eqb-true b 10 t in
    record { line = []; rest = bs; whole = ap (λ x. x ∷ bs) n; cut = cond-true (eqb b 10) _ _ t; ends = ends_later b bs e }
first_cons b bs false t e more =
    let m = more t in
    record { line = b ∷ m.line; rest = m.rest; whole = ap (λ x. b ∷ x) m.whole; cut = cond-false (eqb b 10) _ _ t ∙ ap (onto_first b) m.cut; ends = m.ends }

pub first_line : (bs : List ℕ) → 0 < length bs → get_or bs (length bs - 1) 0 ≡ 10 → FirstLine bs
first_line [] some e = let z : ⊥ = omega arith in absurd z
first_line (b ∷ []) some e = first_cons b [] (eqb b 10) refl e (λ t. absurd (eqb-false b 10 t e))
first_line (b ∷ (d ∷ ds)) some e = first_cons b (d ∷ ds) (eqb b 10) refl e (λ _. first_line (d ∷ ds) (omega arith) (last_later b d ds e))

-- each line is its fields
pub lines_split : (bs : List ℕ) (l : FirstLine bs) → lines_of bs ≡ pieces 9 l.line ∷ lines_of l.rest
lines_split bs l = ap (map (pieces 9)) l.cut
