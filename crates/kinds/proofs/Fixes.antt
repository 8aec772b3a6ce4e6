-- One more line fixed: with it in one of the two sets, a tree is as it was but for that line.
use Rattle.std.proofs.Common.{◌≡◌, ℕ, zero, suc, ◌+◌, ◌^◌, ◌<◌, ◌≤◌, true, false, cond, ltb, List, [], ◌∷◌, length, Some, sym, refl, ap, ◌∙◌, subst, ⊎_elim, arith}
use lib.Bits.{bit_or}
use Rattle.std.proofs.lemmas.Bool.{cases_Bool, both_ways, and_parts, leb-true, lt-ltb, ne_eqb, cond-true}
use Rattle.tree.specs.Lines.{line_at}
use Rattle.tree.specs.Rules.{keeps_rules}
use Rattle.tree.specs.Sets.{has, alone}
use Rattle.tree.specs.declared.line.Line.{Line}
use Rattle.tree.specs.declared.line.Row.{Row}
use Rattle.tree.proofs.Sets.{has_or, has_one, has_pow, in_right}
use Rattle.kinds.specs.Fixings.{childless, fixed_line, is_part, relined, fixed_rows, overlaid_line, overlaid_row, overlaid_from, overlaid}
use Rattle.kinds.specs.declared.fixing.State.{State}
use Rattle.kinds.specs.declared.fixing.State.TheVariants.{Failed, Sound}
use Rattle.kinds.proofs.Overlaid.{overlaid_length}

-- ---- a set with one line more

pub more_same : (w i : ℕ) → has (bit_or w (2 ^ i)) i ≡ true
more_same w i = in_right w (2 ^ i) i (has_one i)

pub more_other : (w i j : ℕ) → (j ≡ i → ⊥) → has (bit_or w (2 ^ i)) j ≡ has w j
more_other w i j ne = grind (arith, has_or w (2 ^ i) j, has_pow i j, ne_eqb j i ne)

-- ---- where a part is

part_below : (rows : List Row) (i : ℕ) → is_part (line_at rows i) ≡ true → i < length rows
part_below [] i p = absurd (both_ways false refl p)
part_below (r ∷ rs) zero p = omega arith
part_below (r ∷ rs) (suc i) p = omega (arith, part_below rs i p)

few_rows : (rows : List Row) → keeps_rules rows ≡ true → length rows ≤ 64
few_rows rows ok = leb-true _ _ (and_parts _ _ (and_parts _ _ (and_parts _ _ ok).0).0).1

-- ---- two pairs of sets that differ in line i only

module _ (F S F' S' : ℕ) (L : Line) (i : ℕ)
    (others : (j : ℕ) (l : Line) → (j ≡ i → ⊥) → overlaid_line F' S' j l ≡ overlaid_line F S j l)
    (here : (l : Line) → is_part (Some (overlaid_line F S i l)) ≡ true → overlaid_line F' S' i l ≡ L) where
  past : (k : ℕ) (rows : List Row) → i < k → overlaid_from k F' S' rows ≡ overlaid_from k F S rows
  past k [] h = refl
  past k (r ∷ rs) h =
      ap (λ l. record { line = l; name = r.name } ∷ overlaid_from (suc k) F' S' rs) (others k r.line (λ e. omega arith))
      ∙ ap (λ xs. overlaid_row F S k r ∷ xs) (past (suc k) rs (omega arith))

  refixed : (k m : ℕ) (rows : List Row) → k + m ≡ i → is_part (line_at (overlaid_from k F S rows) m) ≡ true → overlaid_from k F' S' rows ≡ relined (overlaid_from k F S rows) m L
  refixed k m [] e p = refl
  refixed k zero (r ∷ rs) e p =
      let at : i ≡ k = omega arith in
      let line : overlaid_line F' S' k r.line ≡ L = subst (λ j. is_part (Some (overlaid_line F S j r.line)) ≡ true → overlaid_line F' S' j r.line ≡ L) at (here r.line) p in
      ap (λ l. record { line = l; name = r.name } ∷ overlaid_from (suc k) F' S' rs) line
      ∙ ap (λ xs. record { line = L; name = r.name } ∷ xs) (past (suc k) rs (omega arith))
  refixed k (suc m) (r ∷ rs) e p =
      ap (λ l. record { line = l; name = r.name } ∷ overlaid_from (suc k) F' S' rs) (others k r.line (λ q. omega arith))
      ∙ ap (λ xs. overlaid_row F S k r ∷ xs) (refixed (suc k) m rs (omega arith) p)

-- a part is in neither set
unmarked : (F S i : ℕ) (l : Line) → is_part (Some (overlaid_line F S i l)) ≡ true → has F i ≡ false
unmarked F S i l p =
    ⊎_elim
    (λ t. absurd (both_ways false refl (subst (λ b. is_part (Some (cond b (childless 0) (cond (has S i) (childless 1) l))) ≡ true) t p)))
    (λ f. f)
    (cases_Bool (has F i))

failed_more : (F S i : ℕ) (rows : List Row) → is_part (line_at (overlaid F S rows) i) ≡ true → overlaid (bit_or F (2 ^ i)) S rows ≡ relined (overlaid F S rows) i (childless 0)
failed_more F S i rows p =
    refixed F S (bit_or F (2 ^ i)) S (childless 0) i
    (λ j l ne. ap (λ b. cond b (childless 0) (cond (has S j) (childless 1) l)) (more_other F i j ne))
    (λ l q. ap (λ b. cond b (childless 0) (cond (has S i) (childless 1) l)) (more_same F i))
    0 i rows (omega arith) p

sound_more : (F S i : ℕ) (rows : List Row) → is_part (line_at (overlaid F S rows) i) ≡ true → overlaid F (bit_or S (2 ^ i)) rows ≡ relined (overlaid F S rows) i (childless 1)
sound_more F S i rows p =
    refixed F S F (bit_or S (2 ^ i)) (childless 1) i
    (λ j l ne. ap (λ b. cond (has F j) (childless 0) (cond b (childless 1) l)) (more_other S i j ne))
    (λ l q. ap (λ b. cond b (childless 0) (cond (has (bit_or S (2 ^ i)) i) (childless 1) l)) (unmarked F S i l q) ∙ ap (λ b. cond b (childless 1) l) (more_same S i))
    0 i rows (omega arith) p

-- ---- what the two sets hold after a call

pub fixed_there : (rows : List Row) (i : ℕ) (state : State) → is_part (line_at rows i) ≡ true → fixed_rows rows i state ≡ relined rows i (fixed_line state)
fixed_there rows i state p = cond-true _ _ rows p

-- a word of the machine has a place for a part's line
alone_is : (F S i : ℕ) (rows : List Row) → keeps_rules rows ≡ true → is_part (line_at (overlaid F S rows) i) ≡ true → alone i ≡ 2 ^ i
alone_is F S i rows ok p =
    let h : i < 64 = omega (arith, part_below (overlaid F S rows) i p, overlaid_length F S rows, few_rows rows ok) in
    cond-true (ltb i 64) (2 ^ i) 0 (lt-ltb i 64 h)

pub after_failed : (F S i : ℕ) (rows : List Row) → keeps_rules rows ≡ true → is_part (line_at (overlaid F S rows) i) ≡ true → (w : ℕ) → w ≡ alone i → overlaid (bit_or F w) S rows ≡ fixed_rows (overlaid F S rows) i Failed
after_failed F S i rows ok p w is =
    ap (λ n. overlaid (bit_or F n) S rows) (is ∙ alone_is F S i rows ok p) ∙ failed_more F S i rows p ∙ sym (fixed_there (overlaid F S rows) i Failed p)

pub after_sound : (F S i : ℕ) (rows : List Row) → keeps_rules rows ≡ true → is_part (line_at (overlaid F S rows) i) ≡ true → (w : ℕ) → w ≡ alone i → overlaid F (bit_or S w) rows ≡ fixed_rows (overlaid F S rows) i Sound
after_sound F S i rows ok p w is =
    ap (λ n. overlaid F (bit_or S n) rows) (is ∙ alone_is F S i rows ok p) ∙ sound_more F S i rows p ∙ sym (fixed_there (overlaid F S rows) i Sound p)
