-- Lines added to a way, one after the other.
use Rattle.std.proofs.Common.{◌≡◌, ℕ, ◌^◌, ◌<◌, ◌≤◌, Bool, true, false, cond, not, List, [], ◌∷◌, ◌++◌, length, Some, None, sym, refl, ap, ◌∙◌, subst, ap₂, ⊎_elim, zero, suc, arith}
use lib.Bits.{bit_and, bit_or, or_zero_r}
use lib.ListN.{length-map}
use Rattle.std.specs.List.{slice_get}
use Rattle.std.proofs.lemmas.Option.{slice_get_within}
use Rattle.std.proofs.lemmas.List.{append-nil}
use Rattle.std.proofs.lemmas.Bool.{lt-ltb, le-ltb, cases_lt}
use Rattle.std.proofs.lemmas.Bool.Decides.{nat_tests}
use Rattle.tree.specs.Holding.{the_line, told}
use Rattle.tree.specs.Lines.{part_line}
use Rattle.tree.specs.Sets.{has, alone, lines_below, lines_of}
use Rattle.tree.specs.declared.line.Part.{Part}
use Rattle.tree.specs.declared.line.Gate.{Gate}
use Rattle.tree.specs.declared.line.Line.{Line}
use Rattle.tree.specs.declared.line.Line.TheVariants as line
use Rattle.tree.specs.declared.line.Row.{Row}
use Rattle.tree.proofs.Holding.{lt_below}
use Rattle.tree.proofs.Told.{told_below, told_is}
use Rattle.tree.proofs.Sets.{same_set, same_lines, has_none, has_and, has_or, has_pow}
use Rattle.ranking.specs.Models.{Model, Lawful}
use Rattle.ranking.specs.Weights.{weigh}
use Rattle.ranking.proofs.Weights.{one_more}
use Rattle.cut_sets.specs.Cuts.{lines_that}
use Rattle.cut_sets.specs.WaitingRule.{adding}
use Rattle.cut_sets.specs.declared.way.Way.{Way}
use Rattle.cut_sets.proofs.Cuts.{that_is, that_below}
use Rattle.cut_sets.proofs.Ways.{same_way}
use Rattle.lister.specs.Listings.{rows_of, LineCharged, ChargedBy}
use Rattle.lister.specs.declared.listing.ChargedRow.{ChargedRow}

module _ (rows : List Row) (w : Way) where
  pub adding_none : (c : ℕ) → c ≡ 0 → adding rows w c ≡ w
  adding_none c e = same_way _ w (same_set _ _ (λ j. grind (arith, has_or, has_and, has_none))) (same_set _ _ (λ j. grind (arith, has_or, has_and, has_none)))

  pub adding_two : (a b c : ℕ) → ((j : ℕ) → has c j ≡ has (bit_or a b) j) → adding rows (adding rows w a) b ≡ adding rows w c
  adding_two a b c e = same_way _ _ (same_set _ _ (λ j. grind (arith, has_or, has_and, e j))) (same_set _ _ (λ j. grind (arith, has_or, has_and, e j)))

  -- one line
  adding_line : (i : ℕ) (b : Bool) (test : Line → Bool) (s : ℕ) → i < length rows → test (the_line rows i) ≡ b → bit_or s (bit_and (2 ^ i) (lines_that test rows)) ≡ bit_or s (cond b (2 ^ i) 0)
  adding_line i b test s l e = same_set _ _ (λ j. grind (arith, nat_tests, has_or, has_and, has_pow, has_none, that_is test rows i l))

  no_line : (i : ℕ) (test : Line → Bool) (s : ℕ) → length rows ≤ i → bit_or s (bit_and (2 ^ i) (lines_that test rows)) ≡ s
  no_line i test s l = same_set _ _ (λ j. grind (arith, nat_tests, has_or, has_and, has_pow, has_none, that_below test rows j))

  pub adding_part : (i : ℕ) (p : Part) → i < length rows → the_line rows i ≡ line.Part p → adding rows w (2 ^ i) ≡ record { chosen = bit_or w.chosen (2 ^ i); gates = w.gates }
  adding_part i p l e = same_way _ _ (adding_line i true part_line w.chosen l (ap part_line e)) (adding_line i false (λ l. not (part_line l)) w.gates l (ap (λ l. not (part_line l)) e) ∙ or_zero_r _)

  pub adding_gate : (i : ℕ) (g : Gate) → i < length rows → the_line rows i ≡ line.Gate g → adding rows w (2 ^ i) ≡ record { chosen = w.chosen; gates = bit_or w.gates (2 ^ i) }
  adding_gate i g l e = same_way _ _ (adding_line i false part_line w.chosen l (ap part_line e) ∙ or_zero_r _) (adding_line i true (λ l. not (part_line l)) w.gates l (ap (λ l. not (part_line l)) e))

  pub adding_past : (i : ℕ) → length rows ≤ i → adding rows w (2 ^ i) ≡ w
  adding_past i l = same_way _ w (no_line i part_line w.chosen l) (no_line i (λ l. not (part_line l)) w.gates l)

-- ---- one line after another

alone_word : (i : ℕ) → i < 64 → alone i ≡ 2 ^ i
alone_word i l = ap (λ b. cond b (2 ^ i) 0) (lt-ltb i 64 l)

alone_none : (i : ℕ) → 64 ≤ i → alone i ≡ 0
alone_none i l = ap (λ b. cond b (2 ^ i) 0) (le-ltb i 64 l)

abbrev pub add_all : List Row → Way → List ℕ → Way
add_all rows w [] = w
add_all rows w (i ∷ is) = add_all rows (adding rows w (alone i)) is

add_end : (rows : List Row) (w : Way) (is : List ℕ) (i : ℕ) → add_all rows w (is ++ (i ∷ [])) ≡ adding rows (add_all rows w is) (alone i)
add_end rows w [] i = refl
add_end rows w (j ∷ js) i = add_end rows (adding rows w (alone j)) js i

-- the lines of s below n
under : ℕ → ℕ → ℕ
under s n = told (λ i below. has s i) n

add_below : (rows : List Row) (w : Way) (s n : ℕ) → n ≤ 64 → add_all rows w (lines_below s n) ≡ adding rows w (under s n)
unfolding lines_below under told
add_below rows w s zero l = sym (adding_none rows w 0 refl)
add_below rows w s (suc n) l = go (has s n) (add_below rows w s n (omega arith))
  where
    go : (b : Bool) → add_all rows w (lines_below s n) ≡ adding rows w (under s n) → add_all rows w (lines_below s n ++ cond b (n ∷ []) []) ≡ adding rows w (bit_or (under s n) (cond b (2 ^ n) 0))
    go true h =
        add_end rows w (lines_below s n) n ∙ ap (λ v. adding rows v (alone n)) h
        ∙ adding_two rows w (under s n) (alone n) (bit_or (under s n) (2 ^ n)) (λ j. ap (λ x. has (bit_or (under s n) x) j) (sym (alone_word n l)))
    go false h = ap (add_all rows w) (append-nil (lines_below s n)) ∙ h ∙ ap (adding rows w) (sym (or_zero_r (under s n)))

pub adding_lines : (rows : List Row) (w : Way) (s : ℕ) → s < 18446744073709551616 → add_all rows w (lines_of s) ≡ adding rows w s
unfolding lines_of under
adding_lines rows w s small = add_below rows w s 64 (omega arith) ∙ ap (adding rows w) (same_lines _ s (λ i e. sym (told_is (λ i below. has s i) 64 i (told_below (λ i below. has s i) 64 i e)) ∙ e) (λ i e. told_is (λ i below. has s i) 64 i (lt_below 64 s small i e) ∙ e))

-- ---- by the row of a line

here : (rows : List ChargedRow) (i : ℕ) (r : ChargedRow) → slice_get rows i ≡ Some r → the_line (rows_of rows) i ≡ r.row.line
here [] i r e = let z : ◌≡◌ {A = ℕ} 0 1 = cc in absurd (omega arith)
here (x ∷ xs) zero r e = cc
here (x ∷ xs) (suc i) r e = here xs i r e

past : (rows : List ChargedRow) (i : ℕ) → slice_get rows i ≡ None → length (rows_of rows) ≤ i
past [] i e = omega arith
past (x ∷ xs) zero e = let z : ◌≡◌ {A = ℕ} 0 1 = cc in absurd (omega arith)
past (x ∷ xs) (suc i) e = omega (arith, past xs i e)

charged : (charge_of : Part → ℕ) (rows : List ChargedRow) (i : ℕ) (r : ChargedRow) (p : Part) → ChargedBy charge_of rows → slice_get rows i ≡ Some r → r.row.line ≡ line.Part p → charge_of p ≡ r.charge
charged charge_of [] i r p h e l = let z : ◌≡◌ {A = ℕ} 0 1 = cc in absurd (omega arith)
charged charge_of (x ∷ xs) zero r p h e l =
    let same : x ≡ r = cc in
    let at : x.row.line ≡ line.Part p = ap (λ y. y.row.line) same ∙ l in
    let c : x.charge ≡ charge_of p = subst (λ y. LineCharged charge_of y x.charge) at h.0 in
    cc
charged charge_of (x ∷ xs) (suc i) r p h e l = charged charge_of xs i r p h.1 e l

module _ (rows : List ChargedRow) (w : Way) (i a : ℕ) (is : a ≡ alone i) where
  pub row_none : slice_get rows i ≡ None → adding (rows_of rows) w a ≡ w
  row_none e = ⊎_elim
      (λ l. ap (adding (rows_of rows) w) (is ∙ alone_word i l) ∙ adding_past (rows_of rows) w i (past rows i e))
      (λ g. adding_none (rows_of rows) w a (is ∙ alone_none i g))
      (cases_lt i 64)

  module _ (r : ChargedRow) (e : slice_get rows i ≡ Some r) (l : i < 64) where
    low : i < length (rows_of rows)
    low = let n = length-map rows (λ r. r.row) in let k = slice_get_within rows i r e in omega arith

    pub row_gate : (g : Gate) → r.row.line ≡ line.Gate g → adding (rows_of rows) w a ≡ record { chosen = w.chosen; gates = bit_or w.gates a }
    row_gate g k = subst (λ x. adding (rows_of rows) w x ≡ record { chosen = w.chosen; gates = bit_or w.gates x }) (sym (is ∙ alone_word i l)) (adding_gate (rows_of rows) w i g low (here rows i r e ∙ k))

    module _ (p : Part) (k : r.row.line ≡ line.Part p) where
      pub row_part : adding (rows_of rows) w a ≡ record { chosen = bit_or w.chosen a; gates = w.gates }
      row_part = subst (λ x. adding (rows_of rows) w x ≡ record { chosen = bit_or w.chosen x; gates = w.gates }) (sym (is ∙ alone_word i l)) (adding_part (rows_of rows) w i p low (here rows i r e ∙ k))

      pub row_chosen : has w.chosen i ≡ true → adding (rows_of rows) w a ≡ w
      row_chosen h = row_part ∙ same_way _ w (ap (bit_or w.chosen) (is ∙ alone_word i l) ∙ same_set _ _ (λ j. grind (arith, nat_tests, has_or, has_pow))) refl

      pub row_weighed : {W : Type 0} (m : Model W) → Lawful m → (charge_of : Part → ℕ) (weight : W) → has w.chosen i ≡ false
          → ChargedBy charge_of rows → weight ≡ weigh m charge_of (rows_of rows) w.chosen
          → m.join weight (m.of_part p r.charge) ≡ weigh m charge_of (rows_of rows) (bit_or w.chosen a)
      row_weighed m law charge_of weight h by carried =
          ap₂ (λ x n. m.join x (m.of_part p n)) carried (sym (charged charge_of rows i r p by e k))
          ∙ sym (one_more m law charge_of (rows_of rows) w.chosen i p h (here rows i r e ∙ k))
          ∙ ap (λ x. weigh m charge_of (rows_of rows) (bit_or w.chosen x)) (sym (is ∙ alone_word i l))
