-- Rows that are made from their numbers, and the rows of a lantern: each keeps its rule, and no two names are the same.
use Rattle.std.specs.Prelude.{◌≡◌, ℕ, zero, suc, ◌+◌, ◌-◌, ◌*◌, ◌/◌, ◌%◌, ◌<◌, ◌≤◌, true, false, List, [], ◌∷◌, map, length, count_ones, nat_lt, refl}
use Rattle.std.proofs.Common.{sym, ap, ap₂, subst, ◌∙◌, arith}
use Rattle.std.specs.List.{range_with_len}
use Rattle.std.proofs.lemmas.List.FromFn.{length-map-range_with_len}
use Rattle.std.proofs.lemmas.Bool.{and_from, or_from, not_from_false, lt-ltb, le-leb, ne_eqb, ltb-true, ltb-false, cond_both, cond-false}
use Rattle.std.proofs.lemmas.Bool.Decides.{nat_tests}
use Rattle.tree.specs.Names.{name_byte, name_bytes, name_ok, same_name, spelled}
use Rattle.tree.specs.Rules.{gate_ok, line_ok, lines_ok, among, names_ok, names_of, keeps_rules}
use Rattle.tree.specs.declared.line.Part.{Part}
use Rattle.tree.specs.declared.line.Line.TheVariants as line
use Rattle.tree.specs.declared.line.Row.{Row}
use Rattle.tree.proofs.Sets.{no_test, ones_none}
use Rattle.tree.proofs.Spelling.{name_spelled_ok, spelled_name, same_is}
use Rattle.kinds.specs.Lanterns.{run, numbered, tier_line, last_line, in_limits, lantern_row, lantern_rows}
use Rattle.kinds.specs.LanternLimits.{Limits, limits, tier_fits}
use Rattle.kinds.specs.Runs.{run_ones, run_below}

-- ---- rows made from their numbers

module _ (f : ℕ → Row) where
  lines_made : (a n : ℕ) → ((i : ℕ) → i < a + n → line_ok i (f i).line ≡ true) → lines_ok a (map f (range_with_len a n)) ≡ true
  lines_made a zero h = refl
  lines_made a (suc n) h =
      and_from _ _ (h a (omega arith))
      (subst (λ k. lines_ok k (map f (range_with_len (a + 1) n)) ≡ true) (let e : a + 1 ≡ suc a = omega arith in e) (lines_made (a + 1) n (λ i l. h i (omega arith))))

  none_among : (i a n : ℕ) → ((j : ℕ) → a ≤ j → j < a + n → same_name (f j).name (f i).name ≡ false) → among (f i).name (names_of (map f (range_with_len a n))) ≡ false
  none_among i a zero h = refl
  none_among i a (suc n) h = or_from _ _ (h a (omega arith) (omega arith)) (none_among i (a + 1) n (λ j k l. h j (omega arith) (omega arith)))

  names_made : (a n : ℕ) → ((i : ℕ) → i < a + n → name_ok (f i).name ≡ true) → ((i j : ℕ) → i < j → j < a + n → same_name (f j).name (f i).name ≡ false) → names_ok (names_of (map f (range_with_len a n))) ≡ true
  names_made a zero ok apart = refl
  names_made a (suc n) ok apart =
      and_from _ _ (and_from _ _ (ok a (omega arith)) (not_from_false _ (none_among a (a + 1) n (λ j k l. apart a j (omega arith) (omega arith)))))
      (names_made (a + 1) n (λ i l. ok i (omega arith)) (λ i j k l. apart i j k (omega arith)))

  pub rules_made : (n : ℕ) → 1 ≤ n → n ≤ 64 → ((i : ℕ) → i < n → line_ok i (f i).line ≡ true) → ((i : ℕ) → i < n → name_ok (f i).name ≡ true) → ((i j : ℕ) → i < j → j < n → same_name (f j).name (f i).name ≡ false) → keeps_rules (map f (range_with_len 0 n)) ≡ true
  rules_made n low high lines ok apart =
      let e = length-map-range_with_len f 0 n in
      and_from _ _
      (and_from _ _ (and_from _ _ (le-leb 1 (length (map f (range_with_len 0 n))) (omega arith)) (le-leb (length (map f (range_with_len 0 n))) 64 (omega arith))) (lines_made 0 n (λ i l. lines i (omega arith))))
      (names_made 0 n (λ i l. ok i (omega arith)) (λ i j k l. apart i j k (omega arith)))

-- ---- names with a number

digit_byte : (d : ℕ) → d < 10 → name_byte (48 + d) ≡ true
digit_byte d h = grind (arith, nat_tests)

bytes : ℕ → ℕ → List ℕ
bytes c i = c ∷ (48 + i / 10) ∷ (48 + i % 10) ∷ []

bytes_ok : (c i : ℕ) → name_byte c ≡ true → i < 100 → name_bytes (bytes c i) ≡ true
unfolding bytes
bytes_ok c i e h = and_from _ _ e (and_from _ _ (digit_byte (i / 10) (omega arith)) (and_from _ _ (digit_byte (i % 10) (omega arith)) refl))

pub numbered_ok : (c i : ℕ) → name_byte c ≡ true → i < 100 → name_ok (numbered c i) ≡ true
unfolding bytes
numbered_ok c i e h = name_spelled_ok (bytes c i) (bytes_ok c i e h)

same_bytes : (c d i j : ℕ) → bytes c i ≡ bytes d j → i ≡ j
unfolding bytes
same_bytes c d i j e =
    let x : 48 + i / 10 ≡ 48 + j / 10 = cc in
    let y : 48 + i % 10 ≡ 48 + j % 10 = cc in
    omega arith

pub numbered_apart : (c d i j : ℕ) → name_byte c ≡ true → name_byte d ≡ true → i < j → j < 100 → same_name (numbered d j) (numbered c i) ≡ false
unfolding bytes
numbered_apart c d i j cs ds l h =
    no_test _ (λ e.
    let x = same_bytes d c j i (sym (spelled_name (bytes d j) (bytes_ok d j ds h)) ∙ ap spelled (same_is (numbered d j) (numbered c i) e) ∙ spelled_name (bytes c i) (bytes_ok c i cs (omega arith))) in
    omega arith)

-- ---- gates over a run of lines

run_gate_ok : (i at n need : ℕ) → at + n ≤ i → 1 ≤ need → need ≤ n → n ≤ 12 → gate_ok i (record { children = run at n; need = need }) ≡ true
run_gate_ok i at n need h low high few =
    let many = run_ones at n in
    let some : run at n ≡ 0 → ⊥ = λ z. omega (arith, ap count_ones z, ones_none) in
    and_from _ _ (and_from _ _ (lt-ltb _ _ (run_below at n i h)) (le-leb _ _ (omega arith)))
    (cond-false _ _ _ (ne_eqb _ _ some) ∙ and_from _ _ (le-leb 1 need low) (le-leb _ _ (omega arith)))

-- ---- the rows of a lantern

module _ (t p q r : ℕ) (part : Part) where
  row_cases : (i : ℕ) (P : Row → Type 0)
      → (i < t * p → P (record { line = line.Part part; name = numbered 76 i }))
      → (t * p ≤ i → i < t * p + t → P (record { line = tier_line p q (i - t * p); name = numbered 71 i }))
      → (t * p + t ≤ i → P (record { line = last_line t p r; name = numbered 71 i }))
      → P (lantern_row t p q r part i)
  unfolding lantern_row
  row_cases i P lamp tier last =
      cond_both (nat_lt i (t * p)) _ _ P (λ e. lamp (ltb-true _ _ e))
      (λ e. cond_both (nat_lt i (t * p + t)) _ _ P (λ d. tier (ltb-false _ _ e) (ltb-true _ _ d)) (λ d. last (ltb-false _ _ d)))

  pub lamp_row : (i : ℕ) → i < t * p → lantern_row t p q r part i ≡ record { line = line.Part part; name = numbered 76 i }
  lamp_row i h = row_cases i (λ w. w ≡ record { line = line.Part part; name = numbered 76 i }) (λ _. refl) (λ a b. absurd (omega arith)) (λ a. absurd (omega arith))

  pub tier_row : (i : ℕ) → t * p ≤ i → i < t * p + t → lantern_row t p q r part i ≡ record { line = tier_line p q (i - t * p); name = numbered 71 i }
  tier_row i h k = row_cases i (λ w. w ≡ record { line = tier_line p q (i - t * p); name = numbered 71 i }) (λ a. absurd (omega arith)) (λ a b. refl) (λ a. absurd (omega arith))

  pub last_row : (i : ℕ) → t * p + t ≤ i → lantern_row t p q r part i ≡ record { line = last_line t p r; name = numbered 71 i }
  last_row i h = row_cases i (λ w. w ≡ record { line = last_line t p r; name = numbered 71 i }) (λ a. absurd (omega arith)) (λ a b. absurd (omega arith)) (λ a. refl)

  row_name : (i : ℕ) → (c : ℕ) × (name_byte c ≡ true) × ((lantern_row t p q r part i).name ≡ numbered c i)
  row_name i =
      row_cases i (λ w. (c : ℕ) × (name_byte c ≡ true) × (w.name ≡ numbered c i)) (λ _. (76, refl, refl)) (λ _ _. (71, refl, refl)) (λ _. (71, refl, refl))

  row_named : (i : ℕ) → i < 100 → name_ok (lantern_row t p q r part i).name ≡ true
  row_named i h = let n = row_name i in ap name_ok n.2 ∙ numbered_ok n.0 i n.1 h

  rows_apart : (i j : ℕ) → i < j → j < 100 → same_name (lantern_row t p q r part j).name (lantern_row t p q r part i).name ≡ false
  rows_apart i j l h = let n = row_name i in let m = row_name j in ap₂ same_name m.2 n.2 ∙ numbered_apart n.0 m.0 i j n.1 m.1 l h

  row_ruled : Limits t p q r part → (i : ℕ) → line_ok i (lantern_row t p q r part i).line ≡ true
  row_ruled m i =
      row_cases i (λ w. line_ok i w.line ≡ true) (λ _. m.part_keeps)
      (λ a b. run_gate_ok i ((i - t * p) * p) p q (omega (arith, tier_fits t p (i - t * p) (omega arith))) m.q_low m.q_high m.p_high)
      (λ a. run_gate_ok i (t * p) t r a m.r_low m.r_high m.t_high)

  pub lantern_ruled : in_limits t p q r part ≡ true → keeps_rules (lantern_rows t p q r part) ≡ true
  unfolding lantern_rows
  lantern_ruled e =
      let m = limits t p q r part e in
      rules_made (lantern_row t p q r part) (t * p + t + 1) (omega arith) m.few (λ i _. row_ruled m i) (λ i l. row_named i (omega arith)) (λ i j k l. rows_apart i j k (omega arith))
