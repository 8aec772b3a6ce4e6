-- The order of sets by the lowest line in which two differ.
use Rattle.std.proofs.Common.{◌≡◌, ℕ, zero, suc, ◌/◌, ◌%◌, ◌^◌, ◌<◌, Bool, true, false, not, ◌||◌, eqb, ◌≢◌, ◌⊎◌, sym, refl, ap, ◌∙◌, subst, inl, inr, ⊎_elim, arith}
use lib.Bits.{bit_xor, xor_lt}
use lib.Count.{count_trailing_zeros, under}
use Rattle.std.proofs.lemmas.Bool.{eqb-true, eqb-false, eq-eqb, ne_eqb, both_ways, cases_Bool, cases_order, or_cases, or_left, or_right}
use Rattle.orders.specs.Orders.{Total}
use Rattle.tree.specs.Sets.{has, lowest, set_le, LowestApart, ComesFirst}
use Rattle.tree.proofs.Sets.{differs, has_zero, has_suc, has_none, has_xor, same_set}

-- ---- the lowest line of a set

lt_pow : (n : ℕ) → n < 2 ^ n
lt_pow zero = omega arith
lt_pow (suc n) = omega (arith, lt_pow n)

pub low_there : (k x : ℕ) → x ≢ 0 → x < 2 ^ k → has x (count_trailing_zeros k x) ≡ true
unfolding count_trailing_zeros
low_there zero x n h = absurd (omega arith)
low_there (suc k) x n h = go (x % 2) refl (low_there k (x / 2))
  where
    go : (d : ℕ) → x % 2 ≡ d → (x / 2 ≢ 0 → x / 2 < 2 ^ k → has (x / 2) (count_trailing_zeros k (x / 2)) ≡ true) → has x (under d (count_trailing_zeros k (x / 2))) ≡ true
    go zero e ih = has_suc x (count_trailing_zeros k (x / 2)) ∙ ih (omega arith) (omega arith)
    go (suc d) e ih = has_zero x ∙ eq-eqb (x % 2) 1 (omega arith)

pub low_none : (k x j : ℕ) → j < count_trailing_zeros k x → has x j ≡ false
unfolding count_trailing_zeros
low_none zero x j h = absurd (omega arith)
low_none (suc k) x j h = go (x % 2) j refl (low_none k (x / 2)) h
  where
    go : (d j : ℕ) → x % 2 ≡ d → ((i : ℕ) → i < count_trailing_zeros k (x / 2) → has (x / 2) i ≡ false) → j < under d (count_trailing_zeros k (x / 2)) → has x j ≡ false
    go zero zero e ih h = has_zero x ∙ ne_eqb (x % 2) 1 (omega arith)
    go zero (suc j) e ih h = has_suc x j ∙ ih j (omega arith)
    go (suc d) j e ih h = absurd (omega arith)

-- ---- the lowest line in which two sets differ

-- s has the lowest line in which the two differ
pub record Leads (s t : ℕ) : Type 0 where
  pub line : ℕ
  pub there : has s line ≡ true
  pub absent : has t line ≡ false
  pub same : (j : ℕ) → j < line → has s j ≡ has t j

alike : (a b : Bool) → differs a b ≡ false → a ≡ b
alike true true e = refl
alike true false e = e
alike false b e = sym e

unlike : (a b : Bool) → differs a b ≡ true → a ≡ true → b ≡ false
unlike true true e h = sym e
unlike true false e h = refl
unlike false b e h = absurd (both_ways false refl h)

other : (a b : Bool) → differs a b ≡ true → a ≡ false → b ≡ true
other true b e h = absurd (both_ways true h refl)
other false b e h = e

not_differing : (a b : Bool) → differs a b ≡ true → a ≡ b → ⊥
not_differing true b e h = both_ways (not b) (ap not (sym h)) e
not_differing false b e h = both_ways b (sym h) e

module _ (s t : ℕ) where
  place : ℕ
  place = lowest (bit_xor s t)

  at_place : s ≢ t → differs (has s place) (has t place) ≡ true
  unfolding place lowest
  at_place n =
      sym (has_xor s t place)
      ∙ low_there (bit_xor s t) (bit_xor s t) (λ z. n (same_set s t (λ i. alike (has s i) (has t i) (sym (has_xor s t i) ∙ ap (λ x. has x i) z ∙ has_none i)))) (lt_pow _)

  under_place : (j : ℕ) → j < place → has s j ≡ has t j
  unfolding place lowest
  under_place j h = alike (has s j) (has t j) (sym (has_xor s t j) ∙ low_none (bit_xor s t) (bit_xor s t) j h)

  le_leads : set_le s t ≡ true → (s ≡ t) ⊎ Leads s t
  unfolding place set_le
  le_leads e = go (cases_Bool (eqb s t))
    where
      go : (eqb s t ≡ true) ⊎ (eqb s t ≡ false) → (s ≡ t) ⊎ Leads s t
      go (inl p) = inl (eqb-true s t p)
      go (inr p) =
          let there : has s place ≡ true = ⊎_elim (λ q. absurd (both_ways (eqb s t) p q)) (λ q. q) (or_cases (eqb s t) (has s place) e) in
          inr (record { line = place; there = there; absent = unlike (has s place) (has t place) (at_place (eqb-false s t p)) there; same = under_place })

  leads_ne : Leads s t → s ≢ t
  leads_ne l p = both_ways (has t l.line) l.absent (subst (λ x. has x l.line ≡ true) p l.there)

  leads_le : Leads s t → set_le s t ≡ true
  unfolding place set_le
  leads_le l = or_right (eqb s t) (has s place) (subst (λ i. has s i ≡ true) (sym is) l.there)
    where
      is : place ≡ l.line
      is =
          ⊎_elim (λ e. e)
          (⊎_elim (λ h. absurd (not_differing (has s place) (has t place) (at_place (leads_ne l)) (l.same place h))) (λ h. absurd (both_ways (has t l.line) l.absent (sym (under_place l.line h) ∙ l.there))))
          (cases_order place l.line)

split : (s t : ℕ) → (s ≡ t) ⊎ (Leads s t ⊎ Leads t s)
unfolding place
split s t = go (cases_Bool (eqb s t))
  where
    go : (eqb s t ≡ true) ⊎ (eqb s t ≡ false) → (s ≡ t) ⊎ (Leads s t ⊎ Leads t s)
    go (inl p) = inl (eqb-true s t p)
    go (inr p) =
        let n = eqb-false s t p in
        inr (⊎_elim (λ q. inl (record { line = place s t; there = q; absent = unlike _ _ (at_place s t n) q; same = under_place s t }))
        (λ q. inr (record { line = place s t; there = other _ _ (at_place s t n) q; absent = q; same = λ j h. sym (under_place s t j h) })) (cases_Bool (has s (place s t))))

leads_not : (s t : ℕ) → Leads s t → Leads t s → ⊥
leads_not s t l m =
    ⊎_elim (λ e. both_ways (has s m.line) m.absent (subst (λ i. has s i ≡ true) e l.there))
    (⊎_elim (λ h. both_ways (has t l.line) l.absent (m.same l.line h ∙ l.there)) (λ h. both_ways (has s m.line) m.absent (l.same m.line h ∙ m.there)))
    (cases_order l.line m.line)

leads_trans : (s t u : ℕ) → Leads s t → Leads t u → Leads s u
leads_trans s t u l m =
    ⊎_elim (λ e. absurd (both_ways (has t l.line) l.absent (subst (λ i. has t i ≡ true) (sym e) m.there)))
    (⊎_elim (λ h. record { line = l.line; there = l.there; absent = sym (m.same l.line h) ∙ l.absent; same = λ j k. l.same j k ∙ m.same j (omega arith) })
    (λ h. record { line = m.line; there = l.same m.line h ∙ m.there; absent = m.absent; same = λ j k. l.same j (omega arith) ∙ m.same j k }))
    (cases_order l.line m.line)

pub set_le_refl : (s t : ℕ) → s ≡ t → set_le s t ≡ true
unfolding set_le
set_le_refl s t e = or_left (eqb s t) _ (eq-eqb s t e)

pub set_order : Total set_le
set_order =
    record {
      ranked =
          record {
            total = λ s t. ⊎_elim (λ e. inl (set_le_refl s t e)) (⊎_elim (λ l. inl (leads_le s t l)) (λ l. inr (leads_le t s l))) (split s t);
            transitive = λ s t u h k.
                ⊎_elim (λ e. subst (λ x. set_le x u ≡ true) (sym e) k) (λ l. ⊎_elim (λ e. subst (λ x. set_le s x ≡ true) e h) (λ m. leads_le s u (leads_trans s t u l m)) (le_leads t u k)) (le_leads s t h);
          };
      antisymmetric = λ s t h k. ⊎_elim (λ e. e) (λ l. ⊎_elim (λ e. sym e) (λ m. absurd (leads_not s t l m)) (le_leads t s k)) (le_leads s t h);
    }

-- ---- what the order says of the members

line_apart : (s t : ℕ) → s ≢ t → LowestApart s t (lowest (bit_xor s t))
unfolding place
line_apart s t n = record { apart = not_differing _ _ (at_place s t n); same_below = under_place s t }

pub le_decides : (s t : ℕ) → ComesFirst s t (set_le s t)
unfolding set_le
le_decides s t =
    record {
      same = set_le_refl s t;
      apart = λ n. (lowest (bit_xor s t), line_apart s t n, ap (λ b. b || has s (lowest (bit_xor s t))) (ne_eqb s t n));
    }

-- ---- at a width

not_none : (s t : ℕ) → s ≢ t → bit_xor s t ≢ 0
not_none s t n z = n (same_set s t (λ i. alike (has s i) (has t i) (sym (has_xor s t i) ∙ ap (λ x. has x i) z ∙ has_none i)))

-- the lowest line, by the trailing zeros of a word
lowest_word : (k x : ℕ) → x ≢ 0 → x < 2 ^ k → lowest x ≡ count_trailing_zeros k x
unfolding lowest
lowest_word k x n h =
    ⊎_elim (λ e. e) (⊎_elim (λ l. absurd (both_ways _ (low_none k x _ l) (low_there x x n (lt_pow x)))) (λ l. absurd (both_ways _ (low_none x x _ l) (low_there k x n h))))
    (cases_order (count_trailing_zeros x x) (count_trailing_zeros k x))

-- the lowest line in which two words differ, by the trailing zeros of their exclusive or
pub apart_word : (k s t : ℕ) → s < 2 ^ k → t < 2 ^ k → s ≢ t → count_trailing_zeros k (bit_xor s t) ≡ lowest (bit_xor s t)
apart_word k s t h l n = sym (lowest_word k (bit_xor s t) (not_none s t n) (xor_lt k s t h l))

pub le_by_line : (s t i : ℕ) → s ≢ t → i ≡ lowest (bit_xor s t) → has s i ≡ set_le s t
unfolding set_le
le_by_line s t i n e = ap (has s) e ∙ sym (ap (λ b. b || has s (lowest (bit_xor s t))) (ne_eqb s t n))

-- ---- at the machine's width

pub same_first : (a b : ℕ) → a ≡ b → eqb a b ≡ set_le a b
same_first a b e = eq-eqb a b e ∙ sym (set_le_refl a b e)

pub lowest_apart : (a b : ℕ) → a < 18446744073709551616 → b < 18446744073709551616 → a ≢ b → has a (count_trailing_zeros 64 (bit_xor a b)) ≡ set_le a b
lowest_apart a b h k n = le_by_line a b _ n (apart_word 64 a b h k n)
