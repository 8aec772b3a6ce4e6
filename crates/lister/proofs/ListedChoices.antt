-- The choices of a set, by its highest line: first those that leave it out, then those that have it.
use Rattle.std.proofs.Common.{◌≡◌, ℕ, zero, suc, ◌+◌, ◌-◌, ◌^◌, ◌<◌, ◌≤◌, false, cond, [], ◌∷◌, ◌++◌, map, length, drop, get_or, sym, refl, ap, ◌∙◌, subst, ap₂, ⊎_elim, arith, drop-cons, add-one}
use lib.Bits.{bit_or, bit_xor, or_zero_l, or_zero_r}
use lib.Count.{ones}
use Rattle.std.proofs.lemmas.Bool.{both_ways, lt-ltb, cases_lt}
use Rattle.std.proofs.lemmas.Nat.{xor_lt}
use Rattle.std.proofs.lemmas.List.{append-nil, length-drop, drop_all, get_or_append_left, get_or-append-add, get_or-map}
use Rattle.std.proofs.Math.Pow.{pow-lt}
use Rattle.tree.specs.Sets.{has, alone, Below, Highest}
use Rattle.tree.proofs.Holding.{lt_below}
use Rattle.tree.proofs.Sets.{no_test, same_set, has_xor, has_or, has_pow, without, one_more, ones_none, has_le, below_lt}
use Rattle.choices.specs.Counts.{binom, choices}
use Rattle.choices.proofs.Choosing.{number}
use Rattle.lister.specs.WordChoices.{choices_in}

-- ---- how many

pascal : (m q : ℕ) → binom (suc m) (suc q) ≡ binom m q + binom m (suc q)
unfolding binom
pascal m q = refl

no_choice : (q : ℕ) → binom 0 (suc q) ≡ 0
unfolding binom
no_choice q = refl

-- ---- only the lines below n count

same_below : (s t n q : ℕ) → ((i : ℕ) → i < n → has s i ≡ has t i) → choices s n q ≡ choices t n q
same_below s t zero zero h = refl
same_below s t zero (suc q) h = refl
same_below s t (suc n) zero h = same_below s t n zero (λ i l. h i (omega arith))
same_below s t (suc n) (suc q) h =
    let less : (i : ℕ) → i < n → has s i ≡ has t i = λ i l. h i (omega arith) in
    cc (same_below s t n (suc q) less, same_below s t n q less, h n (omega arith))

up_to : (s n w q : ℕ) → n ≤ w → Below n s → choices s w q ≡ choices s n q
up_to s n zero q l h = let e : 0 ≡ n = omega arith in ap (λ k. choices s k q) e
up_to s n (suc w) q l h = ⊎_elim (λ lt. go q (up_to s n w q (omega arith) h) (no_test (has s w) (λ x. let y = h w x in omega arith))) (λ ge. let e : suc w ≡ n = omega arith in ap (λ k. choices s k q) e) (cases_lt n (suc w))
  where
    go : (q : ℕ) → choices s w q ≡ choices s n q → has s w ≡ false → choices s (suc w) q ≡ choices s n q
    go zero e f = e
    go (suc q) e f = cc (append-nil (choices s w (suc q)), e, f)

none_of : (s n : ℕ) → choices s n 0 ≡ 0 ∷ []
none_of s zero = refl
none_of s (suc n) = none_of s n

in_word : (s : ℕ) → s < 18446744073709551616 → Below 64 s
in_word = lt_below 64

pub choices_word : (s n q : ℕ) → s < 18446744073709551616 → Below n s → choices_in s q ≡ choices s n q
unfolding choices_in
choices_word s n q w h = ⊎_elim (λ l. up_to s n 64 q (omega arith) h) (λ l. sym (up_to s 64 n q l (in_word s w))) (cases_lt n 64)

pub number_word : (s q : ℕ) → s < 18446744073709551616 → length (choices_in s q) ≡ binom (ones s) q
unfolding choices_in
number_word s q w = number (ones s) q s 64 (in_word s w) refl

none_needed : (s : ℕ) → choices_in s 0 ≡ 0 ∷ []
unfolding choices_in
none_needed s = none_of s 64

-- ---- by the highest line

module _ (s g : ℕ) (w : s < 18446744073709551616) (top : Highest s g) where
  low : g < 64
  low = in_word s w g top.there

  pub alone_is : alone g ≡ 2 ^ g
  alone_is = ap (λ b. cond b (2 ^ g) 0) (lt-ltb g 64 low)

  abbrev pub others : ℕ
  others = bit_xor s (2 ^ g)

  below : Below (suc g) s
  below i e = ⊎_elim (λ l. l) (λ l. absurd (both_ways _ (top.none_above i (omega arith)) e)) (cases_lt i (suc g))

  others_below : Below g others
  others_below i e = let (h, n) = without s g i e top.there in let l = below i h in omega arith

  others_small : others < 18446744073709551616
  others_small = let l = low in let p : 2 ^ g < 2 ^ 64 = pow-lt {i = g} {j = 64} l in xor_lt 64 s (2 ^ g) w p

  pub one_fewer : suc (ones others) ≡ ones s
  one_fewer =
      let back : bit_or others (2 ^ g) ≡ s = same_set _ _ (λ j. grind (arith, has_xor, has_or, has_pow, top.there)) in
      sym (one_more others g (no_test _ (λ e. (without s g g e top.there).1 refl))) ∙ ap ones back

  pub by_highest : (q : ℕ) → choices_in s (suc q) ≡ choices_in others (suc q) ++ map (λ c. bit_or c (2 ^ g)) (choices_in others q)
  by_highest q =
      let same : (i : ℕ) → i < g → has s i ≡ has others i = λ i l. grind (arith, has_xor, has_pow) in
      cc (choices_word s (suc g) (suc q) w below, top.there, same_below s others g (suc q) same, same_below s others g q same, choices_word others g (suc q) others_small others_below, choices_word others g q others_small others_below)

-- ---- the choice at a place, found from the highest line down

-- The choice at place k₀ of q₀ lines of s₀ is c with the one at place k of q lines of s.
pub record Sought (s₀ q₀ k₀ s q k c : ℕ) : Type 0 where
  pub few : ones s ≤ 12
  pub needed : q ≤ 12
  pub there : k < binom (ones s) q
  pub is : get_or (choices_in s₀ q₀) k₀ 0 ≡ bit_or c (get_or (choices_in s q) k 0)

pub begun : (s q k : ℕ) → ones s ≤ 12 → q ≤ 12 → k < binom (ones s) q → Sought s q k s q k 0
begun s q k few needed there = record { few = few; needed = needed; there = there; is = sym (or_zero_l _) }

module _ (s g a : ℕ) (w : s < 18446744073709551616) (top : Highest s g) (e : a ≡ alone g) where
  abbrev r : ℕ
  r = bit_xor s a

  others_is : r ≡ others s g w top
  others_is = ap (bit_xor s) (e ∙ alone_is s g w top)

  pub fewer : suc (ones r) ≡ ones s
  fewer = ap (λ x. suc (ones x)) others_is ∙ one_fewer s g w top

  pub less : r < s
  less = let a = below_lt g r (subst (λ x. Below g x) (sym others_is) (others_below s g w top)) in let b = has_le g s top.there in omega arith

  less_word : r < 18446744073709551616
  less_word = let a = less in omega arith

  second : (p n : ℕ) → n < binom (ones r) p → get_or (choices_in s (suc p)) (binom (ones r) (suc p) + n) 0 ≡ bit_or (get_or (choices_in r p) n 0) (2 ^ g)
  second p n l =
      ap₂ (λ xs m. get_or xs (m + n) 0) (by_highest s g w top p ∙ ap (λ x. choices_in x (suc p) ++ map (λ c. bit_or c (2 ^ g)) (choices_in x p)) (sym others_is)) (sym (number_word r (suc p) less_word))
      ∙ get_or-append-add (choices_in r (suc p)) _ n 0
      ∙ get_or-map (λ c. bit_or c (2 ^ g)) (choices_in r p) n 0 0 (let m = number_word r p less_word in omega arith)

  module _ (s₀ q₀ k₀ q k c : ℕ) (f : Sought s₀ q₀ k₀ s q k c) where
    pub left_out : k < binom (ones r) q → Sought s₀ q₀ k₀ r q k c
    left_out l = let n = fewer in record { few = let a = f.few in omega arith; needed = f.needed; there = l; is = f.is ∙ ap (bit_or c) (first q l) }
      where
        first : (q : ℕ) → k < binom (ones r) q → get_or (choices_in s q) k 0 ≡ get_or (choices_in r q) k 0
        first zero l = ap (λ xs. get_or xs k 0) (none_needed s ∙ sym (none_needed r))
        first (suc q) l =
            ap (λ xs. get_or xs k 0) (by_highest s g w top q ∙ ap (λ x. choices_in x (suc q) ++ map (λ c. bit_or c (2 ^ g)) (choices_in x q)) (sym others_is))
            ∙ get_or_append_left (choices_in r (suc q)) _ 0 k (let n = number_word r (suc q) less_word in omega arith)

    pub some_needed : binom (ones r) q ≤ k → 1 ≤ q
    unfolding binom
    some_needed l = go q f.there l
      where
        go : (q : ℕ) → k < binom (ones s) q → binom (ones r) q ≤ k → 1 ≤ q
        go zero h l = absurd (omega arith)
        go (suc q) h l = omega arith

    pub put_in : binom (ones r) q ≤ k → Sought s₀ q₀ k₀ r (q - 1) (k - binom (ones r) q) (bit_or c a)
    put_in l =
        let one = some_needed l in
        let m = fewer in
        let p = q - 1 in
        let e : suc p ≡ q = omega arith in
        let room : k - binom (ones r) q < binom (ones r) p = go p (ap (binom (suc (ones r))) e) (ap (binom (ones r)) e) (subst (λ x. k < binom x q) (sym m) f.there) in
        record {
          few = let a = f.few in omega arith;
          needed = let a = f.needed in omega arith;
          there = room;
          is = f.is ∙ ap (bit_or c) (at p e room) ∙ moved (get_or (choices_in r p) (k - binom (ones r) q) 0);
        }
      where
        go : (p : ℕ) → binom (suc (ones r)) (suc p) ≡ binom (suc (ones r)) q → binom (ones r) (suc p) ≡ binom (ones r) q → k < binom (suc (ones r)) q → k - binom (ones r) q < binom (ones r) p
        go p d e h = let x = pascal (ones r) p in omega arith

        at : (p : ℕ) → suc p ≡ q → k - binom (ones r) q < binom (ones r) p → get_or (choices_in s q) k 0 ≡ bit_or (get_or (choices_in r p) (k - binom (ones r) q) 0) (2 ^ g)
        at p e h =
            let back : binom (ones r) q + (k - binom (ones r) q) ≡ k = omega arith in
            subst (λ i. get_or (choices_in s q) i 0 ≡ bit_or (get_or (choices_in r p) (k - binom (ones r) q) 0) (2 ^ g)) back
            (subst (λ i. get_or (choices_in s i) (binom (ones r) i + (k - binom (ones r) q)) 0 ≡ bit_or (get_or (choices_in r p) (k - binom (ones r) q) 0) (2 ^ g)) e (second p (k - binom (ones r) q) h))

        moved : (x : ℕ) → bit_or c (bit_or x (2 ^ g)) ≡ bit_or (bit_or c a) x
        moved x = ap (λ y. bit_or c (bit_or x y)) (sym (e ∙ alone_is s g w top)) ∙ same_set _ _ (λ j. grind (arith, has_or))

pub found : (s₀ q₀ k₀ s q k c : ℕ) → s ≡ 0 → Sought s₀ q₀ k₀ s q k c → c ≡ get_or (choices_in s₀ q₀) k₀ 0
found s₀ q₀ k₀ s q k c e f = sym (f.is ∙ ap (bit_or c) (none q k (subst (λ x. k < binom x q) (ap ones e ∙ ones_none) f.there)) ∙ or_zero_r c)
  where
    none : (q k : ℕ) → k < binom 0 q → get_or (choices_in s q) k 0 ≡ 0
    none zero k l = ap (λ xs. get_or xs k 0) (none_needed s) ∙ at_first k l
      where
        at_first : (k : ℕ) → k < binom 0 zero → get_or {A = ℕ} (0 ∷ []) k 0 ≡ 0
        at_first zero h = refl
        at_first (suc k) h = refl
    none (suc q) k l = absurd (omega (arith, no_choice q))

-- ---- the choices that are left

pub none_left : (s q k : ℕ) → s < 18446744073709551616 → binom (ones s) q ≤ k → drop k (choices_in s q) ≡ []
none_left s q k w h = drop_all k (choices_in s q) (let n = number_word s q w in omega arith)

pub next_left : (s q k c : ℕ) → s < 18446744073709551616 → k < binom (ones s) q → c ≡ get_or (choices_in s q) k 0 → drop k (choices_in s q) ≡ c ∷ drop (k + 1) (choices_in s q)
next_left s q k c w h e =
    drop-cons (choices_in s q) k 0 (let n = number_word s q w in omega arith)
    ∙ ap₂ (λ x j. x ∷ drop j (choices_in s q)) (sym e) (sym (add-one k))

pub number_left : (s q k : ℕ) → s < 18446744073709551616 → length (drop k (choices_in s q)) ≡ binom (ones s) q - k
number_left s q k w = length-drop k (choices_in s q) ∙ ap (λ n. n - k) (number_word s q w)
