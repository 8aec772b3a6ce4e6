-- A set that is told line by line from below has line i exactly when it was told so.
use Rattle.std.proofs.Common.{◌≡◌, ℕ, zero, suc, ◌^◌, ◌<◌, Bool, true, false, cond, leb, ◌⊎◌, sym, refl, ◌∙◌, subst, inl, inr, ⊎_elim, arith}
use Rattle.std.proofs.lemmas.Bool.{leb-true, leb-false, both_ways, cases_Bool}
use Rattle.tree.specs.Holding.{told}
use Rattle.tree.specs.Sets.{has, ◌⊆◌, Below}
use Rattle.tree.proofs.Sets.{same_test, has_none, has_one, only_one, or_in, in_left, in_right}

pub bit_in : (b : Bool) (n i : ℕ) → has (cond b (2 ^ n) 0) i ≡ true → (b ≡ true) × (i ≡ n)
bit_in true n i e = (refl, only_one n i e)
bit_in false n i e = absurd (both_ways _ (has_none i) e)

pub told_below : (f : ℕ → ℕ → Bool) (n : ℕ) → Below n (told f n)
unfolding told
told_below f zero i e = absurd (both_ways _ (has_none i) e)
told_below f (suc n) i e = ⊎_elim (λ h. let x = told_below f n i h in omega arith) (λ h. let x = (bit_in (f n (told f n)) n i h).1 in omega arith) (or_in _ _ i e)

told_step : (f : ℕ → ℕ → Bool) (n i : ℕ) → i < n → has (told f (suc n)) i ≡ has (told f n) i
unfolding told
told_step f n i h =
    same_test _ _ (λ e. ⊎_elim (λ k. k) (λ k. let x = (bit_in (f n (told f n)) n i k).1 in absurd (omega arith)) (or_in _ _ i e)) (λ e. in_left _ _ i e)

told_last : (f : ℕ → ℕ → Bool) (n : ℕ) → has (told f (suc n)) n ≡ f n (told f n)
unfolding told
told_last f n =
    same_test _ _ (λ e. ⊎_elim (λ k. let x = told_below f n n k in absurd (omega arith)) (λ k. (bit_in (f n (told f n)) n n k).0) (or_in _ _ n e))
    (λ e. in_right (told f n) _ n (subst (λ b. has (cond b (2 ^ n) 0) n ≡ true) (sym e) (has_one n)))

pub told_is : (f : ℕ → ℕ → Bool) (n i : ℕ) → i < n → has (told f n) i ≡ f i (told f i)
told_is f zero i h = absurd (omega arith)
told_is f (suc n) i h = go (cases_Bool (leb (suc i) n)) (told_is f n i)
  where
    go : (leb (suc i) n ≡ true) ⊎ (leb (suc i) n ≡ false) → (i < n → has (told f n) i ≡ f i (told f i)) → has (told f (suc n)) i ≡ f i (told f i)
    go (inl e) ih = let k = leb-true (suc i) n e in told_step f n i k ∙ ih k
    go (inr e) ih = let k = leb-false (suc i) n e in let is : n ≡ i = omega arith in subst (λ m. has (told f (suc m)) i ≡ f i (told f i)) (sym is) (told_last f i)

pub told_mono : (f g : ℕ → ℕ → Bool) → ((i a b : ℕ) → a ⊆ b → f i a ≡ true → g i b ≡ true) → (n : ℕ) → told f n ⊆ told g n
unfolding told
told_mono f g h zero i e = e
told_mono f g h (suc n) i e =
    ⊎_elim (λ k. in_left (told g n) _ i (told_mono f g h n i k))
    (λ k.
    let (t, is) = bit_in (f n (told f n)) n i k in
    in_right (told g n) _ i (subst (λ b. has (cond b (2 ^ n) 0) i ≡ true) (sym (h n (told f n) (told g n) (told_mono f g h n) t)) (subst (λ j. has (2 ^ n) j ≡ true) (sym is) (has_one n))))
    (or_in _ _ i e)
