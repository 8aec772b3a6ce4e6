-- Lists and what they hold.
use Rattle.std.proofs.Common.{◌≡◌, ℕ, zero, suc, ◌*◌, ◌≤◌, ◌⊎◌, List, [], ◌∷◌, ◌++◌, map, length, sym, refl, ap, subst, inl, inr, ⊎_elim, arith}
use Rattle.orders.specs.Lists.{In, Each, total}

module _ {E : Type 0} where
  pub each_in : (P : E → Type 0) (xs : List E) → Each P xs → (x : E) → In x xs → P x
  each_in P [] h x m = absurd m
  each_in P (y ∷ ys) h x (inl e) = subst P (sym e) h.0
  each_in P (y ∷ ys) h x (inr m) = each_in P ys h.1 x m

  pub in_each : (P : E → Type 0) (xs : List E) → ((x : E) → In x xs → P x) → Each P xs
  in_each P [] h = tt
  in_each P (y ∷ ys) h = (h y (inl refl), in_each P ys (λ x m. h x (inr m)))

  pub in_front : (x : E) (xs ys : List E) → In x xs → In x (xs ++ ys)
  in_front x [] ys m = absurd m
  in_front x (z ∷ zs) ys (inl e) = inl e
  in_front x (z ∷ zs) ys (inr m) = inr (in_front x zs ys m)

  pub in_back : (x : E) (xs ys : List E) → In x ys → In x (xs ++ ys)
  in_back x [] ys m = m
  in_back x (z ∷ zs) ys m = inr (in_back x zs ys m)

  pub in_append : (x : E) (xs ys : List E) → In x (xs ++ ys) → In x xs ⊎ In x ys
  in_append x [] ys m = inr m
  in_append x (z ∷ zs) ys (inl e) = inl (inl e)
  in_append x (z ∷ zs) ys (inr m) = ⊎_elim (λ a. inl (inr a)) inr (in_append x zs ys m)

  -- what holds of all of a list and of one more after it
  pub in_end : {P : E → Type 0} (xs : List E) (y : E) → ((x : E) → In x xs → P x) → P y → (x : E) → In x (xs ++ (y ∷ [])) → P x
  in_end {P} xs y h p x m = ⊎_elim (h x) (⊎_elim (λ e. subst P (sym e) p) absurd) (in_append x xs (y ∷ []) m)

  pub some_in : (xs : List E) → 1 ≤ length xs → (x : E) × In x xs
  some_in [] h = absurd (omega arith)
  some_in (x ∷ xs) h = (x, inl refl)

  -- at most n items that count at most b each
  pub total_le : (f : E → ℕ) (b n : ℕ) (xs : List E) → ((x : E) → In x xs → f x ≤ b) → length xs ≤ n → total f xs ≤ n * b
  total_le f b n [] h k = omega arith
  total_le f b zero (x ∷ xs) h k = absurd (omega arith)
  total_le f b (suc n) (x ∷ xs) h k = omega (arith, h x (inl refl), total_le f b n xs (λ y m. h y (inr m)) (omega arith))

  -- items that count at least 1 each
  pub length_le : (f : E → ℕ) (xs : List E) → ((x : E) → 1 ≤ f x) → length xs ≤ total f xs
  length_le f [] h = omega arith
  length_le f (x ∷ xs) h = omega (arith, h x, length_le f xs h)

pub in_map : {A B : Type 0} (f : A → B) (y : B) (xs : List A) → In y (map f xs) → (x : A) × In x xs × (y ≡ f x)
in_map f y [] m = absurd m
in_map f y (x ∷ xs) (inl e) = (x, inl refl, e)
in_map f y (x ∷ xs) (inr m) = let (z, h, e) = in_map f y xs m in (z, inr h, e)

pub map_in : {A B : Type 0} (f : A → B) (x : A) (xs : List A) → In x xs → In (f x) (map f xs)
map_in f x [] m = absurd m
map_in f x (y ∷ ys) (inl e) = inl (ap f e)
map_in f x (y ∷ ys) (inr m) = inr (map_in f x ys m)
