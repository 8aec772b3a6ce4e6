-- The rows of a lantern by their numbers, and when its top holds.
use Rattle.std.proofs.Common.{◌≡◌, ℕ, zero, suc, ◌+◌, ◌-◌, ◌*◌, ◌%◌, ◌^◌, ◌<◌, ◌≤◌, true, leb, List, map, length, Some, None, ap, ◌∙◌, zero-add, arith, shl_exact}
use lib.Pow.{ones_lt}
use Rattle.std.specs.List.{range_with_len, slice_get}
use Rattle.std.proofs.lemmas.List.FromFn.{length-map-range_with_len, get_or-map-range_with_len}
use Rattle.std.proofs.lemmas.Nat.{one_shl}
use Rattle.std.proofs.lemmas.Option.{slice_get-get_or, slice_get_past}
use native.Mathlib.Nat.{add-sub_cancel_left}
use Rattle.tree.specs.Holding.{the_line, holding, holds, HoldingLaws}
use Rattle.tree.specs.Sets.{has}
use Rattle.tree.specs.declared.line.Part.{Part}
use Rattle.tree.specs.declared.line.Row.{Row}
use Rattle.tree.proofs.Holding.{holding_laws}
use Rattle.kinds.specs.Lanterns.{run, tier_line, in_limits, lantern_row, lantern_rows, dark_tier, dark_tiers}
use Rattle.kinds.specs.LanternLimits.{tier_fits}
use Rattle.kinds.specs.LanternRows.{lamp_row, tier_row, last_row, lantern_ruled}
use Rattle.kinds.specs.Runs.{same_many, run_meets}

-- ---- rows made from their numbers

module _ (f : ℕ → Row) where
  pub nth_made : (n i : ℕ) → i < n → slice_get (map f (range_with_len 0 n)) i ≡ Some (f i)
  nth_made n i h =
      slice_get-get_or (map f (range_with_len 0 n)) i (f 0) (omega (arith, length-map-range_with_len f 0 n))
      ∙ ap Some (get_or-map-range_with_len f 0 n i i (f 0) h (zero-add i))

  pub nth_unmade : (n i : ℕ) → n ≤ i → slice_get (map f (range_with_len 0 n)) i ≡ None
  nth_unmade n i h = slice_get_past (map f (range_with_len 0 n)) i (omega (arith, length-map-range_with_len f 0 n))

  pub line_made : (a n i j : ℕ) → i < n → a + i ≡ j → the_line (map f (range_with_len a n)) i ≡ (f j).line
  line_made a zero i j h e = absurd (omega arith)
  line_made a (suc n) zero j h e = ap (λ k. (f k).line) (let x : a ≡ j = omega arith in x)
  line_made a (suc n) (suc i) j h e = line_made (a + 1) n i j (omega arith) (omega arith)

-- ---- the rows of a lantern

module _ (t p q r : ℕ) (part : Part) where
  pub lantern_length : length (lantern_rows t p q r part) ≡ t * p + t + 1
  unfolding lantern_rows
  lantern_length = length-map-range_with_len (lantern_row t p q r part) 0 (t * p + t + 1)

  pub lantern_nth : (i : ℕ) → i < t * p + t + 1 → slice_get (lantern_rows t p q r part) i ≡ Some (lantern_row t p q r part i)
  unfolding lantern_rows
  lantern_nth i h = nth_made (lantern_row t p q r part) (t * p + t + 1) i h

  pub lantern_past : (i : ℕ) → t * p + t + 1 ≤ i → slice_get (lantern_rows t p q r part) i ≡ None
  unfolding lantern_rows
  lantern_past i h = nth_unmade (lantern_row t p q r part) (t * p + t + 1) i h

  pub lantern_the_line : (i : ℕ) → i < t * p + t + 1 → the_line (lantern_rows t p q r part) i ≡ (lantern_row t p q r part i).line
  unfolding lantern_rows
  lantern_the_line i h = line_made (lantern_row t p q r part) 0 (t * p + t + 1) i i h (zero-add i)

-- a run of lines, as the machine shifts
pub shifted : (i n : ℕ) → i + n < 64 → (((1 * 2 ^ n) % 2 ^ 64 - 1) * 2 ^ i) % 2 ^ 64 ≡ run i n
shifted i n h = ap (λ w. ((w - 1) * 2 ^ i) % 2 ^ 64) (one_shl n 64 (omega arith)) ∙ shl_exact {a = 2 ^ n - 1} n i 64 (ones_lt n) (omega arith)

module _ (t p q r : ℕ) (part : Part) (e : in_limits t p q r part ≡ true) (s : ℕ) where
  rows : List Row
  rows = lantern_rows t p q r part

  laws : HoldingLaws rows
  unfolding rows
  laws = holding_laws rows (lantern_ruled t p q r part e)

  lamp_holds : (i : ℕ) → i < t * p → holds rows s i ≡ has s i
  unfolding rows
  lamp_holds i h = laws.part i part s (lantern_the_line t p q r part i (omega arith) ∙ ap (λ (w : Row). w.line) (lamp_row t p q r part i h))

  tier_holds : (a : ℕ) → a < t → holds rows s (t * p + a) ≡ dark_tier p q s a
  unfolding rows
  tier_holds a h =
      laws.gate (t * p + a) (record { children = run (a * p) p; need = q }) s
      (lantern_the_line t p q r part (t * p + a) (omega arith) ∙ ap (λ (w : Row). w.line) (tier_row t p q r part (t * p + a) (omega arith) (omega arith)) ∙ ap (λ k. tier_line p q k) (add-sub_cancel_left (t * p) a))
      ∙ ap (λ n. leb q n) (run_meets (a * p) p (holding rows s) ∙ same_many p _ _ (λ b l. lamp_holds (a * p + b) (omega (arith, tier_fits t p a h))))

  pub top_holds : holds (lantern_rows t p q r part) s (t * p + t) ≡ leb r (dark_tiers t p q s)
  unfolding rows dark_tiers
  top_holds =
      laws.gate (t * p + t) (record { children = run (t * p) t; need = r }) s
      (lantern_the_line t p q r part (t * p + t) (omega arith) ∙ ap (λ (w : Row). w.line) (last_row t p q r part (t * p + t) (omega arith)))
      ∙ ap (λ n. leb r n) (run_meets (t * p) t (holding rows s) ∙ same_many t _ _ tier_holds)
