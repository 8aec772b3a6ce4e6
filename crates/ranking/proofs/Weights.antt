-- What sets weigh: in any order, part by part, and no less than any set within.
use Rattle.std.proofs.Common.{◌≡◌, ℕ, zero, suc, ◌^◌, ◌<◌, ◌≤◌, Bool, true, false, cond, ◌&&◌, List, [], ◌∷◌, length, sym, refl, ap, ◌∙◌, subst, ⊎_elim, arith}
use lib.Bits.{bit_or, bit_xor}
use Rattle.std.proofs.lemmas.Bool.{false≢true, cases_lt}
use Rattle.tree.specs.Holding.{the_line}
use Rattle.tree.specs.Lines.{part_line}
use Rattle.tree.specs.Sets.{has, ◌⊆◌}
use Rattle.tree.specs.declared.line.Part.{Part}
use Rattle.tree.specs.declared.line.Line.{Line}
use Rattle.tree.specs.declared.line.Line.TheVariants as line
use Rattle.tree.specs.declared.line.Row.{Row}
use Rattle.tree.proofs.Holding.{part_in}
use Rattle.tree.proofs.Sets.{differs, same_set, has_none, has_or, has_xor, has_pow, has_one, in_left}
use Rattle.ranking.specs.Models.{Model, Lawful}
use Rattle.ranking.specs.Weights.{times, PartsOfSet, line_weight, weigh_below, weigh, joined}

-- ---- sets

-- what a line more adds
rest_of_more : (s i : ℕ) → has s i ≡ false → bit_xor (bit_or s (2 ^ i)) s ≡ 2 ^ i
rest_of_more s i h = same_set _ _ (λ j. grind (arith, has_xor, has_or, has_pow))

-- a line taken out and put back
back : (s i : ℕ) → has s i ≡ true → bit_or (bit_xor s (2 ^ i)) (2 ^ i) ≡ s
back s i h = same_set _ _ (λ j. grind (arith, has_xor, has_or, has_pow))

-- ---- lists of parts

pub is_part : (l : Line) → part_line l ≡ true → (q : Part) × (l ≡ line.Part q)
is_part (line.Part q) e = (q, refl)
is_part (line.Gate g) e = absurd (false≢true e)

module _ (rows : List Row) (s i : ℕ) (is : List ℕ) (h : PartsOfSet rows s (i ∷ is)) where
  first : (has s i ≡ true) × (part_line (the_line rows i) ≡ true) × (times i is ≡ 0)
  first = grind (arith, h i)

  first_part : (q : Part) × (the_line rows i ≡ line.Part q)
  first_part = is_part (the_line rows i) first.1

  -- the list without its first has the parts of the set without it
  others : PartsOfSet rows (bit_xor s (2 ^ i)) is
  others j = grind (arith, h j, has_xor, has_pow)

-- ---- weights

module _ {W : Type 0} (m : Model W) (p : Lawful m) where
  unit_right : (a : W) → m.join a m.zero ≡ a
  unit_right a = p.commutative a m.zero ∙ p.unit a

  swap : (a b c d : W) → m.join (m.join a b) (m.join c d) ≡ m.join (m.join a c) (m.join b d)
  swap a b c d = cc (p.associative a b (m.join c d), p.associative b c d, p.commutative b c, p.associative c b d, p.associative a c (m.join b d))

  one_line : (t s : Bool) (w : W) → (s ≡ true → t ≡ true) → cond t w m.zero ≡ m.join (cond s w m.zero) (cond (differs t s) w m.zero)
  one_line t s w h = grind (arith, h, unit_right, p.unit)

  module _ (charge_of : Part → ℕ) (rows : List Row) where
    split_below : (s t n : ℕ) → s ⊆ t → weigh_below m charge_of rows t n ≡ m.join (weigh_below m charge_of rows s n) (weigh_below m charge_of rows (bit_xor t s) n)
    unfolding weigh_below
    split_below s t zero h = sym (p.unit m.zero)
    split_below s t (suc n) h =
        let w = line_weight m charge_of (the_line rows n) in
        cc (split_below s t n h, one_line (has t n) (has s n) w (h n), has_xor t s n, swap (weigh_below m charge_of rows s n) (weigh_below m charge_of rows (bit_xor t s) n) (cond (has s n) w m.zero) (cond (has (bit_xor t s) n) w m.zero))

    -- what weighs nothing
    zero_below : (s n : ℕ) → ((i : ℕ) → cond (has s i) (line_weight m charge_of (the_line rows i)) m.zero ≡ m.zero) → weigh_below m charge_of rows s n ≡ m.zero
    unfolding weigh_below
    zero_below s zero h = refl
    zero_below s (suc n) h = cc (zero_below s n h, h n, p.unit m.zero)

    -- one line alone, below it and above it
    before_one : (i n : ℕ) → n ≤ i → weigh_below m charge_of rows (2 ^ i) n ≡ m.zero
    unfolding weigh_below
    before_one i zero h = refl
    before_one i (suc n) h = grind (arith, before_one i n, has_pow, p.unit)

    past_one : (i n : ℕ) → i < n → weigh_below m charge_of rows (2 ^ i) n ≡ line_weight m charge_of (the_line rows i)
    unfolding weigh_below
    past_one i zero h = absurd (omega arith)
    past_one i (suc n) h = ⊎_elim
        (λ lt. grind (arith, past_one i n lt, has_pow i n, unit_right))
        (λ ge. grind (arith, before_one i n ge, has_pow i n, p.unit))
        (cases_lt i n)

    pub weighs_in_two : (s t : ℕ) → s ⊆ t → weigh m charge_of rows t ≡ m.join (weigh m charge_of rows s) (weigh m charge_of rows (bit_xor t s))
    unfolding weigh
    weighs_in_two s t h = split_below s t (length rows) h

    part_alone : (i : ℕ) (part : Part) → the_line rows i ≡ line.Part part → weigh m charge_of rows (2 ^ i) ≡ m.of_part part (charge_of part)
    unfolding weigh
    part_alone i part e = past_one i (length rows) (part_in rows i part e) ∙ ap (line_weight m charge_of) e

    pub one_more : (s i : ℕ) (part : Part) → has s i ≡ false → the_line rows i ≡ line.Part part → weigh m charge_of rows (bit_or s (2 ^ i)) ≡ m.join (weigh m charge_of rows s) (m.of_part part (charge_of part))
    one_more s i part h e =
        cc (weighs_in_two s (bit_or s (2 ^ i)) (in_left s (2 ^ i)), rest_of_more s i h, part_alone i part e)

    -- ---- in any order

    no_part : (h : Bool) (l : Line) → ◌≡◌ {A = ℕ} (cond (h && part_line l) 1 0) 0 → cond h (line_weight m charge_of l) m.zero ≡ m.zero
    no_part h (line.Part q) e = grind (arith, e)
    no_part h (line.Gate g) e = grind arith

    weighs_zero : (s : ℕ) → PartsOfSet rows s [] → weigh m charge_of rows s ≡ m.zero
    unfolding weigh
    weighs_zero s h = zero_below s (length rows) (λ i. no_part (has s i) (the_line rows i) (sym (h i)))

    -- a part taken out, weighed, and joined again
    first_joined : (s i : ℕ) (is : List ℕ) → PartsOfSet rows s (i ∷ is) → weigh m charge_of rows s ≡ m.join (line_weight m charge_of (the_line rows i)) (weigh m charge_of rows (bit_xor s (2 ^ i)))
    first_joined s i is h =
        let there = (first rows s i is h).0 in
        let (q, e) = first_part rows s i is h in
        let rest = bit_xor s (2 ^ i) in
        let more = one_more rest i q (grind (arith, has_xor, has_one)) e in
        cc (back s i there, more, ap (line_weight m charge_of) e, p.commutative (weigh m charge_of rows rest) (line_weight m charge_of (the_line rows i)))

    pub in_any_order : (is : List ℕ) (s : ℕ) → PartsOfSet rows s is → weigh m charge_of rows s ≡ joined m charge_of rows is
    in_any_order [] s h = weighs_zero s h
    in_any_order (i ∷ is) s h = first_joined s i is h ∙ ap (m.join (line_weight m charge_of (the_line rows i))) (in_any_order is (bit_xor s (2 ^ i)) (others rows s i is h))

    pub weighs_none : weigh m charge_of rows 0 ≡ m.zero
    unfolding weigh
    weighs_none = zero_below 0 (length rows) (λ i. ap (λ b. cond b (line_weight m charge_of (the_line rows i)) m.zero) (has_none i))

    pub weighs_no_less : (s t : ℕ) → s ⊆ t → m.le (weigh m charge_of rows s) (weigh m charge_of rows t) ≡ true
    weighs_no_less s t h = subst (λ x. m.le (weigh m charge_of rows s) x ≡ true) (sym (weighs_in_two s t h)) (p.grows _ _)

-- what add_part promises of the weights of sets
pub ruleset set_weights = (weighs_none, in_any_order, one_more, weighs_in_two, weighs_no_less)
