-- What one fixing does to holding: a line holds for a set as it did before for the set with the fixed part in it, if it
-- is fixed as failed, and without it, if as sound.
use Rattle.std.proofs.Common.{◌≡◌, ℕ, zero, suc, ◌^◌, Bool, true, false, cond, ◌&&◌, List, [], ◌∷◌, length, sym, refl, ap, ◌∙◌, subst, ⊎_elim, arith}
use lib.Bits.{bit_and, bit_or}
use lib.Count.{ones}
use Rattle.std.proofs.lemmas.Bool.{both_ways, cases_eq, le-leb, lt-leb, ne_eqb}
use Rattle.tree.specs.Holding.{the_line, told, holds_by, line_holds, holding}
use Rattle.tree.specs.Lines.{line_at, part_line}
use Rattle.tree.specs.Sets.{has}
use Rattle.tree.specs.declared.line.Line.{Line}
use Rattle.tree.specs.declared.line.Line.TheVariants.{Part, Gate}
use Rattle.tree.specs.declared.line.Row.{Row}
use Rattle.tree.proofs.Sets.{differs, has_and, has_xor, has_one, has_pow, ones_none}
use Rattle.kinds.specs.Fixings.{childless, fixed_line, is_part, relined, fixed_rows, in_state}
use Rattle.kinds.specs.declared.fixing.State.{State}
use Rattle.kinds.specs.declared.fixing.State.TheVariants.{Failed, Sound}
use Rattle.kinds.proofs.Fixes.{more_same, more_other, fixed_there}

-- ---- a set with one line less

less : (s i j : ℕ) → has (in_state Sound i s) j ≡ differs (has s j) (has s j && has (2 ^ i) j)
less s i j = has_xor s (bit_and s (2 ^ i)) j ∙ ap (differs (has s j)) (has_and s (2 ^ i) j)

less_same : (s i : ℕ) → has (in_state Sound i s) i ≡ false
less_same s i = grind (arith, less s i i, has_one i)

less_other : (s i j : ℕ) → (j ≡ i → ⊥) → has (in_state Sound i s) j ≡ has s j
less_other s i j ne = grind (arith, less s i j, has_pow i j, ne_eqb j i ne)

-- ---- another line i

length_relined : (rows : List Row) (i : ℕ) (l : Line) → length (relined rows i l) ≡ length rows
length_relined [] i l = refl
length_relined (r ∷ rs) zero l = refl
length_relined (r ∷ rs) (suc i) l = ap suc (length_relined rs i l)

there : (rows : List Row) (i : ℕ) → is_part (line_at rows i) ≡ true → part_line (the_line rows i) ≡ true
there [] i p = absurd (both_ways false refl p)
there (r ∷ rs) zero p = p
there (r ∷ rs) (suc i) p = there rs i p

relined_here : (rows : List Row) (i : ℕ) (l : Line) → is_part (line_at rows i) ≡ true → the_line (relined rows i l) i ≡ l
relined_here [] i l p = absurd (both_ways false refl p)
relined_here (r ∷ rs) zero l p = refl
relined_here (r ∷ rs) (suc i) l p = relined_here rs i l p

relined_other : (rows : List Row) (i : ℕ) (l : Line) (j : ℕ) → (j ≡ i → ⊥) → the_line (relined rows i l) j ≡ the_line rows j
relined_other [] i l j ne = refl
relined_other (r ∷ rs) zero l zero ne = absurd (ne refl)
relined_other (r ∷ rs) zero l (suc j) ne = refl
relined_other (r ∷ rs) (suc i) l zero ne = refl
relined_other (r ∷ rs) (suc i) l (suc j) ne = relined_other rs i l j (λ e. ne (ap suc e))

-- ---- the walk up the lines

told_same : (f g : ℕ → ℕ → Bool) → ((i below : ℕ) → f i below ≡ g i below) → (n : ℕ) → told f n ≡ told g n
unfolding told
told_same f g h zero = refl
told_same f g h (suc n) =
    ap (λ x. bit_or x (cond (f n x) (2 ^ n) 0)) (told_same f g h n) ∙ ap (λ b. bit_or (told g n) (cond b (2 ^ n) 0)) (h n (told g n))

part_by : (l : Line) (s i below : ℕ) → part_line l ≡ true → holds_by l s i below ≡ has s i
part_by (Part p) s i below e = refl
part_by (Gate g) s i below e = absurd (both_ways false refl e)

same_by : (l : Line) (s u i below : ℕ) → has s i ≡ has u i → holds_by l s i below ≡ holds_by l u i below
same_by (Part p) s u i below e = e
same_by (Gate g) s u i below e = refl

module _ (rows : List Row) (i : ℕ) (part : is_part (line_at rows i) ≡ true) (l : Line) (s u : ℕ)
    (here : (below : ℕ) → holds_by l s i below ≡ has u i)
    (others : (j : ℕ) → (j ≡ i → ⊥) → has s j ≡ has u j) where
  at_line : (below : ℕ) → line_holds (relined rows i l) s i below ≡ line_holds rows u i below
  at_line below =
      ap (λ x. holds_by x s i below) (relined_here rows i l part) ∙ here below ∙ sym (part_by (the_line rows i) u i below (there rows i part))

  at_each : (j below : ℕ) → line_holds (relined rows i l) s j below ≡ line_holds rows u j below
  at_each j below =
      ⊎_elim
      (λ e. subst (λ k. line_holds (relined rows i l) s k below ≡ line_holds rows u k below) (sym e) (at_line below))
      (λ ne. ap (λ x. holds_by x s j below) (relined_other rows i l j ne) ∙ same_by (the_line rows j) s u j below (others j ne))
      (cases_eq j i)

  relined_holding : holding (relined rows i l) s ≡ holding rows u
  unfolding holding
  relined_holding =
      ap (told (line_holds (relined rows i l) s)) (length_relined rows i l) ∙ told_same (line_holds (relined rows i l) s) (line_holds rows u) at_each (length rows)

state_holding : (rows : List Row) (i : ℕ) (state : State) → is_part (line_at rows i) ≡ true → (s : ℕ) → holding (relined rows i (fixed_line state)) s ≡ holding rows (in_state state i s)
state_holding rows i Failed part s =
    relined_holding rows i part (childless 0) s (in_state Failed i s)
    (λ below. le-leb 0 (ones (bit_and 0 below)) (omega arith) ∙ sym (more_same s i))
    (λ j ne. sym (more_other s i j ne))
state_holding rows i Sound part s =
    relined_holding rows i part (childless 1) s (in_state Sound i s)
    (λ below. lt-leb 1 (ones 0) (omega (arith, ones_none)) ∙ sym (less_same s i))
    (λ j ne. sym (less_other s i j ne))

pub fixed_holding : (rows : List Row) (i : ℕ) (state : State) → is_part (line_at rows i) ≡ true → (after : List Row) → after ≡ fixed_rows rows i state → (s : ℕ) → holding after s ≡ holding rows (in_state state i s)
fixed_holding rows i state part after e s = ap (λ t. holding t s) (e ∙ fixed_there rows i state part) ∙ state_holding rows i state part s
