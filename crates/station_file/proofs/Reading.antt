-- What the functions of the reader ask for.
use Rattle.std.proofs.Common.{◌≡◌, ℕ, suc, ◌+◌, min, cond, List, [], ◌∷◌, length, drop, Some, sym, refl, ap, ◌∙◌, add-one, arith}
use Rattle.std.specs.List.{position, position_from}
use Rattle.std.proofs.lemmas.Bool.Decides.{nat_tests}
use Rattle.std.proofs.lemmas.Iterator.Adapters.{position_from-zero}
use Rattle.tabbed_text.specs.Questions.{then}
use Rattle.tree.specs.Names.{same_name}
use Rattle.tree.specs.declared.line.Name.{Name}
use Rattle.tree.specs.declared.line.Row.{Row}
use Rattle.station_file.specs.Letters.{has_count, most_fields}
use Rattle.station_file.specs.Names.{first_named}
use Rattle.station_file.specs.Faults.{up}
use Rattle.station_file.specs.Records.{next_field, none_left, number_field, part_numbers, part_body, gate_of, vote_fields}
use Rattle.station_file.specs.declared.letters.Kind.{Kind}
use Rattle.station_file.specs.declared.letters.Kind.TheVariants.{Part, And, Or, AtLeast, Always, Never}

named_from : (i : ℕ) (rows : List Row) (n : Name) → first_named i rows n ≡ position_from (λ r. same_name r.name n) i rows
named_from i [] n = refl
named_from i (r ∷ rs) n =
    ap (cond (same_name r.name n) (Some i)) (named_from (suc i) rs n ∙ ap (λ j. position_from (λ r. same_name r.name n) j rs) (sym (add-one i)))

pub named_first : (rows : List Row) (n : Name) → first_named 0 rows n ≡ position (λ r. same_name r.name n) rows
named_first rows n = named_from 0 rows n ∙ sym (position_from-zero (λ r. same_name r.name n) rows)

-- the four fields, one after another, none after them, and then their numbers
pub part_in_turn : (line : ℕ) (fs : List (List ℕ)) → part_body line fs ≡
    then (next_field line fs) (λ rarity.
    then (next_field line (drop 1 fs)) (λ class.
    then (next_field line (drop 1 (drop 1 fs))) (λ discount.
    then (next_field line (drop 1 (drop 1 (drop 1 fs)))) (λ price.
    then (none_left line (drop 1 (drop 1 (drop 1 (drop 1 fs))))) (λ _.
    part_numbers line rarity class discount price)))))
part_in_turn line [] = refl
part_in_turn line (r ∷ []) = refl
part_in_turn line (r ∷ (c ∷ [])) = refl
part_in_turn line (r ∷ (c ∷ (d ∷ []))) = refl
part_in_turn line (r ∷ (c ∷ (d ∷ (p ∷ [])))) = refl
part_in_turn line (r ∷ (c ∷ (d ∷ (p ∷ (x ∷ xs))))) = refl

-- the need's field, its number, and then the children
pub vote_in_turn : (line : ℕ) (rows : List Row) (fs : List (List ℕ)) → vote_fields line rows fs ≡
    then (next_field line fs) (λ digits.
    then (up (number_field 1 (length (drop 1 fs)) line 3 digits)) (λ need.
    gate_of line 4 rows need (drop 1 fs)))
vote_in_turn line rows [] = refl
vote_in_turn line rows (n ∷ fs) = refl

-- one field more than a record may have is as wrong as more of them
pub counted_enough : (k : Kind) (n : ℕ) → has_count k (min (most_fields k + 1) n) ≡ has_count k n
counted_enough Part n = grind (arith, nat_tests)
counted_enough And n = grind (arith, nat_tests)
counted_enough Or n = grind (arith, nat_tests)
counted_enough AtLeast n = grind (arith, nat_tests)
counted_enough Always n = grind (arith, nat_tests)
counted_enough Never n = grind (arith, nat_tests)
