-- What was written whole is what is read back, a name that keeps its rules is a text, and the numbers of one line more.
use Rattle.std.proofs.Common.{◌≡◌, ℕ, zero, suc, ◌+◌, ◌-◌, ◌^◌, ◌<◌, ◌≤◌, true, cond, List, [], ◌∷◌, ◌++◌, refl, add-one, length, ap, ◌∙◌, arith}
use Rattle.std.specs.Prelude.{codes}
use Rattle.std.specs.Fmt.{decimal}
use Rattle.std.specs.List.{slice_range}
use Rattle.std.proofs.lemmas.List.{take_at}
use Rattle.tabbed_text.specs.Writing.{Put}
use Rattle.std.specs.Str.{IsUtf8, IsAscii}
use Rattle.std.proofs.lemmas.Str.{IsUtf8-from_ascii}
use Rattle.std.proofs.lemmas.Bool.{and_parts, leb-true}
use Rattle.std.proofs.lemmas.Bool.Decides.{nat_tests}
use Rattle.tree.specs.declared.line.Name.{Name}
use Rattle.tree.specs.Names.{name_byte, name_bytes, spelled, name_ok}
use Rattle.tree.proofs.Spelling.{spelled_well}
use Rattle.tree.specs.Sets.{has}
use Rattle.tree_text.specs.Texts.{numbers_text}
use Rattle.tabbed_text.proofs.Placing.{length_placed, placed_all}

pub written_read : (ys xs zs : List ℕ) (n : ℕ) → Put ys xs 0 zs n → length xs < 2 ^ 63 → n ≤ length zs → slice_range zs 0 n ≡ ys
written_read ys xs zs n p short h =
    let long = ap length p.placed_from_place ∙ length_placed xs 0 ys in
    let is : n ≡ length ys = omega (arith, p.place_moves_on) in
    ap (λ l. slice_range l 0 n) (p.placed_from_place ∙ placed_all xs ys (omega arith)) ∙ take_at ys _ (n - 0) (omega arith)

-- ---- a name that keeps its rules is a text of at most twelve bytes

byte_ascii : (b : ℕ) → name_byte b ≡ true → b < 128
byte_ascii b t = grind (arith, nat_tests)

bytes_ascii : (bs : List ℕ) → name_bytes bs ≡ true → IsAscii bs
bytes_ascii [] t i = omega arith
bytes_ascii (b ∷ bs) t zero = byte_ascii b (and_parts (name_byte b) (name_bytes bs) t).0
bytes_ascii (b ∷ bs) t (suc i) = bytes_ascii bs (and_parts (name_byte b) (name_bytes bs) t).1 i

pub name_utf8 : (n : Name) → name_ok n ≡ true → IsUtf8 (spelled n)
name_utf8 n t = IsUtf8-from_ascii (spelled n) (bytes_ascii (spelled n) (and_parts _ _ (spelled_well n t)).1)

pub name_short : (n : Name) → name_ok n ≡ true → length (spelled n) ≤ 12
name_short n t = leb-true _ 12 (and_parts _ _ (and_parts _ _ (spelled_well n t)).0).1

-- ---- the numbers of a set

pub no_numbers : (s : ℕ) → numbers_text s 0 ≡ []
unfolding numbers_text
no_numbers s = refl

pub more_numbers : (s n : ℕ) → numbers_text s (n + 1) ≡ numbers_text s n ++ cond (has s n) (codes " " ++ decimal n) []
unfolding numbers_text
more_numbers s n = ap (numbers_text s) (add-one n)
