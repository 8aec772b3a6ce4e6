-- What is read from a station file keeps the rules of tree lines.
use Rattle.std.proofs.Common.{◌≡◌, ℕ, suc, ◌+◌, ◌-◌, ◌^◌, ◌<◌, ◌≤◌, true, false, not, ◌&&◌, eqb, leb, List, [], ◌∷◌, ◌++◌, map, length, get_or, drop, is_some, Some, None, Ok, Err, decimal, Option, Result, sym, refl, ap, ◌∙◌, subst, ⊎_elim, zero-add, arith, length-append}
use lib.Bits.{bit_or}
use lib.Count.{ones}
use lib.ListN.{length-map}
use Rattle.std.proofs.lemmas.Bool.{and_parts, and_from, or_parts, or_from, cond_both, leb-false, not_from_false, not-true, both_ways}
use Rattle.std.proofs.lemmas.Bool.Decides.{nat_tests}
use Rattle.std.proofs.lemmas.List.{map_push}
use Rattle.std.specs.List.{onto_first}
use Rattle.tree.specs.Names.{same_name, name_ok, name_of, well_named}
use Rattle.tree.specs.Sets.{has, Below}
use Rattle.tree.specs.Rules.{line_ok, lines_ok, among, names_ok, names_of, keeps_rules}
use Rattle.tree.specs.declared.line.Line.{Line}
use Rattle.tree.specs.declared.line.Line.TheVariants as a_line
use Rattle.tree.specs.declared.line.Name.{Name}
use Rattle.tree.specs.declared.line.Row.{Row}
use Rattle.tree.proofs.Sets.{has_none, only_one, or_in, one_more, ones_none, below_lt}
use Rattle.tree.proofs.Spelling.{same_sym, name_spelled_ok}
use Rattle.tabbed_text.specs.Fields.{pieces, ended, lines_of}
use Rattle.tabbed_text.specs.Questions.{then}
use Rattle.tabbed_text.proofs.Chains.{refused, went, ok_some, cond_some, not_refused, allowed}
use Rattle.tabbed_text.proofs.Numerals.{number_written}
use Rattle.station_file.specs.Faults.{up}
use Rattle.station_file.specs.Names.{name_from, first_named, line_named}
use Rattle.station_file.specs.Records.{kind_field, name_field, new_name, number_field, child_field, children, gate, counted, part_numbers, part_body, all_body, any_body, vote_fields, vote_body, bare_body, body, row_of, record_of}
use Rattle.station_file.specs.Files.{read_rows, read_file}
use Rattle.station_file.specs.declared.faults.FieldFault.{FieldFault}
use Rattle.station_file.specs.declared.faults.StationFault.{StationFault}
use Rattle.station_file.specs.declared.letters.Kind.{Kind}
use Rattle.station_file.specs.declared.letters.Kind.TheVariants.{Part, And, Or, AtLeast, Always, Never}

-- an answer that the station layer passes on was one of the field layer
pub up_ok : {A : Type 0} (r : Result A FieldFault) (a : A) → up r ≡ Ok a → r ≡ Ok a
up_ok (Ok x) a e = let p : x ≡ a = cc in ap Ok p
up_ok (Err x) a e = refused _ a (Err x ≡ Ok a) e

-- ---- parts

-- a number that is read was written, and is within its limits
pub number_says : (low high line field : ℕ) (bs : List ℕ) (n : ℕ) → high < 2 ^ 64 → up (number_field low high line field bs) ≡ Ok n → (bs ≡ decimal n) × (low ≤ n) × (n ≤ high)
number_says low high line field bs n small e = number_written low high bs n small (ok_some _ _ n (up_ok (number_field low high line field bs) n e))

part_numbers_ok : (line : ℕ) (r c d p : List ℕ) (l : Line) (i : ℕ) → part_numbers line r c d p ≡ Ok l → line_ok i l ≡ true
part_numbers_ok line r c d p l i e =
    let w₁ = went (up (number_field 0 60000 line 3 r)) _ l e in
    let w₂ = went (up (number_field 0 9 line 4 c)) _ l w₁.next in
    let w₃ = went (up (number_field 0 1000 line 5 d)) _ l w₂.next in
    let w₄ = went (up (number_field 0 10000000 line 6 p)) _ l w₃.next in
    let is : a_line.Part (record { rarity = w₁.first; class = w₂.first; discount = w₃.first; price = w₄.first }) ≡ l = cc w₄.next in
    let rarity = (number_says 0 60000 line 3 r w₁.first (omega arith) w₁.was).2 in
    let class = (number_says 0 9 line 4 c w₂.first (omega arith) w₂.was).2 in
    let discount = (number_says 0 1000 line 5 d w₃.first (omega arith) w₃.was).2 in
    let price = (number_says 0 10000000 line 6 p w₄.first (omega arith) w₄.was).2 in
    subst (λ x. line_ok i x ≡ true) is (grind (arith, nat_tests, rarity, class, discount, price))

part_body_ok : (line : ℕ) (fs : List (List ℕ)) (l : Line) (i : ℕ) → part_body line fs ≡ Ok l → line_ok i l ≡ true
part_body_ok line [] l i e = refused _ l _ e
part_body_ok line (r ∷ []) l i e = refused _ l _ e
part_body_ok line (r ∷ (c ∷ [])) l i e = refused _ l _ e
part_body_ok line (r ∷ (c ∷ (d ∷ []))) l i e = refused _ l _ e
part_body_ok line (r ∷ (c ∷ (d ∷ (p ∷ [])))) l i e = part_numbers_ok line r c d p l i e
part_body_ok line (r ∷ (c ∷ (d ∷ (p ∷ (x ∷ xs))))) l i e = refused _ l _ e

-- ---- children

first_low : (j : ℕ) (rows : List Row) (n : Name) (i : ℕ) → first_named j rows n ≡ Some i → i < j + length rows
first_low j [] n i e = cc
first_low j (r ∷ rs) n i e =
    cond_both (same_name r.name n) (Some j) (first_named (suc j) rs n) (λ o. o ≡ Some i → i < j + suc (length rs))
    (λ _ f. let p : j ≡ i = cc in omega arith) (λ _ f. omega (arith, first_low (suc j) rs n i f)) e

line_low : (rows : List Row) (o : Option Name) (i : ℕ) → line_named rows o ≡ Some i → i < length rows
line_low rows None i e = cc
line_low rows (Some n) i e = omega (arith, first_low 0 rows n i e)

pub child_is : (line field set : ℕ) (o : Option ℕ) (i : ℕ) → child_field line field set o ≡ Ok i → (o ≡ Some i) × (has set i ≡ false)
child_is line field set None i e = refused _ i _ e
child_is line field set (Some j) i e =
    let p = not_refused (has set j) _ (Ok j) i e in
    let q : j ≡ i = cc p.1 in
    (ap Some q, subst (λ k. has set k ≡ false) q p.0)

-- the children that were named are lines above, besides those of before, and as many as their fields
pub gathered : (line field : ℕ) (rows : List Row) (set : ℕ) (fs : List (List ℕ)) (out : ℕ) → Below (length rows) set
    → children line field rows set fs ≡ Ok out → Below (length rows) out × (ones out ≡ ones set + length fs)
gathered line field rows set [] out low e =
    let is : set ≡ out = cc in
    subst (λ o. Below (length rows) o × (ones o ≡ ones set + 0)) is (low, omega arith)
gathered line field rows set (f ∷ fs) out low e =
    let w = went (child_field line field set (line_named rows (name_from f))) _ out e in
    let c = child_is line field set (line_named rows (name_from f)) w.first w.was in
    let lt = line_low rows (name_from f) w.first c.0 in
    let more : Below (length rows) (bit_or set (2 ^ w.first)) = λ i h.
    ⊎_elim (λ p. low i p) (λ p. let q = only_one w.first i p in omega arith) (or_in set (2 ^ w.first) i h) in
    let k = gathered line (suc field) rows (bit_or set (2 ^ w.first)) fs out more w.next in
    (k.0, omega (arith, k.1, one_more set w.first c.1))

-- ---- gates

-- the empty set has no line
pub none_in : (P : Type 0) (i : ℕ) → has 0 i ≡ true → P
none_in P i h = absurd (both_ways (has 0 i) (has_none i) h)

pub gate_kept : (i set need : ℕ) → Below i set → ones set ≤ 12 → 1 ≤ need → need ≤ ones set → line_ok i (gate set need) ≡ true
gate_kept i set need low few some high =
    let ne : set ≡ 0 → ⊥ = λ z. omega (arith, ap ones z, ones_none) in
    let below = below_lt i set low in
    grind (arith, nat_tests)

empty_kept : (i need : ℕ) → need ≤ 1 → line_ok i (gate 0 need) ≡ true
empty_kept i need low =
    let below = below_lt i 0 (λ k h. none_in (k < i) k h) in
    let none = ones_none in
    grind (arith, nat_tests)

-- a gate whose need is 1 to the number of its children
children_kept : (line field need : ℕ) (rows : List Row) (fs : List (List ℕ)) (l : Line)
    → then (children line field rows 0 fs) (λ set. Ok (gate set need)) ≡ Ok l → length fs ≤ 12 → 1 ≤ need → need ≤ length fs → line_ok (length rows) l ≡ true
children_kept line field need rows fs l e few some high =
    let w = went (children line field rows 0 fs) _ l e in
    let k = gathered line field rows 0 fs w.first (λ i h. none_in (i < length rows) i h) w.was in
    let is : gate w.first need ≡ l = cc w.next in
    let count : ones w.first ≡ length fs = omega (arith, k.1, ones_none) in
    subst (λ x. line_ok (length rows) x ≡ true) is (gate_kept (length rows) w.first need k.0 (omega arith) some (omega arith))

pub counted_ok : (low high line : ℕ) (fs : List (List ℕ)) (k : Result Line StationFault) (l : Line) → counted low high line fs k ≡ Ok l
    → (low ≤ length fs) × (length fs ≤ high) × (k ≡ Ok l)
counted_ok low high line fs k l e =
    let p = allowed (leb low (length fs) && leb (length fs) high) _ k l e in
    (grind (arith, nat_tests), grind (arith, nat_tests), p.1)

all_body_ok : (line : ℕ) (rows : List Row) (fs : List (List ℕ)) (l : Line) → all_body line rows fs ≡ Ok l → line_ok (length rows) l ≡ true
all_body_ok line rows fs l e =
    let p = counted_ok 1 12 line fs _ l e in
    children_kept line 3 (length fs) rows fs l p.2 p.1 p.0 (omega arith)

any_body_ok : (line : ℕ) (rows : List Row) (fs : List (List ℕ)) (l : Line) → any_body line rows fs ≡ Ok l → line_ok (length rows) l ≡ true
any_body_ok line rows fs l e =
    let p = counted_ok 1 12 line fs _ l e in
    children_kept line 3 1 rows fs l p.2 p.1 (omega arith) p.0

vote_fields_ok : (line : ℕ) (rows : List Row) (fs : List (List ℕ)) (l : Line) → length fs ≤ 13 → vote_fields line rows fs ≡ Ok l → line_ok (length rows) l ≡ true
vote_fields_ok line rows [] l few e = refused _ l _ e
vote_fields_ok line rows (n ∷ fs) l few e =
    let w = went (up (number_field 1 (length fs) line 3 n)) _ l e in
    let p = number_says 1 (length fs) line 3 n w.first (omega arith) w.was in
    children_kept line 4 w.first rows fs l w.next (omega arith) p.1 p.2

vote_body_ok : (line : ℕ) (rows : List Row) (fs : List (List ℕ)) (l : Line) → vote_body line rows fs ≡ Ok l → line_ok (length rows) l ≡ true
vote_body_ok line rows fs l e = let p = counted_ok 2 13 line fs _ l e in vote_fields_ok line rows fs l p.1 p.2

bare_body_ok : (line need : ℕ) (fs : List (List ℕ)) (l : Line) (i : ℕ) → need ≤ 1 → bare_body line need fs ≡ Ok l → line_ok i l ≡ true
bare_body_ok line need [] l i low e = let is : gate 0 need ≡ l = cc in subst (λ x. line_ok i x ≡ true) is (empty_kept i need low)
bare_body_ok line need (f ∷ fs) l i low e = refused _ l _ e

body_ok : (line : ℕ) (rows : List Row) (kind : Kind) (fs : List (List ℕ)) (l : Line) → body line rows kind fs ≡ Ok l → line_ok (length rows) l ≡ true
body_ok line rows Part fs l e = part_body_ok line fs l (length rows) e
body_ok line rows And fs l e = all_body_ok line rows fs l e
body_ok line rows Or fs l e = any_body_ok line rows fs l e
body_ok line rows AtLeast fs l e = vote_body_ok line rows fs l e
body_ok line rows Always fs l e = bare_body_ok line 0 fs l (length rows) (omega arith) e
body_ok line rows Never fs l e = bare_body_ok line 1 fs l (length rows) (omega arith) e

-- ---- names

-- a name that no row has is not among their names
first_none : (i : ℕ) (rows : List Row) (n : Name) → is_some (first_named i rows n) ≡ false → among n (names_of rows) ≡ false
first_none i [] n e = refl
first_none i (r ∷ rs) n e =
    cond_both (same_name r.name n) (Some i) (first_named (suc i) rs n) (λ o. is_some o ≡ false → among n (names_of (r ∷ rs)) ≡ false)
    (λ s f. absurd (both_ways true f refl)) (λ s f. or_from _ _ s (first_none (suc i) rs n f)) e

among_push : (m n : Name) (ns : List Name) → among m ns ≡ false → same_name n m ≡ false → among m (ns ++ (n ∷ [])) ≡ false
among_push m n [] e s = or_from _ _ s refl
among_push m n (x ∷ xs) e s = let p = or_parts (same_name x m) (among m xs) e in or_from _ _ p.0 (among_push m n xs p.1 s)

names_push : (ns : List Name) (n : Name) → names_ok ns ≡ true → name_ok n ≡ true → among n ns ≡ false → names_ok (ns ++ (n ∷ [])) ≡ true
names_push [] n e ok new = and_from _ _ (and_from _ _ ok refl) refl
names_push (m ∷ ms) n e ok new =
    let p = and_parts (name_ok m && not (among m ms)) (names_ok ms) e in
    let q = and_parts (name_ok m) (not (among m ms)) p.0 in
    let o = or_parts (same_name m n) (among n ms) new in
    let u : among m ms ≡ false = not-true (among m ms) q.1 in
    and_from _ _ (and_from _ _ q.0 (not_from_false (among m (ms ++ (n ∷ []))) (among_push m n ms u (same_sym m n o.0)))) (names_push ms n p.1 ok o.1)

name_field_ok : (line : ℕ) (bs : List ℕ) (n : Name) → up (name_field line bs) ≡ Ok n → name_ok n ≡ true
name_field_ok line bs n e =
    let s = ok_some (name_from bs) _ n (up_ok (name_field line bs) n e) in
    let p = cond_some (well_named bs) (name_of bs) n s in
    subst (λ x. name_ok x ≡ true) p.1 (name_spelled_ok bs p.0)

-- ---- rows

lines_push : (i : ℕ) (rows : List Row) (r : Row) → lines_ok i rows ≡ true → line_ok (i + length rows) r.line ≡ true → lines_ok i (rows ++ (r ∷ [])) ≡ true
lines_push i [] r e ok = and_from _ _ (let z : i + 0 ≡ i = omega arith in subst (λ k. line_ok k r.line ≡ true) z ok) refl
lines_push i (x ∷ xs) r e ok =
    let p = and_parts (line_ok i x.line) (lines_ok (suc i) xs) e in
    let z : i + suc (length xs) ≡ suc i + length xs = omega arith in
    and_from _ _ p.0 (lines_push (suc i) xs r p.1 (subst (λ k. line_ok k r.line ≡ true) z ok))

-- the rules but for the number of lines
abbrev pub SoFar : List Row → Type 0
SoFar rows = (lines_ok 0 rows ≡ true) × (names_ok (names_of rows) ≡ true)

row_more : (rows : List Row) (r : Row) → SoFar rows → line_ok (length rows) r.line ≡ true → name_ok r.name ≡ true → among r.name (names_of rows) ≡ false
    → SoFar (rows ++ (r ∷ []))
row_more rows r so kept ok new = (
  lines_push 0 rows r so.0 (subst (λ k. line_ok k r.line ≡ true) (sym (zero-add (length rows))) kept),
  ap names_ok (map_push (λ r. r.name) rows r) ∙ names_push (names_of rows) r.name so.1 ok new,
)

row_ok : (line : ℕ) (rows : List Row) (first : List ℕ) (others : List (List ℕ)) (r : Row) → SoFar rows → row_of line rows first others ≡ Ok r → SoFar (rows ++ (r ∷ []))
row_ok line rows first others r so e =
    let w₁ = went (kind_field line others) _ r e in
    let w₂ = went (up (name_field line first)) _ r w₁.next in
    let w₃ = went (new_name line rows w₂.first) _ r w₂.next in
    let w₄ = went (body line rows w₁.first (drop 1 others)) _ r w₃.next in
    let fresh = not_refused (is_some (first_named 0 rows w₂.first)) _ (Ok w₂.first) w₃.first w₃.was in
    let same : w₂.first ≡ w₃.first = cc fresh.1 in
    let is : record { line = w₄.first; name = w₃.first } ≡ r = cc w₄.next in
    let ok = subst (λ n. name_ok n ≡ true) same (name_field_ok line first w₂.first w₂.was) in
    let new = subst (λ n. among n (names_of rows) ≡ false) same (first_none 0 rows w₂.first fresh.0) in
    let kept = body_ok line rows w₁.first (drop 1 others) w₄.first w₄.was in
    subst (λ y. SoFar (rows ++ (y ∷ []))) is (row_more rows (record { line = w₄.first; name = w₃.first }) so kept ok new)

record_ok : (line : ℕ) (rows : List Row) (fs : List (List ℕ)) (r : Row) → SoFar rows → record_of line rows fs ≡ Ok r → SoFar (rows ++ (r ∷ []))
record_ok line rows [] r so e = refused _ r _ e
record_ok line rows (f ∷ fs) r so e = row_ok line rows f fs r so e

rows_ok : (rows : List Row) (ls : List (List (List ℕ))) (out : List Row) → SoFar rows → length rows ≤ 64 → read_rows rows ls ≡ Ok out
    → SoFar out × (length rows + length ls ≤ length out) × (length out ≤ 64)
rows_ok rows [] out so few e =
    let is : rows ≡ out = cc in
    subst (λ o. SoFar o × (length rows + 0 ≤ length o) × (length o ≤ 64)) is (so, omega arith, few)
rows_ok rows (fs ∷ ls) out so few e =
    let p = not_refused (leb 64 (length rows)) _ _ out e in
    let w = went (record_of (suc (length rows)) rows fs) _ out p.1 in
    let n = length-append rows (w.first ∷ []) in
    let k = rows_ok (rows ++ (w.first ∷ [])) ls out (record_ok (suc (length rows)) rows fs w.first so w.was) (omega (arith, leb-false 64 (length rows) p.0)) w.next in
    (k.0, omega (arith, k.1), k.2)

-- ---- the file

onto_some : (b : ℕ) (ps : List (List ℕ)) → 0 < length (onto_first b ps)
onto_some b [] = omega arith
onto_some b (p ∷ ps) = omega arith

lines_some : (bs : List ℕ) → 0 < length bs → 0 < length (lines_of bs)
lines_some [] some = let z : ⊥ = omega arith in absurd z
lines_some (b ∷ bs) some =
    cond_both (eqb b 10) ([] ∷ ended 10 bs) (onto_first b (ended 10 bs)) (λ ps. 0 < length (map (pieces 9) ps))
    (λ _. omega arith) (λ _. omega (arith, length-map (onto_first b (ended 10 bs)) (pieces 9), onto_some b (ended 10 bs)))

-- a file that is read has 1 to 16,384 bytes, the last is 10, and its lines are read
pub file_lines : (bs : List ℕ) (out : List Row) → read_file bs ≡ Ok out
    → (0 < length bs) × (length bs ≤ 16384) × (get_or bs (length bs - 1) 0 ≡ 10) × (read_rows [] (lines_of bs) ≡ Ok out)
file_lines bs out e =
    let p = allowed (leb 1 (length bs) && leb (length bs) 16384) _ _ out e in
    let r = allowed (eqb (get_or bs (length bs - 1) 0) 10) _ _ out p.1 in
    (grind (arith, nat_tests), grind (arith, nat_tests), grind (arith, nat_tests), r.1)

pub file_keeps : (bs : List ℕ) (out : List Row) → read_file bs ≡ Ok out → keeps_rules out ≡ true
file_keeps bs out e =
    let f = file_lines bs out e in
    let k = rows_ok [] (lines_of bs) out (refl, refl) (omega arith) f.3 in
    let some = lines_some bs f.0 in
    grind (arith, nat_tests)
