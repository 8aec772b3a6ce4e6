-- A file that describes a tree that keeps the rules, within the size limit, is read, and the tree read is the one that it
-- describes.
use Rattle.std.proofs.Common.{◌≡◌, ℕ, zero, suc, ◌+◌, ◌-◌, ◌^◌, ◌<◌, ◌≤◌, true, false, cond, not, ◌&&◌, eqb, leb, List, [], ◌∷◌, ◌++◌, map, length, get_or, is_some, Some, None, Ok, Err, decimal, sym, refl, ap, ◌∙◌, subst, ⊎_elim, append_assoc, append-nil, add-zero, zero-add, arith, length-append}
use lib.Bits.{bit_or}
use lib.Count.{ones}
use lib.ListN.{length-map}
use Rattle.std.specs.List.{All}
use Rattle.std.specs.Option.{ok_or}
use Rattle.std.proofs.lemmas.List.Elements.{All-nil, All-cons, All-head, All-tail, All-map, All-contains, Contains-get_or}
use Rattle.std.proofs.lemmas.List.{get_or_at, get_or-append-add}
use Rattle.std.proofs.lemmas.Bool.Decides.{nat_tests}
use Rattle.std.proofs.lemmas.Bool.{and_parts, and_from, or_parts, or_from, both_ways, cond-true, cond-false, le-leb, lt-leb, leb-true, eq-eqb, ne_eqb, not-true, cases_lt}
use Rattle.tree.specs.Names.{name_bytes, same_name, name_ok, name_of, well_named, spelled}
use Rattle.tree.specs.Sets.{has, ◌⊆◌}
use Rattle.tree.specs.Rules.{part_ok, line_ok, lines_ok, among, names_ok, names_of, keeps_rules}
use Rattle.tree.specs.declared.line.Part.{Part}
use Rattle.tree.specs.declared.line.Line.TheVariants as a_line
use Rattle.tree.specs.declared.line.Name.{Name}
use Rattle.tree.specs.declared.line.Row.{Row}
use Rattle.tree.proofs.Sets.{has_none, has_one, has_or, has_pow, only_one, or_in, in_left, in_right, same_lines, ones_none, has_past}
use Rattle.tree.proofs.Spelling.{same_refl, same_sym, name_of_spelled, spelled_well, name_unparted}
use Rattle.tabbed_text.specs.Fields.{separates, lines_of, tabbed}
use Rattle.tabbed_text.specs.Questions.{then}
use Rattle.tabbed_text.proofs.Chains.{goes}
use Rattle.tabbed_text.proofs.Splitting.{Inner, inner_cons, four_inner, lines_cons}
use Rattle.tabbed_text.proofs.Numerals.{written_number, decimal_unparted}
use Rattle.station_file.specs.Descriptions.{spelled_at, Lists, part_fields, Says, DescribesAfter, Describes}
use Rattle.station_file.specs.Descriptions.Says.{part, all_of, any_of, vote_of, always, never}
use Rattle.station_file.specs.Faults.{field_fault, station_fault, up}
use Rattle.station_file.specs.Letters.{kind_of}
use Rattle.station_file.specs.Names.{name_from, first_named, line_named}
use Rattle.station_file.specs.Records.{name_field, new_name, number_field, child_field, children, gate, body, record_of}
use Rattle.station_file.specs.Files.{read_rows, read_file}
use Rattle.station_file.specs.declared.faults.FieldCause.TheVariants.{NotName, NotNumber}
use Rattle.station_file.specs.declared.faults.StationCause.TheVariants.{Letter, NameTaken}
use Rattle.station_file.specs.declared.letters.Kind.{Kind}
use Rattle.station_file.specs.declared.letters.Kind.TheVariants as a_kind
use Rattle.station_file.proofs.Keeping.{none_in, gathered}

-- ---- the rules of a line after those above

line_there : (i : ℕ) (above : List Row) (r : Row) (rs : List Row) → lines_ok i (above ++ (r ∷ rs)) ≡ true → line_ok (i + length above) r.line ≡ true
line_there i [] r rs e = subst (λ k. line_ok k r.line ≡ true) (sym (add-zero i)) (and_parts (line_ok i r.line) (lines_ok (suc i) rs) e).0
line_there i (x ∷ xs) r rs e =
    let z : suc i + length xs ≡ i + suc (length xs) = omega arith in
    subst (λ k. line_ok k r.line ≡ true) z (line_there (suc i) xs r rs (and_parts (line_ok i x.line) (lines_ok (suc i) (xs ++ (r ∷ rs))) e).1)

names_parts : (n : Name) (ns : List Name) → names_ok (n ∷ ns) ≡ true → (name_ok n ≡ true) × (among n ns ≡ false) × (names_ok ns ≡ true)
names_parts n ns e =
    let p = and_parts (name_ok n && not (among n ns)) (names_ok ns) e in
    let q = and_parts (name_ok n) (not (among n ns)) p.0 in
    (q.0, not-true (among n ns) q.1, p.1)

name_there : (above : List Row) (r : Row) (rs : List Row) → names_ok (names_of (above ++ (r ∷ rs))) ≡ true → name_ok r.name ≡ true
name_there [] r rs e = (names_parts r.name (names_of rs) e).0
name_there (x ∷ xs) r rs e = name_there xs r rs (names_parts x.name (names_of (xs ++ (r ∷ rs))) e).2

among_other : (n : Name) (xs : List Row) (r : Row) (rs : List Row) → among n (names_of (xs ++ (r ∷ rs))) ≡ false → same_name r.name n ≡ false
among_other n [] r rs e = (or_parts (same_name r.name n) (among n (names_of rs)) e).0
among_other n (x ∷ xs) r rs e = among_other n xs r rs (or_parts (same_name x.name n) (among n (names_of (xs ++ (r ∷ rs)))) e).1

name_new : (i : ℕ) (above : List Row) (r : Row) (rs : List Row) → names_ok (names_of (above ++ (r ∷ rs))) ≡ true → first_named i above r.name ≡ None
name_new i [] r rs e = refl
name_new i (x ∷ xs) r rs e =
    let p = names_parts x.name (names_of (xs ++ (r ∷ rs))) e in
    cond-false (same_name x.name r.name) (Some i) (first_named (suc i) xs r.name) (same_sym r.name x.name (among_other x.name xs r rs p.1))
    ∙ name_new (suc i) xs r rs p.2

among_above : (n : Name) (xs ys : List Row) → among n (names_of (xs ++ ys)) ≡ false → among n (names_of xs) ≡ false
among_above n [] ys e = refl
among_above n (x ∷ xs) ys e =
    let p = or_parts (same_name x.name n) (among n (names_of (xs ++ ys))) e in
    or_from _ _ p.0 (among_above n xs ys p.1)

names_above : (xs ys : List Row) → names_ok (names_of (xs ++ ys)) ≡ true → names_ok (names_of xs) ≡ true
names_above [] ys e = refl
names_above (x ∷ xs) ys e =
    let p = names_parts x.name (names_of (xs ++ ys)) e in
    let o = ap not (among_above x.name xs ys p.1) in
    and_from _ _ (and_from _ _ p.0 o) (names_above xs ys p.2)

-- ---- finding a line by its name

well_at : (rows : List Row) (i : ℕ) → i < length rows → names_ok (names_of rows) ≡ true → well_named (spelled_at rows i) ≡ true
well_at [] i lt ok = let z : ⊥ = omega arith in absurd z
well_at (r ∷ rs) zero lt ok = spelled_well r.name (names_parts r.name (names_of rs) ok).0
well_at (r ∷ rs) (suc i) lt ok = well_at rs i (omega arith) (names_parts r.name (names_of rs) ok).2

other_name : (n : Name) (rows : List Row) (i : ℕ) → i < length rows → names_ok (names_of rows) ≡ true → among n (names_of rows) ≡ false → same_name n (name_of (spelled_at rows i)) ≡ false
other_name n [] i lt ok e = let z : ⊥ = omega arith in absurd z
other_name n (r ∷ rs) zero lt ok e =
    ap (same_name n) (name_of_spelled r.name (names_parts r.name (names_of rs) ok).0)
    ∙ same_sym r.name n (or_parts (same_name r.name n) (among n (names_of rs)) e).0
other_name n (r ∷ rs) (suc i) lt ok e =
    other_name n rs i (omega arith) (names_parts r.name (names_of rs) ok).2 (or_parts (same_name r.name n) (among n (names_of rs)) e).1

first_found : (j : ℕ) (rows : List Row) (i : ℕ) → i < length rows → names_ok (names_of rows) ≡ true → first_named j rows (name_of (spelled_at rows i)) ≡ Some (j + i)
first_found j [] i lt ok = let z : ⊥ = omega arith in absurd z
first_found j (r ∷ rs) zero lt ok =
    let is = name_of_spelled r.name (names_parts r.name (names_of rs) ok).0 in
    cond-true (same_name r.name (name_of (spelled r.name))) (Some j) _ (ap (same_name r.name) is ∙ same_refl r.name)
    ∙ ap Some (sym (add-zero j))
first_found j (r ∷ rs) (suc i) lt ok =
    let p = names_parts r.name (names_of rs) ok in
    let z : suc j + i ≡ j + suc i = omega arith in
    cond-false (same_name r.name (name_of (spelled_at rs i))) (Some j) _ (other_name r.name rs i (omega arith) p.2 p.1)
    ∙ first_found (suc j) rs i (omega arith) p.2 ∙ ap Some z

-- names differ, so the first line that has the name of line i is line i
pub line_found : (rows : List Row) (i : ℕ) → i < length rows → names_ok (names_of rows) ≡ true → line_named rows (name_from (spelled_at rows i)) ≡ Some i
line_found rows i lt ok =
    ap (line_named rows) (cond-true (well_named (spelled_at rows i)) (Some (name_of (spelled_at rows i))) None (well_at rows i lt ok))
    ∙ first_found 0 rows i lt ok ∙ ap Some (zero-add i)

-- ---- gathering children

-- the names of lines, each in a field
abbrev fields_at : List Row → List ℕ → List (List ℕ)
fields_at above cs = map (spelled_at above) cs

-- the set with the lines of the list besides
abbrev gathering : ℕ → List ℕ → ℕ
gathering set [] = set
gathering set (c ∷ cs) = gathering (bit_or set (2 ^ c)) cs

-- what can hold of a line: that it is not in the set, that it is, that it is another, and that it is one of the first n
abbrev New : ℕ → ℕ → Type 0
New set c = has set c ≡ false

abbrev In : ℕ → ℕ → Type 0
In set c = has set c ≡ true

abbrev Other : ℕ → ℕ → Type 0
Other c d = d ≡ c → ⊥

abbrev Under : ℕ → ℕ → Type 0
Under n c = c < n

-- none of the list comes again after it
abbrev Apart : List ℕ → Type 0
Apart [] = Unit {0}
Apart (c ∷ cs) = All (Other c) cs × Apart cs

apart_from : (cs : List ℕ) → ((i j c : ℕ) → i < j → j < length cs → get_or cs i c ≡ get_or cs j c → ⊥) → Apart cs
apart_from [] once = tt
apart_from (c ∷ cs) once = (
  λ j d h e. once 0 (suc j) d (omega arith) (omega arith) (sym e),
  apart_from cs (λ i j d lt h. once (suc i) (suc j) d (omega arith) (omega arith)),
)

still_new : (set c : ℕ) (cs : List ℕ) → All (New set) cs → All (Other c) cs → All (New (bit_or set (2 ^ c))) cs
still_new set c cs new other k d h =
    let e = get_or cs k d in
    has_or set (2 ^ c) e ∙ or_from (has set e) (has (2 ^ c) e) (new k d h) (has_pow c e ∙ ne_eqb e c (other k d h))

children_found : (line field : ℕ) (above : List Row) (set : ℕ) (cs : List ℕ) → names_ok (names_of above) ≡ true → All (Under (length above)) cs
    → All (New set) cs → Apart cs → children line field above set (fields_at above cs) ≡ Ok (gathering set cs)
children_found line field above set [] ok low new apart = refl
children_found line field above set (c ∷ cs) ok low new apart =
    let under = All-head (Under (length above)) c cs low in
    let fresh = All-head (New set) c cs new in
    goes (child_field line field set (line_named above (name_from (spelled_at above c)))) _ c
    (ap (child_field line field set) (line_found above c under ok) ∙ cond-false (has set c) _ (Ok c) fresh)
    ∙ children_found line (suc field) above (bit_or set (2 ^ c)) cs ok (All-tail (Under (length above)) c cs low)
    (still_new set c cs (All-tail (New set) c cs new) apart.0) apart.1

before_in : (set : ℕ) (cs : List ℕ) → set ⊆ gathering set cs
before_in set [] i h = h
before_in set (c ∷ cs) i h = before_in (bit_or set (2 ^ c)) cs i (in_left set (2 ^ c) i h)

all_in : (set : ℕ) (cs : List ℕ) → All (In (gathering set cs)) cs
all_in set [] = All-nil (In set)
all_in set (c ∷ cs) =
    let more = bit_or set (2 ^ c) in
    All-cons (In (gathering more cs)) c cs (before_in more cs c (in_right set (2 ^ c) c (has_one c))) (all_in more cs)

only_in : (t set : ℕ) (cs : List ℕ) → set ⊆ t → All (In t) cs → gathering set cs ⊆ t
only_in t set [] sub h = sub
only_in t set (c ∷ cs) sub h =
    only_in t (bit_or set (2 ^ c)) cs
    (λ i e. ⊎_elim (λ p. sub i p) (λ p. subst (In t) (sym (only_one c i p)) (All-head (In t) c cs h)) (or_in set (2 ^ c) i e))
    (All-tail (In t) c cs h)

-- ---- the children of a gate

module _ (above : List Row) (cs : List ℕ) (set : ℕ) (names : names_ok (names_of above) ≡ true) (low : set < 2 ^ length above) (lists : Lists cs set) where
  members : All (In set) cs
  members k d h = lists.only (get_or cs k d) (Contains-get_or cs k d h)

  gathering_is : gathering 0 cs ≡ set
  gathering_is =
      same_lines (gathering 0 cs) set (only_in set 0 cs (λ i h. none_in (has set i ≡ true) i h) members)
      (λ i h. All-contains (In (gathering 0 cs)) cs i (all_in 0 cs) (lists.every i h))

  under : (c : ℕ) → has set c ≡ true → c < length above
  under c h = ⊎_elim (λ lt. lt) (λ le. absurd (both_ways (has set c) (has_past (length above) set c low le) h)) (cases_lt c (length above))

  all_under : All (Under (length above)) cs
  all_under k d h = under (get_or cs k d) (members k d h)

  -- fields with the names of the lines of a set, in any order, are read as the set
  pub children_read : (line field : ℕ) → children line field above 0 (fields_at above cs) ≡ Ok set
  children_read line field =
      children_found line field above 0 cs names all_under (λ k d h. has_none (get_or cs k d)) (apart_from cs lists.once)
      ∙ ap Ok gathering_is

  pub children_count : ones set ≡ length cs
  children_count =
      let k = gathered 0 0 above 0 (fields_at above cs) set (λ i h. none_in (i < length above) i h) (children_read 0 0) in
      omega (arith, k.1, ones_none, length-map cs (spelled_at above))

-- ---- one line

-- the fields are cut apart again, and are read as the row
record Good (above : List Row) (r : Row) (fs : List (List ℕ)) : Type 0 where
  some : 0 < length fs
  unparted : All (All Inner) fs
  reads : (line : ℕ) → record_of line above fs ≡ Ok r

well_unparted : (bs : List ℕ) → well_named bs ≡ true → All Inner bs
well_unparted bs e = name_unparted bs (and_parts (leb 1 (length bs) && leb (length bs) 12) (name_bytes bs) e).1

number_read : (low high line field n : ℕ) → high < 2 ^ 64 → low ≤ n → n ≤ high → up (number_field low high line field (decimal n)) ≡ Ok n
number_read low high line field n small lo hi = ap (λ o. up (ok_or o (field_fault line field NotNumber))) (written_number low high n small lo hi)

gate_parts : (i set need : ℕ) → line_ok i (gate set need) ≡ true → (set < 2 ^ i) × (ones set ≤ 12) × (0 < ones set → (1 ≤ need) × (need ≤ ones set))
gate_parts i set need e =
    let none = ones_none in (
      grind (arith, nat_tests),
      grind (arith, nat_tests),
      λ some. let ne : set ≡ 0 → ⊥ = λ z. omega (arith, ap ones z, ones_none) in (grind (arith, nat_tests), grind (arith, nat_tests)),
    )

module _ (above : List Row) (r : Row) (kept : line_ok (length above) r.line ≡ true) (named : name_ok r.name ≡ true) (new : first_named 0 above r.name ≡ None)
    (names : names_ok (names_of above) ≡ true) where
  named_read : name_from (spelled r.name) ≡ Some r.name
  named_read =
      cond-true (well_named (spelled r.name)) (Some (name_of (spelled r.name))) None (spelled_well r.name named)
      ∙ ap Some (name_of_spelled r.name named)

  good : (letter : ℕ) (kind : Kind) (more : List (List ℕ)) → kind_of (letter ∷ []) ≡ Some kind → separates letter ≡ false → All (All Inner) more
      → ((line : ℕ) → body line above kind more ≡ Ok r.line) → Good above r (spelled r.name ∷ ((letter ∷ []) ∷ more))
  good letter kind more is cut fields says = record {
    some = omega arith;
    unparted =
        inner_cons (spelled r.name) ((letter ∷ []) ∷ more) (well_unparted (spelled r.name) (spelled_well r.name named))
        (inner_cons (letter ∷ []) more (All-cons Inner letter [] cut (All-nil Inner)) fields);
    reads = λ line.
        goes (ok_or (kind_of (letter ∷ [])) (station_fault line 2 Letter)) _ kind (ap (λ o. ok_or o (station_fault line 2 Letter)) is)
        ∙ goes (up (name_field line (spelled r.name))) _ r.name (ap (λ o. up (ok_or o (field_fault line 1 NotName))) named_read)
        ∙ goes (new_name line above r.name) _ r.name (ap (λ o. cond (is_some o) (Err (station_fault line 1 NameTaken)) (Ok r.name)) new)
        ∙ goes (body line above kind more) _ r.line (says line);
  }

  part_good : (p : Part) → r.line ≡ a_line.Part p → Good above r (spelled r.name ∷ ((69 ∷ []) ∷ part_fields p))
  part_good p is =
      let ok : part_ok p ≡ true = subst (λ l. line_ok (length above) l ≡ true) is kept in
      let rarity : p.rarity ≤ 60000 = grind (arith, nat_tests) in
      let class : p.class ≤ 9 = grind (arith, nat_tests) in
      let discount : p.discount ≤ 1000 = grind (arith, nat_tests) in
      let price : p.price ≤ 10000000 = grind (arith, nat_tests) in
      good 69 a_kind.Part (part_fields p) refl refl
      (four_inner _ _ _ _ (decimal_unparted p.rarity (omega arith)) (decimal_unparted p.class (omega arith)) (decimal_unparted p.discount (omega arith)) (decimal_unparted p.price (omega arith)))
      (λ line.
      goes (up (number_field 0 60000 line 3 (decimal p.rarity))) _ p.rarity (number_read 0 60000 line 3 p.rarity (omega arith) (omega arith) rarity)
      ∙ goes (up (number_field 0 9 line 4 (decimal p.class))) _ p.class (number_read 0 9 line 4 p.class (omega arith) (omega arith) class)
      ∙ goes (up (number_field 0 1000 line 5 (decimal p.discount))) _ p.discount (number_read 0 1000 line 5 p.discount (omega arith) (omega arith) discount)
      ∙ goes (up (number_field 0 10000000 line 6 (decimal p.price))) _ p.price (number_read 0 10000000 line 6 p.price (omega arith) (omega arith) price)
      ∙ ap Ok (sym is))

  module _ (cs : List ℕ) (set need : ℕ) (some : 0 < length cs) (lists : Lists cs set) (is : r.line ≡ gate set need) where
    rules : (set < 2 ^ length above) × (ones set ≤ 12) × (0 < ones set → (1 ≤ need) × (need ≤ ones set))
    rules = gate_parts (length above) set need (subst (λ l. line_ok (length above) l ≡ true) is kept)

    count : ones set ≡ length cs
    count = children_count above cs set names rules.0 lists

    size : length (fields_at above cs) ≡ length cs
    size = length-map cs (spelled_at above)

    cut : All (All Inner) (fields_at above cs)
    cut =
        All-map (All Inner) (spelled_at above) cs
        (λ k d h. let c = get_or cs k d in well_unparted (spelled_at above c) (well_at above c (all_under above cs set names rules.0 lists k d h) names))

    within : (low high : ℕ) (fs : List (List ℕ)) → low ≤ length fs → length fs ≤ high → (leb low (length fs) && leb (length fs) high) ≡ true
    within low high fs lo hi = and_from _ _ (le-leb low (length fs) lo) (le-leb (length fs) high hi)

    enough : (leb 1 (length (fields_at above cs)) && leb (length (fields_at above cs)) 12) ≡ true
    enough = within 1 12 (fields_at above cs) (omega (arith, size)) (omega (arith, size, count, rules.1))

    then_gate : (line field n : ℕ) → n ≡ need → then (children line field above 0 (fields_at above cs)) (λ s. Ok (gate s n)) ≡ Ok r.line
    then_gate line field n e =
        goes (children line field above 0 (fields_at above cs)) _ set (children_read above cs set names rules.0 lists line field)
        ∙ ap (λ k. Ok (gate set k)) e ∙ ap Ok (sym is)

    all_good : need ≡ length cs → Good above r (spelled r.name ∷ ((65 ∷ []) ∷ fields_at above cs))
    all_good e = good 65 a_kind.And (fields_at above cs) refl refl cut
        (λ line. cond-true _ _ _ enough ∙ then_gate line 3 (length (fields_at above cs)) (size ∙ sym e))

    any_good : need ≡ 1 → Good above r (spelled r.name ∷ ((79 ∷ []) ∷ fields_at above cs))
    any_good e = good 79 a_kind.Or (fields_at above cs) refl refl cut
        (λ line. cond-true _ _ _ enough ∙ then_gate line 3 1 (sym e))

    vote_good : Good above r (spelled r.name ∷ ((86 ∷ []) ∷ (decimal need ∷ fields_at above cs)))
    vote_good =
        let n = rules.2 (omega (arith, count)) in
        good 86 a_kind.AtLeast (decimal need ∷ fields_at above cs) refl refl (inner_cons (decimal need) (fields_at above cs) (decimal_unparted need (omega (arith, rules.1, n.1))) cut)
        (λ line.
        cond-true _ _ _ (within 2 13 (decimal need ∷ fields_at above cs) (omega (arith, size)) (omega (arith, size, count, rules.1)))
        ∙ goes (up (number_field 1 (length (fields_at above cs)) line 3 (decimal need))) _ need
        (number_read 1 (length (fields_at above cs)) line 3 need (omega (arith, size, count, rules.1)) n.0 (omega (arith, size, count, n.1)))
        ∙ then_gate line 4 need refl)

  always_good : r.line ≡ gate 0 0 → Good above r (spelled r.name ∷ ((84 ∷ []) ∷ []))
  always_good is = good 84 a_kind.Always [] refl refl (All-nil (All Inner)) (λ line. ap Ok (sym is))

  never_good : r.line ≡ gate 0 1 → Good above r (spelled r.name ∷ ((70 ∷ []) ∷ []))
  never_good is = good 70 a_kind.Never [] refl refl (All-nil (All Inner)) (λ line. ap Ok (sym is))

  said : (fs : List (List ℕ)) → Says above r fs → Good above r fs
  said fs (part p is e) = subst (Good above r) (sym e) (part_good p is)
  said fs (all_of cs set some lists is e) = subst (Good above r) (sym e) (all_good cs set (length cs) some lists is refl)
  said fs (any_of cs set some lists is e) = subst (Good above r) (sym e) (any_good cs set 1 some lists is refl)
  said fs (vote_of cs set need some lists is e) = subst (Good above r) (sym e) (vote_good cs set need some lists is)
  said fs (always is e) = subst (Good above r) (sym e) (always_good is)
  said fs (never is e) = subst (Good above r) (sym e) (never_good is)

-- ---- the lines, one after another

rows_read : (above : List Row) (bs : List ℕ) (more : List Row) → DescribesAfter above bs more → lines_ok 0 (above ++ more) ≡ true
    → names_ok (names_of (above ++ more)) ≡ true → length (above ++ more) ≤ 64 → read_rows above (lines_of bs) ≡ Ok (above ++ more)
rows_read above bs [] d lines names few = ap (λ x. read_rows above (lines_of x)) d ∙ ap Ok (sym (append-nil above))
rows_read above bs (r ∷ rs) d lines names few =
    let g = said above r (subst (λ k. line_ok k r.line ≡ true) (zero-add (length above)) (line_there 0 above r rs lines)) (name_there above r rs names)
    (name_new 0 above r rs names) (names_above above (r ∷ rs) names) d.0 d.3 in
    let whole : (above ++ (r ∷ [])) ++ rs ≡ above ++ (r ∷ rs) = append_assoc above (r ∷ []) rs in
    let room : length above < 64 = omega (arith, length-append above (r ∷ rs)) in
    ap (λ x. read_rows above (lines_of x)) d.2
    ∙ ap (read_rows above) (lines_cons d.0 d.1 g.some g.unparted)
    ∙ cond-false (leb 64 (length above)) _ _ (lt-leb 64 (length above) room)
    ∙ goes (record_of (suc (length above)) above d.0) _ r (g.reads (suc (length above)))
    ∙ rows_read (above ++ (r ∷ [])) d.1 rs d.4 (subst (λ x. lines_ok 0 x ≡ true) (sym whole) lines) (subst (λ x. names_ok (names_of x) ≡ true) (sym whole) names)
    (subst (λ x. length x ≤ 64) (sym whole) few)
    ∙ ap Ok whole

-- ---- the file's end

abbrev Ended : List ℕ → Type 0
Ended bs = (0 < length bs) × (get_or bs (length bs - 1) 0 ≡ 10)

last_line : (xs : List ℕ) → Ended (xs ++ (10 ∷ []))
last_line xs = (omega (arith, length-append xs (10 ∷ [])), get_or_at xs 10 [] 0 (length (xs ++ (10 ∷ [])) - 1) (omega (arith, length-append xs (10 ∷ []))))

more_lines : (xs rest : List ℕ) → Ended rest → Ended (xs ++ (10 ∷ rest))
more_lines xs rest e =
    let n = length-append xs (10 ∷ rest) in
    let at : length (xs ++ (10 ∷ rest)) - 1 ≡ length xs + suc (length rest - 1) = omega (arith, n, e.0) in
    (omega (arith, n), ap (λ k. get_or (xs ++ (10 ∷ rest)) k 0) at ∙ get_or-append-add xs (10 ∷ rest) (suc (length rest - 1)) 0 ∙ e.1)

described_end : (above : List Row) (bs : List ℕ) (r : Row) (rs : List Row) → DescribesAfter above bs (r ∷ rs) → Ended bs
described_end above bs r [] d = subst Ended (sym (d.2 ∙ ap (λ x. tabbed d.0 ++ (10 ∷ x)) d.4)) (last_line (tabbed d.0))
described_end above bs r (s ∷ rs) d = subst Ended (sym d.2) (more_lines (tabbed d.0) d.1 (described_end (above ++ (r ∷ [])) d.1 s rs d.4))

described_ended : (bs : List ℕ) (rows : List Row) → Describes bs rows → 0 < length rows → Ended bs
described_ended bs [] d some = let z : ⊥ = omega arith in absurd z
described_ended bs (r ∷ rs) d some = described_end [] bs r rs d

-- ---- the file

pub described_read : (bs : List ℕ) (rows : List Row) → Describes bs rows → keeps_rules rows ≡ true → length bs ≤ 16384 → read_file bs ≡ Ok rows
described_read bs rows d ok small =
    let p = and_parts (leb 1 (length rows) && leb (length rows) 64 && lines_ok 0 rows) (names_ok (names_of rows)) ok in
    let q = and_parts (leb 1 (length rows) && leb (length rows) 64) (lines_ok 0 rows) p.0 in
    let s = and_parts (leb 1 (length rows)) (leb (length rows) 64) q.0 in
    let e = described_ended bs rows d (leb-true 1 (length rows) s.0) in
    cond-true (leb 1 (length bs) && leb (length bs) 16384) _ _ (and_from _ _ (le-leb 1 (length bs) e.0) (le-leb (length bs) 16384 small))
    ∙ cond-true (eqb (get_or bs (length bs - 1) 0) 10) _ _ (eq-eqb (get_or bs (length bs - 1) 0) 10 e.1)
    ∙ rows_read [] bs rows d q.1 p.1 (leb-true (length rows) 64 s.1)
