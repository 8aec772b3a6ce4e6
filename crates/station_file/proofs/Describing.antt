-- A file that is read describes the rows that it gives: each of its lines says its row.
use Rattle.std.proofs.Common.{◌≡◌, ℕ, zero, suc, ◌+◌, ◌^◌, ◌<◌, ◌≤◌, Bool, true, false, cond, ◌&&◌, eqb, leb, ◌⊎◌, List, [], ◌∷◌, ◌++◌, map, length, get_or, drop, is_some, Some, None, Ok, sym, refl, ap, ◌∙◌, subst, ap₂, inl, inr, ⊎_elim, arith}
use lib.Bits.{bit_or}
use Rattle.std.specs.List.{Contains}
use Rattle.std.proofs.lemmas.List.Elements.{Contains-get_or}
use Rattle.std.proofs.lemmas.List.{append-nil, append_assoc, length-map}
use Rattle.std.proofs.lemmas.Bool.{and_parts, both_ways, eqb-true, or_parts}
use Rattle.tree.specs.Names.{well_named, name_of, name_bytes, same_name, spelled}
use Rattle.tree.specs.Sets.{has}
use Rattle.tree.specs.declared.line.Line.{Line}
use Rattle.tree.specs.declared.line.Name.{Name}
use Rattle.tree.specs.declared.line.Row.{Row}
use Rattle.tree.proofs.Sets.{has_or, has_none, has_one, only_one, or_in, in_left, in_right}
use Rattle.tree.proofs.Spelling.{spelled_name}
use Rattle.tabbed_text.specs.Fields.{pieces, tabbed, lines_of}
use Rattle.tabbed_text.proofs.Chains.{refused, went, ok_some, cond_some, not_refused, letter_else}
use Rattle.tabbed_text.proofs.Splitting.{Ends, first_line, lines_split, no_lines, tabbed_pieces}
use Rattle.station_file.specs.Descriptions.{spelled_at, Lists, Says, part, all_of, any_of, vote_of, always, never, DescribesAfter, Describes}
use Rattle.station_file.specs.Faults.{up}
use Rattle.station_file.specs.Files.{read_rows, read_file}
use Rattle.station_file.specs.Letters.{kind_of}
use Rattle.station_file.specs.Names.{name_from, first_named, line_named}
use Rattle.station_file.specs.Records.{kind_field, name_field, new_name, number_field, child_field, children, part_numbers, part_body, all_body, any_body, vote_fields, vote_body, bare_body, body, row_of, record_of}
use Rattle.station_file.proofs.Keeping.{up_ok, number_says, file_lines, child_is, counted_ok}
use Rattle.station_file.specs.declared.letters.Kind.{Kind}
use Rattle.station_file.specs.declared.letters.Kind.TheVariants.{Part, And, Or, AtLeast, Always, Never}

-- ---- letters, numbers and names

abbrev letter : Kind → ℕ
letter Part = 69
letter And = 65
letter Or = 79
letter AtLeast = 86
letter Always = 84
letter Never = 70

kind_letter : (f : List ℕ) (k : Kind) → kind_of f ≡ Some k → f ≡ letter k ∷ []
kind_letter [] k e = cc
kind_letter (b ∷ []) k e = ap (λ x. x ∷ [])
    (letter_else letter b Part k _ (eqb b 69) refl e (λ e. letter_else letter b And k _ (eqb b 65) refl e (λ e.
    letter_else letter b Or k _ (eqb b 79) refl e (λ e. letter_else letter b AtLeast k _ (eqb b 86) refl e (λ e.
    letter_else letter b Always k _ (eqb b 84) refl e (λ e. letter_else letter b Never k _ (eqb b 70) refl e (λ e. cc)))))))
kind_letter (b ∷ (d ∷ bs)) k e = cc

name_says : (bs : List ℕ) → well_named bs ≡ true → spelled (name_of bs) ≡ bs
name_says bs e = spelled_name bs (and_parts _ (name_bytes bs) e).1

name_field_says : (line : ℕ) (bs : List ℕ) (n : Name) → up (name_field line bs) ≡ Ok n → spelled n ≡ bs
name_field_says line bs n e =
    let s = cond_some (well_named bs) (name_of bs) n (ok_some _ _ n (up_ok (name_field line bs) n e)) in
    ap spelled (sym s.1) ∙ name_says bs s.0

same_spelled : (a b : Name) → same_name a b ≡ true → spelled a ≡ spelled b
same_spelled a b e =
    let p = and_parts (eqb a.head b.head && eqb a.tail b.tail) (eqb a.len b.len) e in
    let q = and_parts (eqb a.head b.head) (eqb a.tail b.tail) p.0 in
    let h = eqb-true a.head b.head q.0 in
    let t = eqb-true a.tail b.tail q.1 in
    let l = eqb-true a.len b.len p.1 in
    cc

-- the line found has the name
record Found (k : ℕ) (rows : List Row) (n : Name) (i : ℕ) : Type 0 where
  at : ℕ
  is : i ≡ k + at
  named : spelled_at rows at ≡ spelled n

found_cons : (k : ℕ) (r : Row) (rs : List Row) (n : Name) (i : ℕ) (t : Bool) → same_name r.name n ≡ t → cond t (Some k) (first_named (suc k) rs n) ≡ Some i → (first_named (suc k) rs n ≡ Some i → Found (suc k) rs n i) → Found k (r ∷ rs) n i
found_cons k r rs n i true t e more =
    let is : k ≡ i = cc in
    record { at = 0; is = omega arith; named = same_spelled r.name n t }
found_cons k r rs n i false t e more =
    let m = more e in
    record { at = suc m.at; is = omega (arith, m.is); named = m.named }

found : (k : ℕ) (rows : List Row) (n : Name) (i : ℕ) → first_named k rows n ≡ Some i → Found k rows n i
found k [] n i e = cc
found k (r ∷ rs) n i e = found_cons k r rs n i (same_name r.name n) refl e (found (suc k) rs n i)

named_found : (rows : List Row) (n : Name) (i : ℕ) → first_named 0 rows n ≡ Some i → spelled_at rows i ≡ spelled n
named_found rows n i e =
    let f = found 0 rows n i e in
    let is : i ≡ f.at = omega (arith, f.is) in
    ap (spelled_at rows) is ∙ f.named

named_cond : (rows : List Row) (b : Bool) (n : Name) (i : ℕ) → line_named rows (cond b (Some n) None) ≡ Some i → (b ≡ true) × (first_named 0 rows n ≡ Some i)
named_cond rows true n i e = (refl, e)
named_cond rows false n i e = cc

line_named_says : (rows : List Row) (f : List ℕ) (i : ℕ) → line_named rows (name_from f) ≡ Some i → spelled_at rows i ≡ f
line_named_says rows f i e =
    let c = named_cond rows (well_named f) (name_of f) i e in
    named_found rows (name_of f) i c.1 ∙ name_says f c.0

-- ---- children

has_first : (x : ℕ) (xs : List ℕ) → Contains (x ∷ xs) x
has_first x xs = (0, omega arith, refl)

has_later : (x c : ℕ) (xs : List ℕ) → Contains xs c → Contains (x ∷ xs) c
has_later x c xs h = (suc h.0, omega (arith, h.1), h.2)

has_cons : (x c : ℕ) (xs : List ℕ) → Contains (x ∷ xs) c → (x ≡ c) ⊎ Contains xs c
has_cons x c xs h = go h.0 h.1 h.2
  where
    go : (k : ℕ) → k < length (x ∷ xs) → get_or (x ∷ xs) k c ≡ c → (x ≡ c) ⊎ Contains xs c
    go zero l e = inl e
    go (suc k) l e = inr (k, omega arith, e)

-- the fields name lines that are not in the set, each once, and `out` is the set with them
record Named (rows : List Row) (set : ℕ) (fs : List (List ℕ)) (out : ℕ) : Type 0 where
  cs : List ℕ
  named : fs ≡ map (spelled_at rows) cs
  new : (c : ℕ) → Contains cs c → has set c ≡ false
  once : (i j c : ℕ) → i < j → j < length cs → get_or cs i c ≡ get_or cs j c → ⊥
  kept : (c : ℕ) → has set c ≡ true → has out c ≡ true
  only : (c : ℕ) → Contains cs c → has out c ≡ true
  every : (c : ℕ) → has out c ≡ true → (has set c ≡ true) ⊎ Contains cs c

none_named : (rows : List Row) (set : ℕ) → Named rows set [] set
none_named rows set =
    record {
      cs = [];
      named = refl;
      new = λ c h. let z : ⊥ = omega (arith, h.1) in absurd z;
      once = λ i j c l k e. omega arith;
      kept = λ c e. e;
      only = λ c h. let z : ⊥ = omega (arith, h.1) in absurd z;
      every = λ c e. inl e;
    }

module _ (rows : List Row) (set : ℕ) (f : List ℕ) (fs : List (List ℕ)) (out x : ℕ) (is : spelled_at rows x ≡ f) (fresh : has set x ≡ false) (m : Named rows (bit_or set (2 ^ x)) fs out) where
  cons_new : (c : ℕ) → Contains (x ∷ m.cs) c → has set c ≡ false
  cons_new c h =
      ⊎_elim (λ e. subst (λ y. has set y ≡ false) e fresh)
      (λ h. (or_parts (has set c) (has (2 ^ x) c) (sym (has_or set (2 ^ x) c) ∙ m.new c h)).0) (has_cons x c m.cs h)

  cons_once : (i j c : ℕ) → i < j → j < length (x ∷ m.cs) → get_or (x ∷ m.cs) i c ≡ get_or (x ∷ m.cs) j c → ⊥
  cons_once zero zero c l k e = omega arith
  cons_once zero (suc j) c l k e =
      let h = Contains-get_or m.cs j c (omega arith) in
      both_ways (has (bit_or set (2 ^ x)) x) (m.new x (subst (Contains m.cs) (sym e) h)) (in_right set (2 ^ x) x (has_one x))
  cons_once (suc i) zero c l k e = omega arith
  cons_once (suc i) (suc j) c l k e = m.once i j c (omega arith) (omega arith) e

  cons_only : (c : ℕ) → Contains (x ∷ m.cs) c → has out c ≡ true
  cons_only c h =
      ⊎_elim (λ e. subst (λ y. has out y ≡ true) e (m.kept x (in_right set (2 ^ x) x (has_one x)))) (m.only c) (has_cons x c m.cs h)

  cons_every : (c : ℕ) → has out c ≡ true → (has set c ≡ true) ⊎ Contains (x ∷ m.cs) c
  cons_every c e =
      ⊎_elim (λ h. ⊎_elim (λ s. inl s) (λ p. inr (subst (Contains (x ∷ m.cs)) (sym (only_one x c p)) (has_first x m.cs))) (or_in set (2 ^ x) c h))
      (λ h. inr (has_later x c m.cs h)) (m.every c e)

  named_cons : Named rows set (f ∷ fs) out
  named_cons =
      record {
        cs = x ∷ m.cs;
        named = let n = m.named in cc;
        new = cons_new;
        once = cons_once;
        kept = λ c e. m.kept c (in_left set (2 ^ x) c e);
        only = cons_only;
        every = cons_every;
      }

children_say : (line field : ℕ) (rows : List Row) (set : ℕ) (fs : List (List ℕ)) (out : ℕ) → children line field rows set fs ≡ Ok out → Named rows set fs out
children_say line field rows set [] out e = let is : set ≡ out = cc in subst (Named rows set []) is (none_named rows set)
children_say line field rows set (f ∷ fs) out e =
    let w = went (child_field line field set (line_named rows (name_from f))) _ out e in
    let c = child_is line field set (line_named rows (name_from f)) w.first w.was in
    named_cons rows set f fs out w.first (line_named_says rows f w.first c.0) c.1
    (children_say line (suc field) rows (bit_or set (2 ^ w.first)) fs out w.next)

-- the fields name the lines of `out`, each once
record Listed (rows : List Row) (fs : List (List ℕ)) (out : ℕ) : Type 0 where
  cs : List ℕ
  named : fs ≡ map (spelled_at rows) cs
  lists : Lists cs out
  count : length fs ≡ length cs

children_list : (line field : ℕ) (rows : List Row) (fs : List (List ℕ)) (out : ℕ) → children line field rows 0 fs ≡ Ok out → Listed rows fs out
children_list line field rows fs out e =
    let m = children_say line field rows 0 fs out e in
    record {
      cs = m.cs;
      named = m.named;
      lists =
          record {
            once = m.once;
            only = m.only;
            every = λ c e. ⊎_elim (λ z. absurd (both_ways (has 0 c) (has_none c) z)) (λ h. h) (m.every c e);
          };
      count = ap length m.named ∙ length-map m.cs (spelled_at rows);
    }

-- ---- records

module _ (line : ℕ) (rows : List Row) (n : Name) where
  abbrev row : Line → Row
  row l = record { line = l; name = n }

  abbrev Said : Kind → List (List ℕ) → Line → Type 0
  Said k fs l = Says rows (row l) (spelled n ∷ ((letter k ∷ []) ∷ fs))

  part_says : (r c d p : List ℕ) (l : Line) → part_numbers line r c d p ≡ Ok l → Said Part (r ∷ (c ∷ (d ∷ (p ∷ [])))) l
  part_says r c d p l e =
      let w₁ = went (up (number_field 0 60000 line 3 r)) _ l e in
      let w₂ = went (up (number_field 0 9 line 4 c)) _ l w₁.next in
      let w₃ = went (up (number_field 0 1000 line 5 d)) _ l w₂.next in
      let w₄ = went (up (number_field 0 10000000 line 6 p)) _ l w₃.next in
      let e₁ = (number_says 0 60000 line 3 r w₁.first (omega arith) w₁.was).0 in
      let e₂ = (number_says 0 9 line 4 c w₂.first (omega arith) w₂.was).0 in
      let e₃ = (number_says 0 1000 line 5 d w₃.first (omega arith) w₃.was).0 in
      let e₄ = (number_says 0 10000000 line 6 p w₄.first (omega arith) w₄.was).0 in
      part (record { rarity = w₁.first; class = w₂.first; discount = w₃.first; price = w₄.first }) (cc w₄.next) (cc)

  part_body_says : (fs : List (List ℕ)) (l : Line) → part_body line fs ≡ Ok l → Said Part fs l
  part_body_says [] l e = refused _ l _ e
  part_body_says (r ∷ []) l e = refused _ l _ e
  part_body_says (r ∷ (c ∷ [])) l e = refused _ l _ e
  part_body_says (r ∷ (c ∷ (d ∷ []))) l e = refused _ l _ e
  part_body_says (r ∷ (c ∷ (d ∷ (p ∷ [])))) l e = part_says r c d p l e
  part_body_says (r ∷ (c ∷ (d ∷ (p ∷ (x ∷ xs))))) l e = refused _ l _ e

  all_body_says : (fs : List (List ℕ)) (l : Line) → all_body line rows fs ≡ Ok l → Said And fs l
  all_body_says fs l e =
      let c = counted_ok 1 12 line fs _ l e in
      let w = went (children line 3 rows 0 fs) _ l c.2 in
      let m = children_list line 3 rows fs w.first w.was in
      all_of m.cs w.first (omega (arith, c.0)) m.lists (cc (w.next, m.count)) (ap (λ gs. spelled n ∷ ((65 ∷ []) ∷ gs)) m.named)

  any_body_says : (fs : List (List ℕ)) (l : Line) → any_body line rows fs ≡ Ok l → Said Or fs l
  any_body_says fs l e =
      let c = counted_ok 1 12 line fs _ l e in
      let w = went (children line 3 rows 0 fs) _ l c.2 in
      let m = children_list line 3 rows fs w.first w.was in
      any_of m.cs w.first (omega (arith, c.0)) m.lists (cc w.next) (ap (λ gs. spelled n ∷ ((79 ∷ []) ∷ gs)) m.named)

  vote_fields_says : (fs : List (List ℕ)) (l : Line) → 2 ≤ length fs → length fs ≤ 13 → vote_fields line rows fs ≡ Ok l → Said AtLeast fs l
  vote_fields_says [] l low high e = refused _ l _ e
  vote_fields_says (f ∷ fs) l low high e =
      let w = went (up (number_field 1 (length fs) line 3 f)) _ l e in
      let v = went (children line 4 rows 0 fs) _ l w.next in
      let need = (number_says 1 (length fs) line 3 f w.first (omega arith) w.was).0 in
      let m = children_list line 4 rows fs v.first v.was in
      vote_of m.cs v.first w.first (omega (arith, m.count)) m.lists (cc v.next) (ap₂ (λ g gs. spelled n ∷ ((86 ∷ []) ∷ (g ∷ gs))) need m.named)

  vote_body_says : (fs : List (List ℕ)) (l : Line) → vote_body line rows fs ≡ Ok l → Said AtLeast fs l
  vote_body_says fs l e =
      let c = counted_ok 2 13 line fs _ l e in
      vote_fields_says fs l c.0 c.1 c.2

  always_says : (fs : List (List ℕ)) (l : Line) → bare_body line 0 fs ≡ Ok l → Said Always fs l
  always_says [] l e = always (cc) refl
  always_says (f ∷ fs) l e = refused _ l _ e

  never_says : (fs : List (List ℕ)) (l : Line) → bare_body line 1 fs ≡ Ok l → Said Never fs l
  never_says [] l e = never (cc) refl
  never_says (f ∷ fs) l e = refused _ l _ e

  body_says : (k : Kind) (fs : List (List ℕ)) (l : Line) → body line rows k fs ≡ Ok l → Said k fs l
  body_says Part fs l e = part_body_says fs l e
  body_says And fs l e = all_body_says fs l e
  body_says Or fs l e = any_body_says fs l e
  body_says AtLeast fs l e = vote_body_says fs l e
  body_says Always fs l e = always_says fs l e
  body_says Never fs l e = never_says fs l e

kind_field_says : (line : ℕ) (fs : List (List ℕ)) (k : Kind) → kind_field line fs ≡ Ok k → fs ≡ (letter k ∷ []) ∷ drop 1 fs
kind_field_says line [] k e = refused _ k _ e
kind_field_says line (f ∷ fs) k e = ap (λ x. x ∷ fs) (kind_letter f k (ok_some _ _ k e))

row_says : (line : ℕ) (rows : List Row) (first : List ℕ) (others : List (List ℕ)) (r : Row) → row_of line rows first others ≡ Ok r → Says rows r (first ∷ others)
row_says line rows first others r e =
    let w₁ = went (kind_field line others) _ r e in
    let w₂ = went (up (name_field line first)) _ r w₁.next in
    let w₃ = went (new_name line rows w₂.first) _ r w₂.next in
    let w₄ = went (body line rows w₁.first (drop 1 others)) _ r w₃.next in
    let fresh : w₂.first ≡ w₃.first = cc (not_refused (is_some (first_named 0 rows w₂.first)) _ (Ok w₂.first) w₃.first w₃.was).1 in
    let named = name_field_says line first w₂.first w₂.was in
    let kind = kind_field_says line others w₁.first w₁.was in
    let said = body_says line rows w₃.first w₁.first (drop 1 others) w₄.first w₄.was in
    let is : record { line = w₄.first; name = w₃.first } ≡ r = cc w₄.next in
    let fields : spelled w₃.first ∷ ((letter w₁.first ∷ []) ∷ drop 1 others) ≡ first ∷ others = cc in
    subst (λ y. Says rows y (first ∷ others)) is (subst (Says rows _) fields said)

record_says : (line : ℕ) (rows : List Row) (fs : List (List ℕ)) (r : Row) → record_of line rows fs ≡ Ok r → Says rows r fs
record_says line rows [] r e = refused _ r _ e
record_says line rows (first ∷ others) r e = row_says line rows first others r e

-- ---- the whole file

-- the rows above and more, which the bytes describe
record ReadMore (above : List Row) (bs : List ℕ) (out : List Row) : Type 0 where
  more : List Row
  is : out ≡ above ++ more
  described : DescribesAfter above bs more

some_bytes : (bs : List ℕ) (fs : List (List ℕ)) (ls : List (List (List ℕ))) → lines_of bs ≡ fs ∷ ls → 0 < length bs
some_bytes [] fs ls e = omega (arith, ap length e)
some_bytes (b ∷ bs) fs ls e = omega arith

lines_describe : (above : List Row) (ls : List (List (List ℕ))) (bs : List ℕ) (out : List Row) → Ends bs → lines_of bs ≡ ls → read_rows above ls ≡ Ok out → ReadMore above bs out
lines_describe above [] bs out ends is e =
    let all : above ≡ out = cc in
    record { more = []; is = sym all ∙ sym (append-nil above); described = no_lines bs (ap length is) }
lines_describe above (fs ∷ ls) bs out (inl none) is e = let z : ⊥ = omega (arith, some_bytes bs fs ls is) in absurd z
lines_describe above (fs ∷ ls) bs out (inr last) is e =
    let l = first_line bs (some_bytes bs fs ls is) last in
    let split = lines_split bs l in
    let fields : pieces 9 l.line ≡ fs = cc in
    let left : lines_of l.rest ≡ ls = cc in
    let w = went (record_of (suc (length above)) above fs) _ out (not_refused (leb 64 (length above)) _ _ out e).1 in
    let r = w.first in
    let m = lines_describe (above ++ (r ∷ [])) ls l.rest out l.ends left w.next in
    let whole : bs ≡ tabbed fs ++ (10 ∷ l.rest) = l.whole ∙ ap (λ t. t ++ (10 ∷ l.rest)) (sym (tabbed_pieces l.line) ∙ ap tabbed fields) in
    record {
      more = r ∷ m.more;
      is = m.is ∙ append_assoc above (r ∷ []) m.more;
      described = (fs, l.rest, whole, record_says (suc (length above)) above fs r w.was, m.described);
    }

pub read_describes : (bs : List ℕ) (rows : List Row) → read_file bs ≡ Ok rows → Describes bs rows × (length bs ≤ 16384)
read_describes bs rows e =
    let f = file_lines bs rows e in
    let m = lines_describe [] (lines_of bs) bs rows (inr f.2) refl f.3 in
    (subst (DescribesAfter [] bs) (sym m.is) m.described, f.1)
