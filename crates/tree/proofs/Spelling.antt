-- A name is its bytes, both ways: the bytes of a name that was made from bytes are those bytes, and the name of the
-- bytes of a name is that name. Names that are told the same are equal, and no byte of a name parts fields.
use Rattle.std.proofs.Common.{◌≡◌, ℕ, zero, suc, ◌+◌, ◌-◌, ◌*◌, ◌/◌, ◌%◌, ◌<◌, min, true, false, ◌&&◌, ◌||◌, eqb, List, [], ◌∷◌, ◌++◌, length, take, drop, sym, refl, ap, ◌∙◌, mod-eq_of_lt, zero-add, arith, length-drop, take-append-drop, length-take}
use native.Mathlib.Nat.{add-mul-mod_self_left, add-mul-div_left, div-eq_of_lt}
use Rattle.std.specs.List.{All}
use Rattle.std.proofs.lemmas.List.Elements.{All-nil, All-cons}
use Rattle.std.proofs.lemmas.Bool.{and_parts, and_from, eq-eqb, eqb-true}
use Rattle.std.proofs.lemmas.Bool.Decides.{nat_tests}
use Rattle.tree.specs.declared.line.Name.{Name}
use Rattle.tree.specs.Names.{name_byte, name_bytes, well_named, packed, unpacked, spelled, name_of, same_name, name_ok}

-- ---- from bytes to the name and back

name_byte_small : (b : ℕ) → name_byte b ≡ true → b < 256
name_byte_small b t = grind (arith, nat_tests)

unpacked_packed : (bs : List ℕ) → name_bytes bs ≡ true → unpacked (length bs) (packed bs) ≡ bs
unpacked_packed [] t = refl
unpacked_packed (b ∷ bs) t =
    let p = and_parts (name_byte b) (name_bytes bs) t in
    let small = name_byte_small b p.0 in
    let low : (b + 256 * packed bs) % 256 ≡ b = add-mul-mod_self_left b 256 (packed bs) ∙ mod-eq_of_lt small in
    let high : (b + 256 * packed bs) / 256 ≡ packed bs = add-mul-div_left b (packed bs) (omega arith) ∙ ap (λ n. n + packed bs) (div-eq_of_lt small) ∙ zero-add (packed bs) in
    ap (λ x. x ∷ unpacked (length bs) ((b + 256 * packed bs) / 256)) low ∙ ap (λ w. b ∷ unpacked (length bs) w) high ∙ ap (λ xs. b ∷ xs) (unpacked_packed bs p.1)

bytes_take : (n : ℕ) (bs : List ℕ) → name_bytes bs ≡ true → name_bytes (take n bs) ≡ true
bytes_take zero bs t = refl
bytes_take (suc n) [] t = refl
bytes_take (suc n) (b ∷ bs) t = let p = and_parts (name_byte b) (name_bytes bs) t in and_from _ _ p.0 (bytes_take n bs p.1)

bytes_drop : (n : ℕ) (bs : List ℕ) → name_bytes bs ≡ true → name_bytes (drop n bs) ≡ true
bytes_drop zero bs t = t
bytes_drop (suc n) [] t = refl
bytes_drop (suc n) (b ∷ bs) t = bytes_drop n bs (and_parts (name_byte b) (name_bytes bs) t).1

pub spelled_name : (bs : List ℕ) → name_bytes bs ≡ true → spelled (name_of bs) ≡ bs
spelled_name bs t =
    let m : min (length bs) 8 ≡ length (take 8 bs) = omega (arith, length-take 8 bs) in
    let h : unpacked (min (length bs) 8) (packed (take 8 bs)) ≡ take 8 bs = ap (λ n. unpacked n (packed (take 8 bs))) m ∙ unpacked_packed (take 8 bs) (bytes_take 8 bs t) in
    let l : unpacked (length bs - 8) (packed (drop 8 bs)) ≡ drop 8 bs = ap (λ n. unpacked n (packed (drop 8 bs))) (sym (length-drop 8 bs)) ∙ unpacked_packed (drop 8 bs) (bytes_drop 8 bs t) in
    ap (λ x. x ++ unpacked (length bs - 8) (packed (drop 8 bs))) h ∙ ap (λ y. take 8 bs ++ y) l ∙ take-append-drop 8 bs

-- ---- the same name

pub same_refl : (n : Name) → same_name n n ≡ true
same_refl n = and_from _ _ (and_from _ _ (eq-eqb n.head n.head refl) (eq-eqb n.tail n.tail refl)) (eq-eqb n.len n.len refl)

same_words : (a : Name) (head tail len : ℕ) → a.head ≡ head → a.tail ≡ tail → a.len ≡ len → a ≡ record { head = head; tail = tail; len = len }
same_words a head tail len h t l = rw (← h, ← t, ← l)

pub same_is : (a b : Name) → same_name a b ≡ true → a ≡ b
same_is a b e =
    let p = and_parts (eqb a.head b.head && eqb a.tail b.tail) (eqb a.len b.len) e in
    let q = and_parts (eqb a.head b.head) (eqb a.tail b.tail) p.0 in
    same_words a b.head b.tail b.len (eqb-true a.head b.head q.0) (eqb-true a.tail b.tail q.1) (eqb-true a.len b.len p.1)

pub same_sym : (a b : Name) → same_name a b ≡ false → same_name b a ≡ false
same_sym a b e = grind (arith, nat_tests)

-- ---- from the name to its bytes and back

pub name_spelled_ok : (bs : List ℕ) → well_named bs ≡ true → name_ok (name_of bs) ≡ true
name_spelled_ok bs t =
    let r = spelled_name bs (and_parts _ _ t).1 in
    and_from _ _ (ap well_named r ∙ t) (ap (λ xs. same_name (name_of xs) (name_of bs)) r ∙ same_refl (name_of bs))

pub spelled_well : (n : Name) → name_ok n ≡ true → well_named (spelled n) ≡ true
spelled_well n e = (and_parts (well_named (spelled n)) (same_name (name_of (spelled n)) n) e).0

pub name_of_spelled : (n : Name) → name_ok n ≡ true → name_of (spelled n) ≡ n
name_of_spelled n e = same_is (name_of (spelled n)) n (and_parts (well_named (spelled n)) (same_name (name_of (spelled n)) n) e).1

-- ---- the bytes of a name

byte_unparted : (b : ℕ) → name_byte b ≡ true → (eqb b 9 || eqb b 10) ≡ false
byte_unparted b t = grind (arith, nat_tests)

pub name_unparted : (bs : List ℕ) → name_bytes bs ≡ true → All (λ b. (eqb b 9 || eqb b 10) ≡ false) bs
name_unparted [] t = All-nil (λ b. (eqb b 9 || eqb b 10) ≡ false)
name_unparted (b ∷ bs) t =
    let p = and_parts (name_byte b) (name_bytes bs) t in
    All-cons (λ d. (eqb d 9 || eqb d 10) ≡ false) b bs (byte_unparted b p.0) (name_unparted bs p.1)
