-- Names as words.
use Rattle.std.proofs.Common.{◌≡◌, ℕ, suc, ◌+◌, ◌*◌, ◌^◌, ◌<◌, ◌≤◌, min, true, List, [], ◌∷◌, length, get_or, take, drop, Some, None, sym, refl, ap, ◌∙◌, subst, ⊎_elim, pow-suc, arith, length-drop, ◌&&◌}
use native.Mathlib.Nat.{pow-le-pow_right}
use Rattle.std.specs.List.{list_all}
use Rattle.std.proofs.lemmas.Bool.{cond-true, cases_lt}
use Rattle.std.proofs.lemmas.List.{at_drop_more, at_drop_all, get_or-drop, take_all, drop_all}
use Rattle.tree.specs.Names.{packed, name_byte, name_bytes, well_named, name_of}
use Rattle.station_file.specs.Names.{name_from}

pub names_all : (bs : List ℕ) → name_bytes bs ≡ list_all name_byte bs
names_all [] = refl
names_all (b ∷ bs) = ap (λ t. name_byte b && t) (names_all bs)

-- ---- the bytes of a word, from the last on

pub pack_step : (bs : List ℕ) (i : ℕ) → i < length bs → packed (drop i bs) ≡ get_or bs i 0 + 256 * packed (drop (i + 1) bs)
pack_step bs i h = at_drop_more packed bs i 0 h

pub pack_end : (bs : List ℕ) (i : ℕ) → length bs ≤ i → packed (drop i bs) ≡ 0
pack_end bs i h = at_drop_all packed bs i h

pub pack_below : (bs : List ℕ) → ((k : ℕ) → get_or bs k 0 < 256) → packed bs < 256 ^ length bs
pack_below [] small = omega arith
pack_below (b ∷ bs) small =
    omega (arith, small 0, pack_below bs (λ k. small (suc k)), pow-suc 256 (length bs))

-- room for one byte more
pub pack_room : (bs : List ℕ) (i : ℕ) → ((k : ℕ) → get_or bs k 0 < 256) → length bs ≤ 8 → 0 < i → i ≤ length bs → packed (drop i bs) < 256 ^ 7
pack_room bs i small few lo hi =
    let k : length (drop i bs) ≤ 7 = simp length-drop (omega arith) in
    let p : packed (drop i bs) < 256 ^ length (drop i bs) = pack_below (drop i bs) (λ k. subst (λ b. b < 256) (sym (get_or-drop i bs k 0)) (small (i + k))) in
    omega (arith, p, pow-le-pow_right {n = 256} (omega arith) {i = length (drop i bs)} {j = 7} k)

-- ---- the two words of a name

pub take_min : (bs : List ℕ) → take (min (length bs) 8) bs ≡ take 8 bs
take_min bs =
    ⊎_elim
    (λ few.
    let e : min (length bs) 8 ≡ length bs = omega arith in
    ap (λ n. take n bs) e ∙ take_all (length bs) bs (omega arith) ∙ sym (take_all 8 bs (omega arith)))
    (λ many. let e : min (length bs) 8 ≡ 8 = omega arith in ap (λ n. take n bs) e)
    (cases_lt (length bs) 8)

pub drop_min : (bs : List ℕ) → drop (min (length bs) 8) bs ≡ drop 8 bs
drop_min bs =
    ⊎_elim
    (λ few.
    let e : min (length bs) 8 ≡ length bs = omega arith in
    ap (λ n. drop n bs) e ∙ drop_all (length bs) bs (omega arith) ∙ sym (drop_all 8 bs (omega arith)))
    (λ many. let e : min (length bs) 8 ≡ 8 = omega arith in ap (λ n. drop n bs) e)
    (cases_lt (length bs) 8)

pub a_name : (bs : List ℕ) → well_named bs ≡ true → Some (name_of bs) ≡ name_from bs
a_name bs e = sym (cond-true (well_named bs) (Some (name_of bs)) None e)

-- what the making of a name asks for
pub ruleset two_words = (take_min, drop_min, a_name)
