-- What is left by one writing after another.
use Rattle.std.proofs.Common.{◌≡◌, ℕ, suc, ◌+◌, ◌^◌, ◌<◌, ◌≤◌, List, [], ◌∷◌, ◌++◌, length, take, drop, get_or, set, sym, refl, ap, ◌∙◌, ⊎_elim, arith, length-append, length-set}
use Rattle.std.proofs.lemmas.List.{set_past, take_more}
use Rattle.std.proofs.lemmas.List.Edits.{sets, sets-eq}
use Rattle.std.proofs.lemmas.Bool.{cases_lt}
use Rattle.tabbed_text.specs.declared.writer.Writer.{Writer}
use Rattle.tabbed_text.specs.Writing.{placed, moved, Put, Writes}

pub length_placed : (xs : List ℕ) (at : ℕ) (ys : List ℕ) → length (placed xs at ys) ≡ length xs
length_placed xs at [] = refl
length_placed xs at (y ∷ ys) = length_placed (set xs at y) (suc at) ys ∙ length-set xs at y

pub placed_append : (xs : List ℕ) (at : ℕ) (ys zs : List ℕ) → placed xs at (ys ++ zs) ≡ placed (placed xs at ys) (at + length ys) zs
placed_append xs at [] zs = let e : at ≡ at + 0 = omega arith in ap (λ k. placed xs k zs) e
placed_append xs at (y ∷ ys) zs =
    let e : suc at + length ys ≡ at + suc (length ys) = omega arith in
    placed_append (set xs at y) (suc at) ys zs ∙ ap (λ k. placed (placed (set xs at y) (suc at) ys) k zs) e

-- past the end nothing is written
pub placed_past : (xs : List ℕ) (at : ℕ) (ys : List ℕ) → length xs ≤ at → placed xs at ys ≡ xs
placed_past xs at [] h = refl
placed_past xs at (y ∷ ys) h = ap (λ l. placed l (suc at) ys) (set_past xs at y h) ∙ placed_past xs (suc at) ys (omega arith)

-- so a place that has stopped at the highest number does no harm
pub placed_stopped : (xs : List ℕ) (at n : ℕ) (ys : List ℕ) → length xs < 2 ^ 64 → placed xs (moved at n) ys ≡ placed xs (at + n) ys
placed_stopped xs at n ys short =
    ⊎_elim
    (λ below. let e : moved at n ≡ at + n = omega arith in ap (λ k. placed xs k ys) e)
    (λ above. placed_past xs (moved at n) ys (omega arith) ∙ sym (placed_past xs (at + n) ys (omega arith)))
    (cases_lt (at + n) (2 ^ 64))

-- one text and then another
pub placed_then : (xs : List ℕ) (at : ℕ) (ys zs : List ℕ) → length xs < 2 ^ 64 → placed xs at (ys ++ zs) ≡ placed (placed xs at ys) (moved at (length ys)) zs
placed_then xs at ys zs short =
    placed_append xs at ys zs ∙ sym (placed_stopped (placed xs at ys) at (length ys) zs (omega (arith, length_placed xs at ys)))

pub moved_then : (at : ℕ) (ys zs : List ℕ) → moved at (length (ys ++ zs)) ≡ moved (moved at (length ys)) (length zs)
moved_then at ys zs = omega (arith, length-append ys zs)

as_sets : (xs : List ℕ) (at : ℕ) (ys : List ℕ) → placed xs at ys ≡ sets xs at ys
as_sets xs at [] = refl
as_sets xs at (y ∷ ys) = as_sets (set xs at y) (suc at) ys

-- what has room is written whole, and what lies beyond it stays
pub placed_all : (xs ys : List ℕ) → length ys ≤ length xs → placed xs 0 ys ≡ ys ++ drop (length ys) xs
placed_all xs ys h =
    let e : 0 + length ys ≡ length ys = omega arith in
    as_sets xs 0 ys ∙ sets-eq ys xs 0 (omega arith) ∙ ap (λ k. ys ++ drop k xs) e

pub put_none : (xs : List ℕ) (at : ℕ) → Put [] xs at xs at
put_none xs at = record { placed_from_place = refl; place_moves_on = omega arith }

-- one writing and then another
pub put_then : {ys zs lent between after : List ℕ} {at next last : ℕ} → length lent < 2 ^ 64 → Put ys lent at between next → Put zs between next after last → Put (ys ++ zs) lent at after last
put_then {ys} {zs} {lent} {between} {after} {at} short p q =
    record {
      placed_from_place = q.placed_from_place ∙ ap (λ k. placed between k zs) p.place_moves_on ∙ ap (λ l. placed l (moved at (length ys)) zs) p.placed_from_place ∙ sym (placed_then lent at ys zs short);
      place_moves_on = q.place_moves_on ∙ ap (λ k. moved k (length zs)) p.place_moves_on ∙ sym (moved_then at ys zs);
    }

-- a slice can be counted in 64 bits, whatever is written into it
pub still_short : {ys : List ℕ} {before after : Writer} → length before.out.now < 2 ^ 64 → Writes ys before after → length after.out.now < 2 ^ 64
still_short {ys} {before} short p = omega (arith, ap length p.put.placed_from_place, length_placed before.out.now before.at ys)

pub writes_none : (w : Writer) → Writes [] w w
writes_none w = record { put = put_none w.out.now w.at; same_slice = refl }

pub writes_then : {ys zs : List ℕ} {before between after : Writer} → length before.out.now < 2 ^ 64 → Writes ys before between → Writes zs between after → Writes (ys ++ zs) before after
writes_then short p q =
    record { put = put_then short p.put q.put; same_slice = q.same_slice ∙ p.same_slice }

-- one byte more of a text
pub text_more : (bs : List ℕ) (i : ℕ) → i < length bs → take (i + 1) bs ≡ take i bs ++ (get_or bs i 0 ∷ [])
text_more bs i more = take_more bs i 0 more

pub ruleset one_after_another = (placed_then, moved_then, text_more)
