-- Which lines hold: the law of each line, and that more failed parts never make fewer lines hold.
use Rattle.std.proofs.Common.{◌≡◌, ℕ, zero, suc, ◌+◌, ◌^◌, ◌<◌, ◌≤◌, Bool, true, false, ◌&&◌, ltb, leb, ◌⊎◌, List, [], ◌∷◌, length, Some, None, sym, refl, ap, ◌∙◌, subst, inl, inr, ⊎_elim, arith, pow_pos}
use lib.Bits.{bit_and}
use lib.Count.{ones}
use Rattle.std.proofs.lemmas.Bool.{leb-true, leb-false, le-leb, lt-leb, lt-ltb, ltb-true, cases_Bool, cases_lt, and_parts, and_from, both_ways}
use Rattle.tree.specs.Holding.{the_line, told, holds_by, line_holds, holding, HoldingLaws}
use Rattle.tree.specs.Lines.{line_at}
use Rattle.tree.specs.Rules.{gate_ok, line_ok, lines_ok, names_ok, names_of, keeps_rules}
use Rattle.tree.specs.Sets.{has, ◌⊆◌, Below}
use Rattle.tree.specs.declared.line.Part.{Part}
use Rattle.tree.specs.declared.line.Gate.{Gate}
use Rattle.tree.specs.declared.line.Line.{Line}
use Rattle.tree.specs.declared.line.Line.TheVariants as line
use Rattle.tree.specs.declared.line.Row.{Row}
use Rattle.tree.proofs.Sets.{no_test, same_set, has_and, has_past, ones_mono, ones_none, meet_mono}
use Rattle.tree.proofs.Told.{told_below, told_is, told_mono}

-- ---- the rules of one line

line_ruled : (n : ℕ) (t : List Row) (i : ℕ) → lines_ok n t ≡ true → i < length t → line_ok (n + i) (the_line t i) ≡ true
line_ruled n [] i k h = absurd (omega arith)
line_ruled n (r ∷ rs) zero k h = let e : n + 0 ≡ n = omega arith in rw e (and_parts _ _ k).0
line_ruled n (r ∷ rs) (suc i) k h = let e : n + suc i ≡ suc n + i = omega arith in rw e (line_ruled (suc n) rs i (and_parts (line_ok n r.line) _ k).1 (omega arith))

pub rules_of_line : (t : List Row) → keeps_rules t ≡ true → (i : ℕ) → i < length t → line_ok i (the_line t i) ≡ true
rules_of_line t k i h =
    let lines = (and_parts (leb 1 (length t) && leb (length t) 64 && lines_ok 0 t) (names_ok (names_of t)) k).0 in
    let e : 0 + i ≡ i = omega arith in
    rw e at (line_ruled 0 t i (and_parts (leb 1 (length t) && leb (length t) 64) (lines_ok 0 t) lines).1 h)

pub lt_below : (n s : ℕ) → s < 2 ^ n → Below n s
lt_below n s h i e = ⊎_elim (λ t. leb-true (suc i) n t) (λ f. absurd (both_ways _ (has_past n s i h (let x = leb-false (suc i) n f in omega arith)) e)) (cases_Bool (leb (suc i) n))

module _ (t : List Row) (k : keeps_rules t ≡ true) where
  count_ok : (leb 1 (length t) ≡ true) × (leb (length t) 64 ≡ true)
  count_ok =
      and_parts (leb 1 (length t)) (leb (length t) 64)
      (and_parts (leb 1 (length t) && leb (length t) 64) (lines_ok 0 t) (and_parts (leb 1 (length t) && leb (length t) 64 && lines_ok 0 t) (names_ok (names_of t)) k).0).0

  pub some_line : 1 ≤ length t
  some_line = leb-true 1 (length t) count_ok.0

  pub few_lines : length t ≤ 64
  few_lines = leb-true (length t) 64 count_ok.1

-- ---- past the last line

pub past : (t : List Row) (i : ℕ) → length t ≤ i → the_line t i ≡ line.Gate (record { children = 0; need = 1 })
past [] i h = refl
past (e ∷ es) zero h = absurd (omega arith)
past (e ∷ es) (suc i) h = past es i (omega arith)

pub line_there : (t : List Row) (i : ℕ) (l : Line) → Some l ≡ line_at t i → the_line t i ≡ l
line_there [] i l e = let z : ◌≡◌ {A = ℕ} 0 1 = cc in absurd (omega arith)
line_there (r ∷ rs) zero l e = cc
line_there (r ∷ rs) (suc i) l e = line_there rs i l e

pub none_there : (t : List Row) (i : ℕ) → None ≡ line_at t i → length t ≤ i
none_there [] i e = omega arith
none_there (r ∷ rs) zero e = let z : ◌≡◌ {A = ℕ} 0 1 = cc in absurd (omega arith)
none_there (r ∷ rs) (suc i) e = omega (arith, none_there rs i e)

pub not_both : (l : Line) (p : Part) (g : Gate) → l ≡ line.Part p → l ≡ line.Gate g → ⊥
not_both l p g e h = let z : ◌≡◌ {A = ℕ} 0 1 = cc in omega arith

pub part_in : (t : List Row) (i : ℕ) (p : Part) → the_line t i ≡ line.Part p → i < length t
part_in t i p e = ⊎_elim (λ h. leb-true (suc i) (length t) h) (λ h. absurd (not_both (the_line t i) p _ e (past t i (let x = leb-false (suc i) (length t) h in omega arith)))) (cases_Bool (leb (suc i) (length t)))

-- ---- the rules of a gate, also past the last line

pub rules_of_gate : (t : List Row) → keeps_rules t ≡ true → (i : ℕ) (g : Gate) → the_line t i ≡ line.Gate g → gate_ok i g ≡ true
rules_of_gate t k i g e = ⊎_elim (λ h. sym (ap (line_ok i) e) ∙ rules_of_line t k i h) (λ h. beyond (let is : g ≡ record { children = 0; need = 1 } = cc (past t i h) in is)) (cases_lt i (length t))
  where
    beyond : g ≡ record { children = 0; need = 1 } → gate_ok i g ≡ true
    beyond is = subst (λ (g : Gate). gate_ok i g ≡ true) (sym is) (and_from _ _ (and_from _ _ (lt-ltb 0 (2 ^ i) (omega (arith, pow_pos i))) (le-leb (ones 0) 12 (omega (arith, ones_none)))) refl)

module _ (t : List Row) (k : keeps_rules t ≡ true) (i : ℕ) (g : Gate) (e : the_line t i ≡ line.Gate g) where
  numbers_ok : (ltb g.children (2 ^ i) ≡ true) × (leb (ones g.children) 12 ≡ true)
  numbers_ok = and_parts (ltb g.children (2 ^ i)) _ (and_parts (ltb g.children (2 ^ i) && leb (ones g.children) 12) _ (rules_of_gate t k i g e)).0

  pub children_below : Below i g.children
  children_below = lt_below i g.children (ltb-true _ _ numbers_ok.0)

  pub few_children : ones g.children ≤ 12
  few_children = leb-true _ _ numbers_ok.1

-- ---- the law of each line

pub holds_part : (t : List Row) (i : ℕ) (p : Part) (s : ℕ) → the_line t i ≡ line.Part p → has (holding t s) i ≡ has s i
unfolding holding
holds_part t i p s e = told_is (line_holds t s) (length t) i (part_in t i p e) ∙ ap (λ l. holds_by l s i (told (line_holds t s) i)) e

same_meet : (c a b : ℕ) → ((i : ℕ) → has c i ≡ true → has a i ≡ has b i) → bit_and c a ≡ bit_and c b
same_meet c a b h = same_set _ _ (λ i. has_and c a i ∙ go (has c i) (h i) ∙ sym (has_and c b i))
  where
    go : {x y : Bool} (v : Bool) → (v ≡ true → x ≡ y) → (v && x) ≡ (v && y)
    go true h = h refl
    go false h = refl

pub holds_gate : (t : List Row) → keeps_rules t ≡ true → (i : ℕ) (g : Gate) (s : ℕ) → the_line t i ≡ line.Gate g → has (holding t s) i ≡ leb g.need (ones (bit_and g.children (holding t s)))
unfolding holding
holds_gate t k i g s e = go (cases_Bool (leb (suc i) (length t)))
  where
    f : ℕ → ℕ → Bool
    f = line_holds t s

    go : (leb (suc i) (length t) ≡ true) ⊎ (leb (suc i) (length t) ≡ false) → has (told f (length t)) i ≡ leb g.need (ones (bit_and g.children (told f (length t))))
    go (inl h) =
        let lt = leb-true (suc i) (length t) h in
        told_is f (length t) i lt ∙ ap (λ l. holds_by l s i (told f i)) e
        ∙ ap (λ x. leb g.need (ones x))
        (same_meet g.children (told f i) (told f (length t)) (λ j c. let b = children_below t k i g e j c in told_is f i j b ∙ sym (told_is f (length t) j (omega arith))))
    go (inr h) =
        let ge = leb-false (suc i) (length t) h in
        let is : g ≡ record { children = 0; need = 1 } = cc (past t i (omega arith)) in
        no_test _ (λ x. let y = told_below f (length t) i x in omega arith)
        ∙ sym (subst (λ (g : Gate). leb g.need (ones (bit_and g.children (told f (length t)))) ≡ false) (sym is) (lt-leb 1 (ones 0) (omega (arith, ones_none))))

pub holds_more : (t : List Row) (s u : ℕ) → s ⊆ u → holding t s ⊆ holding t u
unfolding holding
holds_more t s u h = told_mono (line_holds t s) (line_holds t u) (λ i a b sub e. go (the_line t i) i a b sub e) (length t)
  where
    go : (l : Line) (i a b : ℕ) → a ⊆ b → holds_by l s i a ≡ true → holds_by l u i b ≡ true
    go (line.Part p) i a b sub e = h i e
    go (line.Gate g) i a b sub e = le-leb _ _ (let x = leb-true g.need (ones (bit_and g.children a)) e in let y = ones_mono _ _ (meet_mono g.children a b sub) in omega arith)

pub holding_laws : (t : List Row) → keeps_rules t ≡ true → HoldingLaws t
holding_laws t k = record { part = holds_part t; gate = holds_gate t k; more = holds_more t }
