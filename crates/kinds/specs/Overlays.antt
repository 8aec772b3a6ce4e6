-- Two sets of fixed lines leave a tree the rules of tree lines.
use Rattle.std.specs.Prelude.{◌≡◌, ℕ, suc, ◌^◌, ◌≤◌, true, cond, ◌&&◌, List, [], ◌∷◌, length, count_ones, nat_le, refl}
use Rattle.std.proofs.Common.{sym, ap, subst, ◌∙◌, arith, pow_pos}
use Rattle.std.proofs.lemmas.Bool.{and_parts, and_from, cond_both, lt-ltb, le-leb}
use Rattle.tree.specs.Rules.{line_ok, lines_ok, names_of, names_ok, keeps_rules}
use Rattle.tree.specs.Sets.{has}
use Rattle.tree.specs.declared.line.Line.{Line}
use Rattle.tree.specs.declared.line.Row.{Row}
use Rattle.tree.proofs.Sets.{ones_none}
use Rattle.kinds.specs.Fixings.{childless, overlaid_line, overlaid_from, overlaid}

-- a childless gate keeps the rules
childless_ok : (k need : ℕ) → need ≤ 1 → line_ok k (childless need) ≡ true
childless_ok k need low =
    and_from _ _ (and_from _ _ (lt-ltb 0 (2 ^ k) (pow_pos k)) (le-leb (count_ones 0) 12 (omega (arith, ones_none)))) (le-leb need 1 low)

module _ (failed sound : ℕ) where
  pub length_from : (k : ℕ) (rows : List Row) → length (overlaid_from k failed sound rows) ≡ length rows
  length_from k [] = refl
  length_from k (r ∷ rs) = ap suc (length_from (suc k) rs)

  names_from : (k : ℕ) (rows : List Row) → names_of (overlaid_from k failed sound rows) ≡ names_of rows
  names_from k [] = refl
  names_from k (r ∷ rs) = ap (λ ns. r.name ∷ ns) (names_from (suc k) rs)

  overlaid_ok : (k : ℕ) (l : Line) → line_ok k l ≡ true → line_ok k (overlaid_line failed sound k l) ≡ true
  overlaid_ok k l ok =
      cond_both (has failed k) (childless 0) (cond (has sound k) (childless 1) l) (λ x. line_ok k x ≡ true)
      (λ _. childless_ok k 0 (omega arith))
      (λ _. cond_both (has sound k) (childless 1) l (λ x. line_ok k x ≡ true) (λ _. childless_ok k 1 (omega arith)) (λ _. ok))

  lines_from : (k : ℕ) (rows : List Row) → lines_ok k rows ≡ true → lines_ok k (overlaid_from k failed sound rows) ≡ true
  lines_from k [] ok = refl
  lines_from k (r ∷ rs) ok =
      let p = and_parts (line_ok k r.line) (lines_ok (suc k) rs) ok in
      and_from _ _ (overlaid_ok k r.line p.0) (lines_from (suc k) rs p.1)

  pub overlaid_ruled : (rows : List Row) → keeps_rules rows ≡ true → keeps_rules (overlaid failed sound rows) ≡ true
  overlaid_ruled rows ok =
      let p = and_parts _ _ ok in
      let q = and_parts _ _ p.0 in
      let sized = subst (λ n. (nat_le 1 n && nat_le n 64) ≡ true) (sym (length_from 0 rows)) q.0 in
      and_from _ _ (and_from _ _ sized (lines_from 0 rows q.1)) (ap names_ok (names_from 0 rows) ∙ p.1)
