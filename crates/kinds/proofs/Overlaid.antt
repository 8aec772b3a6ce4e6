-- What two sets of fixed lines leave of a tree: its count, its names and its other lines.
use Rattle.std.proofs.Common.{◌≡◌, ℕ, zero, suc, ◌+◌, cond, List, [], ◌∷◌, length, Some, sym, refl, ap, ◌∙◌, add-zero, zero-add, arith}
use Rattle.std.specs.Option.{option_map}
use Rattle.tree.specs.Lines.{line_at, name_at}
use Rattle.tree.specs.declared.line.Row.{Row}
use Rattle.tree.proofs.Sets.{has_none}
use Rattle.kinds.specs.Fixings.{childless, overlaid_line, overlaid_row, overlaid_from, overlaid}
use Rattle.kinds.specs.Overlays.{length_from}

module _ (failed sound : ℕ) where
  name_from : (k : ℕ) (rows : List Row) (i : ℕ) → name_at (overlaid_from k failed sound rows) i ≡ name_at rows i
  name_from k [] i = refl
  name_from k (r ∷ rs) zero = refl
  name_from k (r ∷ rs) (suc i) = name_from (suc k) rs i

  line_from : (k : ℕ) (rows : List Row) (i : ℕ) → line_at (overlaid_from k failed sound rows) i ≡ option_map (overlaid_line failed sound (k + i)) (line_at rows i)
  line_from k [] i = refl
  line_from k (r ∷ rs) zero = ap (λ j. Some (overlaid_line failed sound j r.line)) (sym (add-zero k))
  line_from k (r ∷ rs) (suc i) =
      let e : suc k + i ≡ k + suc i = omega arith in
      line_from (suc k) rs i ∙ ap (λ j. option_map (overlaid_line failed sound j) (line_at rs i)) e

  pub overlaid_length : (rows : List Row) → length (overlaid failed sound rows) ≡ length rows
  overlaid_length rows = length_from failed sound 0 rows

  pub overlaid_name : (rows : List Row) (i : ℕ) → name_at (overlaid failed sound rows) i ≡ name_at rows i
  overlaid_name rows i = name_from 0 rows i

  pub overlaid_at : (rows : List Row) (i : ℕ) → line_at (overlaid failed sound rows) i ≡ option_map (overlaid_line failed sound i) (line_at rows i)
  overlaid_at rows i = line_from 0 rows i ∙ ap (λ j. option_map (overlaid_line failed sound j) (line_at rows i)) (zero-add i)

none_from : (k : ℕ) (rows : List Row) → overlaid_from k 0 0 rows ≡ rows
none_from k [] = refl
none_from k (r ∷ rs) =
    let line : overlaid_line 0 0 k r.line ≡ r.line = ap (λ b. cond b (childless 0) (cond b (childless 1) r.line)) (has_none k) in
    let row : overlaid_row 0 0 k r ≡ r = ap (λ l. record { line = l; name = r.name }) line in
    ap (λ x. x ∷ overlaid_from (suc k) 0 0 rs) row ∙ ap (λ xs. r ∷ xs) (none_from (suc k) rs)

pub overlaid_none : (rows : List Row) → overlaid 0 0 rows ≡ rows
overlaid_none rows = none_from 0 rows
