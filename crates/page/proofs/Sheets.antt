-- The charge sheet, one line of the tree more.
use Rattle.std.proofs.Common.{◌≡◌, ℕ, ◌+◌, ◌<◌, List, [], ◌∷◌, ◌++◌, length, get_or, take, Some, Option, sym, ap, ◌∙◌, arith}
use Rattle.std.specs.List.{flat_map, slice_get}
use Rattle.std.proofs.lemmas.List.{flat_map_more, take_more}
use Rattle.std.proofs.lemmas.Option.{slice_get-get_or}
use Rattle.std.proofs.lemmas.List.Sums.{sum_by_push}
use Rattle.tree.specs.declared.line.Row.{Row}
use Rattle.page.specs.Pages.{charged_row, charged_at, row_text, text_of, cost_of, total_cost}
use Rattle.page.specs.declared.sheet.Charged.{Charged}

next_row : (rows : List Row) (i : ℕ) → i < length rows → (r : Row) × (slice_get rows i ≡ Some r) × (take (i + 1) rows ≡ take i rows ++ (r ∷ []))
next_row [] i h = let z : ⊥ = omega arith in absurd z
next_row (r ∷ rs) i h = (get_or (r ∷ rs) i r, slice_get-get_or (r ∷ rs) i r h, take_more (r ∷ rs) i r h)

-- one row more, which is charged as o says
module _ (year growth : ℕ) (rows : List Row) (i : ℕ) (o : Option Charged) (h : i < length rows) (is : o ≡ charged_at year growth (slice_get rows i)) where
  pub text_more : flat_map (row_text year growth) (take i rows) ++ text_of o ≡ flat_map (row_text year growth) (take (i + 1) rows)
  text_more =
      let (r, at, more) = next_row rows i h in
      ap (λ x. flat_map (row_text year growth) (take i rows) ++ text_of x) (is ∙ ap (charged_at year growth) at)
      ∙ flat_map_more (row_text year growth) [] (take i rows) r ∙ ap (flat_map (row_text year growth)) (sym more)

  pub total_more : total_cost year growth (take i rows) + cost_of o ≡ total_cost year growth (take (i + 1) rows)
  total_more =
      let (r, at, more) = next_row rows i h in
      ap (λ x. total_cost year growth (take i rows) + cost_of x) (is ∙ ap (charged_at year growth) at)
      ∙ sym (sum_by_push (λ r. cost_of (charged_row year growth r)) (take i rows) r) ∙ ap (total_cost year growth) (sym more)
