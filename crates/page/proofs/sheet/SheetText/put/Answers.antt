use Rattle.std.proofs.Common.{◌^◌, ◌<◌, ◌++◌, length, codes, ap, ◌∙◌, subst, rules}
use Rattle.std.specs.List.{flat_map}
use Rattle.tabbed_text.specs.Writing.{Writes}
use Rattle.tabbed_text.proofs.Placing.{writes_then, still_short}
use Rattle.station_file.specs.Trees.{rows_of}
use Rattle.page.specs.Pages.{row_text, total_line}
use Rattle.page.proofs.Texts.{two_pieces}
use Rattle.page.proofs.sheet.SheetText.put.Goals as goal

pub returns : goal.returns
returns c =
    let s = c.args.self.now in
    let short : length c.args.w.now.out.now < 2 ^ 64 = search rules in
    let parts = c.put_parts-total.ensures.writes in
    let word = c.text.ensures.writes_text in
    let cents = c.put_field.ensures in
    let s₁ = still_short short parts in
    let s₂ = still_short s₁ word in
    let all = writes_then short parts (writes_then s₁ word (writes_then s₂ cents c.byte.ensures.writes_byte)) in
    let lines = flat_map (row_text s.terms.year s.terms.growth) (rows_of s.tree.now) in
    record { writes_bytes = subst (λ t. Writes t c.args.w.now c.byte.new.self) (ap (λ t. lines ++ t) (two_pieces (codes "total") c.put_parts-total.result) ∙ ap (λ n. lines ++ total_line n) c.put_parts-total.ensures.total) all }
