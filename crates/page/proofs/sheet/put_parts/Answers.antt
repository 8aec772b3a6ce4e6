use Rattle.std.proofs.Common.{◌≡◌, ◌+◌, ◌^◌, ◌<◌, length, take, sym, refl, ap, ◌∙◌, subst, add-zero, arith, rules}
use Rattle.std.proofs.lemmas.List.{take_all, append-nil}
use Rattle.std.specs.List.{flat_map}
use Rattle.tabbed_text.specs.Writing.{Writes}
use Rattle.tabbed_text.proofs.Placing.{writes_none, writes_then}
use Rattle.station_file.specs.Trees.{rows_of}
use Rattle.page.specs.Pages.{row_text, total_cost}
use Rattle.page.proofs.Sheets.{text_more, total_more}
use Rattle.page.proofs.sheet.put_parts.Goals as goal
use Rattle.page.proofs.sheet.put_parts.Goals.{in-Some, in_default}

pub loop-i-init : goal.loop-i-init
loop-i-init c = (writes_none c.args.w.now, refl, omega arith)

pub loop-i-preserved : goal.loop-i-preserved
loop-i-preserved c =
    let y = c.args.terms.year in
    let g = c.args.terms.growth in
    let rows = rows_of c.args.tree.now in
    let i = c.loop-i.i in
    let inv = c.loop-i.invariant in
    let h : i < length rows = omega (arith, c.loop-i-test.true, c.count-i-end.ensures.counts_lines) in
    let short : length c.args.w.now.out.now < 2 ^ 64 = search rules in
    elim c.match-charged_at.branch [
      | in-Some w ↦ (
        subst (λ t. Writes t c.args.w.now c.match-charged_at.w) (text_more y g rows i _ h w.in-Some.ensures.value) (rw w.w-is (writes_then short inv.0 w.put_charge.ensures)),
        w.total-is ∙ ap (λ n. n + w.in-Some.charged.cents) inv.1 ∙ total_more y g rows i _ h w.in-Some.ensures.value,
        omega (arith, w.total-is, inv.2, w.in-Some.ensures.low),
      )
      | in_default w ↦ (
        subst (λ t. Writes t c.args.w.now c.match-charged_at.w) (sym (append-nil _) ∙ text_more y g rows i _ h w.in_default.ensures.value) (rw w.w-is inv.0),
        w.total-is ∙ inv.1 ∙ sym (add-zero _) ∙ total_more y g rows i _ h w.in_default.ensures.value,
        omega (arith, w.total-is, inv.2),
      )
    ]

pub returns : goal.returns
returns c =
    let rows = rows_of c.args.tree.now in
    let all : take c.loop-i.i rows ≡ rows = take_all c.loop-i.i rows (omega (arith, c.loop-i-test.false, c.count-i-end.ensures.counts_lines)) in
    record {
      writes = subst (λ rs. Writes (flat_map (row_text c.args.terms.year c.args.terms.growth) rs) c.args.w.now c.loop-i.w) all c.loop-i.invariant.0;
      total = c.loop-i.invariant.1 ∙ ap (total_cost c.args.terms.year c.args.terms.growth) all;
    }
