use Rattle.std.proofs.Common.{◌≡◌, ◌*◌, ◌^◌, ◌≤◌, take}
use Rattle.std.specs.List.{flat_map}
use Rattle.tabbed_text.specs.Writing.{Writes}
use Rattle.station_file.specs.Trees.{rows_of}
use Rattle.page.specs.Pages.{row_text, total_cost}
use Rattle.page.proofs.sheet.put_parts.Given as goal

abbrev pub invariant-loop-i : goal.invariant-loop-i
invariant-loop-i l =
    Writes (flat_map (row_text l.terms.year l.terms.growth) (take l.i (rows_of l.tree))) l.initial.w l.w
    × (l.total ≡ total_cost l.terms.year l.terms.growth (take l.i (rows_of l.tree)))
    × (l.total ≤ l.i * 2 ^ 42)
