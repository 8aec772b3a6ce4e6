use Rattle.std.proofs.Common.{◌≡◌}
use Rattle.tree.specs.Sets.{lines_of}
use Rattle.cut_sets.specs.WaitingRule.{adding}
use Rattle.lister.specs.Listings.{rows_of, KeepsWeight, with_lines}
use Rattle.lister.proofs.Adding.{add_all}
use Rattle.lister.proofs.listing.Listing.add_choice.Given as goal

abbrev pub invariant-loop-i : goal.invariant-loop-i
invariant-loop-i g l =
    (with_lines g.R.Ranking.model l.self.rows.items l.added l.i-iterator ≡ with_lines g.R.Ranking.model l.self.rows.items l.fn.waiting (lines_of l.fn.choice))
    × (add_all (rows_of l.self.rows.items) l.added.way l.i-iterator ≡ adding (rows_of l.self.rows.items) l.fn.waiting.way l.fn.choice)
    × KeepsWeight g.R.Ranking.model l.self.rows.items l.fn.waiting l.added
