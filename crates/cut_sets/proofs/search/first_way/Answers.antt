use Rattle.cut_sets.proofs.Ways.{ways_total}
use Rattle.cut_sets.proofs.Listing.{lists_in_order, ways_in_order}
use Rattle.cut_sets.proofs.Steps.{as_many_enter, steps_one_way}
use Rattle.cut_sets.proofs.Runs.{comes_next, enough_slots}
use Rattle.cut_sets.proofs.Examples.{worked_out}
use Rattle.cut_sets.proofs.search.first_way.Goals as goal

pub returns-clause-ways_are_ordered : goal.returns-clause-ways_are_ordered
returns-clause-ways_are_ordered g c charge_of = ways_total g.R.Ranking.model g.met.R.Ranking.lawful charge_of (g.T.Tree.meaning c.args.tree.now)

pub returns-clause-always_lists_minimal_cut_sets_in_order : goal.returns-clause-always_lists_minimal_cut_sets_in_order
returns-clause-always_lists_minimal_cut_sets_in_order g c charge_of slots d s =
    let t = c.args.tree.now in
    lists_in_order g.R.Ranking.model g.met.R.Ranking.lawful charge_of (g.T.Tree.meaning t) (g.met.T.Tree.ruled t) slots d s

pub returns-clause-ways_always_wait_in_order : goal.returns-clause-ways_always_wait_in_order
returns-clause-ways_always_wait_in_order g c charge_of slots d s =
    let t = c.args.tree.now in
    ways_in_order g.R.Ranking.model g.met.R.Ranking.lawful charge_of (g.T.Tree.meaning t) (g.met.T.Tree.ruled t) slots d s

pub returns-clause-next_is_first_that_remains_or_none_or_blocked : goal.returns-clause-next_is_first_that_remains_or_none_or_blocked
returns-clause-next_is_first_that_remains_or_none_or_blocked g c charge_of slots d s =
    let t = c.args.tree.now in
    comes_next g.R.Ranking.model g.met.R.Ranking.lawful charge_of (g.T.Tree.meaning t) (g.met.T.Tree.ruled t) slots d s

pub returns-clause-steps_go_one_way_and_end : goal.returns-clause-steps_go_one_way_and_end
returns-clause-steps_go_one_way_and_end g c charge_of slots =
    let t = c.args.tree.now in
    steps_one_way (g.T.Tree.meaning t) (g.met.T.Tree.ruled t) g.R.Ranking.model charge_of slots

pub returns-clause-lists_all_with_enough_slots : goal.returns-clause-lists_all_with_enough_slots
returns-clause-lists_all_with_enough_slots g c charge_of =
    let t = c.args.tree.now in
    enough_slots g.R.Ranking.model g.met.R.Ranking.lawful charge_of (g.T.Tree.meaning t) (g.met.T.Tree.ruled t)

pub returns-clause-as_many_ways_enter_as_choices : goal.returns-clause-as_many_ways_enter_as_choices
returns-clause-as_many_ways_enter_as_choices g c = let t = c.args.tree.now in as_many_enter (g.T.Tree.meaning t) (g.met.T.Tree.ruled t)

pub returns-clause-worked_examples_come_out : goal.returns-clause-worked_examples_come_out
returns-clause-worked_examples_come_out g c = worked_out
