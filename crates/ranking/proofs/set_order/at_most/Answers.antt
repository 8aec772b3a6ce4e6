use Rattle.std.proofs.Common.{arith}
use Rattle.ranking.proofs.SetOrders.{orders_sets}
use Rattle.ranking.proofs.set_order.at_most.Goals as goal

pub returns-clause-orders_sets : goal.returns-clause-orders_sets
returns-clause-orders_sets g c = orders_sets g.R.Ranking.model g.met.R.Ranking.lawful c.args.a c.args.b c.lexicographic.result (grind arith)
