use Rattle.std.proofs.Common.{arith}
use Rattle.ranking.proofs.Cents.{whole_now}
use Rattle.ranking.proofs.charge.charge.Goals as goal

pub returns-then-year-eq0-clause-in_whole_cents : goal.returns-then-year-eq0-clause-in_whole_cents
returns-then-year-eq0-clause-in_whole_cents c = whole_now _ _ c.args.part c.discounted.result (omega arith) c.discounted.ensures
