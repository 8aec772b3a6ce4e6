use Rattle.std.proofs.Common.{rules}
use Rattle.page.proofs.Exactness.{refused_exactly, decides_task}
use Rattle.page.proofs.order.read_order.Goals as goal

pub returns-then-not-has_line-clause-decides : goal.returns-then-not-has_line-clause-decides
returns-then-not-has_line-clause-decides c = search (rules, refused_exactly)

pub returns-clause-decides : goal.returns-clause-decides
returns-clause-decides c = search (rules, decides_task)
