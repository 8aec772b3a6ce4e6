use Rattle.std.proofs.Common.{◌≡◌}
use Rattle.ranking.specs.Charges.{grown}
use Rattle.ranking.proofs.charge.grown.Given as goal

abbrev pub invariant-loop : goal.invariant-loop
invariant-loop l = l.cents ≡ grown l.price l.growth l.counter
