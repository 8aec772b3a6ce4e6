use Rattle.std.proofs.Common.{nat_le}
use Rattle.pairing_heap.specs.Heaps.{Sound}
use Rattle.walkthrough_search.proofs.heaps.empty.Given as goal

abbrev pub invariant-loop : goal.invariant-loop
invariant-loop l = Sound nat_le l.nodes l.heap
