use Rattle.std.proofs.Common.{nat_le}
use Rattle.pairing_heap.specs.Heaps.{Sound}
use Rattle.walkthrough_search.proofs.heaps.fill.Given as goal

abbrev pub invariant-loop-n : goal.invariant-loop-n
invariant-loop-n l = Sound nat_le l.nodes l.heap
