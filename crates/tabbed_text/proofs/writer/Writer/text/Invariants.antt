use Rattle.std.proofs.Common.{take}
use Rattle.tabbed_text.specs.Writing.{Writes}
use Rattle.tabbed_text.proofs.writer.Writer.text.Given as goal

abbrev pub invariant-loop-b : goal.invariant-loop-b
invariant-loop-b l = Writes (take l.b-index l.bytes) l.initial.self l.self
