use Rattle.tree.specs.Names.{unpacked}
use Rattle.tabbed_text.specs.Writing.{Writes}
use Rattle.tabbed_text.proofs.writer.Writer.word.Given as goal

abbrev pub invariant-loop-i : goal.invariant-loop-i
invariant-loop-i l = Writes (unpacked l.i l.word) l.initial.self l.self
