use Rattle.std.proofs.Common.{◌≡◌, drop}
use Rattle.tree.specs.Names.{packed}
use Rattle.station_file.proofs.names.word_of.Given as goal

abbrev pub invariant-loop-i : goal.invariant-loop-i
invariant-loop-i l = l.word ≡ packed (drop l.i l.bytes)
