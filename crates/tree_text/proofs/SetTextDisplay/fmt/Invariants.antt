use Rattle.std.specs.Fmt.{HasWritten, IsPlainFormatter}
use Rattle.tree_text.specs.Texts.{numbers_text}
use Rattle.tree_text.proofs.SetTextDisplay.fmt.Given as goal

abbrev pub invariant-loop-i : goal.invariant-loop-i
invariant-loop-i g l =
    IsPlainFormatter l.initial.f → HasWritten g.W.Write.write_str_gives l.initial.f (numbers_text l.self.0 l.i-counter) l.f
