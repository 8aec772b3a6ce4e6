use Rattle.std.proofs.Common.{◌<◌, arith}
use Rattle.std.proofs.lemmas.Nat.{leading_top}
use Rattle.tree.proofs.Words.{highest_word}
use Rattle.tree.proofs.line_set.top_line.Goals as goal

pub returns : goal.returns
returns c =
    let some : 0 < c.args.set = omega arith in
    let (j, is, low, high) = leading_top 64 c.args.set some c.ranges.set.fits in
    highest_word 64 c.args.set _ some c.ranges.set.fits (omega arith)
