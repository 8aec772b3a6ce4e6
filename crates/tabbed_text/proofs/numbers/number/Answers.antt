use Rattle.std.proofs.Common.{◌∙◌, arith}
use Rattle.tabbed_text.proofs.Decimals.{none_past}
use Rattle.tabbed_text.proofs.numbers.number.Goals as goal

pub returns-in_err-checked_mul : goal.returns-in_err-checked_mul
returns-in_err-checked_mul c =
    let l = c.loop-b in
    let much = c.in_err-checked_mul.ensures in
    record { reads_number = c.from_residual.ensures ∙ none_past c.args.low c.args.high l.n l.b-index c.args.bytes.now l.invariant.value_kept c.loop-b-test.true (omega arith) }

pub returns-in_err-n : goal.returns-in_err-n
returns-in_err-n c =
    let l = c.loop-b in
    let much = c.in_err-n.ensures in
    record { reads_number = c.from_residual-in_err-n.ensures ∙ none_past c.args.low c.args.high l.n l.b-index c.args.bytes.now l.invariant.value_kept c.loop-b-test.true (omega arith) }
