use Rattle.std.proofs.Common.{◌≡◌, drop}
use Rattle.tabbed_text.specs.Numbers.{value_from, value, all_digits}
use Rattle.tabbed_text.proofs.numbers.number.Given as goal

abbrev pub invariant-loop-b : goal.invariant-loop-b
invariant-loop-b l = record {
  value_kept : value_from l.n (drop l.b-index l.bytes) ≡ value l.bytes;
  digits_kept : all_digits (drop l.b-index l.bytes) ≡ all_digits l.bytes;
}
