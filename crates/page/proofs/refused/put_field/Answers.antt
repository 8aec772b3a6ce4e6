use Rattle.std.proofs.Common.{◌^◌, ◌<◌, length, rules}
use Rattle.tabbed_text.proofs.Placing.{writes_then}
use Rattle.page.proofs.refused.put_field.Goals as goal

pub returns : goal.returns
returns c =
    let short : length c.args.w.now.out.now < 2 ^ 64 = search rules in
    writes_then short c.byte.ensures.writes_byte c.number.ensures.writes_digits
