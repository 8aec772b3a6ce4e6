use Rattle.std.proofs.Common.{◌^◌, ◌<◌, length, subst, rules}
use Rattle.tree.specs.Names.{spelled}
use Rattle.tabbed_text.specs.Writing.{Writes}
use Rattle.tabbed_text.proofs.Placing.{writes_then, still_short}
use Rattle.page.proofs.Texts.{two_pieces}
use Rattle.page.proofs.sheet.put_charge.Goals as goal

pub returns : goal.returns
returns c =
    let short : length c.args.w.now.out.now < 2 ^ 64 = search rules in
    let name = c.name.ensures.writes_name in
    let cents = c.put_field.ensures in
    let all = writes_then short name (writes_then (still_short short name) cents c.byte.ensures.writes_byte) in
    subst (λ t. Writes t c.args.w.now c.byte.new.self) (two_pieces (spelled c.args.charged.name) c.args.charged.cents) all
