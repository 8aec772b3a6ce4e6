use Rattle.std.proofs.Common.{◌^◌, ◌<◌, length, subst, rules}
use Rattle.tabbed_text.specs.Writing.{Writes}
use Rattle.tabbed_text.proofs.Placing.{writes_then, still_short}
use Rattle.page.proofs.Texts.{refused_pieces}
use Rattle.page.proofs.refused.PageFaultText.put.Goals as goal

pub returns : goal.returns
returns c =
    let short : length c.args.w.now.out.now < 2 ^ 64 = search rules in
    let word = c.text.ensures.writes_text in
    let number = c.put_field.ensures in
    let tab = c.byte.ensures.writes_byte in
    let letter = c.byte-2.ensures.writes_byte in
    let line = c.put_field-2.ensures in
    let field = c.put_field-3.ensures in
    let end = c.byte-3.ensures.writes_byte in
    let s₁ = still_short short word in
    let s₂ = still_short s₁ number in
    let s₃ = still_short s₂ tab in
    let s₄ = still_short s₃ letter in
    let s₅ = still_short s₄ line in
    let all = writes_then short word (writes_then s₁ number (writes_then s₂ tab (writes_then s₃ letter (writes_then s₄ line (writes_then s₅ field end))))) in
    record { writes_bytes = subst (λ t. Writes t c.args.w.now c.byte-3.new.self) (refused_pieces c.args.self.now _ _ c.number.ensures.is_number c.letter.ensures.is_letter) all }
