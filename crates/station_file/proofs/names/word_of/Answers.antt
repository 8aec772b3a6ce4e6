use Rattle.std.proofs.Common.{◌≡◌, ◌+◌, ◌-◌, length, drop, sym, ap, arith}
use Rattle.tree.specs.Names.{packed}
use Rattle.station_file.proofs.NameWords.{pack_step, pack_end, pack_room}
use Rattle.station_file.proofs.names.word_of.Goals as goal

pub loop-i-init : goal.loop-i-init
loop-i-init c = sym (pack_end c.args.bytes.now (length c.args.bytes.now) (omega arith))

pub overflow_mul-word : goal.overflow_mul-word
overflow_mul-word c = omega (arith, c.loop-i.invariant, pack_room c.args.bytes.now c.loop-i.i (λ k. omega (arith, c.type_inv.bytes k)) c.requires (omega arith) (omega arith))

pub overflow_add-word : goal.overflow_add-word
overflow_add-word c = omega (arith, c.loop-i.invariant, c.type_inv.bytes (c.loop-i.i - 1), pack_room c.args.bytes.now c.loop-i.i (λ k. omega (arith, c.type_inv.bytes k)) c.requires (omega arith) (omega arith))

pub loop-i-preserved : goal.loop-i-preserved
loop-i-preserved c =
    let bs = c.args.bytes.now in
    let i = c.loop-i.i in
    let e : i - 1 + 1 ≡ i = omega arith in
    let p : packed (drop (i - 1) bs) ≡ _ = pack_step bs (i - 1) (omega arith) in
    let q : packed (drop (i - 1 + 1) bs) ≡ packed (drop i bs) = ap (λ k. packed (drop k bs)) e in
    omega (arith, p, q, c.loop-i.invariant)
