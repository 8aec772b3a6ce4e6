-- What a lantern means, and what `Lantern::new` answers.
use Rattle.std.specs.Prelude.{ℕ, Bool, cond, List, Ok, Err, Result, nat_le}
use Rattle.tree.specs.declared.line.Part.{Part}
use Rattle.tree.specs.declared.line.Row.{Row}
use Rattle.kinds.specs.Lanterns.{in_limits, lantern_rows, dark_tiers}
use Rattle.kinds.specs.declared.lantern.Lantern.{Lantern}

abbrev pub rows_of : Lantern → List Row
rows_of l = lantern_rows l.design.tiers l.design.lamps l.design.lamp_need l.design.tier_need l.design.part

-- whether at least `tier_need` tiers have at least `lamp_need` of their lamps among the failed parts s
abbrev pub dark : Lantern → ℕ → Bool
dark l s = nat_le l.design.tier_need (dark_tiers l.design.tiers l.design.lamps l.design.lamp_need s)

abbrev pub values_of : Lantern → ℕ × ℕ × ℕ × ℕ × Part
values_of l = (l.design.tiers, l.design.lamps, l.design.lamp_need, l.design.tier_need, l.design.part)

-- the values of the lantern, where they keep the limits, or what the refusal says
abbrev pub asked_lantern : (t p q r : ℕ) → Part → Result (ℕ × ℕ × ℕ × ℕ × Part) (ℕ × ℕ × ℕ × ℕ)
asked_lantern t p q r part = cond (in_limits t p q r part) (Ok (t, p, q, r, part)) (Err (16, 84, 0, 0))
