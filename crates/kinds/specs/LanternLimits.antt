-- What the limits of a lantern say, number by number.
use Rattle.std.specs.Prelude.{◌≡◌, ℕ, suc, ◌+◌, ◌*◌, ◌<◌, ◌≤◌, true, ◌&&◌, nat_le}
use Rattle.std.proofs.Common.{mul-le-mul_right, suc-mul, arith}
use Rattle.std.proofs.lemmas.Bool.{and_parts, leb-true}
use Rattle.tree.specs.Rules.{part_ok}
use Rattle.tree.specs.declared.line.Part.{Part}
use Rattle.kinds.specs.Lanterns.{need_ok, in_limits}

pub record Limits (t p q r : ℕ) (part : Part) : Type 0 where
  pub q_low : 1 ≤ q
  pub q_high : q ≤ p
  pub p_high : p ≤ 12
  pub r_low : 1 ≤ r
  pub r_high : r ≤ t
  pub t_high : t ≤ 12
  pub few : t * p + t + 1 ≤ 64
  pub part_keeps : part_ok part ≡ true

need_parts : (n c : ℕ) → need_ok n c ≡ true → (1 ≤ n) × (n ≤ c) × (c ≤ 12)
need_parts n c e =
    let a = and_parts (nat_le 1 n && nat_le n c) (nat_le c 12) e in
    let b = and_parts (nat_le 1 n) (nat_le n c) a.0 in
    (leb-true 1 n b.0, leb-true n c b.1, leb-true c 12 a.1)

pub limits : (t p q r : ℕ) (part : Part) → in_limits t p q r part ≡ true → Limits t p q r part
unfolding in_limits
limits t p q r part e =
    let a = and_parts (need_ok q p && need_ok r t) (nat_le (t * p + t + 1) 64 && part_ok part) e in
    let b = and_parts (nat_le (t * p + t + 1) 64) (part_ok part) a.1 in
    let d = and_parts (need_ok q p) (need_ok r t) a.0 in
    let x = need_parts q p d.0 in
    let y = need_parts r t d.1 in
    record { q_low = x.0; q_high = x.1; p_high = x.2; r_low = y.0; r_high = y.1; t_high = y.2; few = leb-true _ _ b.0; part_keeps = b.1 }

-- the lamps of tier a stand below the tiers
pub tier_fits : (t p a : ℕ) → a < t → a * p + p ≤ t * p
tier_fits t p a h = omega (arith, mul-le-mul_right {m = suc a} {n = t} p h, suc-mul a p)
