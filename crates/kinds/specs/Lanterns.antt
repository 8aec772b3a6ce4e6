-- Lanterns: t tiers of p lamps each, all lamps the same kind of part. A tier is dark when at least q of its lamps have
-- failed, the lantern when at least r of its tiers are dark. Lamp b of tier a, both from 0 on, is line a × p + b; tier a
-- is line t × p + a; the top is line t × p + t.
use Rattle.std.specs.Prelude.{ℕ, zero, suc, ◌+◌, ◌-◌, ◌*◌, ◌/◌, ◌%◌, ◌^◌, Bool, cond, ◌&&◌, List, [], ◌∷◌, map, nat_le, nat_lt}
use Rattle.std.specs.List.{range_with_len}
use Rattle.tree.specs.Names.{name_of}
use Rattle.tree.specs.Rules.{part_ok}
use Rattle.tree.specs.Sets.{has}
use Rattle.tree.specs.declared.line.Part.{Part}
use Rattle.tree.specs.declared.line.Line.{Line}
use Rattle.tree.specs.declared.line.Line.TheVariants as line
use Rattle.tree.specs.declared.line.Name.{Name}
use Rattle.tree.specs.declared.line.Row.{Row}

-- ---- which lanterns there are

-- a need of 1 to the count of what there is, at most 12
abbrev pub need_ok : ℕ → ℕ → Bool
need_ok need count = nat_le 1 need && nat_le need count && nat_le count 12

-- both needs, at most 64 lines in all, and the part keeps its limits
unfoldable pub in_limits : (t p q r : ℕ) → Part → Bool
in_limits t p q r part = (need_ok q p && need_ok r t) && (nat_le (t * p + t + 1) 64 && part_ok part)

-- ---- their lines

-- the set of the n lines from line i on
abbrev pub run : ℕ → ℕ → ℕ
run i n = (2 ^ n - 1) * 2 ^ i

-- a gate over those lines
abbrev pub gate_over : (i n need : ℕ) → Line
gate_over i n need = line.Gate (record { children = run i n; need = need })

-- tier a
abbrev pub tier_line : (p q a : ℕ) → Line
tier_line p q a = gate_over (a * p) p q

-- the top
abbrev pub last_line : (t p r : ℕ) → Line
last_line t p r = gate_over (t * p) t r

-- a letter and the line number in two digits
abbrev pub numbered : ℕ → ℕ → Name
numbered letter i = name_of (letter ∷ (48 + i / 10) ∷ (48 + i % 10) ∷ [])

-- line i with its name: L (76) for lamps, G (71) for gates
unfoldable pub lantern_row : (t p q r : ℕ) → Part → ℕ → Row
lantern_row t p q r part i =
    cond (nat_lt i (t * p)) (record { line = line.Part part; name = numbered 76 i })
    (cond (nat_lt i (t * p + t)) (record { line = tier_line p q (i - t * p); name = numbered 71 i })
    (record { line = last_line t p r; name = numbered 71 i }))

-- all lines, from line 0 on
unfoldable pub lantern_rows : (t p q r : ℕ) → Part → List Row
lantern_rows t p q r part = map (lantern_row t p q r part) (range_with_len 0 (t * p + t + 1))

-- ---- when they are dark

-- how many of the numbers below n pass a test
abbrev pub how_many : ℕ → (ℕ → Bool) → ℕ
how_many zero f = 0
how_many (suc n) f = cond (f n) 1 0 + how_many n f

-- whether at least q lamps of tier a are among the failed parts s
abbrev pub dark_tier : (p q s a : ℕ) → Bool
dark_tier p q s a = nat_le q (how_many p (λ b. has s (a * p + b)))

-- how many tiers are dark
unfoldable pub dark_tiers : (t p q s : ℕ) → ℕ
dark_tiers t p q s = how_many t (dark_tier p q s)
