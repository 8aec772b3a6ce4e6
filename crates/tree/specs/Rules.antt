-- The rules of tree lines, and nothing else: every kind of station tree keeps them.
use Rattle.std.specs.Prelude.{ℕ, suc, ◌^◌, Bool, true, false, cond, not, ◌&&◌, ◌||◌, List, [], ◌∷◌, map, length, ◌==◌, count_ones, nat_le, nat_lt}
use Rattle.tree.specs.Names.{same_name, name_ok}
use Rattle.tree.specs.declared.line.Part.{Part}
use Rattle.tree.specs.declared.line.Gate.{Gate}
use Rattle.tree.specs.declared.line.Line.{Line}
use Rattle.tree.specs.declared.line.Line.TheVariants as line
use Rattle.tree.specs.declared.line.Name.{Name}
use Rattle.tree.specs.declared.line.Row.{Row}

abbrev pub part_ok : Part → Bool
part_ok p = nat_le p.rarity 60000 && nat_le p.class 9 && nat_le p.discount 1000 && nat_le p.price 10000000

-- line i as a gate: every child is below line i, there are at most 12, and the need is 1 to their number;
-- a gate without children needs 0 and always holds, or needs 1 and never does
abbrev pub gate_ok : ℕ → Gate → Bool
gate_ok i g =
    nat_lt g.children (2 ^ i) && nat_le (count_ones g.children) 12
    && cond (g.children == 0) (nat_le g.need 1) (nat_le 1 g.need && nat_le g.need (count_ones g.children))

abbrev pub line_ok : ℕ → Line → Bool
line_ok i (line.Part p) = part_ok p
line_ok i (line.Gate g) = gate_ok i g

-- the lines from line i on
abbrev pub lines_ok : ℕ → List Row → Bool
lines_ok i [] = true
lines_ok i (r ∷ rs) = line_ok i r.line && lines_ok (suc i) rs

abbrev pub among : Name → List Name → Bool
among n [] = false
among n (m ∷ ms) = same_name m n || among n ms

-- all are names, and no two are the same
abbrev pub names_ok : List Name → Bool
names_ok [] = true
names_ok (n ∷ ns) = name_ok n && not (among n ns) && names_ok ns

abbrev pub names_of : List Row → List Name
names_of rows = map (λ r. r.name) rows

abbrev pub keeps_rules : List Row → Bool
keeps_rules rows =
    nat_le 1 (length rows) && nat_le (length rows) 64 && lines_ok 0 rows && names_ok (names_of rows)
