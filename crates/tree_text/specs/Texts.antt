-- What is printed of a set of lines and of a line. A name is printed as its bytes.
use Rattle.std.specs.Prelude.{ℕ, zero, suc, cond, List, [], ◌++◌, codes}
use Rattle.std.specs.Fmt.{decimal}
use Rattle.tree.specs.Sets.{has}
use Rattle.tree.specs.declared.line.Line.{Line}
use Rattle.tree.specs.declared.line.Line.TheVariants.{Part, Gate}

-- the numbers of the lines below line n that a set has, each after a blank
unfoldable pub numbers_text : ℕ → ℕ → List ℕ
numbers_text s zero = []
numbers_text s (suc n) = numbers_text s n ++ cond (has s n) (codes " " ++ decimal n) []

abbrev pub set_text : ℕ → List ℕ
set_text s = codes "{" ++ numbers_text s 64 ++ codes " }"

abbrev pub line_text : Line → List ℕ
line_text (Part p) =
    codes "part, rarity " ++ decimal p.rarity ++ codes " class " ++ decimal p.class
    ++ codes " discount " ++ decimal p.discount ++ codes " price " ++ decimal p.price
line_text (Gate g) = codes "gate, " ++ decimal g.need ++ codes " of " ++ set_text g.children
