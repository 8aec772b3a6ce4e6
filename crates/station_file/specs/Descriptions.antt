-- What a station file looks like from the side of one who writes it: a line for each line of the tree, in their order;
-- each line is its fields with single tabs between them, and ends with byte 10.
use Rattle.std.specs.Prelude.{◌≡◌, ℕ, zero, suc, ◌<◌, ◌≤◌, true, List, [], ◌∷◌, ◌++◌, map, length, Ok, Err, codes, decimal, Result, ◌≢◌, slice_index_or}
use Rattle.std.specs.List.{Contains}
use Rattle.tree.specs.Names.{spelled}
use Rattle.tree.specs.Rules.{keeps_rules}
use Rattle.tree.specs.Sets.{has}
use Rattle.tree.specs.declared.line.Part.{Part}
use Rattle.tree.specs.declared.line.Row.{Row}
use Rattle.tree.specs.declared.line.Line.TheVariants as a_line
use Rattle.tabbed_text.specs.Fields.{tabbed}
use Rattle.station_file.specs.Records.{gate}
use Rattle.station_file.specs.declared.faults.StationFault.{StationFault}

-- the name of line i of the rows, by its bytes
abbrev pub spelled_at : List Row → ℕ → List ℕ
spelled_at [] i = []
spelled_at (r ∷ rs) zero = spelled r.name
spelled_at (r ∷ rs) (suc i) = spelled_at rs i

-- the list has each line of the set once, in any order, and no other
pub record Lists (cs : List ℕ) (set : ℕ) : Type 0 where
  pub once : (i j c : ℕ) → i < j → j < length cs → slice_index_or cs i c ≢ slice_index_or cs j c
  pub only : (c : ℕ) → Contains cs c → has set c ≡ true
  pub every : (c : ℕ) → has set c ≡ true → Contains cs c

-- the four numbers of a part
abbrev pub part_fields : Part → List (List ℕ)
part_fields p =
    decimal p.rarity ∷ (decimal p.class ∷ (decimal p.discount ∷ (decimal p.price ∷ [])))

-- fields that say the row, where `above` are the lines above it: the name, a letter, and what the letter asks for
pub data Says (above : List Row) (r : Row) (fs : List (List ℕ)) : Type 0 where
  part : (p : Part) → r.line ≡ a_line.Part p → fs ≡ spelled r.name ∷ (codes "E" ∷ part_fields p) → Says above r fs
  all_of : (cs : List ℕ) (set : ℕ) → 0 < length cs → Lists cs set → r.line ≡ gate set (length cs)
      → fs ≡ spelled r.name ∷ (codes "A" ∷ map (spelled_at above) cs) → Says above r fs
  any_of : (cs : List ℕ) (set : ℕ) → 0 < length cs → Lists cs set → r.line ≡ gate set 1
      → fs ≡ spelled r.name ∷ (codes "O" ∷ map (spelled_at above) cs) → Says above r fs
  vote_of : (cs : List ℕ) (set need : ℕ) → 0 < length cs → Lists cs set → r.line ≡ gate set need
      → fs ≡ spelled r.name ∷ (codes "V" ∷ (decimal need ∷ map (spelled_at above) cs)) → Says above r fs
  always : r.line ≡ gate 0 0 → fs ≡ spelled r.name ∷ (codes "T" ∷ []) → Says above r fs
  never : r.line ≡ gate 0 1 → fs ≡ spelled r.name ∷ (codes "F" ∷ []) → Says above r fs

-- the bytes are the lines of the rows, which come after those above
abbrev pub DescribesAfter : List Row → List ℕ → List Row → Type 0
DescribesAfter above bs [] = bs ≡ []
DescribesAfter above bs (r ∷ rs) =
    (fs : List (List ℕ)) × (rest : List ℕ) × (bs ≡ tabbed fs ++ (10 ∷ rest)) × Says above r fs
    × DescribesAfter (above ++ (r ∷ [])) rest rs

abbrev pub Describes : List ℕ → List Row → Type 0
Describes bs rows = DescribesAfter [] bs rows

-- a file is accepted exactly when it describes a tree that keeps the rules, within the size limit, and the tree read is
-- the one that it describes
pub record ReadsExactly (bs : List ℕ) (answer : Result (Unit {0}) StationFault) (old new : List Row) : Type 0 where
  pub accepts : (rows : List Row) → Describes bs rows → keeps_rules rows ≡ true → length bs ≤ 16384 → (answer ≡ Ok tt) × (new ≡ rows)
  pub described : answer ≡ Ok tt → Describes bs new × (keeps_rules new ≡ true) × (length bs ≤ 16384)
  pub unchanged : (f : StationFault) → answer ≡ Err f → new ≡ old
