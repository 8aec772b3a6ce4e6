-- A name is 1 to 12 ASCII letters, digits or hyphens. It is kept as two words and a length: the first eight bytes are
-- the base-256 digits of `head`, lowest first, the others those of `tail`, and digits past the length are 0.
use Rattle.std.specs.Prelude.{ℕ, zero, suc, ◌+◌, ◌-◌, ◌*◌, ◌/◌, ◌%◌, min, Bool, true, ◌&&◌, ◌||◌, List, [], ◌∷◌, ◌++◌, length, take, drop, ◌==◌, nat_le}
use Rattle.tree.specs.declared.line.Name.{Name}

-- a digit, a capital or small letter, or a hyphen
abbrev pub name_byte : ℕ → Bool
name_byte b = (nat_le 48 b && nat_le b 57) || (nat_le 65 b && nat_le b 90) || (nat_le 97 b && nat_le b 122) || b == 45

abbrev pub name_bytes : List ℕ → Bool
name_bytes [] = true
name_bytes (b ∷ bs) = name_byte b && name_bytes bs

-- the bytes make a name
abbrev pub well_named : List ℕ → Bool
well_named bs = nat_le 1 (length bs) && nat_le (length bs) 12 && name_bytes bs

-- the number that the bytes write in base 256, the lowest digit first
abbrev pub packed : List ℕ → ℕ
packed [] = 0
packed (b ∷ bs) = b + 256 * packed bs

-- its first k digits
abbrev pub unpacked : ℕ → ℕ → List ℕ
unpacked zero w = []
unpacked (suc k) w = w % 256 ∷ unpacked k (w / 256)

-- the bytes of a name
abbrev pub spelled : Name → List ℕ
spelled n = unpacked (min n.len 8) n.head ++ unpacked (n.len - 8) n.tail

-- the name of some bytes
abbrev pub name_of : List ℕ → Name
name_of bs = record { head = packed (take 8 bs); tail = packed (drop 8 bs); len = length bs }

abbrev pub same_name : Name → Name → Bool
same_name a b = a.head == b.head && a.tail == b.tail && a.len == b.len

-- its bytes make a name, and it is the name of its bytes
abbrev pub name_ok : Name → Bool
name_ok n = well_named (spelled n) && same_name (name_of (spelled n)) n
