-- The laws of sums, of the larger of two, and of pairs. They stand in specs/ since a law that an impl in src/ gives can
-- cite no proofs/ of its own crate.
use Rattle.std.specs.Prelude.{◌≡◌, ℕ, ◌+◌, ◌≤◌, max}
use Rattle.std.proofs.Common.{arith}
use Rattle.std.proofs.lemmas.Bool.{le-leb}
use Rattle.tree.specs.declared.line.Part.{Part}
use Rattle.ranking.specs.Models.{Model, Lawful, LawfulJoin, stopped, by_number, summed, class, paired}
use Rattle.orders.proofs.Orders.{leb_total, same_pair, keyed_total}

-- ---- sums that stop

low : (a b : ℕ) → a + b ≤ 18446744073709551615 → stopped a b ≡ a + b
low a b h = omega arith

high : (a b : ℕ) → 18446744073709551615 ≤ a + b → stopped a b ≡ max (max a b) 18446744073709551615
high a b h = omega arith

pub stopped_lawful : LawfulJoin stopped
stopped_lawful = record { commutative = λ a b. omega arith; associative = λ a b c. grind (arith, low, high); unit = λ a. omega arith; grows = λ a b. omega arith }

pub max_lawful : LawfulJoin max
max_lawful = record { commutative = λ a b. omega arith; associative = λ a b c. omega arith; unit = λ a. omega arith; grows = λ a b. omega arith }

pub by_number_lawful : (counted : Part → ℕ → ℕ) (join : ℕ → ℕ → ℕ) → LawfulJoin join → Lawful (by_number counted join)
by_number_lawful counted join j =
    record {
      order = leb_total;
      commutative = j.commutative;
      associative = j.associative;
      unit = j.unit;
      grows = λ a b. le-leb a (join a b) (j.grows a b);
    }

-- the two families by name: every ranking by a sum, and the one by the largest class
pub summed_lawful : (counted : Part → ℕ → ℕ) → Lawful (summed counted)
summed_lawful counted = by_number_lawful counted stopped stopped_lawful

pub class_lawful : Lawful class
class_lawful = by_number_lawful class.of_part max max_lawful

-- ---- one above another

module _ {U L : Type 0} (u : Model U) (l : Model L) (p : Lawful u) (q : Lawful l) where
  pub paired_lawful : Lawful (paired u l)
  paired_lawful =
      record {
        order = keyed_total (λ w. w.0) (λ w. w.1) u.le l.le p.order q.order same_pair;
        commutative = λ a b. cc (p.commutative a.0 b.0, q.commutative a.1 b.1);
        associative = λ a b c. cc (p.associative a.0 b.0 c.0, q.associative a.1 b.1 c.1);
        unit = λ a. same_pair _ a (p.unit a.0) (q.unit a.1);
        grows = λ a b. grind (arith, p.grows a.0 b.0, q.grows a.1 b.1);
      }
