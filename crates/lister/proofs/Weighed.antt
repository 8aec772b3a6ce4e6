-- A way's highest open gate closed, and ways ordered by the weights that they carry.
use Rattle.std.proofs.Common.{◌≡◌, ℕ, ◌^◌, ◌<◌, Bool, true, false, cond, List, [], ◌∷◌, map, refl, ap, ◌∙◌, ap₂}
use lib.Bits.{bit_xor}
use Rattle.orders.specs.Lists.{Each}
use Rattle.orders.specs.Sorted.{insert}
use Rattle.tree.specs.Sets.{alone, Highest}
use Rattle.tree.specs.declared.line.Part.{Part}
use Rattle.tree.specs.declared.line.Row.{Row}
use Rattle.ranking.specs.Models.{Model}
use Rattle.cut_sets.specs.Ways.{size_then_lines, way_le}
use Rattle.lister.specs.Waiting.{Carries, waiting_le, InsertsWays}
use Rattle.lister.specs.declared.waiting.Waiting.{Waiting}
use Rattle.lister.proofs.ListedChoices.{alone_is}

pub closed_gate : (s i a : ℕ) → Highest s i → s < 18446744073709551616 → a ≡ alone i → bit_xor s a ≡ bit_xor s (2 ^ i)
closed_gate s i a top w e = ap (bit_xor s) (e ∙ alone_is s i w top)

module _ {W : Type 0} (m : Model W) (charge_of : Part → ℕ) (rows : List Row) where
  same_order : (a b : Waiting W) → Carries m charge_of rows a → Carries m charge_of rows b → waiting_le m.le a b ≡ way_le m charge_of rows a.way b.way
  same_order a b p q = ap₂ (λ x y. cond (m.le x y) (cond (m.le y x) (size_then_lines a.way b.way) true) false) p q

  inserted : (w : Waiting W) (ws : List (Waiting W)) → Carries m charge_of rows w → Each (Carries m charge_of rows) ws
      → map (λ v. v.way) (insert (waiting_le m.le) w ws) ≡ insert (way_le m charge_of rows) w.way (map (λ v. v.way) ws)
  inserted w [] p q = refl
  inserted w (v ∷ vs) p q = go (waiting_le m.le w v) (way_le m charge_of rows w.way v.way) (same_order w v p q.0) (inserted w vs p q.1)
    where
      go : (b c : Bool) → b ≡ c → map (λ v. v.way) (insert (waiting_le m.le) w vs) ≡ insert (way_le m charge_of rows) w.way (map (λ v. v.way) vs)
          → map (λ v. v.way) (cond b (w ∷ (v ∷ vs)) (v ∷ insert (waiting_le m.le) w vs))
          ≡ cond c (w.way ∷ (v.way ∷ map (λ v. v.way) vs)) (v.way ∷ insert (way_le m charge_of rows) w.way (map (λ v. v.way) vs))
      go true c e h = ap (λ c. cond c (w.way ∷ (v.way ∷ map (λ v. v.way) vs)) (v.way ∷ insert (way_le m charge_of rows) w.way (map (λ v. v.way) vs))) e
      go false c e h = ap (λ xs. v.way ∷ xs) h ∙ ap (λ c. cond c (w.way ∷ (v.way ∷ map (λ v. v.way) vs)) (v.way ∷ insert (way_le m charge_of rows) w.way (map (λ v. v.way) vs))) e

pub inserts_ways : {W : Type 0} (m : Model W) → InsertsWays m
inserts_ways m charge_of rows w ws p q = inserted m charge_of rows w ws p q
