-- The order of ways that carry their weights is total. It stands in specs/ since a law that an impl in src/ gives can cite no
-- proofs/ of its own crate.
use Rattle.std.specs.Prelude.{◌≡◌, Bool}
use Rattle.orders.specs.Orders.{Total}
use Rattle.orders.proofs.Orders.{keyed_total}
use Rattle.cut_sets.specs.Ways.{size_then_lines}
use Rattle.cut_sets.proofs.Ways.{by_size}
use Rattle.lister.specs.Waiting.{waiting_le}
use Rattle.lister.specs.declared.waiting.Waiting.{Waiting}

same : {W : Type 0} (a b : Waiting W) → a.weight ≡ b.weight → a.way ≡ b.way → a ≡ b
same a b p q i = record { weight = p i; way = q i }

pub waiting_total : {W : Type 0} (le : W → W → Bool) → Total le → Total (waiting_le le)
waiting_total le o = keyed_total (λ w. w.weight) (λ w. w.way) le size_then_lines o by_size same
