-- Questions are asked one after another; the first that is answered no ends the call with its refusal.
use Rattle.std.specs.Prelude.{Ok, Err, Result}

abbrev pub then : {A B E : Type 0} → Result A E → (A → Result B E) → Result B E
then (Ok a) k = k a
then (Err e) k = Err e
