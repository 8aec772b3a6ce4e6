use Rattle.std.proofs.Common.{◌≡◌, ℕ, ◌<◌, Bool, true, false, List, length, get_or, MatchBool, refl, ◌∙◌, subst, rules, arith}
use Rattle.std.specs.List.{range_with_len, HoldsAt, AllWithin}
use Rattle.std.proofs.lemmas.Bool.{false≢true}
use Rattle.std.proofs.lemmas.Iterator.{cases_from_any, YieldsList-from_range}
use Rattle.std.proofs.lemmas.List.FromFn.{length-range_with_len, get_or-range_with_len}
use Rattle.tree.specs.Sets.{Tells}
use Rattle.tree.proofs.Holding.{lt_below}
use Rattle.cut_sets.specs.Cuts.{Spares}
use Rattle.cut_sets.proofs.cut.spares_one.Goals as goal

abbrev lines : List ℕ
lines = range_with_len 0 64

one_of : (P : ℕ → Type 0) (r : Bool) → MatchBool r ((k : ℕ) × (k < length lines) × HoldsAt P lines k) (AllWithin (λ i. P i → ⊥) lines 0 (length lines)) → ((i : ℕ) → P i → i < 64) → Tells r ((i : ℕ) × P i)
one_of P true h low = record { only = λ e. (get_or lines h.0 0, h.2 0); when = λ i. refl }
one_of P false h low =
    record {
      only = λ e. absurd (false≢true e);
      when = λ (i, p).
          let at : get_or lines i 0 ≡ i = get_or-range_with_len 0 64 i 0 (low i p) ∙ (omega arith) in
          let within : i < length lines = omega (arith, length-range_with_len 0 64, low i p) in
          absurd (subst (λ j. P j → ⊥) at (h i 0 (omega arith) within) p);
    }

pub returns : goal.returns
returns g c =
    let P = Spares (g.T.Tree.meaning c.args.tree.now) c.args.set in
    one_of P c.any.result (cases_from_any _ _ _ P (λ i. P i → ⊥) c.any.ensures.ran (YieldsList-from_range 0 64 64 refl (omega arith)) (λ x q k. search rules) (λ x q k. search rules))
    (λ i h. lt_below 64 c.args.set c.ranges.set.fits i h.0)
