-- A table that passes the test of Pascal's rule has the numbers of choices.
use Rattle.std.proofs.Common.{◌≡◌, ℕ, zero, suc, ◌+◌, ◌<◌, ◌≤◌, Bool, true, ◌&&◌, eqb, List, sym, refl, ap, ◌∙◌, ap₂, ⊎_elim, add-one, arith}
use Rattle.std.proofs.lemmas.Bool.{and_parts, eqb-true, cases_eq}
use Rattle.choices.specs.declared.TheConstants.{COUNTS}
use Rattle.choices.specs.Counts.{binom, entry, Pascal, every, keeps_pascal}

every_at : (n : ℕ) (p : ℕ → Bool) → every n p ≡ true → (k : ℕ) → k < n → p k ≡ true
every_at zero p h k l = absurd (omega arith)
every_at (suc n) p h k l =
    let (here, rest) = and_parts (p n) (every n p) h in
    ⊎_elim (λ e. rw e here) (λ ne. every_at n p rest k (omega arith)) (cases_eq k n)

pub table_keeps : (t : List (List ℕ)) → keeps_pascal t ≡ true → Pascal t
table_keeps t h =
    let column = every 13 (λ m. eqb (entry t m 0) 1) in
    let row = every 12 (λ q. eqb (entry t 0 (q + 1)) 0) in
    let (edges, inner) = and_parts (column && row) _ h in
    let (c, r) = and_parts column row edges in
    record {
      first_column = λ m l. eqb-true _ _ (every_at 13 (λ m. eqb (entry t m 0) 1) c m (omega arith));
      first_row = λ q l. eqb-true _ _ (every_at 12 (λ q. eqb (entry t 0 (q + 1)) 0) r q l);
      sums = λ m q lm lq.
          eqb-true _ _
          (every_at 12 (λ q. eqb (entry t (m + 1) (q + 1)) (entry t m q + entry t m (q + 1)))
          (every_at 12 (λ m. every 12 (λ q. eqb (entry t (m + 1) (q + 1)) (entry t m q + entry t m (q + 1)))) inner m lm) q lq);
    }

pub table_counts : (t : List (List ℕ)) → Pascal t → (m q : ℕ) → m ≤ 12 → q ≤ 12 → entry t m q ≡ binom m q
unfolding binom
table_counts t p m zero lm lq = p.first_column m lm
table_counts t p zero (suc q) lm lq = ap (entry t 0) (sym (add-one q)) ∙ p.first_row q (omega arith)
table_counts t p (suc m) (suc q) lm lq =
    ap₂ (entry t) (sym (add-one m)) (sym (add-one q)) ∙ p.sums m q (omega arith) (omega arith)
    ∙ ap₂ (λ x y. x + y) (table_counts t p m q (omega arith) (omega arith)) (ap (entry t m) (add-one q) ∙ table_counts t p m (suc q) (omega arith) lq)

-- of fewer than q lines there is no choice of q
pub no_choice : (m q : ℕ) → m < q → binom m q ≡ 0
unfolding binom
no_choice m zero h = absurd (omega arith)
no_choice zero (suc q) h = refl
no_choice (suc m) (suc q) h = omega (arith, no_choice m q (omega arith), no_choice m (suc q) (omega arith))

-- ---- what is read from the table

pub entry_is : (m q : ℕ) → keeps_pascal COUNTS ≡ true → m ≤ 12 → q ≤ 12 → entry COUNTS m q ≡ binom m q
entry_is m q h = table_counts COUNTS (table_keeps COUNTS h) m q
