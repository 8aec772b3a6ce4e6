-- Runs of steps: each state comes to one more set, to an empty search or to a step that is not made, and to one of these
-- only; and with enough slots it never comes to the last.
use Rattle.std.proofs.Common.{◌≡◌, ℕ, zero, suc, ◌<◌, ◌≤◌, Bool, true, false, ◌⊎◌, List, [], ◌∷◌, ◌++◌, length, sym, refl, ap, ◌∙◌, subst, inl, inr, ⊎_elim, arith, length-append}
use Rattle.std.proofs.lemmas.List.{append-nil, append_assoc}
use Rattle.std.proofs.lemmas.Bool.{cases_Bool, cases_eq, both_ways}
use Rattle.orders.specs.Lists.{In, Rising}
use Rattle.orders.proofs.Lists.{in_back, in_append}
use Rattle.orders.proofs.Sorted.{refl_le, rising_last}
use Rattle.tree.specs.Rules.{keeps_rules}
use Rattle.tree.specs.declared.line.Part.{Part}
use Rattle.tree.specs.declared.line.Row.{Row}
use Rattle.ranking.specs.Models.{Model, Lawful}
use Rattle.ranking.specs.SetOrder.{set_at_most}
use Rattle.ranking.proofs.SetOrders.{sets_total}
use Rattle.cut_sets.specs.WaitingRule.{Search, Step, struck, closed, gave, Steps, none, then, Blocked, loaded}
use Rattle.cut_sets.specs.Laws.{Remains, SomeRemains, ComesBefore, ListsMinimalCutSetsInOrder, ListsAll, ListsAllWithEnoughSlots, StepsOneWay}
use Rattle.cut_sets.specs.NextSets.{Gives, Empties, Blocks, RunOut, ComesNext}
use Rattle.cut_sets.proofs.Listing.{lists_in_order}
use Rattle.cut_sets.proofs.Steps.{left_of, step_falls, not_blocked, steps_one_way}

given_or_not : (s : ℕ) (sets : List ℕ) → In s sets ⊎ (In s sets → ⊥)
given_or_not s [] = inr (λ m. m)
given_or_not s (u ∷ sets) = ⊎_elim (λ e. inl (inl e)) (λ n. ⊎_elim (λ m. inl (inr m)) (λ k. inr (⊎_elim n k)) (given_or_not s sets)) (cases_eq s u)

module _ {W : Type 0} (m : Model W) (law : Lawful m) (charge_of : Part → ℕ) (rows : List Row) (k : keeps_rules rows ≡ true) (slots : ℕ) where
  abbrev To : Search → Search → Type 0
  To = Steps m charge_of rows slots

  abbrev Next : Search → Search → Type 0
  Next = Step m charge_of rows slots

  abbrev Stuck : Search → Type 0
  Stuck = Blocked m charge_of rows slots

  abbrev Give : Search → ℕ → Search → Type 0
  Give = Gives m charge_of rows slots

  abbrev Empty : Search → Search → Type 0
  Empty = Empties m charge_of rows slots

  abbrev Block : Search → Search → Type 0
  Block = Blocks m charge_of rows slots

  abbrev Out : ℕ → Type 0
  Out = RunOut m charge_of rows slots

  abbrev Ordered : Search → Type 0
  Ordered = ListsMinimalCutSetsInOrder m charge_of rows

  abbrev at_most : ℕ → ℕ → Bool
  at_most = set_at_most m charge_of rows

  abbrev Before : ℕ → ℕ → Type 0
  Before = ComesBefore m charge_of rows

  -- no step is made from d
  abbrev Ends : Search → Type 0
  Ends d = (e : Search) → Next d e → ⊥

  one_way : StepsOneWay m charge_of rows slots
  one_way = steps_one_way rows k m charge_of slots

  blocked_ends : (e : Search) → Stuck e → Ends e
  blocked_ends e b f s = one_way.blocked_stays e f b s

  empty_ends : (e : Search) → e.waiting ≡ [] → Ends e
  empty_ends e z f s = one_way.empty_stays e f z s

  further : (d e f : Search) → To d e → To e f → To d f
  further d e f none b = b
  further d e f (then {e = g} s a) b = then s (further g e f a b)

  -- ---- what steps do to the given sets

  given_step : (d e : Search) → Next d e → (e.given ≡ d.given) ⊎ ((s : ℕ) × (e.given ≡ d.given ++ (s ∷ [])))
  given_step d e (struck h) = inl refl
  given_step d e (closed g h high room) = inl refl
  given_step d e (gave {w = w} h done) = inr (w.chosen, refl)

  grows : (d e : Search) → To d e → (more : List ℕ) × (e.given ≡ d.given ++ more)
  grows d e none = ([], sym (append-nil d.given))
  grows d e (then {e = f} s a) =
      let (more, is) = grows f e a in
      ⊎_elim (λ p. (more, is ∙ ap (λ g. g ++ more) p)) (λ p. (p.0 ∷ more, is ∙ ap (λ g. g ++ more) p.1 ∙ append_assoc d.given (p.0 ∷ []) more)) (given_step d f s)

  -- more sets are not fewer
  no_fewer : (d e : Search) (given : List ℕ) (s : ℕ) → To d e → d.given ≡ given ++ (s ∷ []) → e.given ≡ given → ⊥
  no_fewer d e given s a p q =
      let (more, is) = grows d e a in
      let x = ap length is in
      let y = ap length p in
      let z = ap length q in
      omega (arith, length-append given (s ∷ []), length-append d.given more)

  -- ---- one run

  one_run : (d e f : Search) → To d e → To d f → To e f ⊎ To f e
  one_run d e f none b = inl b
  one_run d e f (then s a) none = inr (then s a)
  one_run d e f (then {e = g} s a) (then {e = h} z b) = one_run g e f a (subst (λ x. To x f) (one_way.one_next d h g z s) b)

  at_end : (d e : Search) → Ends d → To d e → e ≡ d
  at_end d e h none = refl
  at_end d e h (then s a) = absurd (h _ s)

  -- two ends of runs from d
  one_end : (d e f : Search) → To d e → To d f → Ends e → Ends f → e ≡ f
  one_end d e f a b x y = ⊎_elim (λ c. sym (at_end e f x c)) (λ c. at_end f e y c) (one_run d e f a b)

  -- from e a step gives s; another run with no set given on the way stops before it
  up_to : (e f g : Search) (given : List ℕ) (s : ℕ) → Next e f → f.given ≡ given ++ (s ∷ []) → To e g → g.given ≡ given → g ≡ e
  up_to e f g given s z q none p = refl
  up_to e f g given s z q (then {e = h} y a) p = absurd (no_fewer f g given s (subst (λ x. To x g) (one_way.one_next e h f y z) a) q p)

  -- a run that ends with no set given on the way excludes one more set
  ends_short : (d e f : Search) (s : ℕ) → To d e → e.given ≡ d.given → Ends e → Give d s f → ⊥
  ends_short d e f s a p end (g, b, n, z, q) =
      let same : g ≡ e = ⊎_elim (λ c. at_end e g end c) (λ c. sym (up_to g f e d.given s z q c p)) (one_run d e g a b) in
      end f (subst (λ x. Next x f) same z)

  -- ---- what a state comes to

  abbrev Outcome : Search → Type 0
  Outcome d = ((e : Search) × Empty d e) ⊎ (((e : Search) × Block d e) ⊎ ((s : ℕ) × (f : Search) × Give d s f))

  after : (d e : Search) → Next d e → e.given ≡ d.given → Outcome e → Outcome d
  after d e s p (inl (f, (a, q, z))) = inl (f, (then s a, q ∙ p, z))
  after d e s p (inr (inl (f, (a, q, z)))) = inr (inl (f, (then s a, q ∙ p, z)))
  after d e s p (inr (inr (u, f, (g, a, q, y, z)))) = inr (inr (u, f, (g, then s a, q ∙ p, y, z ∙ ap (λ l. l ++ (u ∷ [])) p)))

  outcome : (n : ℕ) (d : Search) → left_of d < n → Outcome d
  outcome zero d h = absurd (omega arith)
  outcome (suc n) d h = go (one_way.goes_on d) (outcome n)
    where
      go : (d.waiting ≡ []) ⊎ (Stuck d ⊎ ((e : Search) × Next d e)) → ((e : Search) → left_of e < n → Outcome e) → Outcome d
      go (inl e) ih = inl (d, (none, refl, e))
      go (inr (inl b)) ih = inr (inl (d, (none, refl, b)))
      go (inr (inr (e, s))) ih =
          ⊎_elim (λ p. after d e s p (ih e (let x = step_falls rows k m charge_of slots d e s in omega arith))) (λ p. inr (inr (p.0, e, (d, none, refl, s, p.1)))) (given_step d e s)

  module _ (d : Search) (reached : To (loaded rows) d) where
    lists : (e : Search) → To d e → Ordered e
    lists e a = lists_in_order m law charge_of rows k slots e (further (loaded rows) d e reached a)

    gave_lists : (s : ℕ) (f : Search) → Give d s f → Ordered f
    gave_lists s f (e, a, p, z, q) = lists f (further d e f a (then z none))

    there : (s : ℕ) (f : Search) → Give d s f → In s f.given
    there s f (e, a, p, z, q) = subst (λ l. In s l) (sym q) (in_back s d.given (s ∷ []) (inl refl))

    remained : (s : ℕ) (f : Search) → Give d s f → Remains rows d s
    remained s f g = (
      (gave_lists s f g).minimal s (there s f g),
      λ n. (rising_last Before d.given s (subst (Rising Before) g.4 (gave_lists s f g).ascending) s n).1 refl,
    )

    foremost : (s : ℕ) (f : Search) → Give d s f → (u : ℕ) → Remains rows d u → at_most s u ≡ true
    foremost s f g u r = ⊎_elim (λ h. h) later (cases_Bool (at_most s u))
      where
        later : at_most s u ≡ false → at_most s u ≡ true
        later h =
            ((gave_lists s f g).first s u (there s f g) (
              r.0,
              λ i. ⊎_elim r.1 (⊎_elim (λ p. both_ways _ h (subst (λ x. at_most s x ≡ true) (sym p) (refl_le at_most (sets_total m law charge_of rows).ranked s))) absurd)
                  (in_append u d.given (s ∷ []) (subst (λ l. In u l) g.4 i)),
            )).0

    none_left : (e : Search) → Empty d e → SomeRemains rows d → ⊥
    none_left e (a, p, z) (s, r) = (lists e a).all_given z (s, (r.0, λ i. r.1 (subst (λ l. In s l) p i)))

    -- all runs from the loaded search are one run
    blocks_here : Out (length d.given) → (e : Search) × Block d e
    blocks_here (e, a, n, b) =
        ⊎_elim (λ c. (e, (c, same c, b)))
        (λ c. let p = at_end e d (blocked_ends e b) c in (e, (subst (λ x. To d x) p none, ap (λ (x : Search). x.given) (sym p), b))) (one_run (loaded rows) d e reached a)
      where
        only : (more : List ℕ) → e.given ≡ d.given ++ more → e.given ≡ d.given
        only [] is = is ∙ append-nil d.given
        only (x ∷ xs) is = let y = ap length is in absurd (omega (arith, length-append d.given (x ∷ xs)))

        same : To d e → e.given ≡ d.given
        same c = let (more, is) = grows d e c in only more is

    runs_out : (e : Search) → Block d e → Out (length d.given)
    runs_out e (a, p, b) = (e, further (loaded rows) d e reached a, ap length p, b)

    not_out : (s : ℕ) (f : Search) → Give d s f → Out (length d.given) → ⊥
    not_out s f g x = let (e, (a, p, b)) = blocks_here x in ends_short d e f s a p (blocked_ends e b) g

    not_empty : (f : Search) → Empty d f → Out (length d.given) → ⊥
    not_empty f (c, q, z) x =
        let (e, (a, p, b)) = blocks_here x in
        let same : e ≡ f = one_end d e f a c (blocked_ends e b) (empty_ends f z) in
        one_way.empty_not_blocked f z (subst Stuck same b)

    same_state : (s u : ℕ) (f g : Search) → Give d s f → Give d u g → f ≡ g
    same_state s u f g (e, a, p, z, q) (e', a', p', z', q') =
        let same : e' ≡ e = ⊎_elim (λ c. up_to e f e' d.given s z q c p') (λ c. sym (up_to e' g e d.given u z' q' c p)) (one_run d e e' a a') in
        one_way.one_next e f g z (subst (λ x. Next x g) same z')

    pub comes_next : ComesNext m charge_of rows slots d
    comes_next =
        record {
          one_of = come;
          gives = (
            λ (s, f, g). ((s, remained s f g), not_out s f g),
            λ h. ⊎_elim (λ e. absurd (none_left e.0 e.1 h.0)) (⊎_elim (λ b. absurd (h.1 (runs_out b.0 b.1))) (λ g. g)) come,
          );
          empties = (
            λ (e, h). (none_left e h, not_empty e h),
            λ h. ⊎_elim (λ e. e) (⊎_elim (λ b. absurd (h.1 (runs_out b.0 b.1))) (λ g. absurd (h.0 (g.0, remained g.0 g.1 g.2)))) come,
          );
          blocks = (λ (e, b). runs_out e b, blocks_here);
          first_left = λ s f g. (remained s f g, foremost s f g);
          one_set = λ s u f g a b. ((sets_total m law charge_of rows).antisymmetric s u (foremost s f a u (remained u g b)) (foremost u g b s (remained s f a)), same_state s u f g a b);
          one_empty = λ e f (a, p, z) (b, q, y). one_end d e f a b (empty_ends e z) (empty_ends f y);
          one_block = λ e f (a, p, z) (b, q, y). one_end d e f a b (blocked_ends e z) (blocked_ends f y);
        }
      where
        come : Outcome d
        come = outcome (suc (left_of d)) d (omega arith)

  -- ---- with enough slots

  to_empty : (n : ℕ) (d : Search) → left_of d < n → left_of d ≤ slots → (e : Search) × To d e × (e.waiting ≡ [])
  to_empty zero d h l = absurd (omega arith)
  to_empty (suc n) d h l = go (one_way.goes_on d) (to_empty n)
    where
      go : (d.waiting ≡ []) ⊎ (Stuck d ⊎ ((e : Search) × Next d e))
          → ((e : Search) → left_of e < n → left_of e ≤ slots → (f : Search) × To e f × (f.waiting ≡ [])) → (e : Search) × To d e × (e.waiting ≡ [])
      go (inl e) ih = (d, none, e)
      go (inr (inl b)) ih = absurd (not_blocked rows k m charge_of slots d l b)
      go (inr (inr (e, s))) ih =
          let x = step_falls rows k m charge_of slots d e s in
          let (f, a, z) = ih e (omega arith) (omega arith) in
          (f, then s a, z)

  pub all_listed : left_of (loaded rows) ≤ slots → (d : Search) × To (loaded rows) d × ListsAll m charge_of rows d
  all_listed enough =
      let (d, a, z) = to_empty (suc (left_of (loaded rows))) (loaded rows) (omega arith) enough in
      let l = lists_in_order m law charge_of rows k slots d a in
      (d, a, record { none_waits = z; whole = λ s. (λ h. ⊎_elim (λ n. n) (λ n. absurd (l.all_given z (s, (h, n)))) (given_or_not s d.given), l.minimal s); ascending = l.ascending })

pub enough_slots : {W : Type 0} (m : Model W) → Lawful m → (charge_of : Part → ℕ) (rows : List Row) → keeps_rules rows ≡ true → ListsAllWithEnoughSlots m charge_of rows
enough_slots m law charge_of rows k = (left_of (loaded rows), λ slots h. all_listed m law charge_of rows k slots h)
