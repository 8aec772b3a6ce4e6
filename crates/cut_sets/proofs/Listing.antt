-- What every state of a search keeps that the waiting rule reaches, and why its sets are the minimal cut sets in order.
use Rattle.std.proofs.Common.{◌≡◌, ℕ, ◌^◌, Bool, true, false, ◌⊎◌, List, [], ◌∷◌, ◌++◌, length, sym, refl, subst, inl, inr, ⊎_elim, arith}
use Rattle.std.proofs.lemmas.Bool.{both_ways, cases_Bool, or_cases, or_left, or_right}
use Rattle.orders.specs.Lists.{In, Rising}
use Rattle.orders.specs.Orders.{Ranked}
use Rattle.orders.specs.Sorted.{Ascending, insert_all}
use Rattle.orders.proofs.Lists.{in_front, in_back, in_end, in_map, map_in}
use Rattle.orders.proofs.Sorted.{refl_le, other_way, rising_end, in_insert_all, insert_all_in, ascending_insert_all, first_least}
use Rattle.tree.specs.Holding.{top, holding, holds}
use Rattle.tree.specs.Rules.{keeps_rules}
use Rattle.tree.specs.Sets.{has, ◌⊆◌, within, Highest}
use Rattle.tree.specs.declared.line.Part.{Part}
use Rattle.tree.specs.declared.line.Row.{Row}
use Rattle.tree.proofs.Holding.{some_line}
use Rattle.tree.proofs.Sets.{has_none, has_one, only_one, within_sub, sub_within, ones_same, below_lt}
use Rattle.ranking.specs.Models.{Model, Lawful}
use Rattle.ranking.specs.SetOrder.{set_at_most}
use Rattle.ranking.proofs.SetOrders.{sets_total}
use Rattle.ranking.proofs.Weights.{weighs_no_less}
use Rattle.cut_sets.specs.Cuts.{parts, gates_of, CutSet, Minimal}
use Rattle.cut_sets.specs.Ways.{way_le, StandsFor}
use Rattle.cut_sets.specs.WaitingRule.{Search, search_of, some_within, adding, closing, choices_at, entering, top_way, loaded, Step, struck, closed, gave, Steps, none, then}
use Rattle.cut_sets.specs.Laws.{Remains, ComesBefore, ListsMinimalCutSetsInOrder, WaysWaitInOrder}
use Rattle.cut_sets.specs.declared.way.Way.{Way}
use Rattle.cut_sets.proofs.Cuts.{that_below}
use Rattle.cut_sets.proofs.Ways.{Kinds, kinds_adding, kinds_closing, stands_adding, adding_stands, spread, gathered, ways_total, no_heavier, no_more, exact}

none_in : (s : ℕ) → 0 ⊆ s
none_in s i e = grind (arith, has_none)

-- ---- a given set within

record GivenWithin (sets : List ℕ) (u : ℕ) : Type 0 where
  set : ℕ
  given : In set sets
  sub : set ⊆ u

given_in : (sets : List ℕ) (u : ℕ) → some_within sets u ≡ true → GivenWithin sets u
given_in [] u e = cc
given_in (g ∷ gs) u e =
    ⊎_elim (λ h. record { set = g; given = inl refl; sub = within_sub g u h }) (λ h. let a = given_in gs u h in record { set = a.set; given = inr a.given; sub = a.sub })
    (or_cases (within g u) (some_within gs u) e)

in_given : (sets : List ℕ) (u g : ℕ) → In g sets → g ⊆ u → some_within sets u ≡ true
in_given [] u g m h = absurd m
in_given (x ∷ xs) u g (inl e) h = or_left (within x u) _ (sub_within x u (subst (λ y. y ⊆ u) e h))
in_given (x ∷ xs) u g (inr m) h = or_right (within x u) _ (in_given xs u g m h)

none_given : (sets : List ℕ) (u : ℕ) → some_within sets u ≡ false → GivenWithin sets u → ⊥
none_given sets u e a = both_ways _ e (in_given sets u a.set a.given a.sub)

-- with one more set given
still_given : (sets : List ℕ) (g u : ℕ) → GivenWithin sets u → GivenWithin (sets ++ (g ∷ [])) u
still_given sets g u a = record { set = a.set; given = in_front a.set sets (g ∷ []) a.given; sub = a.sub }

now_given : (sets : List ℕ) (g u : ℕ) → g ⊆ u → GivenWithin (sets ++ (g ∷ [])) u
now_given sets g u h = record { set = g; given = in_back g sets (g ∷ []) (inl refl); sub = h }

-- some way that waits stands for u
record Waits (rows : List Row) (waiting : List Way) (u : ℕ) : Type 0 where
  way : Way
  waits : In way waiting
  stands : StandsFor rows way u

-- it is the first or another
waits_cases : {P : Type 0} (rows : List Row) (w : Way) (ws : List Way) (u : ℕ) → Waits rows (w ∷ ws) u → (StandsFor rows w u → P) → (Waits rows ws u → P) → P
waits_cases rows w ws u a f g =
    ⊎_elim (λ e. f (subst (λ v. StandsFor rows v u) e a.stands)) (λ m. g (record { way = a.way; waits = m; stands = a.stands })) a.waits

module _ {W : Type 0} (m : Model W) (law : Lawful m) (charge_of : Part → ℕ) (rows : List Row) (k : keeps_rules rows ≡ true) where
  abbrev le : Way → Way → Bool
  le = way_le m charge_of rows

  abbrev at_most : ℕ → ℕ → Bool
  at_most = set_at_most m charge_of rows

  abbrev Before : ℕ → ℕ → Type 0
  Before = ComesBefore m charge_of rows

  ways : Ranked le
  ways = (ways_total m law charge_of rows).ranked

  before_by : (s u : ℕ) → at_most u s ≡ false → Before s u
  before_by s u f =
      let order = (sets_total m law charge_of rows).ranked in
      (other_way at_most order u s f, λ e. grind (arith, refl_le at_most order s))

  record Kept (d : Search) : Type 0 where
    ascending : Ascending le d.waiting
    kinds : (w : Way) → In w d.waiting → Kinds rows w
    -- the top holds for what a way stands for
    sound : (w : Way) → In w d.waiting → (s : ℕ) → StandsFor rows w s → holds rows s (top rows) ≡ true
    -- no cut set is lost
    complete : (u : ℕ) → CutSet rows u → GivenWithin d.given u ⊎ Waits rows d.waiting u
    minimal : (g : ℕ) → In g d.given → Minimal rows g
    in_order : Rising Before d.given
    first : (g u : ℕ) → In g d.given → CutSet rows u → (GivenWithin d.given u → ⊥) → Before g u

  kept_loaded : Kept (loaded rows)
  kept_loaded =
      let blank : Way = record { chosen = 0; gates = 0 } in
      record {
        ascending = (tt, tt);
        kinds = in_end {P = Kinds rows} [] (top_way rows) (λ w. absurd) (kinds_adding rows blank (2 ^ top rows) (record { chosen = none_in (parts rows); gates = none_in (gates_of rows) }));
        sound = in_end {P = λ w. (s : ℕ) → StandsFor rows w s → holds rows s (top rows) ≡ true} [] (top_way rows) (λ w. absurd)
            (λ s st. (adding_stands rows blank (2 ^ top rows) s (λ i h. let a = only_one (top rows) i h in let b = some_line rows k in omega arith) st).1 (top rows) (has_one (top rows)));
        complete = λ u c.
            inr (record {
              way = top_way rows;
              waits = inl refl;
              stands = stands_adding rows blank (2 ^ top rows) u (record { chosen = none_in u; gates = none_in (holding rows u) }) (λ i e. subst (λ j. holds rows u j ≡ true) (sym (only_one (top rows) i e)) c.top_holds);
            });
        minimal = λ g m. absurd m;
        in_order = tt;
        first = λ g u m c n. absurd m;
      }

  module _ (w : Way) (ws : List Way) (sets : List ℕ) (d : Kept (search_of (w ∷ ws) sets)) where
    kept_struck : some_within sets w.chosen ≡ true → Kept (search_of ws sets)
    kept_struck s =
        record {
          ascending = d.ascending.1;
          kinds = λ v m. d.kinds v (inr m);
          sound = λ v m. d.sound v (inr m);
          complete = λ u c. ⊎_elim inl (λ a. waits_cases rows w ws u a (λ st. inl (within_both u st)) inr) (d.complete u c);
          minimal = d.minimal;
          in_order = d.in_order;
          first = d.first;
        }
      where
        within_both : (u : ℕ) → StandsFor rows w u → GivenWithin sets u
        within_both u st = let b = given_in sets w.chosen s in record { set = b.set; given = b.given; sub = λ i h. st.chosen i (b.sub i h) }

    module _ (g : ℕ) (high : Highest w.gates g) where
      here : Kinds rows w
      here = d.kinds w (inl refl)

      -- a way that waits afterwards entered or waited before
      entered : {P : Way → Type 0} → ((c : ℕ) → In c (choices_at rows g) → P (adding rows (closing w g) c)) → ((v : Way) → In v ws → P v)
          → (v : Way) → In v (insert_all le (entering rows w g) ws) → P v
      entered {P} f h v n =
          ⊎_elim (λ a. let (c, n', is) = in_map _ v (choices_at rows g) a in subst P (sym is) (f c n')) (h v) (in_insert_all le v (entering rows w g) ws n)

      goes_in : (v : Way) → In v (entering rows w g) ⊎ In v ws → In v (insert_all le (entering rows w g) ws)
      goes_in v = insert_all_in le v (entering rows w g) ws

      kept_closed : Kept (search_of (insert_all le (entering rows w g) ws) sets)
      kept_closed =
          record {
            ascending = ascending_insert_all le ways (entering rows w g) ws d.ascending.1;
            kinds = entered {P = Kinds rows} (λ c n. kinds_adding rows (closing w g) c (kinds_closing rows w g high.there here)) (λ v n. d.kinds v (inr n));
            sound = entered {P = λ v. (s : ℕ) → StandsFor rows v s → holds rows s (top rows) ≡ true}
                (λ c n s st. d.sound w (inl refl) s (gathered rows k w here g high.there s c n st)) (λ v n. d.sound v (inr n));
            complete = λ u c. ⊎_elim inl (λ a. inr (waits_cases rows w ws u a (split u) (λ b. record { way = b.way; waits = goes_in b.way (inr b.waits); stands = b.stands }))) (d.complete u c);
            minimal = d.minimal;
            in_order = d.in_order;
            first = d.first;
          }
        where
          split : (u : ℕ) → StandsFor rows w u → Waits rows (insert_all le (entering rows w g) ws) u
          split u st =
              let (c, n, st') = spread rows k w here g high.there u st in
              record { way = adding rows (closing w g) c; waits = goes_in _ (inl (map_in (adding rows (closing w g)) c (choices_at rows g) n)); stands = st' }

    module _ (fresh : some_within sets w.chosen ≡ false) (done : w.gates ≡ 0) where
      before_all : (v : Way) → In v (w ∷ ws) → le w v ≡ true
      before_all v = first_least le ways w v ws d.ascending

      itself : CutSet rows w.chosen
      itself =
          record {
            of_parts = (d.kinds w (inl refl)).chosen;
            top_holds = d.sound w (inl refl) w.chosen (record { chosen = λ i e. e; gates = λ i e. absurd (both_ways _ (has_none i) (subst (λ x. has x i ≡ true) done e)) });
          }

      smallest : (u : ℕ) → u ⊆ w.chosen → CutSet rows u → u ≡ w.chosen
      smallest u sub c =
          ⊎_elim (λ a. absurd (none_given sets w.chosen fresh (record { set = a.set; given = a.given; sub = λ i e. sub i (a.sub i e) })))
          (λ a. ones_same u w.chosen sub (no_more m law charge_of rows w a.way u (before_all a.way a.waits) a.stands.chosen (weighs_no_less m law charge_of rows u w.chosen sub))) (d.complete u c)

      precedes : (u : ℕ) → CutSet rows u → (GivenWithin (sets ++ (w.chosen ∷ [])) u → ⊥) → Before w.chosen u
      precedes u c n =
          ⊎_elim (λ a. absurd (n (still_given sets w.chosen u a)))
          (λ a.
          ⊎_elim (λ h. let e = exact m law charge_of rows w a.way u (before_all a.way a.waits) a.stands.chosen done h in absurd (n (now_given sets w.chosen u (λ i m. subst (λ x. has x i ≡ true) (sym e) m))))
          (before_by w.chosen u) (cases_Bool (at_most u w.chosen)))
          (d.complete u c)

      kept_gave : Kept (search_of ws (sets ++ (w.chosen ∷ [])))
      kept_gave =
          record {
            ascending = d.ascending.1;
            kinds = λ v n. d.kinds v (inr n);
            sound = λ v n. d.sound v (inr n);
            complete = λ u c. ⊎_elim (λ a. inl (still_given sets w.chosen u a)) (λ a. waits_cases rows w ws u a (λ st. inl (now_given sets w.chosen u st.chosen)) inr) (d.complete u c);
            minimal = in_end {P = Minimal rows} sets w.chosen d.minimal (record { cuts = itself; least = smallest });
            in_order = rising_end Before sets w.chosen d.in_order (λ x n. d.first x w.chosen n itself (none_given sets w.chosen fresh));
            first = λ g u n c f. in_end {P = λ x. Before x u} sets w.chosen (λ x a. d.first x u a c (λ b. f (still_given sets w.chosen u b))) (precedes u c f) g n;
          }

  module _ (slots : ℕ) where
    kept_step : (d e : Search) → Kept d → Step m charge_of rows slots d e → Kept e
    kept_step d e h (struck {w = w} {ws = ws} {sets = sets} s) = kept_struck w ws sets h s
    kept_step d e h (closed {w = w} {ws = ws} {sets = sets} g s high room) = kept_closed w ws sets h g high
    kept_step d e h (gave {w = w} {ws = ws} {sets = sets} s done) = kept_gave w ws sets h s done

    kept_steps : (d e : Search) → Kept d → Steps m charge_of rows slots d e → Kept e
    kept_steps d e h none = h
    kept_steps d e h (then {e = f} s rest) = kept_steps f e (kept_step d f h s) rest

  module _ (d : Search) (h : Kept d) where
    untouched : (s : ℕ) → Remains rows d s → GivenWithin d.given s → ⊥
    untouched s r a = r.1 (subst (λ x. In x d.given) (r.0.least a.set a.sub (h.minimal a.set a.given).cuts) a.given)

    waits_for : (s : ℕ) → Remains rows d s → Waits rows d.waiting s
    waits_for s r = ⊎_elim (λ a. absurd (untouched s r a)) (λ a. a) (h.complete s r.0.cuts)

    listed : ListsMinimalCutSetsInOrder m charge_of rows d
    listed =
        record {
          minimal = h.minimal;
          ascending = h.in_order;
          first = λ s u n r. h.first s u n r.0.cuts (untouched u r);
          all_given = λ e (s, r). let a = waits_for s r in subst (λ l. In a.way l) e a.waits;
          stood_for = λ s r. let a = waits_for s r in (a.way, a.waits, a.stands);
          outlook = λ w ws e s r.
              let a = waits_for s r in
              no_heavier m law charge_of rows w a.way s (first_least le ways w a.way ws (subst (λ l. Ascending le l) e h.ascending) (subst (λ l. In a.way l) e a.waits)) a.stands.chosen;
        }

    waiting : WaysWaitInOrder m charge_of rows d
    waiting =
        record {
          ascending = h.ascending;
          chosen = λ w n. (h.kinds w n).chosen;
          gates = λ w n. (h.kinds w n).gates;
          in_words = λ w n. (
            below_lt (length rows) w.chosen (λ i e. that_below _ rows i ((h.kinds w n).chosen i e)),
            below_lt (length rows) w.gates (λ i e. that_below _ rows i ((h.kinds w n).gates i e)),
          );
        }

  module _ (slots : ℕ) (d : Search) (s : Steps m charge_of rows slots (loaded rows) d) where
    pub lists_in_order : ListsMinimalCutSetsInOrder m charge_of rows d
    lists_in_order = listed d (kept_steps slots (loaded rows) d kept_loaded s)

    pub ways_in_order : WaysWaitInOrder m charge_of rows d
    ways_in_order = waiting d (kept_steps slots (loaded rows) d kept_loaded s)
