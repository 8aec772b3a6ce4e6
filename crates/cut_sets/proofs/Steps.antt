-- Each state of a search has one next at most, the steps end, and with enough slots none is blocked.
use Rattle.std.proofs.Common.{◌≡◌, ℕ, zero, suc, ◌+◌, ◌*◌, ◌^◌, ◌<◌, ◌≤◌, true, false, ◌⊎◌, List, [], ◌∷◌, length, sym, refl, ap, ◌∙◌, subst, inl, inr, ⊎_elim, arith, pow_mono}
use lib.Bits.{bit_xor}
use lib.Count.{ones}
use lib.ListN.{length-map}
use Rattle.std.proofs.lemmas.Bool.{both_ways, cases_Bool, cases_eq, cases_lt}
use Rattle.std.proofs.lemmas.Bool.Decides.{nat_tests}
use Rattle.orders.specs.Lists.{In, total}
use Rattle.orders.proofs.Lists.{in_map, total_le, length_le}
use Rattle.orders.proofs.Sorted.{total_insert_all}
use Rattle.orders.specs.Sorted.{insert_all}
use Rattle.tree.specs.Holding.{the_line}
use Rattle.tree.specs.Rules.{keeps_rules}
use Rattle.tree.specs.Sets.{has, Below, Highest}
use Rattle.tree.specs.declared.line.Part.{Part}
use Rattle.tree.specs.declared.line.Line.{Line}
use Rattle.tree.specs.declared.line.Line.TheVariants as line
use Rattle.tree.specs.declared.line.Row.{Row}
use Rattle.tree.proofs.Holding.{children_below, few_children}
use Rattle.tree.proofs.Sets.{has_or, has_and, has_xor, has_pow, has_le, below_lt}
use Rattle.tree.proofs.Words.{highest, one_highest, no_highest}
use Rattle.ranking.specs.Models.{Model}
use Rattle.choices.proofs.Choosing.{number, binom_le}
use Rattle.cut_sets.specs.Ways.{way_le}
use Rattle.cut_sets.specs.WaitingRule.{Search, search_of, some_within, adding, closing, choices_of, choices_at, entering, Step, struck, closed, gave, Blocked}
use Rattle.cut_sets.specs.Laws.{AsManyEnterAsChoices, StepsOneWay}
use Rattle.cut_sets.specs.declared.way.Way.{Way}
use Rattle.cut_sets.proofs.Ways.{choice_below}

-- ---- how many ways enter

pub as_many_enter : (rows : List Row) → keeps_rules rows ≡ true → AsManyEnterAsChoices rows
as_many_enter rows k w i g e =
    length-map (choices_at rows i) (adding rows (closing w i)) ∙ ap (λ l. length (choices_of l i)) e
    ∙ number (ones g.children) g.need g.children i (children_below rows k i g e) refl

few_enter : (rows : List Row) → keeps_rules rows ≡ true → (w : Way) (i : ℕ) → length (entering rows w i) ≤ 4096
few_enter rows k w i = go (the_line rows i) refl
  where
    go : (l : Line) → the_line rows i ≡ l → length (entering rows w i) ≤ 4096
    go (line.Part p) e = let a = length-map (choices_at rows i) (adding rows (closing w i)) ∙ ap (λ l. length (choices_of l i)) e in omega arith
    go (line.Gate g) e =
        let a = as_many_enter rows k w i g e in
        let b : 2 ^ ones g.children ≤ 2 ^ 12 = pow_mono (few_children rows k i g e) in
        omega (arith, binom_le (ones g.children) g.need)

-- ---- one next state at most

module _ {W : Type 0} (m : Model W) (charge_of : Part → ℕ) (rows : List Row) (slots : ℕ) where
  one_next : (d e f : Search) → Step m charge_of rows slots d e → Step m charge_of rows slots d f → e ≡ f
  one_next d e f (struck h) (struck h') = refl
  one_next d e f (struck h) (closed g h' high room) = absurd (both_ways _ h' h)
  one_next d e f (struck h) (gave h' done) = absurd (both_ways _ h' h)
  one_next d e f (closed g h high room) (struck h') = absurd (both_ways _ h h')
  one_next d e f (closed {w = w} {ws = ws} {sets = sets} g h high room) (closed g' h' high' room') =
      ap (λ i. search_of (insert_all (way_le m charge_of rows) (entering rows w i) ws) sets) (one_highest w.gates g g' high high')
  one_next d e f (closed g h high room) (gave h' done) = absurd (no_highest _ g high done)
  one_next d e f (gave h done) (struck h') = absurd (both_ways _ h h')
  one_next d e f (gave h done) (closed g h' high room) = absurd (no_highest _ g high done)
  one_next d e f (gave h done) (gave h' done') = refl

  -- a state where nothing waits has no first way
  no_first : {w : Way} {ws : List Way} → ◌≡◌ {A = List Way} [] (w ∷ ws) → ⊥
  no_first e = cc

  same_first : {w v : Way} {ws vs : List Way} → ◌≡◌ {A = List Way} (w ∷ ws) (v ∷ vs) → (v ≡ w) × (vs ≡ ws)
  same_first e = (cc, cc)

  -- what blocks the first way
  abbrev TooMany : Way → List Way → List ℕ → Type 0
  TooMany w ws sets = (g : ℕ) × (some_within sets w.chosen ≡ false) × Highest w.gates g × (slots < length ws + length (entering rows w g))

  at_first : (w : Way) (ws : List Way) (sets : List ℕ) → Blocked m charge_of rows slots (search_of (w ∷ ws) sets) → TooMany w ws sets
  at_first w ws sets b =
      let (is, rest) = same_first b.taken in
      subst (λ v. TooMany v ws sets) is (subst (λ vs. TooMany b.way vs sets) rest (b.gate, b.not_struck, b.highest, b.too_many))

  blocked_stays : (d e : Search) → Blocked m charge_of rows slots d → Step m charge_of rows slots d e → ⊥
  blocked_stays d e b (struck {w = w} {ws = ws} {sets = sets} h) = both_ways _ (at_first w ws sets b).1 h
  blocked_stays d e b (closed {w = w} {ws = ws} {sets = sets} g h high room) =
      let (i, f, high', more) = at_first w ws sets b in
      let fits = subst (λ i. length ws + length (entering rows w i) ≤ slots) (one_highest w.gates g i high high') room in
      omega arith
  blocked_stays d e b (gave {w = w} {ws = ws} {sets = sets} h done) = let first = at_first w ws sets b in no_highest w.gates first.0 first.2 done

  empty_stays : (d e : Search) → d.waiting ≡ [] → Step m charge_of rows slots d e → ⊥
  empty_stays d e p (struck h) = no_first (sym p)
  empty_stays d e p (closed g h high room) = no_first (sym p)
  empty_stays d e p (gave h done) = no_first (sym p)

  abbrev Goes : List Way → List ℕ → Type 0
  Goes ws sets = Blocked m charge_of rows slots (search_of ws sets) ⊎ ((e : Search) × Step m charge_of rows slots (search_of ws sets) e)

  goes_on : (ws : List Way) (sets : List ℕ) → (ws ≡ []) ⊎ Goes ws sets
  goes_on [] sets = inl refl
  goes_on (w ∷ ws) sets = inr (⊎_elim (λ h. inr (_, struck h)) fresh (cases_Bool (some_within sets w.chosen)))
    where
      opened : some_within sets w.chosen ≡ false → (g : ℕ) → Highest w.gates g → Goes (w ∷ ws) sets
      opened h g high =
          ⊎_elim (λ x. inl (record { way = w; others = ws; gate = g; taken = refl; not_struck = h; highest = high; too_many = x })) (λ x. inr (_, closed g h high x))
          (cases_lt slots (length ws + length (entering rows w g)))

      fresh : some_within sets w.chosen ≡ false → Goes (w ∷ ws) sets
      fresh h = ⊎_elim (λ z. inr (_, gave h z)) (λ n. let (g, high) = highest w.gates n in opened h g high) (cases_eq w.gates 0)

-- ---- a number that falls: for each way that waits more than 4,096 ways with lower gates open can add

unfoldable pub count_for : ℕ → ℕ
count_for zero = 1
count_for (suc n) = 1 + 4096 * count_for n

count_more : (a b : ℕ) → a ≤ b → count_for a ≤ count_for b
unfolding count_for
count_more zero zero h = omega arith
count_more zero (suc b) h = omega (arith, count_more zero b (omega arith))
count_more (suc a) zero h = absurd (omega arith)
count_more (suc a) (suc b) h = omega (arith, count_more a b (omega arith))

count_pos : (n : ℕ) → 1 ≤ count_for n
unfolding count_for
count_pos zero = omega arith
count_pos (suc n) = omega arith

abbrev pub count_of : Way → ℕ
count_of w = count_for w.gates

unfoldable pub left_of : Search → ℕ
left_of d = total count_of d.waiting

-- each way that waits counts
pub left_more : (d : Search) → length d.waiting ≤ left_of d
unfolding left_of
left_more d = length_le count_of d.waiting (λ w. count_pos w.gates)

all_less : (s : ℕ) (ws : List Way) → ((w : Way) → In w ws → w.gates < s) → length ws ≤ 4096 → total count_of ws < count_for s
unfolding count_for
all_less zero [] h k = omega arith
all_less zero (w ∷ ws) h k = absurd (let x = h w (inl refl) in omega arith)
all_less (suc s) ws h k = let x = total_le count_of (count_for s) 4096 ws (λ w m. count_more w.gates s (let y = h w m in omega arith)) k in omega arith

module _ (rows : List Row) (k : keeps_rules rows ≡ true) where
  lower_gates : (w v : Way) (g : ℕ) → Highest w.gates g → In v (entering rows w g) → v.gates < w.gates
  lower_gates w v g high m =
      let (c, n, is) = in_map (adding rows (closing w g)) v (choices_at rows g) m in
      let a = below_lt g v.gates (subst (λ (x : Way). Below g x.gates) (sym is) (λ i e. grind (arith, has_or, has_and, left i, choice_below rows g c n i))) in
      let b = has_le g w.gates high.there in
      omega arith
    where
      left : (i : ℕ) → has (bit_xor w.gates (2 ^ g)) i ≡ true → i < g
      left i e = grind (arith, has_xor, has_pow, nat_tests, high.none_above i, high.there)

  pub entering_less : (w : Way) (g : ℕ) → Highest w.gates g → total count_of (entering rows w g) < count_of w
  entering_less w g high = all_less w.gates (entering rows w g) (λ v n. lower_gates w v g high n) (few_enter rows k w g)

  module _ {W : Type 0} (m : Model W) (charge_of : Part → ℕ) (slots : ℕ) where
    pub step_falls : (d e : Search) → Step m charge_of rows slots d e → left_of e < left_of d
    unfolding left_of
    step_falls d e (struck {w = w} h) = omega (arith, count_pos w.gates)
    step_falls d e (closed {w = w} {ws = ws} g h high room) = omega (arith, entering_less w g high, total_insert_all (way_le m charge_of rows) count_of (entering rows w g) ws)
    step_falls d e (gave {w = w} h done) = omega (arith, count_pos w.gates)

    -- as many slots as are left to count are enough
    pub not_blocked : (d : Search) → left_of d ≤ slots → Blocked m charge_of rows slots d → ⊥
    unfolding left_of
    not_blocked d h b =
        let a = ap (total count_of) b.taken in
        let x = entering_less b.way b.gate b.highest in
        let y = length_le count_of (entering rows b.way b.gate) (λ v. count_pos v.gates) in
        let z = length_le count_of b.others (λ v. count_pos v.gates) in
        omega (arith, b.too_many)

    pub steps_one_way : StepsOneWay m charge_of rows slots
    steps_one_way =
        record {
          goes_on = λ d. goes_on m charge_of rows slots d.waiting d.given;
          one_next = one_next m charge_of rows slots;
          blocked_stays = blocked_stays m charge_of rows slots;
          empty_stays = empty_stays m charge_of rows slots;
          empty_not_blocked = λ d e b. no_first m charge_of rows slots (sym e ∙ b.taken);
          ends = (left_of, step_falls);
        }
