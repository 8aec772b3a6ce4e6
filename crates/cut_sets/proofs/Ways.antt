-- Which sets a way stands for, and how the order of ways goes with the order of sets.
use Rattle.std.proofs.Common.{◌≡◌, ℕ, ◌^◌, ◌<◌, ◌≤◌, Bool, true, cond, not, leb, List, [], ◌∷◌, length, sym, refl, ap, ◌∙◌, subst, arith}
use lib.Bits.{bit_and, bit_or, or_zero_l}
use lib.Count.{ones}
use Rattle.std.proofs.lemmas.Bool.{leb-true, le-leb}
use Rattle.std.proofs.lemmas.Bool.Decides.{nat_tests}
use Rattle.orders.specs.Lists.{In}
use Rattle.orders.specs.Orders.{Total, lex, by}
use Rattle.orders.proofs.Orders.{leb_total, by_ranked, lex_first, lex_then, lex_total, keyed_total}
use Rattle.tree.specs.Holding.{the_line, top, holding}
use Rattle.tree.specs.Lines.{part_line}
use Rattle.tree.specs.Rules.{keeps_rules}
use Rattle.tree.specs.Sets.{has, alone, ◌⊆◌, Below, set_le}
use Rattle.tree.specs.declared.line.Part.{Part}
use Rattle.tree.specs.declared.line.Line.{Line}
use Rattle.tree.specs.declared.line.Line.TheVariants as line
use Rattle.tree.specs.declared.line.Row.{Row}
use Rattle.tree.proofs.Holding.{some_line, few_lines, holds_part}
use Rattle.tree.proofs.Lowest.{set_order}
use Rattle.tree.proofs.Sets.{same_set, has_none, has_or, has_and, has_xor, has_pow, without, ones_mono, ones_same}
use Rattle.ranking.specs.Models.{Model, Lawful}
use Rattle.ranking.specs.SetOrder.{size_then_line, set_at_most}
use Rattle.ranking.specs.Weights.{weigh}
use Rattle.ranking.proofs.Weights.{weighs_no_less}
use Rattle.choices.proofs.Choosing.{choosing}
use Rattle.cut_sets.specs.Cuts.{lines_that, parts, gates_of}
use Rattle.cut_sets.specs.Ways.{finished, fewer_chosen, open_first, lowest_chosen, lowest_gate, size_then_lines, lighter, way_le, StandsFor}
use Rattle.cut_sets.specs.WaitingRule.{adding, closing, choices_of, choices_at, way_of, top_way, loaded, search_of}
use Rattle.cut_sets.specs.declared.way.Way.{Way}
use Rattle.cut_sets.proofs.Cuts.{that_is, that_below, part_of, gate_of, kind, holds_choice, choice_holds}

-- ---- the chosen are parts and the open are gates

pub record Kinds (rows : List Row) (w : Way) : Type 0 where
  pub chosen : w.chosen ⊆ parts rows
  pub gates : w.gates ⊆ gates_of rows

pub kinds_adding : (rows : List Row) (w : Way) (c : ℕ) → Kinds rows w → Kinds rows (adding rows w c)
kinds_adding rows w c k =
    record {
      chosen = λ i e. grind (arith, has_or, has_and, k.chosen i);
      gates = λ i e. grind (arith, has_or, has_and, k.gates i);
    }

pub kinds_closing : (rows : List Row) (w : Way) (g : ℕ) → has w.gates g ≡ true → Kinds rows w → Kinds rows (closing w g)
kinds_closing rows w g h k = record { chosen = k.chosen; gates = λ i e. k.gates i (without w.gates g i e h).0 }

pub choice_below : (rows : List Row) (i c : ℕ) → In c (choices_at rows i) → Below i c
choice_below rows i c m = go (the_line rows i) m
  where
    go : (l : Line) → In c (choices_of l i) → Below i c
    go (line.Part p) m = absurd m
    go (line.Gate g) m = (((choosing g.children i g.need).members c).0 m).1

-- ---- the sets that a way stands for

-- a part holds just where it has failed
part_holds : (rows : List Row) (i s : ℕ) → has (parts rows) i ≡ true → has (holding rows s) i ≡ has s i
part_holds rows i s e = let (p, is) = part_of rows i e in holds_part rows i p s is

pub stands_adding : (rows : List Row) (w : Way) (c s : ℕ) → StandsFor rows w s → c ⊆ holding rows s → StandsFor rows (adding rows w c) s
stands_adding rows w c s st h =
    record {
      chosen = λ i e. grind (arith, has_or, has_and, part_holds rows i s, st.chosen i, h i);
      gates = λ i e. grind (arith, has_or, has_and, st.gates i, h i);
    }

pub adding_stands : (rows : List Row) (w : Way) (c s : ℕ) → Below (length rows) c → StandsFor rows (adding rows w c) s → StandsFor rows w s × c ⊆ holding rows s
adding_stands rows w c s low st = (
  record { chosen = λ i e. grind (arith, has_or, st.chosen i); gates = λ i e. grind (arith, has_or, st.gates i) },
  λ i e. grind (arith, has_or, has_and, part_holds rows i s, st.chosen i, st.gates i, kind rows i (low i e)),
)

stands_closing : (rows : List Row) (w : Way) (g s : ℕ) → has w.gates g ≡ true → StandsFor rows w s → StandsFor rows (closing w g) s
stands_closing rows w g s h st = record { chosen = st.chosen; gates = λ i e. st.gates i (without w.gates g i e h).0 }

closing_stands : (rows : List Row) (w : Way) (g s : ℕ) → has (holding rows s) g ≡ true → StandsFor rows (closing w g) s → StandsFor rows w s
closing_stands rows w g s h st =
    record {
      chosen = st.chosen;
      gates = λ i e. grind (arith, has_xor, has_pow, st.gates i);
    }

-- a gate closed: what the way stood for is what the ways that enter stand for
module _ (rows : List Row) (k : keeps_rules rows ≡ true) (w : Way) (kinds : Kinds rows w) (g : ℕ) (there : has w.gates g ≡ true) where
  pub spread : (s : ℕ) → StandsFor rows w s → (c : ℕ) × In c (choices_at rows g) × StandsFor rows (adding rows (closing w g) c) s
  spread s st =
      let (gate, is) = gate_of rows g (kinds.gates g there) in
      let (c, m, h) = holds_choice rows k g gate s is (st.gates g there) in
      (c, subst (λ l. In c (choices_of l g)) (sym is) m, stands_adding rows (closing w g) c s (stands_closing rows w g s there st) h)

  pub gathered : (s c : ℕ) → In c (choices_at rows g) → StandsFor rows (adding rows (closing w g) c) s → StandsFor rows w s
  gathered s c m st =
      let (gate, is) = gate_of rows g (kinds.gates g there) in
      let low = that_below _ rows g (kinds.gates g there) in
      let (rest, h) = adding_stands rows (closing w g) c s (λ i e. let x = choice_below rows g c m i e in omega arith) st in
      closing_stands rows w g s (choice_holds rows k g gate s is c (subst (λ l. In c (choices_of l g)) is m) h) rest

-- ---- the order of ways

pub same_way : (w v : Way) → w.chosen ≡ v.chosen → w.gates ≡ v.gates → w ≡ v
same_way w v p q i = record { chosen = p i; gates = q i }

by_lines : Total (lex lowest_chosen lowest_gate)
by_lines = keyed_total (λ w. w.chosen) (λ w. w.gates) set_le set_le set_order set_order same_way

pub by_size : Total size_then_lines
by_size =
    lex_total fewer_chosen (lex open_first (lex lowest_chosen lowest_gate)) (by_ranked (λ w. ones w.chosen) leb leb_total.ranked)
    (lex_total open_first (lex lowest_chosen lowest_gate) (by_ranked finished leb leb_total.ranked) by_lines)

-- a way with no open gate comes last by that
finished_last : (w v : Way) → w.gates ≡ 0 → open_first v w ≡ true
finished_last w v done = grind (arith, nat_tests)

module _ {W : Type 0} (m : Model W) (law : Lawful m) (charge_of : Part → ℕ) (rows : List Row) where
  pub ways_total : Total (way_le m charge_of rows)
  ways_total = lex_total (lighter m charge_of rows) size_then_lines (by_ranked (λ w. weigh m charge_of rows w.chosen) m.le law.order.ranked) by_size

  -- w comes first, and v stands for u
  module _ (w v : Way) (u : ℕ) (first : way_le m charge_of rows w v ≡ true) (sub : v.chosen ⊆ u) where
    pub no_heavier : m.le (weigh m charge_of rows w.chosen) (weigh m charge_of rows u) ≡ true
    no_heavier = law.order.ranked.transitive _ (weigh m charge_of rows v.chosen) _ (lex_first (lighter m charge_of rows) size_then_lines w v first) (weighs_no_less m law charge_of rows v.chosen u sub)

    module _ (light : m.le (weigh m charge_of rows u) (weigh m charge_of rows w.chosen) ≡ true) where
      same_weight : size_then_lines w v ≡ true
      same_weight =
          lex_then (lighter m charge_of rows) size_then_lines w v first
          (law.order.ranked.transitive _ (weigh m charge_of rows u) _ (weighs_no_less m law charge_of rows v.chosen u sub) light)

      v_more : ones w.chosen ≤ ones v.chosen
      v_more = leb-true _ _ (lex_first fewer_chosen (lex open_first (lex lowest_chosen lowest_gate)) w v same_weight)

      pub no_more : ones w.chosen ≤ ones u
      no_more = let a = v_more in let b = ones_mono v.chosen u sub in omega arith

    -- no set that v stands for comes before what w has chosen, if w is finished
    pub exact : w.gates ≡ 0 → set_at_most m charge_of rows u w.chosen ≡ true → u ≡ w.chosen
    exact done h =
        let by-weight = by (weigh m charge_of rows) m.le in
        let light = lex_first by-weight size_then_line u w.chosen h in
        let small = lex_then by-weight size_then_line u w.chosen h no_heavier in
        let few = leb-true (ones u) (ones w.chosen) (lex_first (by ones leb) set_le u w.chosen small) in
        let many = v_more light in
        let fits = ones_mono v.chosen u sub in
        let v-is : v.chosen ≡ u = ones_same v.chosen u sub (omega arith) in
        let same_size = lex_then fewer_chosen (lex open_first (lex lowest_chosen lowest_gate)) w v (same_weight light) (le-leb _ _ (omega arith)) in
        let all_closed = lex_then open_first (lex lowest_chosen lowest_gate) w v same_size (finished_last w v done) in
        let w-first : set_le w.chosen u ≡ true = subst (λ x. set_le w.chosen x ≡ true) v-is (lex_first lowest_chosen lowest_gate w v all_closed) in
        let u-first = lex_then (by ones leb) set_le u w.chosen small (le-leb _ _ (no_more light)) in
        set_order.antisymmetric u w.chosen u-first w-first

-- ---- the top, as chosen part or as open gate

meet_one : (s i : ℕ) → bit_and (2 ^ i) s ≡ cond (has s i) (2 ^ i) 0
meet_one s i = same_set _ _ (λ j. grind (arith, has_and, has_pow, has_none))

module _ (rows : List Row) (k : keeps_rules rows ≡ true) where
  top_in : (test : Line → Bool) → cond (test (the_line rows (top rows))) (alone (top rows)) 0 ≡ bit_and (2 ^ top rows) (lines_that test rows)
  top_in test =
      let low : top rows < length rows = omega (arith, some_line rows k) in
      grind (arith, nat_tests, few_lines rows k, that_is test rows (top rows) low, meet_one (lines_that test rows) (top rows))

  top_of_kind : (test : Line → Bool) (l : Line) → the_line rows (top rows) ≡ l → bit_or 0 (bit_and (2 ^ top rows) (lines_that test rows)) ≡ cond (test l) (alone (top rows)) 0
  top_of_kind test l e = or_zero_l _ ∙ sym (top_in test) ∙ ap (λ x. cond (test x) (alone (top rows)) 0) e

  pub top_alone : loaded rows ≡ search_of (way_of (the_line rows (top rows)) (top rows) ∷ []) []
  unfolding way_of
  top_alone = ap (λ w. search_of (w ∷ []) []) (go (the_line rows (top rows)) refl)
    where
      go : (l : Line) → the_line rows (top rows) ≡ l → top_way rows ≡ way_of l (top rows)
      go (line.Part p) e = same_way _ _ (top_of_kind part_line _ e) (top_of_kind (λ l. not (part_line l)) _ e)
      go (line.Gate g) e = same_way _ _ (top_of_kind part_line _ e) (top_of_kind (λ l. not (part_line l)) _ e)
