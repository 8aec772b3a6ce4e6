-- Parts and gates of a tree, gates that hold by a choice of their children, and how a cut set is seen to be minimal.
use Rattle.std.proofs.Common.{◌≡◌, ℕ, ◌+◌, ◌^◌, ◌<◌, Bool, true, false, not, ◌⊎◌, List, length, sym, refl, ◌∙◌, subst, ⊎_elim, add-one, arith}
use lib.Bits.{bit_and, bit_or, bit_xor, or_zero_r}
use lib.Count.{ones}
use Rattle.std.proofs.lemmas.Bool.{leb-true, le-leb, both_ways, cases_Bool, not-true, not_from_false}
use Rattle.std.proofs.lemmas.Bool.Decides.{nat_tests}
use Rattle.orders.specs.Lists.{In}
use Rattle.tree.specs.Holding.{the_line, top, told, line_holds, holding, holds}
use Rattle.tree.specs.Lines.{part_line}
use Rattle.tree.specs.Rules.{keeps_rules}
use Rattle.tree.specs.Sets.{has, alone, ◌⊆◌, Below, Tells}
use Rattle.tree.specs.declared.line.Part.{Part}
use Rattle.tree.specs.declared.line.Gate.{Gate}
use Rattle.tree.specs.declared.line.Line.{Line}
use Rattle.tree.specs.declared.line.Line.TheVariants as line
use Rattle.tree.specs.declared.line.Row.{Row}
use Rattle.tree.proofs.Holding.{past, line_there, none_there, few_lines, holding_laws, lt_below, children_below, holds_gate, holds_more}
use Rattle.tree.proofs.Sets.{no_test, same_lines, meet_left, meet_right, in_meet, ones_mono, without, apart}
use Rattle.tree.proofs.Told.{told_below, told_is}
use Rattle.ranking.proofs.Weights.{is_part}
use Rattle.choices.specs.Counts.{choices}
use Rattle.choices.proofs.Choosing.{choosing, some_choice}
use Rattle.cut_sets.specs.Cuts.{lines_that, parts, gates_of, CutSet, Minimal, Spares, GatesHoldByChoice}

-- ---- a set told line by line, as a word

pub told_none : (f : ℕ → ℕ → Bool) → told f 0 ≡ 0
unfolding told
told_none f = refl

pub told_in : (f : ℕ → ℕ → Bool) (i s : ℕ) → i < 64 → s ≡ told f i → f i s ≡ true → bit_or s (alone i) ≡ told f (i + 1)
unfolding told
told_in f i s h e t = rw add-one (grind (arith, nat_tests))

pub told_out : (f : ℕ → ℕ → Bool) (i s : ℕ) → s ≡ told f i → f i s ≡ false → s ≡ told f (i + 1)
unfolding told
told_out f i s e t = rw add-one (grind (arith, or_zero_r s))

pub holding_told : (rows : List Row) (s : ℕ) → holding rows s ≡ told (line_holds rows s) (length rows)
unfolding holding
holding_told rows s = refl

pub parts_told : (rows : List Row) → parts rows ≡ told (λ i below. part_line (the_line rows i)) (length rows)
unfolding lines_that
parts_told rows = refl

-- ---- the lines that pass a test

module _ (test : Line → Bool) (rows : List Row) where
  pub that_is : (i : ℕ) → i < length rows → has (lines_that test rows) i ≡ test (the_line rows i)
  unfolding lines_that
  that_is i h = told_is (λ i below. test (the_line rows i)) (length rows) i h

  pub that_below : Below (length rows) (lines_that test rows)
  unfolding lines_that
  that_below = told_below (λ i below. test (the_line rows i)) (length rows)

  pub that_passes : (i : ℕ) → has (lines_that test rows) i ≡ true → test (the_line rows i) ≡ true
  that_passes i e = sym (that_is i (that_below i e)) ∙ e

pub part_of : (rows : List Row) (i : ℕ) → has (parts rows) i ≡ true → (p : Part) × (the_line rows i ≡ line.Part p)
part_of rows i e = is_part (the_line rows i) (that_passes part_line rows i e)

pub gate_of : (rows : List Row) (i : ℕ) → has (gates_of rows) i ≡ true → (g : Gate) × (the_line rows i ≡ line.Gate g)
gate_of rows i e = go (the_line rows i) refl (that_passes (λ l. not (part_line l)) rows i e)
  where
    go : (l : Line) → the_line rows i ≡ l → not (part_line l) ≡ true → (g : Gate) × (the_line rows i ≡ line.Gate g)
    go (line.Part p) is t = cc
    go (line.Gate g) is t = (g, is)

pub kind : (rows : List Row) (i : ℕ) → i < length rows → (has (parts rows) i ≡ true) ⊎ (has (gates_of rows) i ≡ true)
kind rows i h = grind (arith, that_is part_line rows i h, that_is (λ l. not (part_line l)) rows i h)

-- ---- a gate holds when all of some choice do

module _ (rows : List Row) (k : keeps_rules rows ≡ true) (i : ℕ) (g : Gate) (s : ℕ) (e : the_line rows i ≡ line.Gate g) where
  pub holds_choice : holds rows s i ≡ true → (c : ℕ) × In c (choices g.children i g.need) × c ⊆ holding rows s
  holds_choice h =
      let H = holding rows s in
      let both = bit_and g.children H in
      let (c, m) = some_choice both i g.need (λ j n. children_below rows k i g e j (meet_left g.children H j n)) (leb-true g.need (ones both) (sym (holds_gate rows k i g s e) ∙ h)) in
      let (sub, low, is) = ((choosing both i g.need).members c).0 m in
      (c, ((choosing g.children i g.need).members c).1 (λ j n. meet_left g.children H j (sub j n), low, is), λ j n. meet_right g.children H j (sub j n))

  pub choice_holds : (c : ℕ) → In c (choices g.children i g.need) → c ⊆ holding rows s → holds rows s i ≡ true
  choice_holds c m sub =
      let (of_g, low, is) = ((choosing g.children i g.need).members c).0 m in
      holds_gate rows k i g s e
      ∙ le-leb _ _ (let x = ones_mono c (bit_and g.children (holding rows s)) (λ j n. in_meet g.children (holding rows s) j (of_g j n) (sub j n)) in omega arith)

pub by_choice : (rows : List Row) → keeps_rules rows ≡ true → GatesHoldByChoice rows
by_choice rows k i g s e = (holds_choice rows k i g s e, λ h. choice_holds rows k i g s e h.0 h.1 h.2)

-- ---- minimal, seen by leaving out one line at a time

module _ (rows : List Row) (s : ℕ) where
  all_needed : CutSet rows s → ((i : ℕ) × Spares rows s i → ⊥) → Minimal rows s
  all_needed cut none =
      record {
        cuts = cut;
        least = λ u sub c. same_lines u s sub (λ i m. ⊎_elim (λ t. t) (λ f. absurd (none (i, (m, less u i sub c m f)))) (cases_Bool (has u i)));
      }
    where
      less : (u i : ℕ) → u ⊆ s → CutSet rows u → has s i ≡ true → has u i ≡ false → CutSet rows (bit_xor s (2 ^ i))
      less u i sub c m f =
          let inside : u ⊆ bit_xor s (2 ^ i) = λ j n. apart s i j (sub j n) (λ e. both_ways _ f (subst (λ x. has u x ≡ true) e n)) in
          record { of_parts = λ j n. cut.of_parts j (without s i j n m).0; top_holds = holds_more rows u (bit_xor s (2 ^ i)) inside (top rows) c.top_holds }

  none_spared : Minimal rows s → (i : ℕ) × Spares rows s i → ⊥
  none_spared h (i, (m, c)) =
      let is = h.least (bit_xor s (2 ^ i)) (λ j n. (without s i j n m).0) c in
      (without s i i (subst (λ x. has x i ≡ true) (sym is) m) m).1 refl

  pub needed_told : (r : Bool) → Tells r ((i : ℕ) × Spares rows s i) → CutSet rows s → Tells (not r) (Minimal rows s)
  needed_told r t cut =
      record {
        only = λ e. all_needed cut (λ x. both_ways r (not-true r e) (t.when x));
        when = λ h. not_from_false r (no_test r (λ e. none_spared h (t.only e)));
      }

-- line i of a word
pub alone_in : (s i : ℕ) → s < 2 ^ 64 → has s i ≡ true → alone i ≡ 2 ^ i
alone_in s i h e = grind (arith, nat_tests, lt_below 64 s h i e)

-- ---- what the functions of lines and sets need

pub ruleset line_known = (line_there, none_there, past)

pub ruleset line_told = (told_none, told_in, told_out)

pub ruleset lines_hold = (holding_told, few_lines, holding_laws, by_choice)
