-- The worked examples.
use Rattle.std.proofs.Common.{◌≡◌, ℕ, ◌^◌, ◌<◌, ◌≤◌, true, List, [], ◌∷◌, length, sym, refl, subst, arith, lit≤}
use lib.Count.{ones, ones_in, count_trailing_zeros}
use Rattle.orders.specs.Lists.{Each}
use Rattle.tree.specs.Holding.{the_line, told}
use Rattle.tree.specs.Rules.{keeps_rules}
use Rattle.tree.specs.Sets.{has, within, lowest, set_le, Highest}
use Rattle.tree.specs.declared.line.Gate.{Gate}
use Rattle.tree.specs.declared.line.Line.TheVariants as line
use Rattle.tree.specs.declared.line.Row.{Row}
use Rattle.tree.proofs.Sets.{no_test, has_one, only_one}
use Rattle.choices.specs.Counts.{binom}
use Rattle.ranking.specs.Charges.{charge}
use Rattle.ranking.specs.Models.{price}
use Rattle.ranking.specs.Weights.{weigh_below, weigh}
use Rattle.cut_sets.specs.Cuts.{lines_that}
use Rattle.cut_sets.specs.WaitingRule.{Search, entering, top_way, loaded, Step, none, then, struck, closed, gave, Blocked}
use Rattle.cut_sets.specs.WorkedExamples.{ComesOut, worked, lettered, vote, twelve}
use Rattle.cut_sets.specs.declared.way.Way.{Way}
use Rattle.cut_sets.proofs.Steps.{as_many_enter}

-- one gate open
alone_open : (g : ℕ) → Highest (2 ^ g) g
alone_open g = record { there = has_one g; none_above = λ i h. no_test _ (λ e. let x = only_one g i e in omega arith) }

-- the first step of a tree whose top is a gate
module _ (rows : List Row) (k : keeps_rules rows ≡ true) (slots i : ℕ) (g : Gate) (is : the_line rows i ≡ line.Gate g) (starts : top_way rows ≡ record { chosen = 0; gates = 2 ^ i }) where
  high : Highest (top_way rows).gates i
  high = subst (λ (w : Way). Highest w.gates i) (sym starts) (alone_open i)

  enter : length (entering rows (top_way rows) i) ≡ binom (ones g.children) g.need
  enter = as_many_enter rows k (top_way rows) i g is

  first_step : binom (ones g.children) g.need ≤ slots → (e : Search) × Step price (charge 0 0) rows slots (loaded rows) e
  first_step h = (_, closed i refl high (let e = enter in omega arith))

  blocked : slots < binom (ones g.children) g.need → Blocked price (charge 0 0) rows slots (loaded rows)
  blocked h = record { way = top_way rows; others = []; gate = i; taken = refl; not_struck = refl; highest = high; too_many = let e = enter in omega arith }

-- six of twelve
abbrev sixth : Gate
sixth = record { children = 0b111111111111; need = 6 }

pub worked_out : Each ComesOut worked
unfolding has within told lines_that weigh_below weigh set_le lowest ones ones_in count_trailing_zeros binom
worked_out =
    let sixes = lettered 0 (twelve (vote 6 0b111111111111 ∷ [])) in (
      (refl, then (closed 0 refl (alone_open 0) (lit≤ tt)) (then (gave refl refl) none)),
      (
        (refl, then (closed 0 refl (alone_open 0) (lit≤ tt)) none),
        (
          (refl, then (closed 3 refl (alone_open 3) (lit≤ tt)) (then (gave refl refl) (then (gave refl refl) (then (gave refl refl) none)))),
          (
            (refl, then (closed 3 refl (alone_open 3) (lit≤ tt)) (then (closed 2 refl (alone_open 2) (lit≤ tt)) (then (gave refl refl) (then (struck refl) none)))),
            (
              (refl, first_step sixes refl 924 12 sixth refl refl (lit≤ tt)),
              (
                (refl, blocked sixes refl 923 12 sixth refl refl (lit≤ tt)),
                (
                  (refl, then (closed 3 refl (alone_open 3) (lit≤ tt)) (then (closed 2 refl (alone_open 2) (lit≤ tt)) (then (gave refl refl) (then (gave refl refl) none)))),
                  tt,
                ),
              ),
            ),
          ),
        ),
      ),
    )
