use Rattle.std.proofs.Common.{arith}
use Rattle.tree.proofs.Words.{no_highest}
use Rattle.lister.proofs.ListedChoices.{begun, less, fewer, left_out, some_needed, put_in, found}
use Rattle.lister.proofs.choosing.choice_at.Goals as goal

pub loop-child-init : goal.loop-child-init
loop-child-init c = begun _ _ _ c.requires.few_children c.requires.few_needed c.requires.there

pub number_of_choices-without-requires-clause-few_lines : goal.number_of_choices-without-requires-clause-few_lines
number_of_choices-without-requires-clause-few_lines c =
    let few = c.loop-child.invariant.few in
    let n = fewer _ _ _ c.loop-child.auto.rest-fits.fits c.in-Some.ensures.is_the_highest_line c.alone-child_alone.ensures.is_one_line in
    omega arith

pub overflow_sub-need : goal.overflow_sub-need
overflow_sub-need c =
    some_needed _ _ _ c.loop-child.auto.rest-fits.fits c.in-Some.ensures.is_the_highest_line c.alone-child_alone.ensures.is_one_line _ _ _ _ _ _ c.loop-child.invariant (omega arith)

pub loop-child-smaller : goal.loop-child-smaller
loop-child-smaller c = less _ _ _ c.loop-child.auto.rest-fits.fits c.in-Some.ensures.is_the_highest_line c.alone-child_alone.ensures.is_one_line

pub loop-child-smaller-then-place-without : goal.loop-child-smaller-then-place-without
loop-child-smaller-then-place-without c = less _ _ _ c.loop-child.auto.rest-fits.fits c.in-Some.ensures.is_the_highest_line c.alone-child_alone.ensures.is_one_line

pub loop-child-preserved : goal.loop-child-preserved
loop-child-preserved c = left_out _ _ _ c.loop-child.auto.rest-fits.fits c.in-Some.ensures.is_the_highest_line c.alone-child_alone.ensures.is_one_line _ _ _ _ _ _ c.loop-child.invariant (omega arith)

pub loop-child-preserved-then-place-without : goal.loop-child-preserved-then-place-without
loop-child-preserved-then-place-without c =
    rw c.number_of_choices-without.ensures
    (put_in _ _ _ c.loop-child.auto.rest-fits.fits c.in-Some.ensures.is_the_highest_line c.alone-child_alone.ensures.is_one_line _ _ _ _ _ _ c.loop-child.invariant (omega arith))

pub returns : goal.returns
returns c = found _ _ _ _ _ _ _ (grind (arith, no_highest)) c.loop-child.invariant
