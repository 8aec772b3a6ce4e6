use Rattle.lister.proofs.ListedChoices.{Sought}
use Rattle.lister.proofs.choosing.choice_at.Given as goal

abbrev pub invariant-loop-child : goal.invariant-loop-child
invariant-loop-child l = Sought l.children l.need-2 l.place-2 l.rest l.need l.place l.chosen

abbrev pub decreases-loop-child : goal.decreases-loop-child
decreases-loop-child l = l.rest
