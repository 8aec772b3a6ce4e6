-- By hand: given the lemma by its name, the search does not find a record that is asked for every set of lines.
use Rattle.choices.proofs.Choosing.{choosing}
use Rattle.choices.proofs.count.Goals as goal

pub returns-in_err-get-clause-choices_are_the_subsets :
    goal.returns-in_err-get-clause-choices_are_the_subsets
returns-in_err-get-clause-choices_are_the_subsets c = choosing

pub returns-clause-choices_are_the_subsets : goal.returns-clause-choices_are_the_subsets
returns-clause-choices_are_the_subsets c = choosing
