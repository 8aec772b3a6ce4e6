-- What a walk over fields has yet to read, and what a call of `next` leaves of it.
use Rattle.std.specs.Prelude.{◌≡◌, List, drop, Option, MatchOption, ℕ}
use denote.Ref.{Bor}
use Rattle.tabbed_text.specs.Fields.{more_fields, after, NoField, NextField}
use Rattle.tabbed_text.specs.declared.fields.Fields.{Fields}

abbrev pub remains : Fields → List ℕ
remains w = drop w.at w.bytes.now

-- from the walk s, `next` gave r and left t: the next field of the line, where there is one; else the walk stays
pub record GivesNext (s : Fields) (r : Option (Bor (List ℕ))) (t : Fields) : Type 0 where
  pub yields_next_field : MatchOption r (NoField (remains s) (remains t)) (λ f. NextField (remains s) f.now (remains t))
  pub leaves_the_others : more_fields (remains t) ≡ drop 1 (more_fields (remains s))
  pub keeps_next_line : after 10 (remains t) ≡ after 10 (remains s)
