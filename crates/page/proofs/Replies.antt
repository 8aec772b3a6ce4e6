-- What was written is what the answer to the input makes of it.
use Rattle.std.proofs.Common.{◌≡◌, ℕ, Bool, true, false, cond, leb, List, ◌++◌, length, drop, Some, None, Ok, Err, Result, refl, arith}
use Rattle.std.specs.Option.{ok_or}
use Rattle.std.specs.Result.{result_unwrap_or}
use Rattle.page.specs.Answers.{reply, replied, written_for, fitted}
use Rattle.page.specs.Faults.{page_fault}
use Rattle.page.specs.Pages.{answered, left_in, refused_line}
use Rattle.page.specs.declared.answer.Written.TheVariants.{Sheet, Refusal}
use Rattle.page.specs.declared.faults.PageCause.TheVariants.{NoRoom}
use Rattle.page.specs.declared.faults.PageFault.{PageFault}

abbrev no_room : PageFault
no_room = page_fault 0 0 NoRoom

pub sent : (s : Result (List ℕ) PageFault) (out : List ℕ) (n : ℕ) → Ok n ≡ answered s out → Sheet n ≡ written_for (reply s out) out
unfolding answered reply written_for
sent (Ok text) out n e = go (leb (length text) (length out)) refl e
  where
    go : (b : Bool) → leb (length text) (length out) ≡ b → Ok n ≡ ok_or (cond b (Some (length text)) None) no_room
        → Sheet n ≡ written_for (cond b (Ok text) (Err no_room)) out
    go true fits e = grind (arith, fits)
    go false fits e = grind arith
sent (Err f) out n e = grind arith

pub left : (s : Result (List ℕ) PageFault) (out after : List ℕ) (n : ℕ) → Ok n ≡ answered s out → after ≡ left_in s out → after ≡ replied (reply s out) out
unfolding answered left_in reply replied
left (Ok text) out after n e l = go (leb (length text) (length out)) refl e l
  where
    go : (b : Bool) → leb (length text) (length out) ≡ b → Ok n ≡ ok_or (cond b (Some (length text)) None) no_room
        → after ≡ cond b (text ++ drop (length text) out) out → after ≡ replied (cond b (Ok text) (Err no_room)) out
    go true fits e l = grind (arith, fits)
    go false fits e l = grind arith
left (Err f) out after n e l = grind arith

kept : (s : Result (List ℕ) PageFault) (out : List ℕ) (f : PageFault) → Err f ≡ answered s out → reply s out ≡ Err f
unfolding answered reply
kept (Ok text) out f e = go (leb (length text) (length out)) e
  where
    go : (b : Bool) → Err f ≡ ok_or (cond b (Some (length text)) None) no_room → cond b (Ok text) (Err no_room) ≡ Err f
    go true e = grind arith
    go false e = grind arith
kept (Err g) out f e = grind arith

same : (s : Result (List ℕ) PageFault) (out after : List ℕ) (f : PageFault) → Err f ≡ answered s out → after ≡ left_in s out → after ≡ out
unfolding answered left_in
same (Ok text) out after f e l = go (leb (length text) (length out)) e l
  where
    go : (b : Bool) → Err f ≡ ok_or (cond b (Some (length text)) None) no_room → after ≡ cond b (text ++ drop (length text) out) out → after ≡ out
    go true e l = grind arith
    go false e l = l
same (Err g) out after f e l = l

told : (text out : List ℕ) (r : Result ℕ PageFault) → r ≡ answered (Ok text) out → result_unwrap_or r 0 ≡ fitted text out
unfolding answered
told text out r e = go (leb (length text) (length out)) e
  where
    go : (b : Bool) → r ≡ ok_or (cond b (Some (length text)) None) no_room → result_unwrap_or r 0 ≡ cond b (length text) 0
    go true e = rw e refl
    go false e = rw e refl

pub refused_sent : (s : Result (List ℕ) PageFault) (out mid : List ℕ) (f : PageFault) (r : Result ℕ PageFault) → Err f ≡ answered s out → mid ≡ left_in s out
    → r ≡ answered (Ok (refused_line f)) mid → Refusal (result_unwrap_or r 0) ≡ written_for (reply s out) out
unfolding written_for
refused_sent s out mid f r e l a = rw (kept s out f e, told (refused_line f) mid r a, same s out mid f e l) refl

pub refused_left : (s : Result (List ℕ) PageFault) (out mid : List ℕ) (f : PageFault) → Err f ≡ answered s out → mid ≡ left_in s out
    → left_in (Ok (refused_line f)) mid ≡ replied (reply s out) out
unfolding left_in replied
refused_left s out mid f e l = rw (kept s out f e, same s out mid f e l) refl

pub ruleset replies = (sent, left, refused_sent, refused_left)
