-- The reader takes exactly the files that describe a tree that keeps the rules, within the size limit.
use Rattle.std.proofs.Common.{◌≡◌, ℕ, ◌≤◌, true, List, length, Ok, Err, Result, sym, refl, ap, ◌∙◌}
use Rattle.tree.specs.Rules.{keeps_rules}
use Rattle.tree.specs.declared.line.Row.{Row}
use Rattle.station_file.specs.Descriptions.{Describes, ReadsExactly}
use Rattle.station_file.specs.Files.{read_file, outcome, rows_or}
use Rattle.station_file.proofs.Accepting.{described_read}
use Rattle.station_file.proofs.Describing.{read_describes}
use Rattle.station_file.proofs.Keeping.{file_keeps}
use Rattle.station_file.specs.declared.faults.StationFault.{StationFault}

described : (bs : List ℕ) (old : List Row) (r : Result (List Row) StationFault) → read_file bs ≡ r → outcome r ≡ Ok tt
    → Describes bs (rows_or r old) × (keeps_rules (rows_or r old) ≡ true) × (length bs ≤ 16384)
described bs old (Ok rows) e told = let d = read_describes bs rows e in (d.0, file_keeps bs rows e, d.1)
described bs old (Err f) e told = cc

unchanged : (old : List Row) (r : Result (List Row) StationFault) (f : StationFault) → outcome r ≡ Err f → rows_or r old ≡ old
unchanged old (Ok rows) f e = cc
unchanged old (Err x) f e = refl

pub reads_exactly : (bs : List ℕ) (old new : List Row) (r : Result (Unit {0}) StationFault) → r ≡ outcome (read_file bs) → new ≡ rows_or (read_file bs) old → ReadsExactly bs r old new
reads_exactly bs old new r is leaves =
    record {
      accepts = λ rows d k small. let e = described_read bs rows d k small in (is ∙ ap outcome e, leaves ∙ ap (λ x. rows_or x old) e);
      described = λ e. rw leaves (described bs old (read_file bs) refl (sym is ∙ e));
      unchanged = λ f e. leaves ∙ unchanged old (read_file bs) f (sym is ∙ e);
    }

-- where the file is refused, what was there stays
pub refuses_exactly : (bs : List ℕ) (f : StationFault) (old : List Row) → Err f ≡ outcome (read_file bs) → ReadsExactly bs (Err f) old old
refuses_exactly bs f old e = reads_exactly bs old old (Err f) e (sym (unchanged old (read_file bs) f (sym e)))
