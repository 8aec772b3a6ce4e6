-- One line more of a file.
use Rattle.std.proofs.Common.{◌≡◌, ℕ, suc, ◌<◌, ◌≤◌, true, eqb, leb, List, [], ◌∷◌, ◌++◌, length, Ok, Err, ap, ◌∙◌, arith}
use Rattle.std.proofs.lemmas.Bool.{cond-true, cond-false, eqb-true, le-leb, lt-leb}
use Rattle.std.proofs.lemmas.List.{nil_from_length}
use Rattle.tabbed_text.specs.Fields.{after, fields_of, lines_of}
use Rattle.tabbed_text.specs.Questions.{then}
use Rattle.tabbed_text.proofs.NextLines.{first_line, after_shorter}
use Rattle.tree.specs.declared.line.Row.{Row}
use Rattle.station_file.specs.Faults.{station_fault}
use Rattle.station_file.specs.Files.{read_rows}
use Rattle.station_file.specs.Records.{record_of}
use Rattle.station_file.specs.declared.faults.StationCause.TheVariants.{TooManyLines}

module _ (rows : List Row) (xs : List ℕ) where
  pub read_over : 0 < length xs → 64 ≤ length rows → read_rows rows (lines_of xs) ≡ Err (station_fault (suc (length rows)) 0 TooManyLines)
  read_over some over = ap (read_rows rows) (first_line xs some) ∙ cond-true (leb 64 (length rows)) _ _ (le-leb 64 (length rows) over)

  pub read_full : 0 < length xs → eqb (length rows) 64 ≡ true → read_rows rows (lines_of xs) ≡ Err (station_fault (suc (length rows)) 0 TooManyLines)
  read_full some full = read_over some (omega (arith, eqb-true (length rows) 64 full))

  pub read_on : 0 < length xs → length rows < 64 → read_rows rows (lines_of xs) ≡ then (record_of (suc (length rows)) rows (fields_of xs)) (λ r. read_rows (rows ++ (r ∷ [])) (lines_of (after 10 xs)))
  read_on some room = ap (read_rows rows) (first_line xs some) ∙ cond-false (leb 64 (length rows)) _ _ (lt-leb 64 (length rows) room)

  pub read_end : length xs ≡ 0 → read_rows rows (lines_of xs) ≡ Ok rows
  read_end none = ap (λ ys. read_rows rows (lines_of ys)) (nil_from_length xs none)

-- what the reading of a line asks for
pub ruleset line_steps = (read_full, read_on, read_end, after_shorter)
