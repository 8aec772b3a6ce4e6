-- What is written piece by piece is the line.
use Rattle.std.proofs.Common.{◌≡◌, ℕ, List, [], ◌∷◌, ◌++◌, codes, decimal, append_assoc}
use Rattle.page.specs.Faults.{number_of, layer_of}
use Rattle.page.specs.Pages.{line_of, refused_line}
use Rattle.page.specs.declared.faults.PageFault.{PageFault}

pub refused_pieces : (f : PageFault) (n l : ℕ) → n ≡ number_of f.layer → l ≡ layer_of f.layer
    → codes "refused" ++ ((9 ∷ decimal n) ++ ((9 ∷ []) ++ ((l ∷ []) ++ ((9 ∷ decimal f.line) ++ ((9 ∷ decimal f.field) ++ (10 ∷ [])))))) ≡ refused_line f
refused_pieces f n l p q = rw (p, q) (simp append_assoc)

-- a line of two fields
pub two_pieces : (f : List ℕ) (n : ℕ) → f ++ ((9 ∷ decimal n) ++ (10 ∷ [])) ≡ line_of (f ∷ (decimal n ∷ []))
two_pieces f n = simp append_assoc
