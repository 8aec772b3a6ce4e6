-- The number and the layer of each refusal of a lantern and of a fixing; neither names a line or a field.
use Rattle.std.specs.Prelude.{ℕ, List, [], ◌∷◌, ◌++◌, codes}
use Rattle.std.specs.Fmt.{decimal}
use Rattle.kinds.specs.declared.faults.LanternCause.TheVariants.{OutOfLimits}
use Rattle.kinds.specs.declared.faults.FixingCause.TheVariants.{NotPart}
use Rattle.kinds.specs.declared.faults.TreeFault.{TreeFault}
use Rattle.kinds.specs.declared.faults.TreeLayer.{TreeLayer}
use Rattle.kinds.specs.declared.faults.TreeLayer.TheVariants.{Lantern, Fixing}

abbrev pub number_of : TreeLayer → ℕ
number_of (Fixing NotPart) = 14
number_of (Lantern OutOfLimits) = 16

-- the letter of the layer: X for a fixing, T for a lantern
abbrev pub layer_of : TreeLayer → ℕ
layer_of (Fixing c) = 88
layer_of (Lantern c) = 84

-- what a refusal says: number, layer, line and field
abbrev pub told : TreeFault → ℕ × ℕ × ℕ × ℕ
told f = (number_of f.layer, layer_of f.layer, f.line, f.field)

-- a refusal in this layer, of no line of a file
abbrev pub of_layer : TreeLayer → TreeFault
of_layer layer = record { line = 0; field = 0; layer = layer }

-- as it is printed: the number in decimal digits and the letter of the layer
abbrev pub refusal_text : TreeFault → List ℕ
refusal_text f = codes "refused " ++ decimal (number_of f.layer) ++ codes ", layer " ++ layer_of f.layer ∷ []
