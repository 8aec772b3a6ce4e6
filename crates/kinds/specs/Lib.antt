pub mod Faults
pub mod Lanterns
pub mod LanternTrees
pub mod Fixings
pub mod Overlays
pub mod LanternRows
pub mod LanternLimits
pub mod Runs
