pub mod LanternLaws
pub mod Overlaid
pub mod Fixes
pub mod Held
