mod Allowed
pub mod ByteLemmas
mod Cuts
pub mod EndLemmas
pub mod EscapeLemmas
mod Kept
pub mod LastOneLemmas
pub mod LawLemmas
pub mod NumberLemmas
pub mod PayloadLength
pub mod PlaceLemmas
pub mod ReadLemmas
pub mod UeLemmas
mod Worked
pub mod WriteLemmas
mod Zeros
