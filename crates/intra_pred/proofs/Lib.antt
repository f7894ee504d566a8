pub mod Blocks4
pub mod ChromaMeans
pub mod Places
pub mod Samples16
pub mod Samples4
pub mod SamplesChroma
pub mod Slopes
