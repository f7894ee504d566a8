pub mod UnitContents
pub mod Laws
