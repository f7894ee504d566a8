pub mod Places
pub mod ReferenceList
