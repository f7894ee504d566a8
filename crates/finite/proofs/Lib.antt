pub mod Deciding
pub mod Equal
pub mod Lists
pub mod Numbers
pub mod Sets
