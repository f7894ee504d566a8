pub mod CommandLine
pub mod Exit
pub mod Output
pub mod Run
pub mod Reports
pub mod Reading
pub mod Outside
