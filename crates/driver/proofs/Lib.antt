pub mod Jobs
pub mod Made
pub mod MixJobs
pub mod RenderJobs
