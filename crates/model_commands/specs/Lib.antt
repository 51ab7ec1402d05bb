pub mod Starts
pub mod Refusals
pub mod FitRequests
pub mod Fit
pub mod Pages
