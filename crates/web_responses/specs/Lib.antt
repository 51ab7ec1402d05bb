pub mod Responses
pub mod Faults
pub mod Table
pub mod Refusals
pub mod Results
pub mod Pages
pub mod Replies
pub mod Statuses
