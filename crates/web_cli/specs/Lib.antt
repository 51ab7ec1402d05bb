pub mod Asked
pub mod Examples
pub mod Faults
pub mod FeedTicks
pub mod Line
pub mod Saying
pub mod Values
pub mod Words
