pub mod Fed
pub mod Streams
pub mod Deliveries
