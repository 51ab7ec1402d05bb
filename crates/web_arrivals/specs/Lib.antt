pub mod HandlerView
pub mod Seen
pub mod Coming
pub mod Served
pub mod Streams
pub mod Cuts
pub mod Given
pub mod Deliveries
