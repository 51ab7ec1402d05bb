pub mod CatalogueBodies
pub mod VoucherBodies
pub mod CartBodies
pub mod OrderBodies
pub mod WaitingBodies
pub mod DoorBodies
pub mod Requests
pub mod Body
