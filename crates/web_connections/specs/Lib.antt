pub mod Acts
pub mod Contexts
pub mod Exchanges
pub mod Connections
