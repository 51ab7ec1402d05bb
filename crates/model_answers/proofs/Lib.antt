pub mod Lists
pub mod AnyOrder
