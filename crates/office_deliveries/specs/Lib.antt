pub mod Deliveries
pub mod Fit
pub mod Headline
pub mod Histories
pub mod Shops
