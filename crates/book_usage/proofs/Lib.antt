pub mod OrderSums
pub mod Redeemed
pub mod Spent
pub mod VoucherCounts
