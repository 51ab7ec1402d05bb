pub mod Used
pub mod CanCome
pub mod Least
pub mod Handed
pub mod DraftState
pub mod Decides
