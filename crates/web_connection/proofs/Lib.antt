pub mod RunLemmas
pub mod LawLemmas
pub mod FollowLemmas
pub mod CountLemmas
