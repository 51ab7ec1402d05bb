pub mod Places
pub mod RisingLemmas
pub mod Edits
pub mod OneId
pub mod Mapped
pub mod Appended
pub mod SlotLemmas
