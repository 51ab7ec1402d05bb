pub mod Members
pub mod Catalogue
pub mod SoundSteps
pub mod ForSale
