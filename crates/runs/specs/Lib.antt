pub mod Laws
pub mod Performed
