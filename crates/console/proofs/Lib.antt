pub mod Asking
pub mod Naming
pub mod Splitting
pub mod Telling
