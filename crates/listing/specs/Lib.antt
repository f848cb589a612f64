pub mod Answered
pub mod Catalogues
pub mod Failures
pub mod Finds
pub mod Loads
pub mod Walked
pub mod Walks
