pub mod Entries
pub mod Judgements
pub mod Layouts
pub mod Lookups
pub mod Seen
