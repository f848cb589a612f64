pub mod Calls
pub mod Fields
pub mod Forms
pub mod Numbers
pub mod Replies
pub mod Titles
