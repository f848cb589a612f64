pub mod Accounting
pub mod Fields
pub mod Freshness
pub mod Laying
pub mod Reading
pub mod Stages
pub mod Standings
