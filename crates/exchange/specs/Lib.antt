pub mod Changes
pub mod Demand
