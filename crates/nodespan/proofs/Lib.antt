pub mod Leads
pub mod Walks
pub mod Answers
