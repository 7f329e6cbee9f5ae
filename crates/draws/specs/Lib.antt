pub mod Content
pub mod Growing
