pub mod NamesTold
pub mod RulesTold
pub mod Spending
pub mod Walks
pub mod WordsTold
