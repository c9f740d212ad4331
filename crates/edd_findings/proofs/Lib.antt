pub mod BreachLaws
pub mod VerdictLaws
