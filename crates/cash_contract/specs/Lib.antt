pub mod Clauses
pub mod Conserved
