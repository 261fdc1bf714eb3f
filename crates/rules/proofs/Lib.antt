pub mod Passing
pub mod Firsts
pub mod Once
pub mod Verdict
