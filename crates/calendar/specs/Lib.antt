pub mod Rounding
pub mod Days
pub mod Dates
pub mod Faults
pub mod Spans
pub mod Terms
pub mod Months
