mod Letters
mod Same
mod Minutes
mod Ranges
mod Totals
mod Limits
mod Figures
pub mod Laws
