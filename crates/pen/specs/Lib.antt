pub mod Written
pub mod Decimal
pub mod Words
