pub mod Lists
pub mod Afresh
