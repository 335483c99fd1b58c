pub mod Orders
pub mod Lists
pub mod Pairs
pub mod Named
pub mod Within
