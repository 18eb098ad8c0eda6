pub mod Lent
pub mod Moves
pub mod Pages
pub mod Tables
pub mod Waiting
pub mod Within
