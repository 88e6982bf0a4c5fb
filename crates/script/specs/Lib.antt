pub mod Shapes
pub mod Grammar
pub mod Replies
pub mod Tables
pub mod Machine
pub mod Script
pub mod Laws
