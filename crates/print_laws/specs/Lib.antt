pub mod Tree
