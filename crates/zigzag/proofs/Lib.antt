pub mod Zig
