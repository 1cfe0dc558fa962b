mod Bytes
mod Columns
mod Heads
