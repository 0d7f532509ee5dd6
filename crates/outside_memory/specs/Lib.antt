pub mod Scripts
pub mod MemoryShelf
pub mod MemorySink
