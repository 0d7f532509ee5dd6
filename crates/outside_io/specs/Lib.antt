pub mod Outside
pub mod StdSink
