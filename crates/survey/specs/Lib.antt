pub mod Window
pub mod Looking
pub mod Standing
