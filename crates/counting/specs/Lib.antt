pub mod Heavy
