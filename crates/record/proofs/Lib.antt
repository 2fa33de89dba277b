pub mod Formats
pub mod Records
pub mod RecordBytes
pub mod Copied
