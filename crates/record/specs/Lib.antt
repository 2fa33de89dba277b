pub mod Format
pub mod Record
pub mod Records
pub mod RuleRecords
