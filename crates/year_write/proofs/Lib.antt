pub mod LineLaws
pub mod AllLaws
pub mod ReportLaws
