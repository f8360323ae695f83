pub mod Codes
pub mod Timetable
pub mod Private
