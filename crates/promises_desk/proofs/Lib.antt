pub mod Turns
pub mod ReadLines
pub mod Sees
pub mod WholeText
pub mod Again
pub mod Promises
