pub mod WriteParts
