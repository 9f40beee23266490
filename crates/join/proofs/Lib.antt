-- Laws and theorems of joins, and laws on what the code tells of a table and writes.
pub mod Wholes
pub mod Reading
pub mod Promised
pub mod Told
