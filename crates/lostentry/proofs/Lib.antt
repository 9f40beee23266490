-- Laws on numbers that grow, and the theorems that the test of a lost entry is right, both ways.
pub mod Grows
pub mod Losing
pub mod Heals
pub mod Told
