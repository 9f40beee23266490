-- Laws on rows that go on, on what a piece makes of held bytes, and on the definitions of the calls.
pub mod Placing
pub mod Fold
pub mod Settled
pub mod Shown
pub mod Short
pub mod Settles
pub mod Fronts
pub mod Others
pub mod Taken
pub mod Joined
pub mod Enters
pub mod Gates
pub mod Begins
pub mod Closes
