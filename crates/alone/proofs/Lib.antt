-- What a reading made, node by node; every node's own reading; the span read alone and its value; then the question and the theorem.
pub mod Leading
pub mod Totals
pub mod Kin
pub mod KinSteps
pub mod Made
pub mod Runs
pub mod Slots
pub mod Inside
pub mod Spans
pub mod Lone
pub mod Further
pub mod Nested
pub mod Every
pub mod Asked
pub mod Told
pub mod Promised
pub mod Example
