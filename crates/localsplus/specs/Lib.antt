pub mod Sum
pub mod Kind
pub mod Lists
pub mod Answer
