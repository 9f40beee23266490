-- The argument sum of a code is the split's, defined there once. 01, 'Reading a value': "argument sum (the split's) above 32 bits 18".
pub use Rattle.localsplus.specs.Sum.{argument_sum}
