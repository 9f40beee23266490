-- `starts::low_bits` meets its contract: a mask of so many low bits leaves the remainder. Assumes nothing.
use Rattle.starts.proofs.Bits.{mask_some, masked}
use Rattle.starts.proofs.low_bits.Goals as goal

pub overflow_sub-result : goal.overflow_sub-result
overflow_sub-result c = mask_some _ c.requires

pub returns : goal.returns
returns c = masked _ _ c.requires
