-- What a function answers, in the documents' words: what it gives, or the number and the place of what it refuses.
-- 01, 'Numbers given when nothing is read': "The answer holds number and place".
use Rattle.std.specs.Prelude.{Result, Ok, Err}
use Rattle.refusals.specs.Faults.{number_of}
use Rattle.refusals.specs.declared.Fault.{Fault}
use Rattle.grammar.specs.Reading.{Answer, gives, stops}

abbrev pub numbered : {A : Type 0} → Result A Fault → Answer A
numbered (Ok x) = gives x
numbered (Err fault) = stops (number_of fault.refusal) fault.place
