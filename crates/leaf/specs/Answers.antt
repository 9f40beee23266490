-- The leaf answer as the code gives it: an enum, and beside it the numbers of its case. 01's number and values for each case.
-- 01, 'What is lent and what is kept': "A leaf question names a node and answers none, a truth value, ellipsis, stop, a 64-bit whole number,
-- one float, two floats, "wide" .., or for every other letter "not a leaf". Floats carry the stored bits."
use Rattle.std.specs.Prelude.{ℕ, cond}
use Rattle.std.specs.Int.{w64}
use Rattle.std.proofs.Common.{to_z}
use Rattle.std.specs.Float.{binary64}
use Rattle.std.specs.Float.Ieee.{of_bits}
use Rattle.grammar.specs.Reading.{Answer, gives, stops}
use Rattle.grammar.specs.Leaf as grammar
use Rattle.leaf.specs.declared.Leaf.{Leaf}
use Rattle.leaf.specs.declared.Leaf.TheVariants as leaf
use Rattle.leaf.specs.declared.Told.{Told}

-- The case: a whole number is the one that its 64 bits stand for, a float the one that the stored bits stand for.
abbrev pub case_of : grammar.Leaf → Leaf
case_of grammar.nothingness = leaf.None
case_of (grammar.truth b) = leaf.Truth b
case_of grammar.ellipsis = leaf.Ellipsis
case_of grammar.stop = leaf.Stop
case_of (grammar.whole bits) = leaf.Whole (to_z w64 bits)
case_of (grammar.float bits) = leaf.Float (of_bits binary64 bits)
case_of (grammar.complex real imaginary) = leaf.Complex (of_bits binary64 real) (of_bits binary64 imaginary)
case_of grammar.wide = leaf.Wide
case_of grammar.not_leaf = leaf.NotLeaf

-- The number of each case.
abbrev pub kind_of : Leaf → ℕ
kind_of leaf.NotLeaf = 0
kind_of leaf.None = 1
kind_of (leaf.Truth b) = 2
kind_of leaf.Ellipsis = 3
kind_of leaf.Stop = 4
kind_of (leaf.Whole number) = 5
kind_of (leaf.Float number) = 6
kind_of (leaf.Complex real imaginary) = 7
kind_of leaf.Wide = 8

-- The values of each case: a truth value is 0 or 1, a whole number its bits in two's complement, a float its stored bits; 0 where there
-- is none.
abbrev pub first_of : grammar.Leaf → ℕ
first_of grammar.nothingness = 0
first_of (grammar.truth b) = cond b 1 0
first_of grammar.ellipsis = 0
first_of grammar.stop = 0
first_of (grammar.whole bits) = bits
first_of (grammar.float bits) = bits
first_of (grammar.complex real imaginary) = real
first_of grammar.wide = 0
first_of grammar.not_leaf = 0

abbrev pub second_of : grammar.Leaf → ℕ
second_of grammar.nothingness = 0
second_of (grammar.truth b) = 0
second_of grammar.ellipsis = 0
second_of grammar.stop = 0
second_of (grammar.whole bits) = 0
second_of (grammar.float bits) = 0
second_of (grammar.complex real imaginary) = imaginary
second_of grammar.wide = 0
second_of grammar.not_leaf = 0

abbrev pub told_of : grammar.Leaf → Told
told_of l = record { leaf = case_of l; first = first_of l; second = second_of l }

-- a case without values
abbrev pub plainly : Leaf → Told
plainly l = record { leaf = l; first = 0; second = 0 }

-- 01's table: "The answer holds number and place".
abbrev pub answered_of : Answer grammar.Leaf → Answer Told
answered_of (gives l) = gives (told_of l)
answered_of (stops number place) = stops number place
