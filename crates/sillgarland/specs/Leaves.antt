-- The struct that the leaf question's export returns: 01's number and values of each answer.
use Rattle.std.specs.Prelude.{ℕ}
use Rattle.refusals.specs.Numbers.{accepted}
use Rattle.grammar.specs.Reading.{Answer, gives, stops}
use Rattle.leaf.specs.declared.Told.{Told}
use Rattle.leaf.specs.Answers.{kind_of}
use Rattle.sillgarland.specs.declared.leaves.SillLeaf.{SillLeaf}

abbrev pub leaf_struct : Answer Told → SillLeaf
leaf_struct (gives told) =
    record { refusal = accepted; place = 0; kind = kind_of told.leaf; pad = 0; first = told.first; second = told.second }
leaf_struct (stops number place) = record { refusal = number; place = place; kind = 0; pad = 0; first = 0; second = 0 }
