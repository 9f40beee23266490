-- `front` is the steps' own front where it takes a value; a law for a reference and one for a leaf.
use Rattle.readleaves.proofs.Fronts.{front-refers, front_leaf}
use borrow.Author.Rules.{rules}
use Rattle.readleaves.proofs.front.Goals as goal

pub returns-then-class-eq-REFERENCE_CLASS : goal.returns-then-class-eq-REFERENCE_CLASS
returns-then-class-eq-REFERENCE_CLASS c = search (front-refers, rules)

pub returns : goal.returns
returns c = search (front_leaf, rules)
