-- `leaf::leaf_as` meets its contract: a sound node has the fields of its letter, and each letter is read as the definition reads it.
-- Assumes nothing.
use mathlib.Core.Path.{ap, ◌∙◌}
use borrow.Author.Tests.{ne_eqb}
use Rattle.grammar.specs.Letters.{letters, found, class_of}
use Rattle.grammar.specs.Leaf as definition
use Rattle.stores.specs.Written.{node_of}
use Rattle.soundness.proofs.Soundness.{fixed_held, double_held, long_held}
use Rattle.leaf.specs.Answers.{told_of}
use native.Mathlib.Omega.{arith}
use Rattle.leaf.proofs.leaf_as.Goals as goal

pub le32-requires : goal.le32-requires
unfolding letters found class_of
le32-requires c =
    fixed_held c.args.s.now (node_of c.args.node) c.requires.0 4
    (ap class_of c.in-105.is)

pub le64-requires : goal.le64-requires
unfolding letters found class_of
le64-requires c =
    fixed_held c.args.s.now (node_of c.args.node) c.requires.0 8
    (ap class_of c.in-73.is)

pub le64-requires-in-103 : goal.le64-requires-in-103
unfolding letters found class_of
le64-requires-in-103 c =
    fixed_held c.args.s.now (node_of c.args.node) c.requires.0 8
    (ap class_of c.in-103.is)

pub le64-requires-in-121 : goal.le64-requires-in-121
unfolding letters found class_of
le64-requires-in-121 c =
    omega
    (arith, double_held c.args.s.now (node_of c.args.node) c.requires.0 (ap class_of c.in-121.is))

pub overflow_add-at : goal.overflow_add-at
unfolding letters found class_of
overflow_add-at c =
    omega
    (arith, double_held c.args.s.now (node_of c.args.node) c.requires.0 (ap class_of c.in-121.is))

pub le64-requires-in-121-2 : goal.le64-requires-in-121-2
unfolding letters found class_of
le64-requires-in-121-2 c =
    double_held c.args.s.now (node_of c.args.node)
    c.requires.0 (ap class_of c.in-121.is)

pub long_leaf-requires : goal.long_leaf-requires
unfolding letters found class_of
long_leaf-requires c =
    (long_held c.args.s.now (node_of c.args.node) c.requires.0 (ap class_of c.in-108.is), c.requires.1)

pub returns-in-78 : goal.returns-in-78
unfolding definition.leaf_as
returns-in-78 c = rw c.in-78.is c.plain.ensures

pub returns-in-70 : goal.returns-in-70
unfolding definition.leaf_as
returns-in-70 c = rw c.in-70.is c.truth.ensures

pub returns-in-84 : goal.returns-in-84
unfolding definition.leaf_as
returns-in-84 c = rw c.in-84.is c.truth-in-84.ensures

pub returns-in-46 : goal.returns-in-46
unfolding definition.leaf_as
returns-in-46 c = rw c.in-46.is c.plain-in-46.ensures

pub returns-in-83 : goal.returns-in-83
unfolding definition.leaf_as
returns-in-83 c = rw c.in-83.is c.plain-in-83.ensures

pub returns-in-105 : goal.returns-in-105
unfolding definition.leaf_as
returns-in-105 c =
    rw c.in-105.is
    (c.whole.ensures ∙ ap (λ n. told_of (definition.whole n)) (c.extended.ensures ∙ ap definition.extended c.le32.ensures))

pub returns-in-73 : goal.returns-in-73
unfolding definition.leaf_as
returns-in-73 c = rw c.in-73.is (c.whole-in-73.ensures ∙ ap (λ n. told_of (definition.whole n)) c.le64.ensures)

pub returns-in-103 : goal.returns-in-103
unfolding definition.leaf_as
returns-in-103 c = rw c.in-103.is (c.float.ensures ∙ ap (λ n. told_of (definition.float n)) c.le64-in-103.ensures)

pub returns-in-121 : goal.returns-in-121
unfolding definition.leaf_as
returns-in-121 c =
    rw c.in-121.is
    (rw (c.le64-in-121.ensures, c.le64-in-121-2.ensures) at c.complex.ensures)

pub returns-in-108 : goal.returns-in-108
unfolding definition.leaf_as
returns-in-108 c = rw c.in-108.is c.long_leaf.ensures

pub returns-in_default : goal.returns-in_default
unfolding definition.leaf_as
returns-in_default c =
    let rest = c.in_default.in_default-own.rest in
    rw (
      ne_eqb _ _ rest.0.0.0.0.0.0.0.0.0.1,
      ne_eqb _ _ rest.0.0.0.0.0.0.0.0.1,
      ne_eqb _ _ rest.0.0.0.0.0.0.0.1,
      ne_eqb _ _ rest.0.0.0.0.0.0.1,
      ne_eqb _ _ rest.0.0.0.0.0.1,
      ne_eqb _ _ rest.0.0.0.0.1,
      ne_eqb _ _ rest.0.0.0.1,
      ne_eqb _ _ rest.0.0.1,
      ne_eqb _ _ rest.0.1,
      ne_eqb _ _ rest.1,
    )
    c.plain-in_default.ensures
