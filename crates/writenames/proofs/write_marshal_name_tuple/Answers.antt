-- The level, the head, then the names. Assumes nothing.
use Rattle.writenames.proofs.Naming.{no_level, tuple_at, tuple_way}
use Rattle.underway.proofs.Under.{opens, refused_in, written_in, last}
use Rattle.underway.specs.Rows.{kids_from}
use Prim.Native.Nat.{◌-◌}
use lib.ListN.{length}
use mathlib.Core.List.{◌∷◌}
use Rattle.writing.specs.Canonical.{bytes32}
use Rattle.writecheck.specs.Looking.{lent_of}
use Rattle.writing.specs.Steps.{string_part, kids_of}
use Rattle.writing.specs.Writing.{emit, each}
use Rattle.grammar.specs.State.{Node}
use Rattle.std.proofs.Common.{rules, ◌≡◌, Err}
use native.Mathlib.Omega.{arith}
use mathlib.Core.Path.{ap}
use Rattle.writenames.proofs.write_marshal_name_tuple.Goals as goal

pub returns-then-allowance-eq0 : goal.returns-then-allowance-eq0
returns-then-allowance-eq0 c =
    let a = c.args in
    let t = lent_of a.lent.now in
    no_level a.allowance a.node (emit (0x28 ∷ bytes32 (length (kids_of t a.node))) (each (string_part t (a.allowance - 1)) (kids_of t a.node))) (omega arith) c.at.ensures

pub write_names-requires : goal.write_names-requires
write_names-requires c =
    let a = c.args in
    let t = lent_of a.lent.now in
    let asked = c.requires in
    let node_of_lem = c.node_of-n.ensures in
    (opens (written_in (tuple_way t a.allowance a.node (omega arith) (tuple_at t a.node asked.1 (ap (λ (m : Node). m.count) node_of_lem) (ap (λ (m : Node). m.first) node_of_lem)) asked.0.inside) c.write_len.ensures c.in_ok-a.was) asked.0.counts, (tuple_at t a.node asked.1 (ap (λ (m : Node). m.count) node_of_lem) (ap (λ (m : Node). m.first) node_of_lem)).chained, (tuple_at t a.node asked.1 (ap (λ (m : Node). m.count) node_of_lem) (ap (λ (m : Node). m.first) node_of_lem)).texts)

pub returns-in_err-a : goal.returns-in_err-a
returns-in_err-a c =
    let a = c.args in
    let t = lent_of a.lent.now in
    let asked = c.requires in
    let node_of_lem = c.node_of-n.ensures in
    let passed : c.from_residual.result ≡ Err c.in_err-a.field-0.0 = search rules in
    rw passed (refused_in (each (string_part t (a.allowance - 1)) (kids_from t c.node_of-n.result.count c.node_of-n.result.first)) (tuple_way t a.allowance a.node (omega arith) (tuple_at t a.node asked.1 (ap (λ (m : Node). m.count) node_of_lem) (ap (λ (m : Node). m.first) node_of_lem)) asked.0.inside) c.write_len.ensures c.in_err-a.was)

pub returns : goal.returns
returns c =
    let a = c.args in
    let t = lent_of a.lent.now in
    let asked = c.requires in
    let node_of_lem = c.node_of-n.ensures in
    last (written_in (tuple_way t a.allowance a.node (omega arith) (tuple_at t a.node asked.1 (ap (λ (m : Node). m.count) node_of_lem) (ap (λ (m : Node). m.first) node_of_lem)) asked.0.inside) c.write_len.ensures c.in_ok-a.was) c.write_names.ensures
