-- The level, a head with a count of 0, the groups, and then their count over the 0. Assumes nothing.
use Rattle.writenames.proofs.Naming.{no_level, listed}
use Rattle.writenames.proofs.Heading.{locals-refused, locals-stopped, locals-done, locals-room}
use Rattle.underway.proofs.Under.{puts_open}
use Prim.Native.Nat.{◌-◌}
use lib.ListN.{length}
use mathlib.Core.List.{◌∷◌}
use Rattle.writing.specs.Canonical.{bytes32}
use Rattle.writecheck.specs.Looking.{lent_of}
use Rattle.writing.specs.Names.{contents_of, in_groups}
use Rattle.writing.specs.Steps.{string_part, kids_of}
use Rattle.writing.specs.Writing.{emit, each}
use Rattle.grammar.specs.State.{Node}
use Rattle.std.proofs.Common.{rules, ◌≡◌, Err}
use native.Mathlib.Omega.{arith}
use mathlib.Core.Path.{ap}
use Rattle.writenames.proofs.write_locals.Goals as goal

pub returns-then-allowance-eq0 : goal.returns-then-allowance-eq0
returns-then-allowance-eq0 c =
    let a = c.args in
    let t = lent_of a.values.now.lent in
    let names = in_groups t (contents_of t a.kinds) (kids_of t a.node) in
    no_level a.allowance a.node (emit (0x28 ∷ bytes32 (length names)) (each (string_part t (a.allowance - 1)) names)) (omega arith) c.at.ensures

pub write_groups-requires : goal.write_groups-requires
write_groups-requires c =
    let a = c.args in
    let t = lent_of a.values.now.lent in (
      puts_open c.requires.0 c.write_len.ensures c.in_ok-a.was,
      listed t a.kinds a.node c.requires.1 (ap (λ (m : Node). m.count) c.node_of-n.ensures) (ap (λ (m : Node). m.first) c.node_of-n.ensures) (ap (λ (m : Node). m.place) c.node_of-k.ensures),
    )

pub overflow_add-at : goal.overflow_add-at
overflow_add-at c =
    omega (arith, c.requires.0.inside, c.requires.0.counts)

pub store_u32-requires : goal.store_u32-requires
store_u32-requires c =
    let a = c.args in
    let t = lent_of a.values.now.lent in
    omega (arith, locals-room t a.allowance a.kinds a.node (omega arith) c.requires.1 (ap (λ (m : Node). m.count) c.node_of-n.ensures) (ap (λ (m : Node). m.first) c.node_of-n.ensures) (ap (λ (m : Node). m.place) c.node_of-k.ensures) c.write_len.ensures c.in_ok-a.was c.requires.0.inside c.write_groups.ensures)

pub returns-in_err-a : goal.returns-in_err-a
returns-in_err-a c =
    let a = c.args in
    let t = lent_of a.values.now.lent in
    let passed : c.from_residual.result ≡ Err c.in_err-a.field-0.0 = search rules in
    rw passed (locals-refused t a.allowance a.kinds a.node (omega arith) c.requires.1 (ap (λ (m : Node). m.count) c.node_of-n.ensures) (ap (λ (m : Node). m.first) c.node_of-n.ensures) (ap (λ (m : Node). m.place) c.node_of-k.ensures) c.write_len.ensures c.in_err-a.was)

pub returns-in_err-names : goal.returns-in_err-names
returns-in_err-names c =
    let a = c.args in
    let t = lent_of a.values.now.lent in
    let passed : c.from_residual-in_err-names.result ≡ Err c.in_err-names.field-0.0 = search rules in
    rw passed (locals-stopped t a.allowance a.kinds a.node (omega arith) c.requires.1 (ap (λ (m : Node). m.count) c.node_of-n.ensures) (ap (λ (m : Node). m.first) c.node_of-n.ensures) (ap (λ (m : Node). m.place) c.node_of-k.ensures) c.write_len.ensures c.in_ok-a.was c.requires.0.inside c.write_groups.ensures c.in_err-names.was)

pub returns : goal.returns
returns c =
    let a = c.args in
    let t = lent_of a.values.now.lent in
    locals-done t a.allowance a.kinds a.node (omega arith) c.requires.1 (ap (λ (m : Node). m.count) c.node_of-n.ensures) (ap (λ (m : Node). m.first) c.node_of-n.ensures) (ap (λ (m : Node). m.place) c.node_of-k.ensures) c.write_len.ensures c.in_ok-a.was c.requires.0.inside c.write_groups.ensures c.in_ok-names.was c.store_u32.ensures
