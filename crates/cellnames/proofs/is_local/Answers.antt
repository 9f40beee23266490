-- Carried by `Along`: the names that are left tell the same. Assumes nothing.
use Rattle.cellnames.proofs.Groups.{string-within, string-stored, along_none, along-entry, along_next, asks, asks-found, asks_more, asks_none, answer_of_lem}
use Rattle.writecheck.specs.Looking.{lent_of}
use Rattle.grammar.specs.Fields.{contents}
use Rattle.grammar.specs.State.{Node}
use native.Mathlib.Omega.{arith}
use mathlib.Core.Path.{ap}
use Rattle.cellnames.proofs.is_local.Goals as goal

pub node_at-own-requires : goal.node_at-own-requires
node_at-own-requires c =
    let a = c.args in string-stored a.lent.now.input.now a.lent.now.nodes.now a.lent.now.used.nodes a.node c.requires.1

pub loop-i-init : goal.loop-i-init
loop-i-init c =
    let a = c.args in
    let t = lent_of a.lent.now in
    let own = c.node_at-own.result in
    along_none t a.locals (asks t (contents a.lent.now.input.now own.place own.size)) c.requires.0

pub overflow_add-kind : goal.overflow_add-kind
overflow_add-kind c = omega (arith, c.requires.0.kinds)

pub bounds-lent-kinds : goal.bounds-lent-kinds
bounds-lent-kinds c = omega (arith, c.requires.0.kinds)

pub child_at-name-requires : goal.child_at-name-requires
child_at-name-requires c = along-entry _ _ _ c.loop-i.invariant c.loop-i-test.true

pub local_is-requires : goal.local_is-requires
local_is-requires c =
    let a = c.args in
    let t = lent_of a.lent.now in
    let own = c.node_at-own.result in
    let name = contents a.lent.now.input.now own.place own.size in
    let p = ap (λ (m : Node). m.place) c.node_at-own.ensures in
    let m = ap (λ (m : Node). m.size) c.node_at-own.ensures in
    (omega (arith, string-within a.lent.now.input.now a.lent.now.nodes.now a.lent.now.used.nodes a.node c.requires.1), (along_next t a.locals (asks t name) _ c.requires.0 c.loop-i.invariant c.loop-i-test.true c.child_at-name.ensures).text)

pub returns-then-local_is : goal.returns-then-local_is
returns-then-local_is c =
    let a = c.args in
    let t = lent_of a.lent.now in
    let own = c.node_at-own.result in
    let name = contents a.lent.now.input.now own.place own.size in
    answer_of_lem t a.locals a.node
    (asks-found t name a.locals (along_next t a.locals (asks t name) _ c.requires.0 c.loop-i.invariant c.loop-i-test.true c.child_at-name.ensures) c.local_is.ensures c.if-local_is.true)
    (ap (λ (m : Node). m.place) c.node_at-own.ensures) (ap (λ (m : Node). m.size) c.node_at-own.ensures)

pub next_at-e-requires : goal.next_at-e-requires
next_at-e-requires c = along-entry _ _ _ c.loop-i.invariant c.loop-i-test.true

pub loop-i-preserved : goal.loop-i-preserved
loop-i-preserved c =
    let a = c.args in
    let t = lent_of a.lent.now in
    let own = c.node_at-own.result in
    let name = contents a.lent.now.input.now own.place own.size in
    asks_more t name a.locals (along_next t a.locals (asks t name) _ c.requires.0 c.loop-i.invariant c.loop-i-test.true c.child_at-name.ensures) c.local_is.ensures c.if-local_is.false c.loop-i-test.true c.next_at-e.ensures

pub returns : goal.returns
returns c =
    let a = c.args in
    let t = lent_of a.lent.now in
    let own = c.node_at-own.result in
    answer_of_lem t a.locals a.node
    (asks_none t (contents a.lent.now.input.now own.place own.size) a.locals c.loop-i.invariant (omega arith))
    (ap (λ (m : Node). m.place) c.node_at-own.ensures) (ap (λ (m : Node). m.size) c.node_at-own.ensures)
