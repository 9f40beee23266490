-- `strings` follows the chain; at the loop's head what is left still comes to the same answer.
use mathlib.Core.Path.{◌≡◌, sym, ap, ◌∙◌}
use Prim.Native.Nat.{ℕ, ◌-◌, ◌+◌}
use native.Mathlib.Omega.{arith}
use Rattle.readsteps.specs.Linking.{strings_in}
use Rattle.readsteps.proofs.Letters.{strings-cut, strings_more, strings_all}
use Rattle.readsteps.proofs.strings.Goals as goal

pub loop-init : goal.loop-init
loop-init c =
    let all : c.args.count ≡ c.args.count - 0 = omega arith in
    ap (λ n. strings_in c.args.nodes.now c.args.entries.now n c.args.first) all

pub returns-then-not-is_string : goal.returns-then-not-is_string
returns-then-not-is_string c =
    let a = c.args in
    let loop = c.loop in
    sym (loop.invariant ∙ strings-cut a.nodes.now a.entries.now (a.count - loop.counter) loop.e (omega (arith, c.loop-test.true)) c.child_of.ensures c.letter_of-letter.ensures c.is_string.ensures c.if-not-is_string.true)

pub loop-preserved : goal.loop-preserved
loop-preserved c =
    let a = c.args in
    let loop = c.loop in
    let less : a.count - loop.counter - 1 ≡ a.count - (loop.counter + 1) = omega arith in
    loop.invariant
    ∙ strings_more a.nodes.now a.entries.now (a.count - loop.counter) loop.e (omega (arith, c.loop-test.true)) c.child_of.ensures c.letter_of-letter.ensures c.is_string.ensures c.if-not-is_string.false c.next_of-e.ensures
    ∙ ap (λ n. strings_in a.nodes.now a.entries.now n c.next_of-e.result) less

pub returns : goal.returns
returns c = sym (c.loop.invariant ∙ strings_all c.args.nodes.now c.args.entries.now (c.args.count - c.loop.counter) c.loop.e (omega (arith, c.loop-test.false)))
