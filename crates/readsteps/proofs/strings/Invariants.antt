-- `strings` follows the chain; at the loop's head what is left still comes to the same answer.
use Prim.Native.Nat.{◌-◌}
use mathlib.Core.Path.{◌≡◌}
use Rattle.readsteps.specs.Linking.{strings_in}
use Rattle.readsteps.proofs.strings.Given as goal

abbrev pub invariant-loop : goal.invariant-loop
invariant-loop l = strings_in l.nodes l.entries l.count l.first ≡ strings_in l.nodes l.entries (l.count - l.counter) l.e
