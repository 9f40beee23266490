-- The laws that every reader of children goes by, whatever its turns read: at the head of a loop, what is still to be read comes to the
-- same answer as the whole. Assumes nothing.
use mathlib.Core.Path.{◌≡◌, refl, ap, subst, ◌∙◌}
use Prim.Native.Nat.{ℕ, ◌+◌, ◌-◌, ◌≤◌}
use native.Mathlib.Omega.{arith}
use mathlib.Core.List.{List}
use lib.ListN.{length}
use Rattle.std.specs.Prelude.{Result, Ok, Err}
use Rattle.refusals.specs.Faults.{number_of}
use Rattle.refusals.specs.declared.Fault.{Fault}
use Rattle.grammar.specs.Reading.{done, refused}
use Rattle.grammar.specs.Room.{run}
use Rattle.grammar.specs.Steps.{Chain}
use Rattle.readsteps.specs.declared.Room.{Room}
use Rattle.readsteps.specs.declared.Line.{Line}
use Rattle.readsteps.specs.Held.{rooms, Safe, Moved, LineIn, HoldsChain}
use Rattle.readsteps.proofs.Runs.{bind-gives, bind_stops}
use Rattle.readleaves.specs.Readings.{ChainReader, Lists, AgreesChain, LinkedMoved}
use Rattle.readleaves.specs.Turns.{Stands, Inv, Then}

pub inv_start : (whole : ChainReader) {s : List ℕ} {room : Room} (allowance : ℕ) {line : Line} {ns es ss : List ℕ} → Safe s room line.walk ns es ss → LineIn line
    → Inv whole whole s room allowance line ns es ss ns es ss line
inv_start whole allowance safe li =
    record {
      stands = record { moved = omega (arith, safe); line_in = li; node_store = refl; entry_store = refl; slot_store = refl };
      exact = λ fuel depth c h l. (c, h, refl);
    }

pub stands_safe : {s : List ℕ} {room : Room} {line₀ : Line} {ns₀ es₀ ss₀ ns es ss : List ℕ} {line : Line} → Safe s room line₀.walk ns₀ es₀ ss₀ → Stands s room line₀ ns₀ es₀ ss₀ ns es ss line → Safe s room line.walk ns es ss
stands_safe safe st = omega (arith, safe, st)

module _ {whole rest : ChainReader} {s : List ℕ} {room : Room} {allowance : ℕ} {line₀ : Line} {ns₀ es₀ ss₀ ns es ss : List ℕ} {line : Line} where
  -- the rest, said otherwise
  pub inv_as : Inv whole rest s room allowance line₀ ns₀ es₀ ss₀ ns es ss line → (other : ChainReader)
      → ((fuel depth : ℕ) (c : Chain) → HoldsChain line ns es ss c → rest fuel depth c ≡ other fuel depth c) → Inv whole other s room allowance line₀ ns₀ es₀ ss₀ ns es ss line
  inv_as inv other e =
      record {
        stands = inv.stands;
        exact = λ fuel depth c₀ h l. let x = inv.exact fuel depth c₀ h l in (x.0, x.1, x.2 ∙ ap (run (rooms room (depth + allowance))) (e fuel depth x.0 x.1));
      }

  -- nothing is left to be read, and the line may be changed as the chain is
  pub inv-done : Inv whole rest s room allowance line₀ ns₀ es₀ ss₀ ns es ss line → (m : Line) → Moved 0 s room line.walk m.walk → LineIn m → (f : Chain → Chain)
      → ((fuel depth : ℕ) (c : Chain) → HoldsChain line ns es ss c → (rest fuel depth c ≡ done (f c)) × HoldsChain m ns es ss (f c))
      → Lists whole 0 s room allowance line₀ ns₀ es₀ ss₀ (Ok m) ns es ss
  unfolding run
  inv-done inv m mv li f e =
      record {
        moved = (omega (arith, inv.stands.moved, mv), li);
        exact = λ fuel depth c₀ h l.
            let x = inv.exact fuel depth c₀ h l in
            let y = e fuel depth x.0 x.1 in
            (f x.0, x.2 ∙ ap (run (rooms room (depth + allowance))) y.0, y.1);
      }

  -- nothing is left to be read
  pub inv_end : Inv whole rest s room allowance line₀ ns₀ es₀ ss₀ ns es ss line → ((fuel depth : ℕ) (c : Chain) → HoldsChain line ns es ss c → rest fuel depth c ≡ done c)
      → Lists whole 0 s room allowance line₀ ns₀ es₀ ss₀ (Ok line) ns es ss
  inv_end inv e = inv-done inv line (omega (arith, inv.stands.moved)) inv.stands.line_in (λ c. c) (λ fuel depth c h. (e fuel depth c h, h))

  pub inv-refused : Inv whole rest s room allowance line₀ ns₀ es₀ ss₀ ns es ss line → (failed : Fault) (ns' es' ss' : List ℕ)
      → ((fuel depth : ℕ) (c : Chain) → HoldsChain line ns es ss c → rest fuel depth c ≡ refused (number_of failed.refusal) failed.place)
      → Lists whole 0 s room allowance line₀ ns₀ es₀ ss₀ (Err failed) ns' es' ss'
  unfolding run
  inv-refused inv failed ns' es' ss' e =
      record { moved = tt; exact = λ fuel depth c₀ h l. let x = inv.exact fuel depth c₀ h l in x.2 ∙ ap (run (rooms room (depth + allowance))) (e fuel depth x.0 x.1) }

-- a reader F of the loop's body is called, and G is what is read after it
module _ (F G : ChainReader) {whole : ChainReader} {least : ℕ} {s : List ℕ} {room : Room} {allowance : ℕ} {line₀ : Line} {ns₀ es₀ ss₀ ns es ss ns' es' ss' : List ℕ} {line : Line} {r : Result Line Fault} where
  pub inv-cut : Inv whole (Then F G) s room allowance line₀ ns₀ es₀ ss₀ ns es ss line → Lists F least s room allowance line ns es ss r ns' es' ss' → {failed : Fault} → r ≡ Err failed
      → Lists whole 0 s room allowance line₀ ns₀ es₀ ss₀ (Err failed) ns' es' ss'
  inv-cut inv f {failed} is =
      record {
        moved = tt;
        exact = λ fuel depth c₀ h l.
            let x = inv.exact fuel depth c₀ h l in
            let y = subst (λ q. AgreesChain q ns' es' ss' (run (rooms room (depth + allowance)) (F fuel depth x.0))) is (f.exact fuel depth x.0 x.1 (omega (arith, inv.stands.moved))) in
            x.2 ∙ bind_stops (rooms room (depth + allowance)) (F fuel depth x.0) (G fuel depth) (number_of failed.refusal) failed.place y;
      }

  pub inv_more : Inv whole (Then F G) s room allowance line₀ ns₀ es₀ ss₀ ns es ss line → Lists F least s room allowance line ns es ss r ns' es' ss' → {m : Line} → r ≡ Ok m
      → length ns' ≡ length ns → length es' ≡ length es → length ss' ≡ length ss → Inv whole G s room allowance line₀ ns₀ es₀ ss₀ ns' es' ss' m
  inv_more inv f {m} is ln le ls =
      let mv = subst (λ q. LinkedMoved least s room line.walk q) is f.moved in
      record {
        stands = record {
          moved = omega (arith, inv.stands.moved, mv.0);
          line_in = mv.1;
          node_store = ln ∙ inv.stands.node_store;
          entry_store = le ∙ inv.stands.entry_store;
          slot_store = ls ∙ inv.stands.slot_store;
        };
        exact = λ fuel depth c₀ h l.
            let x = inv.exact fuel depth c₀ h l in
            let y : AgreesChain (Ok m) ns' es' ss' (run (rooms room (depth + allowance)) (F fuel depth x.0)) = subst (λ q. AgreesChain q ns' es' ss' (run (rooms room (depth + allowance)) (F fuel depth x.0))) is (f.exact fuel depth x.0 x.1 (omega (arith, inv.stands.moved))) in
            (y.0, y.2, x.2 ∙ bind-gives (rooms room (depth + allowance)) (F fuel depth x.0) (G fuel depth) y.0 y.1);
      }

-- a reader at a greater depth, with the allowance less by as much
pub lists-inside : {F : ChainReader} {least : ℕ} {s : List ℕ} {room : Room} (allowance k : ℕ) {line : Line} {ns es ss ns' es' ss' : List ℕ} {r : Result Line Fault} → Lists F least s room (allowance - k) line ns es ss r ns' es' ss' → k ≤ allowance
    → (G : ChainReader) → ((fuel depth : ℕ) (c : Chain) → F fuel (depth + k) c ≡ G fuel depth c) → Lists G least s room allowance line ns es ss r ns' es' ss'
lists-inside {F} {least} {s} {room} allowance k {line} {ns} {es} {ss} {ns'} {es'} {ss'} {r} f le G e =
    record {
      moved = f.moved;
      exact = λ fuel depth c h l.
          let q : depth + k + (allowance - k) ≡ depth + allowance = omega arith in
          subst (λ n. AgreesChain r ns' es' ss' (run (rooms room n) (G fuel depth c))) q
          (subst (λ m. AgreesChain r ns' es' ss' (run (rooms room (depth + k + (allowance - k))) m)) (e fuel depth c) (f.exact fuel (depth + k) c h l));
    }
