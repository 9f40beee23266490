-- The loop over plain children, and what the reader's own loop makes of it: a turn is a turn of the reader's loop, by the laws of Bodies.
-- Assumes nothing.
use mathlib.Core.Path.{◌≡◌, refl, subst, ◌∙◌}
use Prim.Native.Nat.{ℕ, ◌-◌, ◌<◌}
use native.Mathlib.Omega.{arith}
use mathlib.Core.List.{List}
use lib.ListN.{length}
use Rattle.std.specs.Prelude.{Result, Ok, Err, Option, Some, None}
use Rattle.refusals.specs.declared.Fault.{Fault}
use Rattle.grammar.specs.Fields.{parts}
use Rattle.fields.specs.Behind.{children_of}
use Rattle.fields.specs.declared.Kids.{Kids}
use Rattle.readsteps.specs.declared.Room.{Room}
use Rattle.readsteps.specs.declared.Line.{Line}
use Rattle.readsteps.specs.declared.Next.{Next}
use Rattle.readsteps.specs.declared.Next.TheVariants as next
use Rattle.readsteps.specs.Held.{Safe, LineIn}
use Rattle.readsteps.specs.Linking.{Nexts, below_of}
use Rattle.readleaves.specs.Readings.{ReadsChild, ReadsBody, LinkedMoved}
use Rattle.readleaves.specs.Turns.{Stands, InvBody, TriesOf, Tries, RunsTo, Runs}
use Rattle.readleaves.proofs.Bodies.{next_stands, next_less, body-done, body_refused, body-cut, body_next}

-- what holds at the head of the reader's loop is kept, from the line that this loop was given on
pub record Running (kids : Kids) (at : ℕ) (s : List ℕ) (room : Room) (below : ℕ) (line₁ : Line) (ns₁ es₁ ss₁ ns es ss : List ℕ) (line : Line) : Type 0 where
  pub stands : Stands s room line₁ ns₁ es₁ ss₁ ns es ss line
  pub on : (allowance : ℕ) (line₀ : Line) (ns₀ es₀ ss₀ : List ℕ) → below ≡ below_of kids allowance → (children_of kids ≡ parts → 0 < allowance)
      → InvBody kids at s room allowance line₀ ns₀ es₀ ss₀ ns₁ es₁ ss₁ line₁ → InvBody kids at s room allowance line₀ ns₀ es₀ ss₀ ns es ss line

pub running_start : {kids : Kids} {at : ℕ} {s : List ℕ} {room : Room} {below : ℕ} {line : Line} {ns es ss : List ℕ} → Safe s room line.walk ns es ss → LineIn line
    → Running kids at s room below line ns es ss ns es ss line
running_start safe li =
    record {
      stands = record { moved = omega (arith, safe); line_in = li; node_store = refl; entry_store = refl; slot_store = refl };
      on = λ allowance line₀ ns₀ es₀ ss₀ under some inv. inv;
    }

module _ {kids : Kids} {at : ℕ} {s : List ℕ} {room : Room} {below : ℕ} {line₁ : Line} {ns₁ es₁ ss₁ ns es ss : List ℕ} {line : Line} {n : Result Next Fault} (v : Running kids at s room below line₁ ns₁ es₁ ss₁ ns es ss line) (x : Nexts s ns kids at line n) where
  pub run-done : {m : Line} → n ≡ Ok (next.Done m) → Runs kids at s room below line₁ ns₁ es₁ ss₁ (Ok (next.Done m)) ns es ss
  run-done is = record { on = λ allowance line₀ ns₀ es₀ ss₀ under some inv. body-done some (v.on allowance line₀ ns₀ es₀ ss₀ under some inv) x is }

  pub run-refused : {failed : Fault} → n ≡ Err failed → Runs kids at s room below line₁ ns₁ es₁ ss₁ (Err failed) ns es ss
  run-refused is = record { on = λ allowance line₀ ns₀ es₀ ss₀ under some inv. body_refused some (v.on allowance line₀ ns₀ es₀ ss₀ under some inv) x is }

  module _ {m : Line} {rule : ℕ} (is : n ≡ Ok (next.Child m rule)) where
    pub run-stands : Stands s room line₁ ns₁ es₁ ss₁ ns es ss m
    run-stands = next_stands x is v.stands

    module _ {t : Result (Option Line) Fault} {ns' es' ss' : List ℕ} (c : Tries rule s room below m ns es ss t ns' es' ss') where
      tried_is : {q : Result (Option Line) Fault} → t ≡ q → TriesOf rule s room below m ns es ss q ns' es' ss'
      tried_is it = subst (λ q. TriesOf rule s room below m ns es ss q ns' es' ss') it c.is

      -- the child is not plain, and nothing was written
      pub run_left : t ≡ Ok None → Runs kids at s room below line₁ ns₁ es₁ ss₁ (Ok (next.Child m rule)) ns' es' ss'
      run_left it =
          let same : TriesOf rule s room below m ns es ss (Ok None) ns' es' ss' = tried_is it in
          record {
            on = λ allowance line₀ ns₀ es₀ ss₀ under some inv.
                rw (same.0, same.1, same.2)
                (line, v.on allowance line₀ ns₀ es₀ ss₀ under some inv, subst (Nexts s ns kids at line) is x, omega (arith, v.stands.moved));
          }

      pub run-cut : {failed : Fault} → t ≡ Err failed → Runs kids at s room below line₁ ns₁ es₁ ss₁ (Err failed) ns' es' ss'
      run-cut {failed} it =
          record {
            on = λ allowance line₀ ns₀ es₀ ss₀ under some inv.
                body-cut some (v.on allowance line₀ ns₀ es₀ ss₀ under some inv) x is under {r = Err failed} (tried_is it) refl;
          }

      module _ {l : Line} (it : t ≡ Ok (Some l)) where
        pub run_less : length s - l.walk.at < length s - line.walk.at
        run_less = next_less x is {r = Ok l} (tried_is it) refl

        pub run_next : length ns' ≡ length ns → length es' ≡ length es → length ss' ≡ length ss → Running kids at s room below line₁ ns₁ es₁ ss₁ ns' es' ss' l
        run_next ln le ls =
            let done : ReadsChild rule s room below m ns es ss (Ok l) ns' es' ss' = tried_is it in
            let mv : LinkedMoved 1 s room m.walk (Ok l) = done.lists.moved in
            record {
              stands = record {
                moved = omega (arith, run-stands.moved, mv.0);
                line_in = mv.1;
                node_store = ln ∙ v.stands.node_store;
                entry_store = le ∙ v.stands.entry_store;
                slot_store = ls ∙ v.stands.slot_store;
              };
              on = λ allowance line₀ ns₀ es₀ ss₀ under some inv.
                  body_next some (v.on allowance line₀ ns₀ es₀ ss₀ under some inv) x is under {r = Ok l} done refl ln le ls;
            }

-- What the reader's loop goes on with.
module _ {kids : Kids} {at : ℕ} {s : List ℕ} {room : Room} {allowance below : ℕ} {line₀ line : Line} {ns₀ es₀ ss₀ ns es ss ns' es' ss' : List ℕ} {n : Result Next Fault} (some : children_of kids ≡ parts → 0 < allowance) (under : below ≡ below_of kids allowance)
    (v : InvBody kids at s room allowance line₀ ns₀ es₀ ss₀ ns es ss line) (x : Runs kids at s room below line ns es ss n ns' es' ss') where
  ran : {q : Result Next Fault} → n ≡ q → RunsTo kids at s room allowance line₀ ns₀ es₀ ss₀ line q ns' es' ss'
  ran is = subst (λ q. RunsTo kids at s room allowance line₀ ns₀ es₀ ss₀ line q ns' es' ss') is (x.on allowance line₀ ns₀ es₀ ss₀ under some v)

  pub ran_done : {m : Line} → n ≡ Ok (next.Done m) → ReadsBody kids at s room allowance line₀ ns₀ es₀ ss₀ (Ok m) ns' es' ss'
  ran_done is = ran is

  pub ran_refused : {failed : Fault} → n ≡ Err failed → ReadsBody kids at s room allowance line₀ ns₀ es₀ ss₀ (Err failed) ns' es' ss'
  ran_refused is = ran is

  module _ {m : Line} {rule : ℕ} (is : n ≡ Ok (next.Child m rule)) where
    asked : RunsTo kids at s room allowance line₀ ns₀ es₀ ss₀ line (Ok (next.Child m rule)) ns' es' ss'
    asked = ran is

    pub ran_stands : Stands s room line₀ ns₀ es₀ ss₀ ns' es' ss' m
    ran_stands = next_stands asked.2 refl asked.1.stands

    module _ {r : Result Line Fault} {ns'' es'' ss'' : List ℕ} (c : ReadsChild rule s room below m ns' es' ss' r ns'' es'' ss'') where
      pub ran_cut : {failed : Fault} → r ≡ Err failed → ReadsBody kids at s room allowance line₀ ns₀ es₀ ss₀ (Err failed) ns'' es'' ss''
      ran_cut it = body-cut some asked.1 asked.2 refl under c it

      module _ {l : Line} (it : r ≡ Ok l) where
        pub ran_next : length ns'' ≡ length ns' → length es'' ≡ length es' → length ss'' ≡ length ss' → InvBody kids at s room allowance line₀ ns₀ es₀ ss₀ ns'' es'' ss'' l
        ran_next ln le ls = body_next some asked.1 asked.2 refl under c it ln le ls

        pub ran_less : length s - l.walk.at < length s - line.walk.at
        ran_less = omega (arith, next_less asked.2 refl c it, asked.3)
