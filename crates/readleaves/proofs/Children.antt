-- The answers of `child`, one law for each way out: its value is refused, does not suit the rule, or gets its entry.
-- Assumes nothing.
use mathlib.Core.Path.{◌≡◌, refl, sym, ap, ap₂, subst, ◌∙◌}
use Prim.Native.Nat.{ℕ, ◌+◌, ◌*◌, ◌≤◌, ◌<◌}
use native.Mathlib.Omega.{arith}
use mathlib.Core.Bool.{Bool, true, false, cond}
use mathlib.Core.Option.{Option, none, some}
use mathlib.Core.List.{List}
use lib.ListN.{length}
use lib.Dec.{ltb}
use borrow.Author.Tests.{ltb-true, ltb-false}
use Rattle.std.specs.Prelude.{Result, Ok, Err}
use Rattle.refusals.specs.Faults.{number_of, fault}
use Rattle.refusals.specs.declared.Refusal.TheVariants.{BadType, NoEntry}
use Rattle.refusals.specs.declared.Fault.{Fault}
use Rattle.refusals.specs.Numbers.{bad_type}
use Rattle.refusals.specs.Limits.{nothing, most_records}
use Rattle.grammar.specs.Reading.{done, refused, claim, entry}
use Rattle.grammar.specs.Room.{run}
use Rattle.grammar.specs.State.{State, entry_width}
use Rattle.grammar.specs.Steps.{Chain, Rule, attach, child, value}
use Rattle.readsteps.specs.declared.Room.{Room}
use Rattle.readsteps.specs.declared.Walk.{Walk}
use Rattle.readsteps.specs.declared.Line.{Line}
use Rattle.readsteps.specs.declared.Step.{Step}
use Rattle.readsteps.specs.Held.{rooms, Safe, Moved, Holds, HoldsChain, LastIn, LineIn}
use Rattle.readsteps.specs.Linking.{rule_of, suits_in, line_next, entries_next, Attaches}
use Rattle.readsteps.proofs.Links.{attach-entries}
use Rattle.readsteps.proofs.Runs.{bind-gives, bind_stops, claim-fits, claim_fails, run-done}
use Rattle.readsteps.proofs.States.{chain_next, suits_held}
use Rattle.readleaves.specs.Readings.{ReadsValue, Lists, ReadsChild, Counted, child_of, Agrees, StepMoved}

module _ {s : List ℕ} {room : Room} {allowance : ℕ} {line : Line} {ns es ss ns' es' ss' : List ℕ} {c : Result Step Fault} (safe : Safe s room line.walk ns es ss) (li : LineIn line) (rv : ReadsValue s room allowance line.walk ns es ss c ns' es' ss') where
  pub child-cut : {rule : ℕ} {failed : Fault} → c ≡ Err failed → ReadsChild rule s room allowance line ns es ss (Err failed) ns' es' ss'
  unfolding child
  child-cut {rule} {failed} is =
      record {
        counted = tt;
        lists = record {
          moved = tt;
          exact = λ fuel depth x h l.
              bind_stops (rooms room (depth + allowance)) (value fuel s depth x.st) _ (number_of failed.refusal) failed.place
              (subst (λ q. Agrees q ns' es' ss' (run (rooms room (depth + allowance)) (value fuel s depth x.st))) is (rv.exact fuel depth x.st h.walk l));
        };
      }

  module _ {v : ℕ} {a : Walk} (is : c ≡ Ok (record { node = v; walk = a })) where
    mv : Moved 1 s room line.walk a
    mv = subst (StepMoved s room line.walk) is rv.moved

    last_on : (o : Option ℕ) → LastIn o line.walk.entries → LastIn o a.entries
    last_on none h = tt
    last_on (some p) h = omega (arith, mv)

    module _ (rule : Rule) (t : Bool) (test : t ≡ suits_in rule ns' es' v) where
      -- the child is read, and held to its rule
      child_at : (fuel depth : ℕ) (x : Chain) → HoldsChain line ns es ss x → length s ≤ line.walk.at + fuel
          → (st : State) × Holds a ns' es' ss' st
          × (run (rooms room (depth + allowance)) (child rule (value fuel s depth) x)
          ≡ run (rooms room (depth + allowance)) (cond t (claim entry (a.entries + 1) line.walk.at (done (attach x v st))) (refused bad_type line.walk.at)))
      unfolding child
      child_at fuel depth x h l =
          let y : Agrees (Ok (record { node = v; walk = a })) ns' es' ss' (run (rooms room (depth + allowance)) (value fuel s depth x.st)) =
          subst (λ q. Agrees q ns' es' ss' (run (rooms room (depth + allowance)) (value fuel s depth x.st))) is (rv.exact fuel depth x.st h.walk l) in (
            y.0,
            y.2,
            bind-gives (rooms room (depth + allowance)) (value fuel s depth x.st) _ (v, y.0) y.1
                ∙ ap (λ b. run (rooms room (depth + allowance)) (cond b (claim entry (length y.0.entries + 1) x.st.at (done (attach x v y.0))) (refused bad_type x.st.at)))
                (sym (test ∙ suits_held y.0.nodes y.0.entries y.2.node_store y.2.entry_store rule v))
                ∙ ap₂ (λ n at. run (rooms room (depth + allowance)) (cond t (claim entry (n + 1) at (done (attach x v y.0))) (refused bad_type at))) (sym y.2.entries) (sym h.walk.at),
          )

      child-claims : t ≡ true → (fuel depth : ℕ) (x : Chain) (h : HoldsChain line ns es ss x) (l : length s ≤ line.walk.at + fuel)
          → run (rooms room (depth + allowance)) (child rule (value fuel s depth) x)
          ≡ run (rooms room (depth + allowance)) (claim entry (a.entries + 1) line.walk.at (done (attach x v (child_at fuel depth x h l).0)))
      child-claims u fuel depth x h l =
          let y = child_at fuel depth x h l in
          y.2 ∙ ap (λ b. run (rooms room (depth + allowance)) (cond b (claim entry (a.entries + 1) line.walk.at (done (attach x v y.0))) (refused bad_type line.walk.at))) u

      child-attached : t ≡ true → (es'' : List ℕ) → length es' ≡ length es → (a.entries < room.entries → es'' ≡ entries_next es' line v a) → (b : Bool) → ltb a.entries room.entries ≡ b
          → Lists (child_of s rule) 1 s room allowance line ns es ss (cond b (Ok (line_next line v a)) (Err (fault NoEntry line.walk.at))) ns' es'' ss'
      child-attached u es'' le kept true e =
          let lt : a.entries < room.entries = ltb-true a.entries room.entries e in
          record {
            moved = (omega (arith, mv, lt), record { last_in = λ n. omega arith; count = omega (arith, li.count, mv) });
            exact = λ fuel depth x h l.
                let y = child_at fuel depth x h l in (
                  attach x v y.0,
                  child-claims u fuel depth x h l
                      ∙ claim-fits (rooms room (depth + allowance)) entry (a.entries + 1) line.walk.at (done (attach x v y.0)) (omega (arith, lt))
                      ∙ run-done (rooms room (depth + allowance)) (attach x v y.0),
                  subst (λ q. HoldsChain (line_next line v a) ns' q ss' (attach x v y.0)) (sym (kept lt))
                      (chain_next line x v a ns' es' ss' y.0 y.1 h (omega (arith, safe, lt, le)) (omega (arith, safe, lt)) x.last refl h.last (last_on x.last h.last_in)),
                );
          }
      child-attached u es'' le kept false e =
          let ge : room.entries ≤ a.entries = ltb-false a.entries room.entries e in
          record {
            moved = tt;
            exact = λ fuel depth x h l.
                child-claims u fuel depth x h l ∙ claim_fails (rooms room (depth + allowance)) entry (a.entries + 1) line.walk.at _ (omega (arith, ge));
          }

    attach-counted : (b : Bool) → Counted line (cond b (Ok (line_next line v a)) (Err (fault NoEntry line.walk.at)))
    attach-counted true = refl
    attach-counted false = tt

    module _ {rule : ℕ} {t : Bool} (test : t ≡ suits_in (rule_of rule) ns' es' v) where
      pub child_unfit : t ≡ false → ReadsChild rule s room allowance line ns es ss (Err (fault BadType line.walk.at)) ns' es' ss'
      unfolding run
      child_unfit u =
          record {
            counted = tt;
            lists = record {
              moved = tt;
              exact = λ fuel depth x h l.
                  let y = child_at (rule_of rule) t test fuel depth x h l in
                  y.2 ∙ ap (λ b. run (rooms room (depth + allowance)) (cond b (claim entry (a.entries + 1) line.walk.at (done (attach x v y.0))) (refused bad_type line.walk.at))) u;
            };
          }

      pub child-linked : t ≡ true → {es'' : List ℕ} {r : Result Line Fault} → length es' ≡ length es → Attaches room.entries line line.walk.at v a es' r es''
          → ReadsChild rule s room allowance line ns es ss r ns' es'' ss'
      child-linked u {es''} {r} le at =
          record {
            counted = subst (Counted line) (sym at.answer) (attach-counted (ltb a.entries room.entries));
            lists = subst (λ q. Lists (child_of s (rule_of rule)) 1 s room allowance line ns es ss q ns' es'' ss') (sym at.answer)
                (child-attached (rule_of rule) t test u es'' le (attach-entries at) (ltb a.entries room.entries) refl);
          }

-- what `attach` asks
pub attach-asks : {s : List ℕ} {room : Room} {allowance : ℕ} {line : Line} {ns es ss ns' es' ss' : List ℕ} {c : Result Step Fault} {v : ℕ} {a : Walk} → Safe s room line.walk ns es ss → LineIn line
    → ReadsValue s room allowance line.walk ns es ss c ns' es' ss' → c ≡ Ok (record { node = v; walk = a }) → length es' ≡ length es
    → (room.entries * entry_width ≤ length es') × (room.entries ≤ most_records) × ((line.last ≡ nothing → ⊥) → line.last < a.entries) × (line.count ≤ most_records)
attach-asks {s} {room} {line} safe li rv is le =
    let mv = subst (StepMoved s room line.walk) is rv.moved in
    (omega (arith, safe), omega (arith, safe), λ n. omega (arith, li.last_in n, mv), omega (arith, safe, li.count))
