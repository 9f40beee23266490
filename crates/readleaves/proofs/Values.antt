-- The answers of `value`, one law for each way out: its front refuses, or knows the value, or opens a node whose children are then read.
-- Assumes nothing.
use mathlib.Core.Path.{◌≡◌, refl, sym, ap, subst, subst₂, ◌∙◌}
use Prim.Native.Nat.{ℕ, zero, suc, ◌+◌, ◌-◌, ◌≤◌}
use native.Mathlib.Omega.{arith}
use mathlib.Core.List.{List}
use lib.ListN.{length, get_or}
use borrow.Author.Tests.{le-ltb}
use Rattle.std.specs.Prelude.{Result, Ok, Err}
use Rattle.refusals.specs.Faults.{number_of}
use Rattle.refusals.specs.declared.Fault.{Fault}
use Rattle.grammar.specs.Reading.{gives, bind}
use Rattle.grammar.specs.Room.{run}
use Rattle.grammar.specs.Letters.{letter_of, flag_of}
use Rattle.grammar.specs.Fields.{Fields}
use Rattle.grammar.specs.State.{State, referred}
use Rattle.grammar.specs.Steps.{known, opens, front, body, enter, close, fresh, fill, size_of, after, one, value}
use Rattle.fields.specs.Behind.{children_of}
use Rattle.fields.specs.declared.Kids.{Kids}
use Rattle.stores.specs.Written.{node_written}
use Rattle.readsteps.specs.declared.Room.{Room}
use Rattle.readsteps.specs.declared.Walk.{Walk}
use Rattle.readsteps.specs.declared.Head.{Head}
use Rattle.readsteps.specs.declared.Line.{Line}
use Rattle.readsteps.specs.declared.Opened.{Opened}
use Rattle.readsteps.specs.declared.Opened.TheVariants as opened
use Rattle.readsteps.specs.Held.{rooms, Safe, Holds, LineIn, no_line}
use Rattle.readsteps.specs.Opening.{front_of, Ahead, HeadIn, Fronts}
use Rattle.readsteps.proofs.Runs.{bind-gives, bind_stops}
use Rattle.readsteps.proofs.States.{front-slots, holds-known, holds-enter, holds-close}
use Rattle.readleaves.specs.Readings.{ReadsValue, Lists, ReadsBody, body_of, AgreesChain, LinkedMoved}
use Rattle.readleaves.proofs.Bodies.{node_lists}

-- with fuel for each byte that is left, a value is always one more step
pub unroll : (s : List ℕ) (fuel depth : ℕ) (st : State) → length s ≤ st.at + fuel
    → (k : ℕ) × (value fuel s depth st ≡ one (value k s) s k depth st) × (fuel ≤ k + 1)
unfolding value one front bind
unroll s zero depth st h = (0, rw (le-ltb st.at (length s) (omega arith)) refl, omega arith)
unroll s (suc n) depth st h = (n, refl, omega arith)

front_at : {s : List ℕ} {room : Room} {allowance : ℕ} {w : Walk} {ns es ss : List ℕ} {r : Result Opened Fault} → Fronts s ss room allowance w r → (depth : ℕ) (st : State) → Holds w ns es ss st
    → run (rooms room (depth + allowance)) (front s depth st.at (length st.nodes) (length st.slots) st.slots) ≡ front_of r
front_at {s} {room} {allowance} {w} {ns} {es} {ss} f depth st h =
    rw (← h.at, ← h.nodes, ← h.slots)
    (ap (run (rooms room (depth + allowance))) (sym (front-slots s depth w.at w.nodes w.slots ss st.slots h.slot_store)) ∙ sym (f.exact depth))

module _ {s : List ℕ} {room : Room} {allowance : ℕ} {w : Walk} {ns es ss : List ℕ} {o : Result Opened Fault} (front : Fronts s ss room allowance w o) where
  -- the front refuses
  pub value-refused : {failed : Fault} → o ≡ Err failed → ReadsValue s room allowance w ns es ss (Err failed) ns es ss
  unfolding one
  value-refused {failed} is =
      record {
        moved = tt;
        exact = λ fuel depth st h l.
            let u = unroll s fuel depth st (omega (arith, h.at)) in
            ap (run (rooms room (depth + allowance))) u.1
            ∙ bind_stops (rooms room (depth + allowance)) _ (after (value u.0 s) s u.0 depth st) (number_of failed.refusal) failed.place (front_at front depth st h ∙ ap front_of is);
      }

  -- the value is a node that is known
  pub value-known : Safe s room w ns es ss → {v at : ℕ} → o ≡ Ok (opened.Known v at)
      → ReadsValue s room allowance w ns es ss (Ok (record { node = v; walk = record { at = at; nodes = w.nodes; entries = w.entries; slots = w.slots } })) ns es ss
  unfolding one after run
  value-known safe {v} {at} is =
      let ahead : Ahead s room allowance w (Ok (opened.Known v at)) = subst (Ahead s room allowance w) is front.ahead in
      record {
        moved = omega (arith, safe, ahead);
        exact = λ fuel depth st h l.
            let u = unroll s fuel depth st (omega (arith, h.at)) in (
              referred at st,
              ap (run (rooms room (depth + allowance))) u.1
                  ∙ bind-gives (rooms room (depth + allowance)) _ (after (value u.0 s) s u.0 depth st) (known v at) (front_at front depth st h ∙ ap front_of is),
              holds-known w ns es ss st h at,
            );
      }

-- the line in front of a node's first child, and what its fields say
abbrev pub inside : Walk → Head → Line
inside w hd = no_line (record { at = hd.place + hd.size; nodes = w.nodes + 1; entries = w.entries; slots = w.slots + hd.flag })

abbrev pub said : Head → Kids → Fields
said hd kids = record { place = hd.place; size = hd.size; children = children_of kids }

pub head_in : {s ss : List ℕ} {room : Room} {allowance : ℕ} {w : Walk} {o : Result Opened Fault} → Fronts s ss room allowance w o → {hd : Head} {kids : Kids} → o ≡ Ok (opened.Node hd kids) → HeadIn s room allowance w hd kids
head_in {s} {ss} {room} {allowance} {w} f is = subst (Ahead s room allowance w) is f.ahead

module _ {s : List ℕ} {room : Room} {allowance : ℕ} {w : Walk} {ns es ss : List ℕ} {o : Result Opened Fault} (safe : Safe s room w ns es ss) (f : Fronts s ss room allowance w o) {hd : Head} {kids : Kids} (is : o ≡ Ok (opened.Node hd kids)) where
  ahead : HeadIn s room allowance w hd kids
  ahead = head_in f is

  pub inside_safe : Safe s room (inside w hd).walk ns es ss
  inside_safe = omega (arith, safe, ahead)

  pub inside-line : LineIn (inside w hd)
  inside-line = record { last_in = λ n. absurd (n refl); count = omega arith }

  module _ {r : Result Line Fault} {ns' es' ss' : List ℕ} (k : ReadsBody kids w.at s room (allowance - 1) (inside w hd) ns es ss r ns' es' ss') where
    held : Lists (body_of s w.at kids) 0 s room allowance (inside w hd) ns es ss r ns' es' ss'
    held = node_lists allowance ahead.level k

    -- where the front is passed, the reading of the node's children is that of the value
    kids_at_lem : (fuel depth : ℕ) (st : State) → Holds w ns es ss st → length s ≤ w.at + fuel
        → (k : ℕ) × (run (rooms room (depth + allowance)) (value fuel s depth st) ≡ run (rooms room (depth + allowance)) (after (value k s) s k depth st (opens hd.letter hd.flag (said hd kids))))
        × AgreesChain r ns' es' ss' (run (rooms room (depth + allowance)) (body (value k s) s k depth st.at (children_of kids) (fresh (enter st (hd.place + hd.size) hd.flag))))
    unfolding one
    kids_at_lem fuel depth st h l =
        let u = unroll s fuel depth st (omega (arith, h.at)) in (
          u.0,
          ap (run (rooms room (depth + allowance))) u.1
              ∙ bind-gives (rooms room (depth + allowance)) _ (after (value u.0 s) s u.0 depth st) (opens hd.letter hd.flag (said hd kids)) (front_at f depth st h ∙ ap front_of is),
          subst (λ at. AgreesChain r ns' es' ss' (run (rooms room (depth + allowance)) (body (value u.0 s) s u.0 depth at (children_of kids) (fresh (enter st (hd.place + hd.size) hd.flag))))) h.at
              (held.exact u.0 depth (fresh (enter st (hd.place + hd.size) hd.flag))
              (record {
                walk = holds-enter w ns es ss st h (hd.place + hd.size) hd.flag (omega (arith, safe, ahead)) (omega (arith, safe, ahead)) ahead.flag;
                first = refl;
                last = refl;
                last_in = tt;
                count = refl;
                line = refl;
                code = refl;
                locals = refl;
                kinds = refl;
              })
              (omega (arith, ahead, u.2))),
        )

    pub value-cut : {failed : Fault} → r ≡ Err failed → ReadsValue s room allowance w ns es ss (Err failed) ns' es' ss'
    unfolding after
    value-cut {failed} q =
        record {
          moved = tt;
          exact = λ fuel depth st h l.
              let u = kids_at_lem fuel depth st h l in
              let x = body (value u.0 s) s u.0 depth st.at (children_of kids) (fresh (enter st (hd.place + hd.size) hd.flag)) in
              u.1 ∙ bind_stops (rooms room (depth + allowance)) x _ (number_of failed.refusal) failed.place (subst (λ y. AgreesChain y ns' es' ss' (run (rooms room (depth + allowance)) x)) q u.2);
        }

    pub value-whole : {l : Line} {size : ℕ} {ns'' ss'' : List ℕ} → r ≡ Ok l → size ≡ size_of (children_of kids) hd.place hd.size l.line
        → ns'' ≡ node_written ns' w.nodes (record { letter = hd.letter; place = hd.place; size = size; first = l.first; count = l.count; end = l.walk.at; input = 0 })
        → ss'' ≡ fill hd.flag w.slots w.nodes ss'
        → ReadsValue s room allowance w ns es ss (Ok (record { node = w.nodes; walk = l.walk })) ns'' es' ss''
    unfolding after run
    value-whole {l} {size} {ns''} {ss''} q ez en ek =
        let mv : LinkedMoved 0 s room (inside w hd).walk (Ok l) = subst (LinkedMoved 0 s room (inside w hd).walk) q held.moved in
        record {
          moved = omega (arith, mv.0, ahead);
          exact = λ fuel depth st h len.
              let u = kids_at_lem fuel depth st h len in
              let x = body (value u.0 s) s u.0 depth st.at (children_of kids) (fresh (enter st (hd.place + hd.size) hd.flag)) in
              let g : AgreesChain (Ok l) ns' es' ss' (run (rooms room (depth + allowance)) x) = subst (λ y. AgreesChain y ns' es' ss' (run (rooms room (depth + allowance)) x)) q u.2 in (
                close st hd.letter hd.flag (said hd kids) g.0,
                u.1
                    ∙ bind-gives (rooms room (depth + allowance)) x _ g.0 g.1
                    ∙ ap (λ n. gives (n, close st hd.letter hd.flag (said hd kids) g.0)) (sym h.nodes),
                subst₂ (λ a b. Holds l.walk a es' b (close st hd.letter hd.flag (said hd kids) g.0)) (sym en) (sym ek)
                    (holds-close {l = l} refl g.2 st w.nodes w.slots hd.letter hd.flag (said hd kids) size h.nodes h.slots ez (omega (arith, mv.0)) (omega (arith, mv.0))),
              );
        }

    -- the same where letter and flag are read from the header byte again
    pub value-closed : {l : Line} {size byte : ℕ} {ns'' ss'' : List ℕ} → r ≡ Ok l → size ≡ size_of (children_of kids) hd.place hd.size l.line → byte ≡ get_or s w.at 0
        → ns'' ≡ node_written ns' w.nodes (record { letter = letter_of byte; place = hd.place; size = size; first = l.first; count = l.count; end = l.walk.at; input = 0 })
        → ss'' ≡ fill (flag_of byte) w.slots w.nodes ss'
        → ReadsValue s room allowance w ns es ss (Ok (record { node = w.nodes; walk = l.walk })) ns'' es' ss''
    value-closed {l} {size} q ez is en ek =
        value-whole q ez
        (en ∙ ap (λ x. node_written ns' w.nodes (record { letter = x; place = hd.place; size = size; first = l.first; count = l.count; end = l.walk.at; input = 0 })) (ap letter_of is ∙ sym ahead.lettered))
        (ek ∙ ap (λ x. fill x w.slots w.nodes ss') (ap flag_of is ∙ sym ahead.flagged))
