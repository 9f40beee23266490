-- A value at the front of an input, and the same value from its own bytes alone: the reading is the same. Assumes nothing.
use mathlib.Core.Path.{◌≡◌, refl, sym, ap, ◌∙◌}
use Prim.Native.Nat.{ℕ, ◌+◌, ◌≤◌}
use native.Mathlib.Omega.{arith}
use mathlib.Core.Bool.{Bool, true, false, cond}
use mathlib.Core.List.{List, ◌++◌}
use lib.ListN.{length, get_or, drop, length-append, get_or-append}
use lib.Seq.{take-append-le}
use lib.Dec.{ltb}
use borrow.Author.Tests.{ltb-false, eqb-true}
use Rattle.refusals.specs.Numbers.{input_too_long}
use Rattle.refusals.specs.Limits.{most_bytes}
use Rattle.grammar.specs.Reading.{Answer, gives, stops}
use Rattle.grammar.specs.Room.{run}
use Rattle.grammar.specs.LetterNames.{code_letter}
use Rattle.grammar.specs.Letters.{letter_of}
use Rattle.grammar.specs.State.{State, start}
use Rattle.grammar.specs.Steps.{letter_in}
use Rattle.grammar.specs.Answer.{plain, rooms_of, reading}
use Rattle.grammar.proofs.Appended.{appended-same_answer}
use Rattle.grammar.proofs.Bounded.{accepted}
use Rattle.grammar.proofs.Exactness.{within-room}
use Rattle.grammar.proofs.Extension.{IsFrontOf}
use Rattle.grammar.proofs.Root.{root_is_node_0}
use Rattle.grammar.proofs.Substance.{plain-answer}
use Rattle.readalone.specs.Alone.{Room, within, placed_from, alone}
use Rattle.goldenparts.specs.Forms.{is_code}
use Rattle.goldentrips.specs.Promised.{Whole}
use Rattle.goldentrips.proofs.Fronts.{value_back}
use Rattle.goldentrips.proofs.Lettering.{first_letter}

none_gives : {A X : Type 0} {a : A} {n p : ℕ} → stops n p ≡ gives a → X
none_gives e = let z : ◌≡◌ {A = ℕ} 0 1 = cc in absurd (omega arith)

front : (s t : List ℕ) → IsFrontOf s (s ++ t)
front s t =
    record {
      longer = omega (arith, length-append s t);
      byte = λ i h. get_or-append s t 0 i h;
      part = λ i n h. ap (drop i) (take-append-le (i + n) s t h);
    }

-- what was read is no longer than an input
pub read_small : (R : Room) (s : List ℕ) (r : ℕ × State) → within R s ≡ gives r → length s ≤ most_bytes
unfolding reading
read_small R s r e = go (ltb most_bytes (length s)) refl e
  where
    go : (b : Bool) → ltb most_bytes (length s) ≡ b → cond b (stops input_too_long 0) (run (rooms_of R.nodes R.entries R.slots R.nesting) (plain s)) ≡ gives r → length s ≤ most_bytes
    go true q d = none_gives d
    go false q d = ltb-false most_bytes (length s) q

-- Bytes behind a value may go ..
pub cut_same : (R : Room) (s t : List ℕ) (r : ℕ × State) → within R (s ++ t) ≡ gives r → r.1.at ≤ length s → within R s ≡ gives r
unfolding plain
cut_same R s t r e l =
    let m = read_small R (s ++ t) r e in
    let same : plain s ≡ plain (s ++ t) =
    (value_back s (s ++ t) (front s t) (length (s ++ t)) (length s) 0 start (omega arith) r (plain-answer (s ++ t) R.nodes R.entries R.slots R.nesting r e)).2 l in
    within-room s R.nodes R.entries R.slots R.nesting (omega (arith, m, length-append s t))
    ∙ ap (run (rooms_of R.nodes R.entries R.slots R.nesting)) same
    ∙ sym (within-room (s ++ t) R.nodes R.entries R.slots R.nesting m) ∙ e

-- .. and come.
pub append_same : (R : Room) (s t : List ℕ) (r : ℕ × State) → within R s ≡ gives r → length (s ++ t) ≤ most_bytes → within R (s ++ t) ≡ gives r
append_same R s t r e l = appended-same_answer s t R.nodes R.entries R.slots R.nesting l (λ number place q. none_gives (sym q ∙ e)) ∙ e

-- a value that takes all its bytes
pub whole_told_lem : (R : Room) (start : ℕ) (part : List ℕ) → alone R start part ≡ gives (length part) → Whole R part
unfolding alone
whole_told_lem R start part e = go (within R part) refl e
  where
    go : (a : Answer (ℕ × State)) → within R part ≡ a → placed_from start a ≡ gives (length part) → Whole R part
    go (gives r) p q = let z : r.1.at ≡ length part = cc in record { root = r.0; state = r.1; reads = p; all = z }
    go (stops number place) p q = none_gives q

pub whole-alone : (R : Room) (start : ℕ) (part : List ℕ) → Whole R part → alone R start part ≡ gives (length part)
unfolding alone
whole-alone R start part w = ap (placed_from start) w.reads ∙ ap gives w.all

pub read-alone : (R : Room) (start : ℕ) (part : List ℕ) (r : ℕ × State) → within R part ≡ gives r → alone R start part ≡ gives r.1.at
unfolding alone
read-alone R start part r e = ap (placed_from start) e

-- a value is read at the front of a file: it is what its own bytes are read as
pub front-told : (R : Room) (file : List ℕ) (size : ℕ) → alone R 0 file ≡ gives size → (r : ℕ × State) × (within R file ≡ gives r) × (r.1.at ≡ size)
unfolding alone
front-told R file size e = go (within R file) refl e
  where
    go : (a : Answer (ℕ × State)) → within R file ≡ a → placed_from 0 a ≡ gives size → (r : ℕ × State) × (within R file ≡ gives r) × (r.1.at ≡ size)
    go (gives r) p q = let z : r.1.at ≡ size = cc in (r, p, z)
    go (stops number place) p q = none_gives q

-- a first byte that says code is a code's
pub code_letter_lem : (R : Room) (part : List ℕ) (w : Whole R part) → is_code part ≡ true → letter_in w.state.nodes w.root ≡ code_letter
code_letter_lem R part w c =
    let r : ℕ × State = (w.root, w.state) in
    let p = plain-answer part R.nodes R.entries R.slots R.nesting r w.reads in
    let zero : w.root ≡ 0 = root_is_node_0 part r p in
    let small = read_small R part r w.reads in
    let some = (accepted part small r p).root in
    ap (letter_in w.state.nodes) zero ∙ first_letter part r p (omega (arith, some)) ∙ eqb-true (letter_of (get_or part 0 0)) code_letter c
