-- The two ends of a split: what the checks tell where all of them hold, and the contract from the parts of each end.
-- Assumes nothing.
use mathlib.Core.Path.{◌≡◌, refl, sym, ◌∙◌}
use mathlib.Core.Bool.{Bool, true, false, cond, not}
use mathlib.Core.List.{List}
use Prim.Native.Nat.{ℕ, ◌≤◌, ◌^◌}
use native.Mathlib.Omega.{arith}
use lib.Dec.{ltb, leb, eqb}
use lib.ListN.{length}
use borrow.Author.Tests.{ltb-false, eqb-true, not-false}
use Rattle.std.specs.Prelude.{Result, Ok, Err}
use Rattle.refusals.specs.declared.Fault.{Fault}
use Rattle.refusals.specs.Limits.{most_bytes}
use Rattle.clearing.specs.Lent.{zeros, padded}
use Rattle.localsplus.specs.declared.Rooms.{Rooms}
use Rattle.localsplus.specs.Sum.{argument_sum}
use Rattle.localsplus.specs.Kind.{local_bit, cell_bit, free_bit}
use Rattle.localsplus.specs.Lists.{positions, map_from, present, cell_to_argument}
use Rattle.localsplus.specs.Answer.{rooms_of, room_for, checks, answered, split_of, stored, IsSplit}

-- a check that a passing answer went by
passed : (t : Bool) (f : Fault) (s : ℕ) (next : Result ℕ Fault) → cond t (Err f) next ≡ Ok s → (t ≡ false) × (next ≡ Ok s)
passed true f s next e = cc
passed false f s next e = (refl, e)

-- every check holds: the sum is handed on, and each store has room for one number a kind byte
pub record Room (count sum : ℕ) (rooms : Rooms) (s : ℕ) : Type 0 where
  pub sums : sum ≡ s
  pub small : count ≤ most_bytes
  pub locals : count ≤ rooms.locals
  pub cells : count ≤ rooms.cells
  pub frees : count ≤ rooms.frees
  pub map : count ≤ rooms.map
  pub arguments : count ≤ rooms.arguments

pub room : (count names sum s : ℕ) (rooms : Rooms) {checked : Result ℕ Fault} → checked ≡ checks count names sum rooms → checked ≡ Ok s → Room count sum rooms s
unfolding checks room_for
room count names sum s rooms r e =
    let a = passed (ltb most_bytes count) _ s _ (sym r ∙ e) in
    let b = passed (not (eqb names count)) _ s _ a.1 in
    let c = passed (leb (2 ^ 32) sum) _ s _ b.1 in
    let l = passed (ltb rooms.locals names) _ s _ c.1 in
    let m = passed (ltb rooms.cells names) _ s _ l.1 in
    let n = passed (ltb rooms.frees names) _ s _ m.1 in
    let o = passed (ltb rooms.map names) _ s _ n.1 in
    let p = passed (ltb rooms.arguments names) _ s _ o.1 in
    let q : names ≡ count = eqb-true names count (not-false (eqb names count) b.0) in
    record {
      sums = cc p.1;
      small = ltb-false most_bytes count a.0;
      locals = omega (arith, ltb-false rooms.locals names l.0);
      cells = omega (arith, ltb-false rooms.cells names m.0);
      frees = omega (arith, ltb-false rooms.frees names n.0);
      map = omega (arith, ltb-false rooms.map names o.0);
      arguments = omega (arith, ltb-false rooms.arguments names p.0);
    }

module _ {kinds locals cells frees map arguments locals' cells' frees' map' arguments' : List ℕ} {names args kwonly flags sum : ℕ} {checked : Result ℕ Fault} where
  -- refused: every store is zero
  pub refused : {fault : Fault}
      → sum ≡ argument_sum args kwonly flags
      → checked ≡ checks (length kinds) names sum (rooms_of locals cells frees map arguments)
      → checked ≡ Err fault
      → locals' ≡ zeros (length locals)
      → cells' ≡ zeros (length cells)
      → frees' ≡ zeros (length frees)
      → map' ≡ zeros (length map)
      → arguments' ≡ zeros (length arguments)
      → IsSplit kinds names args kwonly flags locals cells frees map arguments (Err fault) locals' cells' frees' map' arguments'
  unfolding split_of answered stored
  refused q r e l c f m a =
      record { answer = rw (← q, ← r, e); holds-locals = l; holds-cells = c; holds-frees = f; holds-map = m; holds_arguments = a }

  -- accepted: every store holds its list, then zeros
  pub accepted : {s nl nc nf : ℕ} {p : Bool}
      → sum ≡ argument_sum args kwonly flags
      → checked ≡ checks (length kinds) names sum (rooms_of locals cells frees map arguments)
      → checked ≡ Ok s
      → (nl ≡ length (positions local_bit kinds)) × (nl ≤ most_bytes) × (locals' ≡ padded (length locals) (positions local_bit kinds))
      → (nc ≡ length (positions cell_bit kinds)) × (nc ≤ most_bytes) × (cells' ≡ padded (length cells) (positions cell_bit kinds))
      → (nf ≡ length (positions free_bit kinds)) × (nf ≤ most_bytes) × (frees' ≡ padded (length frees) (positions free_bit kinds))
      → map' ≡ padded (length map) (map_from 0 nc kinds)
      → (p ≡ present s kinds) × (arguments' ≡ padded (length arguments) (cell_to_argument s kinds))
      → IsSplit kinds names args kwonly flags locals cells frees map arguments (Ok record { locals = nl; cells = nc; frees = nf; present = p }) locals' cells' frees' map' arguments'
  unfolding split_of answered stored
  accepted {s} q r e l c f m a =
      record {
        answer = rw (← q, ← r, e, l.0, c.0, f.0, a.0);
        holds-locals = l.2;
        holds-cells = c.2;
        holds-frees = f.2;
        holds-map = rw (← c.0) m;
        holds_arguments = rw (← q, (room _ names sum s _ r e).sums) a.1;
      }
