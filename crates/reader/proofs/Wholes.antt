-- The answers of `deserialize_value`, one law for each way out: too long, refused, or read.
-- Assumes nothing.
use mathlib.Core.Path.{◌≡◌, refl, sym, ap, subst, ◌∙◌}
use Prim.Native.Nat.{ℕ, ◌+◌, ◌≤◌, ◌<◌, min}
use native.Mathlib.Nat.{zero-add}
use native.Mathlib.Omega.{arith}
use mathlib.Core.List.{List, []}
use lib.ListN.{length, length-replicate}
use borrow.Author.Tests.{lt-ltb, le-ltb}
use Rattle.std.specs.Prelude.{Result, Ok, Err}
use Rattle.refusals.specs.Faults.{number_of, fault}
use Rattle.refusals.specs.declared.Refusal.TheVariants.{InputTooLong}
use Rattle.refusals.specs.declared.Fault.{Fault}
use Rattle.refusals.specs.Limits.{most_bytes, most_nesting}
use Rattle.clearing.specs.Lent.{zeros, padded}
use Rattle.clearing.proofs.Laws.{padded_none}
use Rattle.grammar.specs.Reading.{gives, stops}
use Rattle.grammar.specs.Room.{run}
use Rattle.grammar.specs.State.{start, node_cells, entry_cells, node_capacity, entry_capacity, slot_capacity}
use Rattle.grammar.specs.Steps.{value}
use Rattle.grammar.specs.Answer.{plain, rooms_of, reading, read_of}
use Rattle.stores.specs.Written.{Keeps}
use Rattle.readsteps.specs.declared.Room.{Room}
use Rattle.readsteps.specs.declared.Walk.{Walk}
use Rattle.readsteps.specs.declared.Step.{Step}
use Rattle.readsteps.specs.Held.{rooms, Holds}
use Rattle.reader.specs.Delivered.{Delivers}
use Rattle.readleaves.specs.Readings.{ReadsValue, Agrees}

-- a store that is cleared keeps nothing
keeps-nothing : (store : List ℕ) (n : ℕ) → store ≡ zeros n → Keeps store []
keeps-nothing store n e = e ∙ ap zeros (sym (ap length e ∙ length-replicate n 0)) ∙ sym (padded_none (length store))

abbrev pub begin : Walk
begin = record { at = 0; nodes = 0; entries = 0; slots = 0 }

module _ (s : List ℕ) (n e k nesting : ℕ) where
  pub whole_long : {ns es ss : List ℕ} → most_bytes < length s → ns ≡ zeros n → es ≡ zeros e → ss ≡ zeros k
      → {failed : Fault} → failed ≡ fault InputTooLong 0 → Delivers (read_of s n e k nesting) (Err failed) ns es ss
  unfolding read_of reading
  whole_long h a b c told = rw (told, lt-ltb most_bytes (length s) h) (record { answer = refl; nodes = a; entries = b; slots = c })

  module _ (short : length s ≤ most_bytes) {ns₀ es₀ ss₀ : List ℕ} (zn : ns₀ ≡ zeros n) (ze : es₀ ≡ zeros e) (zs : ss₀ ≡ zeros k)
      {room : Room} {allowance : ℕ} (rn : room.nodes ≡ node_capacity (length ns₀)) (re : room.entries ≡ entry_capacity (length es₀)) (rs : room.slots ≡ slot_capacity (length ss₀)) (ra : allowance ≡ min nesting most_nesting)
      {r : Result Step Fault} {ns' es' ss' : List ℕ} (rv : ReadsValue s room allowance begin ns₀ es₀ ss₀ r ns' es' ss') where
    rooms_are : rooms room (0 + allowance) ≡ rooms_of n e k nesting
    rooms_are =
        let ln : length ns₀ ≡ n = ap length zn ∙ length-replicate n 0 in
        let le : length es₀ ≡ e = ap length ze ∙ length-replicate e 0 in
        let ls : length ss₀ ≡ k = ap length zs ∙ length-replicate k 0 in
        let p : 0 + allowance ≡ min nesting most_nesting = zero-add allowance ∙ ra in
        let q : room.nodes ≡ node_capacity n = rn ∙ ap node_capacity ln in
        let u : room.entries ≡ entry_capacity e = re ∙ ap entry_capacity le in
        let v : room.slots ≡ slot_capacity k = rs ∙ ap slot_capacity ls in
        λ i. record { levels = p i; nodes = q i; entries = u i; slots = v i }

    starts : Holds begin ns₀ es₀ ss₀ start
    starts =
        record {
          at = refl;
          nodes = refl;
          entries = refl;
          slots = refl;
          node_store = keeps-nothing ns₀ n zn;
          entry_store = keeps-nothing es₀ e ze;
          slot_store = keeps-nothing ss₀ k zs;
        }

    agrees : Agrees r ns' es' ss' (reading s n e k nesting)
    unfolding reading plain
    agrees =
        rw (le-ltb most_bytes (length s) short)
        (subst (λ R. Agrees r ns' es' ss' (run R (value (length s) s 0 start))) rooms_are (rv.exact (length s) 0 start starts (omega arith)))

    pub whole-refused : {failed : Fault} {ns es ss : List ℕ} → r ≡ Err failed → ns ≡ zeros n → es ≡ zeros e → ss ≡ zeros k
        → Delivers (read_of s n e k nesting) (Err failed) ns es ss
    unfolding read_of
    whole-refused {failed} is a b c =
        let x : reading s n e k nesting ≡ stops (number_of failed.refusal) failed.place = subst (λ r. Agrees r ns' es' ss' (reading s n e k nesting)) is agrees in
        rw x (record { answer = refl; nodes = a; entries = b; slots = c })

    pub whole-read : {given : Step} → r ≡ Ok given → length ns' ≡ length ns₀ → length es' ≡ length es₀ → length ss' ≡ length ss₀
        → Delivers (read_of s n e k nesting) (Ok (record { consumed = given.walk.at; nodes = given.walk.nodes; entries = given.walk.entries; slots = given.walk.slots })) ns' es' ss'
    unfolding read_of
    whole-read {given} is a b c =
        let x : Agrees (Ok given) ns' es' ss' (reading s n e k nesting) = subst (λ r. Agrees r ns' es' ss' (reading s n e k nesting)) is agrees in
        let h = x.2 in
        rw x.1
        (record {
          answer = λ i. gives (record { consumed = h.at i; nodes = h.nodes i; entries = h.entries i; slots = h.slots i });
          nodes = h.node_store ∙ ap (λ m. padded m (node_cells x.0.nodes)) (a ∙ ap length zn ∙ length-replicate n 0);
          entries = h.entry_store ∙ ap (λ m. padded m (entry_cells x.0.entries)) (b ∙ ap length ze ∙ length-replicate e 0);
          slots = h.slot_store ∙ ap (λ m. padded m x.0.slots) (c ∙ ap length zs ∙ length-replicate k 0);
        })
