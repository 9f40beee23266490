-- DEMAND 2, of location tables: what the three exports that locate tell of a table, and what their records hold. From linetable's theorems on
-- wholeness (Whole), on what comes from entries (Entered) and on what is left over (Placed), by cases of the reading. Assumes nothing.
use mathlib.Core.Path.{◌≡◌, refl, sym, ap, ◌∙◌, subst}
use Prim.Native.Nat.{ℕ, suc, ◌+◌, ◌-◌, ◌*◌, ◌/◌, ◌≤◌, ◌<◌, max, min}
use native.Mathlib.Omega.{arith}
use mathlib.Core.Bool.{Bool, true, false, cond, ◌&&◌}
use mathlib.Core.List.{List, ◌++◌}
use lib.IntN.{ℤ, pos, negsuc}
use lib.Dec.{ltb}
use lib.ListN.{length, replicate, take, drop, length-take, length-drop}
use lib.Seq.{take-append_seam}
use borrow.Author.Tests.{ltb-true}
use mir.Syntax.{w32}
use mir.Val.{SFits, of_z}
use contract.Monad.{fact_mono}
use Rattle.std.specs.Prelude.{Err}
use Rattle.refusals.specs.Numbers.{accepted, input_too_long, bad_table}
use Rattle.refusals.specs.Limits.{most_bytes}
use Rattle.clearing.specs.Lent.{zeros, padded}
use Rattle.lineentry.specs.declared.Location.{Location}
use Rattle.lineentry.specs.Entry.{location, at_line}
use Rattle.grammar.specs.Letters.{is_bytes}
use Rattle.grammar.specs.Fields.{contents}
use Rattle.grammar.specs.State.{Node, node_at}
use Rattle.grammar.specs.Record.{sound_at}
use Rattle.linetable.specs.Walk.{Reading, done, refused}
use Rattle.linetable.specs.Answer.{first_line_of, located, answer, numbers, records_of, locations_of, location_at, blank}
use Rattle.linetable.specs.Complete.{Complete}
use Rattle.linetable.proofs.Stores.{length-numbers}
use Rattle.linetable.proofs.Readback.{at_record}
use Rattle.linetable.proofs.Whole.{whole_complete, complete_whole}
use Rattle.linetable.proofs.Entered.{from_entries}
use Rattle.linetable.proofs.Placed.{one_each, from_entries-most, left_over_first, first_shown_lem, first_not_positive}
use Rattle.locate.specs.Part.{located_at}
use Rattle.sillgarland.specs.declared.locations.SillLocated.{SillLocated}
use Rattle.sillgarland.specs.Locations.{located_struct}
use Rattle.promises.proofs.Numbers.{TabledLines, located_in_table, located_at_in_table}
use Rattle.questions.specs.Lines.{left_over, Records, Told, SameNumbers, LinesTold}

-- the first line's location, as it is kept
first_over_lem : (z : ℤ) → SFits w32 z → at_line (first_line_of z) ≡ left_over z
first_over_lem (pos n) f = ap (λ l. location l 1 l 1) (first_shown_lem n f.sfits)
first_over_lem (negsuc n) f = ap (λ l. location l 1 l 1) (first_not_positive n f.sfits)

-- the records at the front of a store, and what stands behind them
take-records : (n : ℕ) (ls : List Location) (count : ℕ) → length ls ≡ count → take (4 * count) (padded n (numbers ls)) ≡ numbers ls
unfolding padded
take-records n ls count e =
    let k : length (numbers ls) ≡ 4 * count = omega (arith, length-numbers ls) in
    rw (← k) (take-append_seam (numbers ls) (zeros (n - length (numbers ls))))

module _ (s : List ℕ) (z : ℤ) (count room n : ℕ) where
  abbrev first : ℕ
  first = first_line_of z

  holds-records : (ls : List Location) (k : ℕ) (whole : Bool) → located s first count room ≡ done ls k whole → SFits w32 z
      → Records s z count k (padded n (numbers ls))
  unfolding padded
  holds-records ls k whole e f =
      let x = from_entries s first count room e in
      let o = first_over_lem z f in
      record {
        given = x.given;
        by_entries = x.from;
        counted = x.many;
        no_more = from_entries-most s first count room e;
        holds = take-records n ls count (one_each s first count room e) ∙ ap numbers (x.all ∙ ap (λ l. x.given ++ replicate (count - k) l) o);
        from-there_on = λ i h b. at_record ls (n - length (numbers ls)) i ∙ left_over_first s first count room e i h b ∙ o;
      }

  told : (Fits : Type 0) → (Fits → (length s ≤ most_bytes) × (count ≤ room)) → (x : Reading) → located s first count room ≡ x → (r : SillLocated) (records : List ℕ)
      → r ≡ located_struct (answer x) → records ≡ records_of n x → TabledLines x → Told Fits s z count r records
  unfolding records_of
  told Fits fits (done ls k true) e r records a h t =
      record {
        from_entries = λ f _. subst (λ (y : SillLocated). Records s z count y.from_entries records) (sym a) (rw h (holds-records ls k true e f));
        told-whole = λ _.
            let c = whole_complete s first count room k (ap answer e) in
            (ap (λ y. y.refusal) a, ap (λ y. y.from_entries) a ∙ c.0, c.1);
        whole_told_lem = λ i c. a ∙ ap located_struct (sym (ap answer e) ∙ complete_whole s first count room (fits i).0 (fits i).1 c);
      }
  told Fits fits (done ls k false) e r records a h t =
      record {
        from_entries = λ f _. subst (λ (y : SillLocated). Records s z count y.from_entries records) (sym a) (rw h (holds-records ls k false e f));
        told-whole = λ w. let q : ◌≡◌ {A = ℕ} 0 1 = sym (ap (λ y. y.whole) a) ∙ w in absurd (omega (arith, q));
        whole_told_lem = λ i c. a ∙ ap located_struct (sym (ap answer e) ∙ complete_whole s first count room (fits i).0 (fits i).1 c);
      }
  told Fits fits (refused number place) e r records a h t =
      record {
        from_entries = λ f w. let q : number ≡ 0 = sym (ap (λ y. y.refusal) a) ∙ w in absurd (omega (arith, q, t.0));
        told-whole = λ w. let q : ◌≡◌ {A = ℕ} 0 1 = sym (ap (λ y. y.whole) a) ∙ w in absurd (omega (arith, q));
        whole_told_lem = λ i c. a ∙ ap located_struct (sym (ap answer e) ∙ complete_whole s first count room (fits i).0 (fits i).1 c);
      }

-- a refusal tells nothing of the table, where it is none that can be read
told-nothing : (Fits : Type 0) → (Fits → ⊥) → (s : List ℕ) (z : ℤ) (count number place : ℕ) (r : SillLocated) (records : List ℕ) → accepted < number
    → r ≡ located_struct (Err (number, place)) → Told Fits s z count r records
told-nothing Fits unfit s z count number place r records t a =
    record {
      from_entries = λ f w. let q : number ≡ 0 = sym (ap (λ y. y.refusal) a) ∙ w in absurd (omega (arith, q));
      told-whole = λ w. let q : ◌≡◌ {A = ℕ} 0 1 = sym (ap (λ y. y.whole) a) ∙ w in absurd (omega (arith, q));
      whole_told_lem = λ i c. absurd (unfit i);
    }

-- a node's contents are no longer than the input
part_small : (s : List ℕ) (place size : ℕ) → length s ≤ most_bytes → length (drop place (take (place + size) s)) ≤ most_bytes
part_small s place size h = omega (arith, length-drop place (take (place + size) s), length-take (place + size) s)

false_true : ◌≡◌ {A = Bool} false true → ⊥
false_true e = let q : ◌≡◌ {A = ℕ} 0 1 = ap (λ (b : Bool). cond b 1 0) e in absurd (omega (arith, q))

told-node : (s nodes : List ℕ) (used m : ℕ) (z : ℤ) (count room n : ℕ) (r : SillLocated) (records : List ℕ)
    → r ≡ located_struct (answer (located_at s nodes used m (first_line_of z) count room)) → records ≡ records_of n (located_at s nodes used m (first_line_of z) count room)
    → Told ((length s ≤ most_bytes) × ((sound_at s nodes used m && is_bytes (node_at nodes m).letter) ≡ true) × (count ≤ room))
    (contents s (node_at nodes m).place (node_at nodes m).size) z count r records
unfolding located_at
told-node s nodes used m z count room n r records a h =
    go (ltb most_bytes (length s)) (sound_at s nodes used m && is_bytes (node_at nodes m).letter) refl refl a h
  where
    node : Node
    node = node_at nodes m

    part : List ℕ
    part = contents s (node_at nodes m).place (node_at nodes m).size

    go : (t u : Bool) → ltb most_bytes (length s) ≡ t → (sound_at s nodes used m && is_bytes (node_at nodes m).letter) ≡ u
        → r ≡ located_struct (answer (located_at s nodes used m (first_line_of z) count room)) → records ≡ records_of n (located_at s nodes used m (first_line_of z) count room)
        → Told ((length s ≤ most_bytes) × ((sound_at s nodes used m && is_bytes (node_at nodes m).letter) ≡ true) × (count ≤ room)) part z count r records
    go true u e d a h =
        told-nothing _ (λ i. omega (arith, i.0, ltb-true most_bytes (length s) e)) part z count input_too_long 0 r records (omega arith) (rw e at a)
    go false false e d a h = told-nothing _ (λ i. false_true (sym d ∙ i.1)) part z count bad_table m r records (omega arith) (rw (e, d) at a)
    go false true e d a h =
        told part z count room n _ (λ i. (part_small s node.place node.size i.0, i.2)) (located part (first_line_of z) count room) refl r records
        (rw (e, d) at a) (rw (e, d) at h) (located_in_table part (first_line_of z) count room)

-- the structs are the records' locations
same_numbers : (s : List ℕ) (first count room n m : ℕ) (x : Reading) → located s first count room ≡ x → TabledLines x → (r : SillLocated) (flat : List ℕ) (out : List Location)
    → r ≡ located_struct (answer x) → flat ≡ records_of n x → out ≡ locations_of m x → SameNumbers count r flat out
unfolding records_of locations_of
same_numbers s first count room n m (done ls k whole) e t r flat out a h g w =
    let l : length ls ≡ count = one_each s first count room e in
    let front : take count out ≡ ls = ap (take count) g ∙ ap (λ j. take j (ls ++ replicate (m - length ls) blank)) (sym l) ∙ take-append_seam ls (replicate (m - length ls) blank) in
    (ap length front ∙ l, ap numbers front ∙ sym (ap (take (4 * count)) h ∙ take-records n ls count l))
same_numbers s first count room n m (refused number place) e t r flat out a h g w =
    let q : number ≡ 0 = sym (ap (λ y. y.refusal) a) ∙ w in
    absurd (omega (arith, q, t.0))

pub demand_2_lines : LinesTold
demand_2_lines =
    record {
      sill_locate =
          λ c.
          let a = c.args in
          let room = length a.1.1.1.0.now / 4 in
          let first = first_line_of a.1.0 in
          told a.0.now a.1.0 a.1.1.0 room (length a.1.1.1.0.now) _ (λ i. i) (located a.0.now first a.1.1.0 room) refl
          c.result _ c.meets.0 c.meets.1 (located_in_table a.0.now first a.1.1.0 room);
      sill_locate_node =
          λ c.
          let a = c.args in
          let b = a.1.1.1.1 in
          told-node a.0.now a.1.0.now a.1.1.0 a.1.1.1.0 b.0 b.1.0 (length b.1.1.0.now / 4) (length b.1.1.0.now) c.result _
          c.meets.0 c.meets.1;
      sill_locations =
          λ M 𝓤 𝓛 mem run κs a g r ws.
          let b = a.1.1.1 in
          let room = min (length b.0.now / 4) (length b.1.0.now) in
          let first = first_line_of a.1.0 in
          let x = located a.0.now first a.1.1.0 room in
          let t = located_in_table a.0.now first a.1.1.0 room in
          fact_mono 𝓤 _ _ (λ p. (
            told a.0.now a.1.0 a.1.1.0 room (length b.0.now) _ (λ i. i) x refl r ws.1.1.1.0 p.0 p.1 t,
            same_numbers a.0.now first a.1.1.0 room (length b.0.now) (length b.1.0.now) x refl t r ws.1.1.1.0 ws.1.1.1.1.0 p.0 p.1 p.2,
          ));
    }
