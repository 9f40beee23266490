-- A count that comes over a 0 when its names are written: bytes that stand in front of a writing can be others, as many, and it comes to the
-- same behind them. Assumes nothing.
use mathlib.Core.Path.{◌≡◌, refl, sym, ap, ◌∙◌}
use Prim.Native.Nat.{ℕ, ◌+◌, ◌-◌, ◌≤◌, ◌<◌}
use native.Mathlib.Omega.{arith}
use mathlib.Core.Bool.{Bool, true, false, cond}
use mathlib.Core.List.{List, [], ◌∷◌, ◌++◌, append_assoc, append-nil}
use lib.ListN.{length, take, drop, length-append, take-append-drop}
use lib.Seq.{sets, sets-eq, length-sets, length-take-le, take_at, drop_at}
use lib.Dec.{leb}
use borrow.Author.Tests.{leb-true}
use Rattle.refusals.specs.Numbers.{no_room}
use Rattle.grammar.specs.Reading.{Answer, gives, stops}
use Rattle.grammar.specs.Record.{Tables, node_of}
use Rattle.writing.specs.Writing.{Writing, ended, refused, emit, each, into}
use Rattle.writing.specs.Canonical.{bytes32}
use Rattle.writing.specs.Names.{contents_of, in_groups}
use Rattle.writing.specs.Steps.{string_part, names_part, kids_of}
use Rattle.grammar.specs.Numbered.{numbered}
use Rattle.output.specs.Puts.{Wrote, Puts}
use Rattle.writenames.specs.declared.Grouped.{Grouped}
use Rattle.writenames.specs.Names.{Localed}
use Rattle.writenames.specs.Groups.{wrote_of, Groups}
use Rattle.underway.proofs.Under.{later, puts_equal, puts-told}
use Rattle.writenames.proofs.Naming.{in_locals, locals_part_lem, counted_as}
use Rattle.std.specs.Prelude.{Result, Ok, Err}
use Rattle.refusals.specs.declared.Fault.{Fault}

-- What a writing comes to behind so many bytes, without them.

abbrev onto : List ℕ → Answer (List ℕ) → Answer (List ℕ)
onto bytes (gives more) = gives (bytes ++ more)
onto bytes (stops number place) = stops number place

unfoldable behind : (room written : ℕ) → Writing → Answer (List ℕ)
behind room written ended = gives []
behind room written (refused number place) = stops number place
behind room written (emit bytes w) = cond (leb (written + length bytes) room) (onto bytes (behind room (written + length bytes) w)) (stops no_room room)

onto_onto : (xs ys : List ℕ) (a : Answer (List ℕ)) → onto (xs ++ ys) a ≡ onto xs (onto ys a)
onto_onto xs ys (gives more) = ap gives (append_assoc xs ys more)
onto_onto xs ys (stops number place) = refl

into-behind : (room : ℕ) (out : List ℕ) (w : Writing) → into room out w ≡ onto out (behind room (length out) w)
unfolding into behind
into-behind room out ended = ap gives (sym (append-nil out))
into-behind room out (refused number place) = refl
into-behind room out (emit bytes w) =
    go (leb (length out + length bytes) room)
    (into-behind room (out ++ bytes) w ∙ ap (λ n. onto (out ++ bytes) (behind room n w)) (length-append out bytes)
    ∙ onto_onto out bytes (behind room (length out + length bytes) w))
  where
    go : (b : Bool) → into room (out ++ bytes) w ≡ onto out (onto bytes (behind room (length out + length bytes) w))
        → cond b (into room (out ++ bytes) w) (stops no_room room) ≡ onto out (cond b (onto bytes (behind room (length out + length bytes) w)) (stops no_room room))
    go true e = e
    go false e = refl

onto_gives : (bytes : List ℕ) (a : Answer (List ℕ)) {x : List ℕ} → onto bytes a ≡ gives x → (more : List ℕ) × (a ≡ gives more) × (bytes ++ more ≡ x)
onto_gives bytes (gives more) e = (more, refl, is e)
  where
    is : {x y : List ℕ} → gives x ≡ gives y → x ≡ y
    is e = cc
onto_gives bytes (stops number place) e = let z : ◌≡◌ {A = ℕ} 0 1 = cc in absurd (omega arith)

onto_stops : (bytes : List ℕ) (a : Answer (List ℕ)) {number place : ℕ} → onto bytes a ≡ stops number place → a ≡ stops number place
onto_stops bytes (gives more) e = let z : ◌≡◌ {A = ℕ} 0 1 = cc in absurd (omega arith)
onto_stops bytes (stops number place) e = e

-- four bytes stored behind a letter that stands behind others
stored : (xs ys : List ℕ) (letter old new : ℕ) {at : ℕ} {o : List ℕ} → length xs ≡ at → o ≡ (xs ++ (letter ∷ bytes32 old)) ++ ys
    → sets o (at + 1) (bytes32 new) ≡ (xs ++ (letter ∷ bytes32 new)) ++ ys
stored xs ys letter old new {at} {o} n e =
    let m : length (xs ++ (letter ∷ bytes32 old)) ≡ at + 1 + 4 = length-append xs (letter ∷ bytes32 old) ∙ omega arith in
    let k : length (xs ++ (letter ∷ [])) ≡ at + 1 = length-append xs (letter ∷ []) ∙ omega arith in
    let f : o ≡ (xs ++ (letter ∷ [])) ++ (bytes32 old ++ ys) = e ∙ append_assoc xs (letter ∷ bytes32 old) ys ∙ sym (append_assoc xs (letter ∷ []) (bytes32 old ++ ys)) in
    let l : length o ≡ at + 1 + 4 + length ys = ap length e ∙ length-append (xs ++ (letter ∷ bytes32 old)) ys ∙ ap (λ x. x + length ys) m in
    sets-eq (bytes32 new) o (at + 1) (omega (arith, l))
    ∙ ap (λ front. front ++ bytes32 new ++ drop (at + 1 + 4) o) (ap (take (at + 1)) f ∙ take_at (xs ++ (letter ∷ [])) (bytes32 old ++ ys) (at + 1) k)
    ∙ ap (λ rest. (xs ++ (letter ∷ [])) ++ bytes32 new ++ rest) (ap (drop (at + 1 + 4)) e ∙ drop_at (xs ++ (letter ∷ bytes32 old)) ys (at + 1 + 4) m)
    ∙ ap (λ front. front ++ ys) (append_assoc xs (letter ∷ []) (bytes32 new))

-- A head that has no room, whatever number it has.
pub head_refused : (w : Writing) (letter old new : ℕ) {at : ℕ} {stop : Fault} {o o' : List ℕ} → Puts (emit (letter ∷ bytes32 old) ended) at o (Err stop) o'
    → Puts (emit (letter ∷ bytes32 new) w) at o (Err stop) o'
unfolding into
head_refused w letter old new {at} {stop} {o} k =
    record { same = k.same; exact = go (leb (length (take at o) + 5) (length o)) k.exact }
  where
    go : (b : Bool) → cond b (gives (take at o ++ (letter ∷ bytes32 old))) (stops no_room (length o)) ≡ numbered (Err stop)
        → cond b (into (length o) (take at o ++ (letter ∷ bytes32 new)) w) (stops no_room (length o)) ≡ numbered (Err stop)
    go true e = let z : ◌≡◌ {A = ℕ} 0 1 = cc in absurd (omega arith)
    go false e = e

-- A head that is put with one number, and what comes behind it: with another number it comes to the same there.
module _ (w : Writing) (letter old new : ℕ) {at a : ℕ} {o₀ o₁ : List ℕ} (head : Puts (emit (letter ∷ bytes32 old) ended) at o₀ (Ok a) o₁)
    (inside : at ≤ length o₀) where
  abbrev front : ℕ → List ℕ
  front x = take at o₀ ++ (letter ∷ bytes32 x)

  abbrev rest : Answer (List ℕ)
  rest = behind (length o₀) (at + 5) w

  fits : (leb (length (take at o₀) + 5) (length o₀) ≡ true) × (take a o₁ ≡ front old)
  unfolding into
  fits = go (leb (length (take at o₀) + 5) (length o₀)) head.exact.0
    where
      go : (b : Bool) → cond b (gives (front old)) (stops no_room (length o₀)) ≡ gives (take a o₁) → (b ≡ true) × (take a o₁ ≡ front old)
      go true e = (refl, cc)
      go false e = let z : ◌≡◌ {A = ℕ} 0 1 = cc in absurd (omega arith)

  pub head_room : at + 5 ≤ length o₀
  head_room = omega (arith, leb-true (length (take at o₀) + 5) (length o₀) fits.0, length-take-le at o₀ inside)

  front_rest : (x : ℕ) → into (length o₀) (front x) w ≡ onto (front x) rest
  front_rest x =
      let n : length (front x) ≡ at + 5 = length-append (take at o₀) (letter ∷ bytes32 x) ∙ omega (arith, length-take-le at o₀ inside) in
      into-behind (length o₀) (front x) w ∙ ap (λ k. onto (front x) (behind (length o₀) k w)) n

  was : into (length o₁) (take a o₁) w ≡ onto (front old) rest
  was = ap (λ k. into k (take a o₁) w) head.same ∙ ap (λ p. into (length o₀) p w) fits.1 ∙ front_rest old

  comes : into (length o₀) (take at o₀) (emit (letter ∷ bytes32 new) w) ≡ onto (front new) rest
  unfolding into
  comes = ap (λ b. cond b (into (length o₀) (front new) w) (stops no_room (length o₀))) fits.0 ∙ front_rest new

  module _ {o₂ : List ℕ} where
    pub behind-refused : {stop : Fault} → Puts w a o₁ (Err stop) o₂ → Puts (emit (letter ∷ bytes32 new) w) at o₀ (Err stop) o₂
    behind-refused k =
        record { same = k.same ∙ head.same; exact = comes ∙ ap (onto (front new)) (onto_stops (front old) rest (sym was ∙ k.exact)) }

    pub behind-done : {b : ℕ} {o₃ : List ℕ} → Puts w a o₁ (Ok b) o₂ → o₃ ≡ sets o₂ (at + 1) (bytes32 new)
        → Puts (emit (letter ∷ bytes32 new) w) at o₀ (Ok b) o₃
    behind-done {b} {o₃} k e =
        let d = onto_gives (front old) rest (sym was ∙ k.exact.0) in
        let more = d.0 in
        let n = length-take-le at o₀ inside in
        let l : length o₂ ≡ length o₀ = k.same ∙ head.same in
        let long : length (front new ++ more) ≡ b =
        length-append (front new) more ∙ ap (λ x. x + length more) (length-append (take at o₀) (letter ∷ bytes32 new))
        ∙ sym (length-append (front old) more ∙ ap (λ x. x + length more) (length-append (take at o₀) (letter ∷ bytes32 old)))
        ∙ ap length d.2 ∙ length-take-le b o₂ (omega (arith, k.exact.2, k.same)) in
        let q : o₃ ≡ (front new ++ more) ++ drop b o₂ =
        e
        ∙ stored (take at o₀) (more ++ drop b o₂) letter old new n
        (sym (take-append-drop b o₂) ∙ ap (λ x. x ++ drop b o₂) (sym d.2) ∙ append_assoc (front old) more (drop b o₂))
        ∙ sym (append_assoc (front new) more (drop b o₂)) in
        record {
          same = ap length e ∙ length-sets o₂ (at + 1) (bytes32 new) ∙ l;
          exact = (
            comes ∙ ap (onto (front new)) d.1 ∙ ap gives (sym (ap (take b) q ∙ take_at (front new ++ more) (drop b o₂) b long)),
            omega (arith, head.exact.1, k.exact.1),
            omega (arith, k.exact.2, head.same),
            ap (drop b) q ∙ drop_at (front new ++ more) (drop b o₂) b long ∙ k.exact.3 ∙ later o₁ o₀ a b head.exact.3 k.exact.1,
          );
        }

-- The tuple of local names.
module _ (t : Tables) (a kinds v : ℕ) {count first place at : ℕ} {o₀ o₁ : List ℕ} {r : Wrote} (some : 0 < a) (local : Localed t kinds v) (counts : count ≡ (node_of t v).count)
    (firsts : first ≡ (node_of t v).first) (places : place ≡ (node_of t kinds).place) (head : Puts (emit (0x28 ∷ bytes32 0) ended) at o₀ r o₁) where
  abbrev names : List ℕ
  names = in_locals t (record { first = first; count = count; kinds = place })

  abbrev tuple : Writing
  tuple = names_part t a v (in_groups t (contents_of t kinds) (kids_of t v))

  abbrev each_name : Writing
  each_name = each (string_part t (a - 1)) names

  tuple_as : {many : ℕ} → many ≡ length names → tuple ≡ emit (0x28 ∷ bytes32 many) each_name
  tuple_as {many} e = locals_part_lem t a kinds v many some local counts firsts places e

  pub locals-refused : {stop : Fault} → r ≡ Err stop → Puts tuple at o₀ (Err stop) o₁
  locals-refused is = puts_equal (head_refused each_name 0x28 0 (length names) (puts-told head is)) (tuple_as refl)

  module _ {p : ℕ} (is : r ≡ Ok p) (inside : at ≤ length o₀) {o₂ : List ℕ} {r' : Result Grouped Fault} (groups : Groups (string_part t (a - 1)) names 0 p o₁ r' o₂) where
    pub locals-stopped : {stop : Fault} → r' ≡ Err stop → Puts tuple at o₀ (Err stop) o₂
    locals-stopped is' =
        puts_equal (behind-refused each_name 0x28 0 (length names) (puts-told head is) inside (puts-told groups.puts (ap wrote_of is'))) (tuple_as refl)

    pub locals-done : {end : Grouped} {o₃ : List ℕ} → r' ≡ Ok end → o₃ ≡ sets o₂ (at + 1) (bytes32 end.counted) → Puts tuple at o₀ (Ok end.at) o₃
    locals-done {end} is' e =
        let m : end.counted ≡ length names = omega (arith, counted_as groups.count is') in
        puts_equal (behind-done each_name 0x28 0 end.counted (puts-told head is) inside (puts-told groups.puts (ap wrote_of is')) e) (tuple_as m)

    pub locals-room : at + 5 ≤ length o₂
    locals-room = omega (arith, head_room each_name 0x28 0 0 (puts-told head is) inside, groups.puts.same, head.same)
