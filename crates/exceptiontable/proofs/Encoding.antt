-- What holds at each turn of the writing's loop: the entries still to come make the same answer and the same output.
-- Assumes nothing.
use mathlib.Core.Path.{◌≡◌, refl, sym, ap, ◌∙◌}
use mathlib.Core.Bool.{Bool, true, false, cond, ◌&&◌}
use mathlib.Core.List.{List, [], ◌∷◌, ◌++◌}
use Prim.Native.Nat.{ℕ, zero, suc, ◌+◌, ◌*◌, ◌/◌, ◌-◌, ◌^◌, ◌≤◌, ◌<◌, min}
use native.Mathlib.Nat.{add-zero, min-le_left}
use native.Mathlib.Omega.{arith}
use borrow.Author.Tests.{ltb-false, lt-ltb, le-ltb}
use lib.Dec.{ltb}
use lib.ListN.{length, get_or, set, length-append}
use lib.Seq.{sets, length-sets}
use Rattle.std.specs.Prelude.{Result, Ok, Err}
use Rattle.refusals.specs.Faults.{fault, refused}
use Rattle.refusals.specs.declared.Refusal.TheVariants.{NoRoom, NumberRange}
use Rattle.refusals.specs.declared.Fault.{Fault}
use Rattle.refusals.specs.Limits.{nothing}
use Rattle.clearing.specs.Lent.{zeros}
use Rattle.clearing.proofs.Laws.{sets-padded}
use Rattle.varint.specs.Writing.{big_endian, big_endian_with_start}
use Rattle.varint.proofs.Groups.{size}
use Rattle.varint.proofs.Bytes.{length_big, length_big_with_start}
use Rattle.exceptiontable.specs.Entry.{Entry, entry_in, entries_in}
use Rattle.exceptiontable.specs.Writing.{code_of, bytes_of, table_of, encoded_from, held, encoded_of}

-- how many bytes an entry takes
abbrev pub entry_size : Entry → ℕ
entry_size e = size e.start + size e.size + size e.target + size (code_of e)

pub length-bytes : (e : Entry) → length (bytes_of e) ≡ entry_size e
unfolding bytes_of
length-bytes e =
    simp length-append
    (omega (arith, length_big_with_start e.start, length_big e.size, length_big e.target, length_big (code_of e)))

-- bytes stored one behind the other are stored at once
pub sets-append : (out : List ℕ) (at : ℕ) (xs ys : List ℕ) → sets out at (xs ++ ys) ≡ sets (sets out at xs) (at + length xs) ys
sets-append out at [] ys = rw add-zero
sets-append out at (x ∷ xs) ys =
    let e : suc at + length xs ≡ at + suc (length xs) = omega arith in
    rw (sets-append (set out at x) (suc at) xs ys, e)

-- four numbers put one behind the other are an entry
module _ (out : List ℕ) (used : ℕ) (e : Entry) {a b c d : List ℕ} {i j k l : ℕ}
    (p : i ≡ used + size e.start) (o : a ≡ sets out used (big_endian_with_start e.start))
    (q : j ≡ i + size e.size) (r : b ≡ sets a i (big_endian e.size))
    (s : k ≡ j + size e.target) (t : c ≡ sets b j (big_endian e.target))
    (u : l ≡ k + size (code_of e)) (v : d ≡ sets c k (big_endian (code_of e))) where
  pub put_end : l ≡ used + length (bytes_of e)
  put_end = omega (arith, length-bytes e)

  pub put-bytes : d ≡ sets out used (bytes_of e)
  unfolding bytes_of
  put-bytes =
      let x : used + length (big_endian_with_start e.start) ≡ i = omega (arith, length_big_with_start e.start) in
      let y : i + length (big_endian e.size) ≡ j = omega (arith, length_big e.size) in
      let z : j + length (big_endian e.target) ≡ k = omega (arith, length_big e.target) in
      rw (v, t, r, o)
      (sym
      (sets-append out used (big_endian_with_start e.start) _
      ∙ rw x (sets-append (sets out used (big_endian_with_start e.start)) i (big_endian e.size) _
      ∙ rw y (sets-append (sets (sets out used (big_endian_with_start e.start)) i (big_endian e.size)) j (big_endian e.target) _ ∙ rw z))))

-- what the entries still to come make, over an output that holds so many bytes
abbrev pub onto : ℕ → List ℕ → ℕ → List Entry → Result ℕ Fault → Result ℕ Fault × List ℕ
onto room out used es (Ok count) = (Ok count, sets out used (table_of es))
onto room out used es (Err why) = (Err why, zeros room)

joined : (n : ℕ) (e : Entry) (es : List Entry) → n + length (bytes_of e) + length (table_of es) ≡ n + length (bytes_of e ++ table_of es)
joined n e es = rw length-append (omega arith)

-- an accepted writing ends behind its bytes, within the room
done-fits : (most used : ℕ) (es : List Entry) (count : ℕ) → used ≤ most → encoded_from most used es ≡ Ok count
    → (count ≡ used + length (table_of es)) × (count ≤ most)
unfolding encoded_from table_of
done-fits most used [] count h e =
    let c : used ≡ count = cc in
    (omega (arith, c), omega (arith, c))
done-fits most used (x ∷ es) count h e =
    go (ltb x.depth (2 ^ 31)) (ltb x.last 2) (ltb most (used + length (bytes_of x))) refl e (done-fits most (used + length (bytes_of x)) es count)
  where
    go : (s t f : Bool) → ltb most (used + length (bytes_of x)) ≡ f
        → cond (s && t) (cond f (refused NoRoom most) (encoded_from most (used + length (bytes_of x)) es)) (refused NumberRange 0) ≡ Ok count
        → (used + length (bytes_of x) ≤ most → encoded_from most (used + length (bytes_of x)) es ≡ Ok count
        → (count ≡ used + length (bytes_of x) + length (table_of es)) × (count ≤ most))
        → (count ≡ used + length (bytes_of x ++ table_of es)) × (count ≤ most)
    go true true false d e i =
        let r = i (ltb-false most (used + length (bytes_of x)) d) e in
        (r.0 ∙ joined used x es, r.1)
    go true true true d e i = let z : ◌≡◌ {A = ℕ} 0 1 = cc in absurd (omega arith)
    go true false f d e i = let z : ◌≡◌ {A = ℕ} 0 1 = cc in absurd (omega arith)
    go false t f d e i = let z : ◌≡◌ {A = ℕ} 0 1 = cc in absurd (omega arith)

pub record EncodedSoFar (store : List ℕ) (room : ℕ) (out : List ℕ) (at used left : ℕ) : Type 0 where
  pub comes :
      onto room out used (entries_in store at left) (encoded_from (min room nothing) used (entries_in store at left))
      ≡ encoded_of store room
  pub place : at + 5 * left ≤ length store
  pub within : used ≤ min room nothing
  pub same : length out ≡ room

-- nothing is written yet
start_onto : (room : ℕ) (es : List Entry) → onto room (zeros room) 0 es (encoded_from (min room nothing) 0 es) ≡ held room (table_of es) (encoded_from (min room nothing) 0 es)
start_onto room es = go (encoded_from (min room nothing) 0 es) refl
  where
    go : (x : Result ℕ Fault) → encoded_from (min room nothing) 0 es ≡ x → onto room (zeros room) 0 es x ≡ held room (table_of es) x
    go (Ok count) e =
        let f = done-fits (min room nothing) 0 es count (omega arith) e in
        rw (sets-padded room (table_of es) (omega (arith, f.0, f.1, min-le_left room nothing)))
    go (Err why) e = refl

pub encoded_start : (store out : List ℕ) → out ≡ zeros (length out) → EncodedSoFar store (length out) out 0 0 (length store / 5)
unfolding encoded_of
encoded_start store out z =
    let es = entries_in store 0 (length store / 5) in
    record {
      comes =
          ap (λ (o : List ℕ). onto (length out) o 0 es (encoded_from (min (length out) nothing) 0 es)) z
          ∙ start_onto (length out) es;
      place = omega arith;
      within = omega arith;
      same = refl;
    }

-- the two ways out of range
deep : (depth last : ℕ) → 2 ^ 31 ≤ depth → ltb depth (2 ^ 31) && ltb last 2 ≡ false
deep depth last h = rw (le-ltb depth (2 ^ 31) h)

no_bit : (depth last : ℕ) → 2 ≤ last → ltb depth (2 ^ 31) && ltb last 2 ≡ false
no_bit depth last h = rw (le-ltb last 2 h) (go (ltb depth (2 ^ 31)))
  where
    go : (t : Bool) → t && false ≡ false
    go true = refl
    go false = refl

module _ {store : List ℕ} {room : ℕ} {out : List ℕ} {at used left : ℕ} (k : EncodedSoFar store room out at used left) where
  -- the entry that comes next
  next_entries : 0 < left → entries_in store at left ≡ entry_in store at ∷ entries_in store (at + 5) (left - 1)
  unfolding entries_in
  next_entries h = go left h
    where
      go : (n : ℕ) → 0 < n → entries_in store at n ≡ entry_in store at ∷ entries_in store (at + 5) (n - 1)
      go zero z = absurd (omega arith)
      go (suc n) z = let e : suc n - 1 ≡ n = omega arith in rw e

  -- "a depth of 2^31 or more when writing 18", or a bit above 1
  encoded_range : {why : Fault} → 0 < left → ltb (get_or store (at + 3) 0) (2 ^ 31) && ltb (get_or store (at + 4) 0) 2 ≡ false
      → why ≡ fault NumberRange 0 → (Err why, zeros (length out)) ≡ encoded_of store room
  unfolding encoded_from
  encoded_range h w f = rw (f, k.same) (rw (next_entries h, w) at k.comes)

  pub encoded_deep : {why : Fault} → 0 < left → 2 ^ 31 ≤ get_or store (at + 3) 0 → why ≡ fault NumberRange 0
      → (Err why, zeros (length out)) ≡ encoded_of store room
  encoded_deep h d f = encoded_range h (deep (get_or store (at + 3) 0) (get_or store (at + 4) 0) d) f

  pub encoded_no_bit : {why : Fault} → 0 < left → 2 ≤ get_or store (at + 4) 0 → why ≡ fault NumberRange 0
      → (Err why, zeros (length out)) ≡ encoded_of store room
  encoded_no_bit h b f = encoded_range h (no_bit (get_or store (at + 3) 0) (get_or store (at + 4) 0) b) f

  pub encoded_full : {why : Fault} → 0 < left → get_or store (at + 3) 0 < 2 ^ 31 → get_or store (at + 4) 0 < 2
      → min room nothing < used + length (bytes_of (entry_in store at)) → why ≡ fault NoRoom (min room nothing)
      → (Err why, zeros (length out)) ≡ encoded_of store room
  unfolding encoded_from
  encoded_full h d l f w =
      rw (w, k.same)
      (rw (next_entries h, lt-ltb _ _ d, lt-ltb _ _ l, lt-ltb (min room nothing) (used + length (bytes_of (entry_in store at))) f) at k.comes)

  pub encoded_turn : {out' : List ℕ} {used' : ℕ} → 0 < left → get_or store (at + 3) 0 < 2 ^ 31 → get_or store (at + 4) 0 < 2
      → used + length (bytes_of (entry_in store at)) ≤ min room nothing
      → used' ≡ used + length (bytes_of (entry_in store at)) → out' ≡ sets out used (bytes_of (entry_in store at))
      → {at' left' : ℕ} → at' ≡ at + 5 → left' ≡ left - 1 → EncodedSoFar store room out' at' used' left'
  unfolding encoded_from table_of
  encoded_turn {out'} {used'} h d l f u o {at'} {left'} p q =
      let e = entry_in store at in
      let es = entries_in store (at + 5) (left - 1) in
      rw (p, q) (record {
        comes =
            ap (λ (r : List ℕ). onto room r used' es (encoded_from (min room nothing) used' es)) o
            ∙ ap (λ (n : ℕ). onto room (sets out used (bytes_of e)) n es (encoded_from (min room nothing) n es)) u
            ∙ go (encoded_from (min room nothing) (used + length (bytes_of e)) es)
            (rw (next_entries h, lt-ltb _ _ d, lt-ltb _ _ l, le-ltb (min room nothing) (used + length (bytes_of e)) f) at k.comes);
        place = omega (arith, k.place);
        within = omega (arith, u);
        same = rw o (length-sets out used (bytes_of e) ∙ k.same);
      })
    where
      go : (x : Result ℕ Fault) → onto room out used (entry_in store at ∷ entries_in store (at + 5) (left - 1)) x ≡ encoded_of store room
          → onto room (sets out used (bytes_of (entry_in store at))) (used + length (bytes_of (entry_in store at))) (entries_in store (at + 5) (left - 1)) x
          ≡ encoded_of store room
      go (Ok count) c =
          ap (λ (o : List ℕ). (Ok count, o)) (sym (sets-append out used (bytes_of (entry_in store at)) (table_of (entries_in store (at + 5) (left - 1))))) ∙ c
      go (Err why) c = c

  pub encoded_end : left ≡ 0 → (Ok used, out) ≡ encoded_of store room
  unfolding entries_in encoded_from table_of
  encoded_end e = rw e at k.comes
