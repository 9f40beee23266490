-- The written form is the shortest: bytes that read as a number are no fewer than those that it is written as.
-- What a reading passes bounds the size of the number, group by group, and a smaller number takes no more bytes.
-- Assumes nothing.
use Rattle.std.specs.Prelude.{Option, Some, None}
use Rattle.std.proofs.Common.{◌≡◌, ℕ, suc, ◌+◌, ◌-◌, ◌*◌, ◌/◌, ◌%◌, ◌^◌, ◌<◌, ◌≤◌, Bool, true, false, cond, eqb, ltb, leb, List, [], ◌∷◌, length, get_or, drop, sym, refl, ap, ◌∙◌, arith, drop-cons, ltb-false, ltb-true}
use borrow.Author.Tests.{eqb-false}
use Rattle.refusals.specs.declared.Refusal.TheVariants.{NumberRange}
use Rattle.lineentry.specs.declared.Varint.{Varint}
use Rattle.lineentry.specs.Line.{as_signed}
use Rattle.lineentry.specs.Varint.{read_as, digits, number, cut, varint_within, varint_at, signed_of, signed, signed_at}
use Rattle.lineentry.proofs.Varints.{same-parts}
use Rattle.varint.specs.Writing.{little_endian, big_endian, big_endian_with_start, signed_code}
use Rattle.varintread.specs.Reading.{Reading, found, nothing, unread, more, whole_at, read_groups, read_varint, read_varint_with_start}
use Rattle.std.specs.Prelude.{Ok, Err, Some, None}
use Rattle.varint.proofs.Groups.{size, size-last, size_mono, size_below}
use Rattle.varint.proofs.Bytes.{length_little, length_big, length_big_with_start}

-- what holds of both holds of either
either : {A : Type 0} (P : A → Type 0) (t : Bool) (x y : A) → P x → P y → P (cond t x y)
either P true x y h k = h
either P false x y h k = k

-- An answer whose number, written after a place, would end where the reading did or before, but for so many bytes.
abbrev Within : ℕ → ℕ → Reading → Type 0
Within at over (Ok (Some f)) = at + size f.value ≤ f.next + over
Within at over (Ok None) = Unit {0}
Within at over (Err f) = Unit {0}

within_less : (at over at' over' : ℕ) (r : Reading) → at + over' ≤ at' + over → Within at' over' r → Within at over r
within_less at over at' over' (Ok (Some f)) h k = omega arith
within_less at over at' over' (Ok None) h k = tt
within_less at over at' over' (Err f) h k = tt

whole-within : (at over start val next : ℕ) → at + size val ≤ next + over → Within at over (whole_at start val next)
whole-within at over start val next h =
    either (Within at over) (ltb val (2 ^ 32)) (found val next) (unread NumberRange start) h tt

-- each byte read makes room for one group more
groups-within : (bytes : List ℕ) (at val next : ℕ) → Within next (size val) (read_groups at val next bytes)
unfolding read_groups
groups-within [] at val next = tt
groups-within (b ∷ bytes) at val next =
    let up = val * 64 + b % 64 in
    let s = size_below val (b % 64) (omega arith) in
    either (Within next (size val)) (more b) (read_groups at up (next + 1) bytes) (whole_at at up (next + 1))
    (within_less next (size val) (next + 1) (size up) (read_groups at up (next + 1) bytes) (omega arith) (groups-within bytes at up (next + 1)))
    (whole-within next (size val) at up (next + 1) (omega arith))

varint_within_lem : (bytes : List ℕ) (at : ℕ) → Within at 0 (read_varint bytes at)
unfolding read_varint read_groups
varint_within_lem bytes at = go (ltb at (length bytes)) refl
  where
    go : (t : Bool) → ltb at (length bytes) ≡ t → Within at 0 (read_varint bytes at)
    go true e =
        let b = get_or bytes at 0 in
        let rest = drop (suc at) bytes in
        let first = 0 * 64 + b % 64 in
        let one : size first ≡ 1 = size-last first (omega arith) in
        rw (e, drop-cons bytes at 0 (ltb-true at (length bytes) e))
        (either (Within at 0) (more b) (read_groups at first (at + 1) rest) (whole_at at first (at + 1))
        (within_less at 0 (at + 1) (size first) (read_groups at first (at + 1) rest) (omega arith) (groups-within rest at first (at + 1)))
        (whole-within at 0 at first (at + 1) (omega arith)))
    go false e = rw e tt

pub big_endian-shortest : (bytes : List ℕ) (at n next : ℕ) → read_varint bytes at ≡ found n next → at + length (big_endian n) ≤ next
big_endian-shortest bytes at n next h =
    let w : Within at 0 (found n next) = rw h at (varint_within_lem bytes at) in
    omega (arith, length_big n)

pub with_start_shortest : (bytes : List ℕ) (at n next : ℕ)
    → read_varint_with_start bytes at ≡ found n next → at + length (big_endian_with_start n) ≤ next
unfolding read_varint_with_start
with_start_shortest bytes at n next h =
    let w : Within at 0 (found n next) =
    rw h at
    (either (Within at 0) (leb 0x80 (get_or bytes at 0)) (read_varint bytes at) nothing (varint_within_lem bytes at) tt)
    in
    omega (arith, length_big_with_start n)

-- The same of a line table's numbers: the digits of a number that is not cut are as many as it is written with, or more.
digits_hold : (s : List ℕ) → cut s ≡ false → size (number (digits s)) ≤ length (digits s)
digits_hold [] c = let q : ◌≡◌ {A = ℕ} 0 1 = ap (λ (b : Bool). cond b 0 1) c in absurd (omega (arith, q))
digits_hold (b ∷ s) c = go (leb 64 (b % 128)) refl c (digits_hold s)
  where
    go : (t : Bool) → leb 64 (b % 128) ≡ t → cut (b ∷ s) ≡ false → (cut s ≡ false → size (number (digits s)) ≤ length (digits s))
        → size (number (digits (b ∷ s))) ≤ length (digits (b ∷ s))
    go true e k i =
        let q : cut s ≡ false = rw e at k in
        let r : b % 64 + 64 * number (digits s) ≡ number (digits s) * 64 + b % 64 = omega arith in
        rw (e, r) (omega (arith, i q, size_below (number (digits s)) (b % 64) (omega arith)))
    go false e k i =
        let r : b % 64 + 64 * 0 ≡ b % 64 = omega arith in
        rw (e, r) (omega (arith, size-last (b % 64) (omega arith)))

-- A number that was read whole: the sum of its groups, and its place after as many bytes.
record Whole (s : List ℕ) (at n next : ℕ) : Type 0 where
  pub sum : number (digits (drop at s)) ≡ n
  pub in-32 : n < 2 ^ 32
  pub after : next ≡ at + length (digits (drop at s))
  pub not_cut : cut (drop at s) ≡ false

read_whole : (s : List ℕ) (at n next : ℕ) → varint_at s at ≡ read_as n next false → Whole s at n next
unfolding varint_within
read_whole s at n next h = go (leb (length (digits (drop at s))) 6) (ltb (number (digits (drop at s))) (2 ^ 32)) refl refl h
  where
    none : None ≡ read_as n next false → Whole s at n next
    none q = let z : ◌≡◌ {A = ℕ} 0 1 = cc in absurd (omega (arith, z))

    go : (t u : Bool) → leb (length (digits (drop at s))) 6 ≡ t → ltb (number (digits (drop at s))) (2 ^ 32) ≡ u → varint_at s at ≡ read_as n next false → Whole s at n next
    go true true e d k =
        let q : read_as (number (digits (drop at s))) (at + length (digits (drop at s))) (cut (drop at s)) ≡ read_as n next false = rw (e, d) at k in
        let r = same-parts q in
        record { sum = r.0; in-32 = omega (arith, r.0, ltb-true (number (digits (drop at s))) (2 ^ 32) d); after = sym r.1; not_cut = r.2 }
    go true false e d k = none (rw (e, d) at k)
    go false u e d k = none (rw e at k)

whole-shortest : (s : List ℕ) (at n next m : ℕ) → Whole s at n next → m ≤ n → at + length (little_endian m) ≤ next
whole-shortest s at n next m w h =
    omega (arith, w.after, length_little m, digits_hold (drop at s) w.not_cut, size_mono m (number (digits (drop at s))) (omega (arith, w.sum)))

pub little_endian-shortest : (s : List ℕ) (at n next : ℕ) → varint_at s at ≡ read_as n next false → at + length (little_endian n) ≤ next
little_endian-shortest s at n next h = whole-shortest s at n next n (read_whole s at n next h) (omega arith)

-- the code of a signed number is the least that stands for it
code-least : (code bits : ℕ) → code < 2 ^ 32 → bits < 2 ^ 32 → signed_of code ≡ as_signed bits → signed_code bits ≤ code
unfolding as_signed
code-least code bits fc fb h = go (eqb (code % 2) 0) (ltb bits (2 ^ 31)) refl refl h
  where
    go : (even low : Bool) → eqb (code % 2) 0 ≡ even → ltb bits (2 ^ 31) ≡ low → signed_of code ≡ as_signed bits → signed_code bits ≤ code
    go true true d e k = let q : 2147483648 + code / 2 ≡ bits + 2147483648 = rw (d, e) at k in rw e (omega arith)
    go true false d e k = let q : 2147483648 + code / 2 ≡ bits - 2147483648 = rw (d, e) at k in absurd (omega (arith, ltb-false bits (2 ^ 31) e))
    go false true d e k = let q : 2147483648 - code / 2 ≡ bits + 2147483648 = rw (d, e) at k in rw e (omega arith)
    go false false d e k =
        let q : 2147483648 - code / 2 ≡ bits - 2147483648 = rw (d, e) at k in
        rw e (omega (arith, ltb-false bits (2 ^ 31) e, eqb-false (code % 2) 0 d))

-- the number of a signed answer, before its lowest bit was taken for the sign
pub signed-shortest : (s : List ℕ) (at bits next : ℕ) → bits < 2 ^ 32 → signed_at s at ≡ read_as (as_signed bits) next false
    → at + length (little_endian (signed_code bits)) ≤ next
unfolding signed_at
signed-shortest s at bits next f h = go (varint_at s at) refl h
  where
    go : (v : Option Varint) → varint_at s at ≡ v → signed v ≡ read_as (as_signed bits) next false → at + length (little_endian (signed_code bits)) ≤ next
    go (Some v) e k =
        let r = same-parts k in
        let w = read_whole s at v.value next (e ∙ rw (r.1, r.2)) in
        whole-shortest s at v.value next (signed_code bits) w (code-least v.value bits w.in-32 f r.0)
    go None e k = let z : ◌≡◌ {A = ℕ} 0 1 = cc in absurd (omega (arith, z))
