-- What a reading says, in each of its three cases; and 02's K5: which numbers are refused, at their start.
-- By induction over the bytes that say more. Assumes nothing.
use mathlib.Core.Path.{◌≡◌, refl}
use mathlib.Core.Logic.{◌⊎◌, inl, inr, ⊎_elim}
use mathlib.Core.Bool.{Bool, true, false, cond}
use mathlib.Core.List.{List, [], ◌∷◌}
use Prim.Native.Nat.{ℕ, ◌+◌, ◌*◌, ◌%◌, ◌^◌, ◌≤◌, ◌<◌}
use native.Mathlib.Omega.{arith}
use borrow.Author.Tests.{ltb-true, lt-ltb}
use lib.Dec.{ltb, leb}
use lib.ListN.{length, get_or, drop, length-drop}
use Rattle.refusals.specs.Numbers.{accepted}
use Rattle.refusals.specs.declared.Refusal.TheVariants.{DataTooShort, NumberRange}
use Rattle.varintread.specs.Reading.{Reading, unread, nothing, more, whole_at, read_groups, read_varint, read_varint_with_start}
use Rattle.varintread.specs.Reading.{FoundNumbers, found_numbers}
use Rattle.std.specs.Prelude.{Ok, Err, Some, None}

-- A number of 32 bits that ends behind a place, within so many bytes; nothing; or one of two refusals, at the number's start.
abbrev pub Told : ℕ → ℕ → ℕ → Reading → Type 0
Told count at from (Ok (Some f)) = (f.value < 2 ^ 32) × (from < f.next) × (f.next ≤ count)
Told count at from (Ok None) = Unit {0}
Told count at from (Err f) = (f.place ≡ at) × ((f.refusal ≡ DataTooShort) ⊎ (f.refusal ≡ NumberRange))

told_later : (count at from : ℕ) (r : Reading) → Told count at (from + 1) r → Told count at from r
told_later count at from (Ok (Some f)) h = (h.0, omega arith, h.2)
told_later count at from (Ok None) h = tt
told_later count at from (Err f) h = h

either : {A : Type 0} (P : A → Type 0) (t : Bool) (x y : A) → P x → P y → P (cond t x y)
either P true x y h k = h
either P false x y h k = k

whole_told_lem : (count at val next : ℕ) → next + 1 ≤ count → Told count at next (whole_at at val (next + 1))
whole_told_lem count at val next h = go (ltb val (2 ^ 32)) refl
  where
    go : (t : Bool) → ltb val (2 ^ 32) ≡ t → Told count at next (whole_at at val (next + 1))
    go true e = rw e (ltb-true val (2 ^ 32) e, omega arith, h)
    go false e = rw e (refl, inr refl)

groups-told : (bytes : List ℕ) (count at val next : ℕ) → next + length bytes ≤ count → Told count at next (read_groups at val next bytes)
unfolding read_groups
groups-told [] count at val next h = (refl, inl refl)
groups-told (b ∷ bytes) count at val next h =
    let up = val * 64 + b % 64 in
    either (Told count at next) (more b) (read_groups at up (next + 1) bytes) (whole_at at up (next + 1))
    (told_later count at next (read_groups at up (next + 1) bytes) (groups-told bytes count at up (next + 1) (omega arith)))
    (whole_told_lem count at up next (omega arith))

pub varint_told : (bytes : List ℕ) (at : ℕ) → Told (length bytes) at at (read_varint bytes at)
unfolding read_varint
varint_told bytes at = go (ltb at (length bytes)) refl
  where
    go : (t : Bool) → ltb at (length bytes) ≡ t → Told (length bytes) at at (read_varint bytes at)
    go true e =
        let h = ltb-true at (length bytes) e in
        rw e (groups-told (drop at bytes) (length bytes) at 0 at (simp length-drop (omega arith)))
    go false e = rw e tt

pub with_start_told : (bytes : List ℕ) (at : ℕ) → Told (length bytes) at at (read_varint_with_start bytes at)
unfolding read_varint_with_start
with_start_told bytes at =
    either (Told (length bytes) at at) (leb 0x80 (get_or bytes at 0)) (read_varint bytes at) nothing (varint_told bytes at) tt

-- An answer's numbers say one of three things, and no two of them: none and found differ in `found`, a refusal from both in `refusal`.
abbrev pub Says : ℕ → FoundNumbers → Type 0
Says at x =
    ((x.refusal ≡ accepted) × (x.found ≡ 0) × (x.next ≡ at))
    ⊎ (((x.refusal ≡ accepted) × (x.found ≡ 1) × (at < x.next))
    ⊎ ((accepted < x.refusal) × (x.found ≡ 0) × (x.place ≡ at) × (x.next ≡ at)))

says : (count at : ℕ) (r : Reading) → Told count at at r → Says at (found_numbers at r)
says count at (Ok (Some f)) h = inr (inl (refl, refl, h.1))
says count at (Ok None) h = inl (refl, refl, refl)
says count at (Err f) h = inr (inr (⊎_elim (λ e. rw e (omega arith)) (λ e. rw e (omega arith)) h.1, refl, h.0, refl))

pub varint_says : (bytes : List ℕ) (at : ℕ) → Says at (found_numbers at (read_varint bytes at))
varint_says bytes at = says (length bytes) at (read_varint bytes at) (varint_told bytes at)

pub with_start_says : (bytes : List ℕ) (at : ℕ) → Says at (found_numbers at (read_varint_with_start bytes at))
with_start_says bytes at = says (length bytes) at (read_varint_with_start bytes at) (with_start_told bytes at)

-- "a number cut by the end": every byte from its start on says more, whatever they add up to
abbrev pub EveryMore : List ℕ → Type 0
EveryMore [] = Unit {0}
EveryMore (b ∷ bytes) = (more b ≡ true) × EveryMore bytes

groups-cut : (bytes : List ℕ) (at val next : ℕ) → EveryMore bytes → read_groups at val next bytes ≡ unread DataTooShort at
unfolding read_groups
groups-cut [] at val next h = refl
groups-cut (b ∷ bytes) at val next h = rw h.0 (groups-cut bytes at (val * 64 + b % 64) (next + 1) h.1)

pub cut-refused : (bytes : List ℕ) (at : ℕ) → at < length bytes → EveryMore (drop at bytes) → read_varint bytes at ≡ unread DataTooShort at
unfolding read_varint
cut-refused bytes at h k = rw (lt-ltb at (length bytes) h) (groups-cut (drop at bytes) at 0 at k)

-- leading zero groups are free
pub zero_group_free : (bytes : List ℕ) (at next : ℕ) → read_groups at 0 next (0x40 ∷ bytes) ≡ read_groups at 0 (next + 1) bytes
unfolding read_groups
zero_group_free bytes at next = refl
