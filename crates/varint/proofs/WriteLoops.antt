-- What holds at each turn of the writers' two loops: the bytes still to come make the same whole, and there are as many of them as
-- are left of the count. Assumes nothing.
use Rattle.std.proofs.Common.{◌≡◌, ℕ, suc, ◌+◌, ◌-◌, ◌/◌, ◌%◌, ◌<◌, ◌≤◌, Bool, true, false, ltb, List, [], ◌∷◌, ◌++◌, length, get_or, set, sym, refl, ap, ◌∙◌, add-zero, add-one, arith, length-append, length-set, get_or-set_other, get_or-set_same, set-set, ltb-false, ltb-true, le-leb}
use borrow.Author.Tests.{lt-leb}
use lib.Seq.{sets, set_comm}
use Rattle.refusals.specs.Faults.{fault}
use Rattle.refusals.specs.declared.Fault.{Fault}
use Rattle.refusals.specs.declared.Refusal.TheVariants.{NoRoom}
use Rattle.std.specs.Prelude.{Result, Ok, Err}
use Rattle.clearing.specs.Lent.{zeros}
use Rattle.clearing.proofs.Laws.{sets-padded}
use Rattle.varint.specs.Writing.{little_endian, big_endian, started, big_endian_with_start}
use Rattle.varint.specs.Answers.{stored}
use Rattle.varint.proofs.Groups.{size, size-last, size_more, size-some}
use Rattle.varint.proofs.Bytes.{little_last, little_more, ahead, ahead_none, ahead_more, big_last, first_big, length_big}

-- ---- put_varint

-- little-endian bytes from the front: i of them stand, those of `left` are to come
pub record LittleSoFar (out₀ : List ℕ) (val count : ℕ) (out : List ℕ) (i left : ℕ) : Type 0 where
  pub comes : sets out i (little_endian left) ≡ sets out₀ 0 (little_endian val)
  pub to_come : i + size left ≡ count
  pub all : count ≡ size val
  pub room : count ≤ length out
  pub some : 1 ≤ count
  pub same : length out ≡ length out₀

-- one byte to come is the last
one_left : (n : ℕ) → size n ≤ 1 → n < 64
one_left n h = go (ltb n 64) refl
  where
    go : (t : Bool) → ltb n 64 ≡ t → n < 64
    go true e = ltb-true n 64 e
    go false e = absurd (omega (arith, size_more n (ltb-false n 64 e), size-some (n / 64)))

two_left : (n : ℕ) → 2 ≤ size n → 64 ≤ n
two_left n h = go (ltb n 64) refl
  where
    go : (t : Bool) → ltb n 64 ≡ t → 64 ≤ n
    go true e = absurd (omega (arith, size-last n (ltb-true n 64 e)))
    go false e = ltb-false n 64 e

pub little_start : (out : List ℕ) (val count : ℕ) → count ≡ size val → size val ≤ length out
    → LittleSoFar out val count out 0 val
little_start out val count e k =
    record {
      comes = refl;
      to_come = omega arith;
      all = e;
      room = omega arith;
      some = omega (arith, size-some val);
      same = refl;
    }

module _ {out₀ out : List ℕ} {val count i left : ℕ} (k : LittleSoFar out₀ val count out i left) where
  pub little_turn : i < count - 1 → LittleSoFar out₀ val count (set out i (0x40 + left % 64)) (i + 1) (left / 64)
  little_turn h =
      let m = two_left left (omega arith) in
      record {
        comes = rw add-one (rw (little_more left m) at k.comes);
        to_come = omega (arith, size_more left m);
        all = k.all;
        room = simp length-set k.room;
        some = k.some;
        same = simp length-set k.same;
      }

  pub little_last_group : count - 1 ≤ i → left < 64
  little_last_group h = one_left left (omega arith)

  pub little_end : count - 1 ≤ i → set out (count - 1) left ≡ sets out₀ 0 (little_endian val)
  little_end h =
      let e : i ≡ count - 1 = omega (arith, size-some left) in
      rw (little_last left (little_last_group h), e) at k.comes

-- ---- put_varint_be

-- a byte stored beyond those that are to come
sets_last : (out : List ℕ) (at : ℕ) (bytes : List ℕ) (b : ℕ) → sets out at (bytes ++ b ∷ []) ≡ sets (set out (at + length bytes) b) at bytes
sets_last out at [] b = rw add-zero
sets_last out at (x ∷ bytes) b =
    let e : suc at + length bytes ≡ at + suc (length bytes) = omega arith in
    sets_last (set out at x) (suc at) bytes b
    ∙ ap (λ (l : List ℕ). sets l (suc at) bytes) (set_comm out at (suc at + length bytes) x b (λ d. omega arith))
    ∙ ap (λ (n : ℕ). sets (set (set out n b) at x) (suc at) bytes) e

-- big-endian bytes from the back: those from i on stand, those of `above` go in front; the last one stood from the start
pub record BigSoFar (out₀ : List ℕ) (at val : ℕ) (out : List ℕ) (i above : ℕ) : Type 0 where
  pub comes : sets out at (ahead above) ≡ sets out₀ at (ahead (val / 64))
  pub place : at + length (ahead above) ≡ i
  pub within : i < length out
  pub same : length out ≡ length out₀

-- the place of the last byte
last_place : (at val : ℕ) → at + length (ahead (val / 64)) ≡ at + size val - 1
last_place at val = omega (arith, simp length-append at (ap length (big_last val)), length_big val)

pub big_start : (out : List ℕ) (at val end : ℕ) → end ≡ at + size val → at + size val ≤ length out
    → BigSoFar out at val out (end - 1) (val / 64)
big_start out at val end e k =
    record {
      comes = refl;
      place = last_place at val ∙ ap (λ (n : ℕ). n - 1) (sym e);
      within = omega (arith, size-some val);
      same = refl;
    }

module _ {out₀ out : List ℕ} {at val i above : ℕ} (k : BigSoFar out₀ at val out i above) where
  -- bytes to come are those of a number that is not zero
  some-above : at < i → 0 < above
  some-above h = go (ltb 0 above) refl
    where
      go : (t : Bool) → ltb 0 above ≡ t → 0 < above
      go true e = ltb-true 0 above e
      go false e =
          let z : above ≡ 0 = omega (arith, ltb-false 0 above e) in
          absurd (omega (arith, k.place, ap (λ (n : ℕ). length (ahead n)) z, ap length ahead_none))

  pub big_turn : at < i → BigSoFar out₀ at val (set out (i - 1) (0x40 + above % 64)) (i - 1) (above / 64)
  big_turn h =
      let m = ahead_more above (some-above h) in
      let l = simp length-append at (ap length m) in
      let e : at + length (ahead (above / 64)) ≡ i - 1 = omega (arith, k.place) in
      record {
        comes = rw (← e) (sym (sets_last out at (ahead (above / 64)) (0x40 + above % 64)) ∙ rw m at k.comes);
        place = e;
        within = simp length-set (omega (arith, k.within));
        same = simp length-set k.same;
      }

  -- nothing in front
  pub big_end : (lent : List ℕ) (end : ℕ) → out₀ ≡ set lent (end - 1) (val % 64) → end ≡ at + size val → i ≤ at
      → out ≡ sets lent at (big_endian val)
  big_end lent end first e h =
      rw (go (ahead above) k.comes k.place, first, big_last val, e, ← last_place at val)
      (sym (sets_last lent at (ahead (val / 64)) (val % 64)))
    where
      go : (bytes : List ℕ) → sets out at bytes ≡ sets out₀ at (ahead (val / 64)) → at + length bytes ≡ i
          → out ≡ sets out₀ at (ahead (val / 64))
      go [] e p = e
      go (b ∷ bytes) e p = absurd (omega arith)

-- ---- put_varint_with_start

-- bytes stored from a place on leave those before it
set_before : (out : List ℕ) (i j b : ℕ) (bytes : List ℕ) → i < j → set (sets out j bytes) i b ≡ sets (set out i b) j bytes
set_before out i j b [] h = refl
set_before out i j b (x ∷ bytes) h =
    set_before (set out j x) i (suc j) b bytes (omega arith)
    ∙ ap (λ (l : List ℕ). sets l (suc j) bytes) (set_comm out j i x b (λ e. omega arith))

get_d_before : (out : List ℕ) (i j : ℕ) (bytes : List ℕ) → i < j → get_or (sets out j bytes) i 0 ≡ get_or out i 0
get_d_before out i j [] h = refl
get_d_before out i j (x ∷ bytes) h =
    get_d_before (set out j x) i (suc j) bytes (omega arith) ∙ get_or-set_other out j i x 0 (λ e. omega arith)

-- the first of the bytes that were put
first_put : (out : List ℕ) (at : ℕ) (bytes : List ℕ) → at < length out → 1 ≤ length bytes
    → get_or (sets out at bytes) at 0 ≡ get_or bytes 0 0
first_put out at [] h k = absurd (omega arith)
first_put out at (b ∷ bytes) h k = get_d_before (set out at b) at (suc at) bytes (omega arith) ∙ get_or-set_same out at b 0 h

-- 0x80 added to it
started-put : (out : List ℕ) (at : ℕ) (bytes : List ℕ) → at < length out → 1 ≤ length bytes
    → set (sets out at bytes) at (get_or (sets out at bytes) at 0 + 0x80) ≡ sets out at (started bytes)
unfolding started
started-put out at [] h k = absurd (omega arith)
started-put out at (b ∷ bytes) h k =
    let e : b + 0x80 ≡ 0x80 + b = omega arith in
    ap (λ (x : ℕ). set (sets out at (b ∷ bytes)) at (x + 0x80)) (first_put out at (b ∷ bytes) h k)
    ∙ set_before (set out at b) at (suc at) (b + 0x80) bytes (omega arith)
    ∙ ap (λ (l : List ℕ). sets l (suc at) bytes) (set-set out at b (b + 0x80))
    ∙ ap (λ (x : ℕ). sets (set out at x) (suc at) bytes) e

module _ (out : List ℕ) (at val : ℕ) {left : List ℕ} (put : left ≡ sets out at (big_endian val)) (room : at + size val ≤ length out) where
  -- it had no 0x80
  pub first_below : get_or left at 0 < 0x80
  first_below =
      rw (put, first_put out at (big_endian val) (omega (arith, size-some val)) (omega (arith, length_big val, size-some val)))
      (first_big val)

  pub start_marked : set left at (get_or left at 0 + 0x80) ≡ sets out at (big_endian_with_start val)
  unfolding big_endian_with_start
  start_marked =
      rw (put, started-put out at (big_endian val) (omega (arith, size-some val)) (omega (arith, length_big val, size-some val)))

-- ---- the writers, over a store that is cleared

pub stored_none : (room val : ℕ) (bytes : List ℕ) {out : List ℕ} {answer : Result ℕ Fault} {why : Fault} → out ≡ zeros room → answer ≡ Err why
    → (room < size val) × (why ≡ fault NoRoom room) → length bytes ≡ size val → (answer, out) ≡ stored room bytes
unfolding stored
stored_none room val bytes clear e h l = rw (lt-leb (length bytes) room (omega (arith, l, h.0)), e, h.1, clear)

pub stored_all : (room val count : ℕ) (bytes : List ℕ) {out left : List ℕ} → out ≡ zeros room → size val ≤ room
    → count ≡ size val → left ≡ sets out 0 bytes → length bytes ≡ size val → (Ok count, left) ≡ stored room bytes
unfolding stored
stored_all room val count bytes clear h n put l =
    let e : count ≡ length bytes = n ∙ sym l in
    rw (le-leb (length bytes) room (omega (arith, l)), put, clear, e, sets-padded room bytes (omega (arith, l)))
