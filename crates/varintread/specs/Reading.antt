-- What big-endian bytes read as: 01, 'Locals, numbers and locations', with 02's K5. Little-endian numbers stand in line tables alone: they are
-- read by `lineentry`, whose specs/Varint says what they are.
use Rattle.std.specs.Prelude.{ℕ, ◌+◌, ◌*◌, ◌/◌, ◌%◌, ◌^◌, Bool, cond, List, [], ◌∷◌, ltb, leb, eqb, length, get_or, drop, Result, Ok, Err, Option, Some, None}
use Rattle.refusals.specs.Numbers.{accepted}
use Rattle.refusals.specs.Faults.{number_of}
use Rattle.refusals.specs.declared.Refusal.{Refusal}
use Rattle.refusals.specs.declared.Refusal.TheVariants.{DataTooShort, NumberRange}
use Rattle.varintread.specs.declared.Found.{Found}
use Rattle.varintread.specs.declared.Unread.{Unread}

-- A reader's answer: a number and the position after it; "none"; or a refusal and its place.
abbrev pub Reading : Type 0
Reading = Result (Option Found) Unread

abbrev pub found : ℕ → ℕ → Reading
found value next = Ok (Some (record { value = value; next = next }))

abbrev pub nothing : Reading
nothing = Ok None

abbrev pub unread : Refusal → ℕ → Reading
unread why place = Err (record { refusal = why; place = place })

-- "0x40 meaning more"
abbrev pub more : ℕ → Bool
more byte = eqb (byte / 0x40 % 2) 1

-- 02, K5: "a whole number of 2^32 or more 18", at the number's start
abbrev pub whole_at : ℕ → ℕ → ℕ → Reading
whole_at at value next = cond (ltb value (2 ^ 32)) (found value next) (unread NumberRange at)

-- The bytes of the number that starts at `at` from the place `next` on, over what the bytes before it gave. 02, K5: "Big-endian reading
-- now gives a refusal for a number cut by the end or above 32 bits .. Refusals: cut 2 .. at the number's start."
unfoldable pub read_groups : ℕ → ℕ → ℕ → List ℕ → Reading
read_groups at val next [] = unread DataTooShort at
read_groups at val next (byte ∷ bytes) =
    cond (more byte)
    (read_groups at (val * 64 + byte % 64) (next + 1) bytes)
    (whole_at at (val * 64 + byte % 64) (next + 1))

-- "nothing left .. is "none" with the position unmoved", which K5 keeps
unfoldable pub read_varint : List ℕ → ℕ → Reading
unfolding read_groups
read_varint bytes at = cond (ltb at (length bytes)) (read_groups at 0 at (drop at bytes)) nothing

-- "nothing left, or the marker missing, is "none"": past the end stands no marker
unfoldable pub read_varint_with_start : List ℕ → ℕ → Reading
unfolding read_varint
read_varint_with_start bytes at = cond (leb 0x80 (get_or bytes at 0)) (read_varint bytes at) nothing

-- 01's numbers of a reader's answer at a position: "none" leaves "the position unmoved", and so does a refusal (02, K5).
pub record FoundNumbers : Type 0 where
  pub refusal : ℕ
  pub found : ℕ
  pub value : ℕ
  pub place : ℕ
  pub next : ℕ

abbrev pub found_numbers : ℕ → Reading → FoundNumbers
found_numbers at (Ok (Some f)) = record { refusal = accepted; found = 1; value = f.value; place = 0; next = f.next }
found_numbers at (Ok None) = record { refusal = accepted; found = 0; value = 0; place = 0; next = at }
found_numbers at (Err f) = record { refusal = number_of f.refusal; found = 0; value = 0; place = f.place; next = at }
