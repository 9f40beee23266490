-- Strings as they are put: which are short, and what a short one comes to. Assumes nothing.
use mathlib.Core.Path.{◌≡◌, refl, ap}
use Prim.Native.Nat.{ℕ}
use mathlib.Core.Bool.{Bool, true, false}
use mathlib.Core.List.{List, [], ◌∷◌}
use lib.ListN.{length}
use Rattle.std.specs.Prelude.{◌&&◌, ltb}
use Rattle.std.specs.List.{list_all}
use Rattle.writing.specs.Canonical.{sized, ascii, code_string}
use Rattle.outputtext.specs.Short.{Short}

-- a test of each byte
pub each_ascii : (bytes : List ℕ) → list_all (λ byte. ltb byte 128) bytes ≡ ascii bytes
unfolding ascii
each_ascii [] = refl
each_ascii (byte ∷ bytes) = ap (λ rest. ltb byte 128 && rest) (each_ascii bytes)

-- A code string.

pub string-short : {bytes : List ℕ} {r : Bool} → Short bytes r → r ≡ true → code_string bytes ≡ 0x7A ∷ length bytes ∷ bytes
unfolding code_string
string-short k e = rw (← k.tells, e) refl

pub string-long : {bytes : List ℕ} {r : Bool} → Short bytes r → r ≡ false → code_string bytes ≡ sized 0x75 bytes
unfolding code_string
string-long k e = rw (← k.tells, e) refl
