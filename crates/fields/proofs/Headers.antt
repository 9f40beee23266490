-- The rule of the table of header bytes, over the whole table: at every byte it has the class of the byte's letter, which is the byte
-- without its flag. One equation of two lists of 256 classes, which is computed. Assumes nothing.
use mathlib.Core.Path.{◌≡◌, refl, ap, subst}
use mathlib.Core.List.{List, [], ◌∷◌}
use Prim.Native.Nat.{ℕ, zero, suc, ◌+◌, ◌%◌, ◌<◌}
use native.Mathlib.Omega.{arith}
use lib.ListN.{length, get_or}
use Rattle.grammar.specs.Letters.{Class, refers, letters, found, class_of}
use Rattle.fields.specs.Classes.{classes, class_at}
use Rattle.fields.specs.Headers.{header_table}

-- the classes that a table has, and those of the letters of so many bytes from i on
abbrev tabled : List ℕ → List Class
tabled [] = []
tabled (x ∷ xs) = class_at x ∷ tabled xs

abbrev branched : (count i : ℕ) → List Class
branched zero i = []
branched (suc count) i = class_of (i % 128) ∷ branched count (suc i)

first : List Class → Class
first [] = refers
first (x ∷ xs) = x

rest : List Class → List Class
rest [] = []
rest (x ∷ xs) = xs

from : (xs : List ℕ) (i : ℕ) → tabled xs ≡ branched (length xs) i → (k : ℕ) → k < length xs → class_at (get_or xs k 0) ≡ class_of ((i + k) % 128)
unfolding first rest
from [] i e k h = absurd (omega arith)
from (x ∷ xs) i e zero h =
    let here : i ≡ i + 0 = omega arith in
    subst (λ (m : ℕ). class_at x ≡ class_of (m % 128)) here (ap first e)
from (x ∷ xs) i e (suc k) h =
    let here : suc i + k ≡ i + suc k = omega arith in
    subst (λ (m : ℕ). class_at (get_or xs k 0) ≡ class_of (m % 128)) here (from xs (suc i) (ap rest e) k (omega arith))

whole : tabled header_table ≡ branched (length header_table) 0
unfolding header_table classes class_at letters found class_of
whole = refl

-- The rule: the table's class of a header byte is the class that 01 gives the byte's letter.
pub headers_right : (byte : ℕ) → byte < 256 → class_at (get_or header_table byte 0) ≡ class_of (byte % 128)
unfolding header_table
headers_right byte h =
    let here : 0 + byte ≡ byte = omega arith in
    subst (λ (m : ℕ). class_at (get_or header_table byte 0) ≡ class_of (m % 128)) here (from header_table 0 whole byte h)
