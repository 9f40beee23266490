-- A number in decimal digits, as bytes of ASCII, and what digits are worth. 02, K14: "exact counts .. `inputs 3`".
use Rattle.std.specs.Prelude.{ℕ, zero, suc, ◌+◌, ◌-◌, ◌*◌, ◌/◌, ◌%◌, cond, List, [], ◌∷◌, ◌++◌, ltb}

-- the byte of a digit
abbrev pub digit : ℕ → ℕ
digit d = 0x30 + d

-- The digits of a number, the highest first: at least one, and no zero in front of others.
-- The first argument only bounds the recursion; the number itself is bound enough.
unfoldable pub digits_of : ℕ → ℕ → List ℕ
digits_of zero n = digit n ∷ []
digits_of (suc bound) n =
    let higher = digits_of bound (n / 10) in
    cond (ltb n 10) (digit n ∷ []) (higher ++ digit (n % 10) ∷ [])

unfoldable pub decimal : ℕ → List ℕ
unfolding digits_of
decimal n = digits_of n n

-- What digits are worth behind those that made a number.
unfoldable pub worth_from : ℕ → List ℕ → ℕ
worth_from n [] = n
worth_from n (byte ∷ rest) = worth_from (n * 10 + (byte - 0x30)) rest

abbrev pub worth : List ℕ → ℕ
worth bytes = worth_from 0 bytes
