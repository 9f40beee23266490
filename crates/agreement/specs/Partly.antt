-- The contracts that leave a part open, and what any two ends of a call then have in common. docs/EXCEPTIONS.md lists the functions, and why.
use Rattle.std.specs.Prelude.{◌≡◌, Ok, Err}
use Rattle.output.specs.Puts.{Wrote}

-- A put: the same answer; and the same output, where it accepts.
abbrev pub Accepted : Wrote → Type 0
Accepted (Ok at) = Unit
Accepted (Err stop) = ⊥

abbrev pub WhereDone : {W : Type 0} → (r r' : Wrote) → (ws ws' : W) → Type 0
WhereDone r r' ws ws' = (r ≡ r') × (Accepted r → ws ≡ ws')
