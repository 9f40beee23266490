-- The chain of grammar's record test against the visit's: where every entry of so many linked ones is below the limit, it gives their children.
-- Assumes nothing.
use mathlib.Core.Path.{◌≡◌, refl, ap, ◌∙◌}
use Prim.Native.Nat.{ℕ, zero, suc, ◌<◌}
use mathlib.Core.Bool.{Bool, true, false, cond, ◌||◌}
use mathlib.Core.Option.{none, some}
use lib.Dec.{eqb}
use borrow.Author.Tests.{lt-ltb, eq-eqb}
use Rattle.grammar.specs.State.{entry_at}
use Rattle.grammar.specs.Record.{Tables, chain, put, entries_in}
use Rattle.keepvisit.specs.Visit.{member, linked, children_of}

later : (s t : Bool) → t ≡ true → (s || t) ≡ true
later true t m = refl
later false t m = m

pub chain-linked : (t : Tables) (count e : ℕ) → ((a : ℕ) → member a (linked t.entries count e) ≡ true → a < entries_in t.entries t.used_entries)
    → chain t count e ≡ some (children_of t.entries (linked t.entries count e))
unfolding chain member linked children_of
chain-linked t zero e h = refl
chain-linked t (suc more) e h =
    ap (λ b. cond b (put (entry_at t.entries e).child (chain t more (entry_at t.entries e).next)) none)
    (lt-ltb e (entries_in t.entries t.used_entries) (h e (ap (λ b. b || member e (linked t.entries more (entry_at t.entries e).next)) (eq-eqb e e refl))))
    ∙ ap (put (entry_at t.entries e).child)
    (chain-linked t more (entry_at t.entries e).next (λ a m. h a (later (eqb a e) (member a (linked t.entries more (entry_at t.entries e).next)) m)))
