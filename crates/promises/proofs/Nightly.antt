-- The refusals of nightly totals are numbers of the table, and a refusal leaves the store zero, in counting, adding and printing. So the
-- exports end. By cases of the definitions. Assumes nothing.
use mathlib.Core.Path.{◌≡◌, refl, ap, ◌∙◌}
use mathlib.Core.List.{List}
use Prim.Native.Nat.{ℕ}
use lib.Dec.{ltb}
use lib.ListN.{length}
use Rattle.std.specs.Prelude.{Ok, Err}
use Rattle.refusals.specs.Faults.{number_of}
use Rattle.totals.specs.Totals.{counters, Totals, Outcome, held_in, count_of, known, plus, fit_from, stored, totals_of, added_of}
use Rattle.printedtotals.specs.Lines.{lines, printed_of}
use Rattle.sillgarland.specs.Nightly.{totalled_struct, totalled_as}
use Rattle.sillgarland.specs.declared.nightly.SillTotalled.{SillTotalled}
use Rattle.promises.specs.Demand1.{Ends, answers, refuses, Zero}
use Rattle.promises.proofs.Numbers.{either, Cleared, TabledStore, tabled}

stored_cleared : (room : ℕ) (t : Totals) → Cleared room (stored room t)
unfolding stored
stored_cleared room t = either (Cleared room) (fit_from t 0 counters) _ _ tt refl

pub totals_cleared : (before told : List ℕ) (room : ℕ) → Cleared room (totals_of before told room)
unfolding totals_of
totals_cleared before told room =
    either (Cleared room) (ltb room counters) _ _ refl
    (either (Cleared room) (known told) _ _ (stored_cleared room (plus (held_in before) (λ counter. count_of counter told))) refl)

pub totals_in_table : (before told : List ℕ) (room : ℕ) → TabledStore room (totals_of before told room)
totals_in_table before told room = tabled room (totals_of before told room) (totals_cleared before told room)

pub added_cleared : (a b : List ℕ) (room : ℕ) → Cleared room (added_of a b room)
unfolding added_of
added_cleared a b room = either (Cleared room) (ltb room counters) _ _ refl (stored_cleared room (plus (held_in a) (held_in b)))

pub added_in_table : (a b : List ℕ) (room : ℕ) → TabledStore room (added_of a b room)
added_in_table a b room = tabled room (added_of a b room) (added_cleared a b room)

pub printed_cleared : (store : List ℕ) (room : ℕ) → Cleared room (printed_of store room)
unfolding printed_of
printed_cleared store room = either (Cleared room) (ltb room (length (lines (held_in store)))) _ _ refl tt

pub printed_in_table : (store : List ℕ) (room : ℕ) → TabledStore room (printed_of store room)
printed_in_table store room = tabled room (printed_of store room) (printed_cleared store room)

-- what a contract says of an outcome gives the end
pub tabled_totalled_ends : (o : Outcome) (lent : List ℕ) → TabledStore (length lent) o → (r : SillTotalled) (left : List ℕ) → (r, left) ≡ totalled_as o
    → Ends r (λ (done : Unit {0}). totalled_struct (Ok done)) (λ number place. record { refusal = number; place = place }) (Zero lent left)
tabled_totalled_ends (Ok done, xs) lent t r left e = answers tt (ap (λ x. x.0) e)
tabled_totalled_ends (Err f, xs) lent t r left e = refuses (number_of f.refusal) f.place t.0 (ap (λ x. x.0) e) (ap (λ x. x.1) e ∙ t.1)

-- that the store is zero is enough
pub totalled_ends : (o : Outcome) (lent : List ℕ) → Cleared (length lent) o → (r : SillTotalled) (left : List ℕ) → (r, left) ≡ totalled_as o
    → Ends r (λ (done : Unit {0}). totalled_struct (Ok done)) (λ number place. record { refusal = number; place = place }) (Zero lent left)
totalled_ends o lent z = tabled_totalled_ends o lent (tabled (length lent) o z)
