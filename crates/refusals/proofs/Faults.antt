-- Laws on the refusals' numbers: each stands in the table, and no two refusals have the same. And on a fault that `?` hands on.
use Rattle.std.specs.Prelude.{◌≡◌, ℕ, zero, suc, ◌<◌, ◌≤◌, List, [], ◌∷◌, Result, Err, IsErrAnd}
use Rattle.std.proofs.lemmas.Result.{err_from_is_err_and}
use mathlib.Core.Path.{refl, ap, sym, ◌∙◌}
use native.Mathlib.Omega.{arith}
use Rattle.refusals.specs.Numbers.{accepted, last_number}
use Rattle.refusals.specs.Faults.{number_of, fault}
use Rattle.refusals.specs.declared.Refusal.{Refusal}
use Rattle.refusals.specs.declared.Refusal.TheVariants as refusal
use Rattle.refusals.specs.declared.Fault.{Fault}

-- the refusal at a place of the table, which is its number
at_number : List Refusal → ℕ → Refusal
at_number [] n = refusal.EofObject
at_number (r ∷ rs) zero = r
at_number (r ∷ rs) (suc n) = at_number rs n

table : List Refusal
table = refusal.EofObject ∷ refusal.EofObject ∷ refusal.DataTooShort ∷ refusal.UnknownType ∷ refusal.NullObject ∷ refusal.InvalidRef ∷ refusal.BadSize ∷ refusal.BadType ∷ refusal.InvalidBytecode ∷ refusal.InvalidUtf8 ∷ refusal.TooDeep ∷ refusal.NoNode ∷ refusal.NoEntry ∷ refusal.NoSlot ∷ refusal.InputTooLong ∷ refusal.NotCarried ∷ refusal.BadTable ∷ refusal.NoRoom ∷ refusal.NumberRange ∷ refusal.NoMarker ∷ refusal.NoSuchStart ∷ refusal.AlreadyEnded ∷ refusal.RepeatedTag ∷ refusal.NoSuchField ∷ refusal.NotJoined ∷ refusal.TrailingBytes ∷ refusal.ValueTooLong ∷ []

back : (r : Refusal) → at_number table (number_of r) ≡ r
unfolding at_number table
back refusal.EofObject = refl
back refusal.DataTooShort = refl
back refusal.UnknownType = refl
back refusal.NullObject = refl
back refusal.InvalidRef = refl
back refusal.BadSize = refl
back refusal.BadType = refl
back refusal.InvalidBytecode = refl
back refusal.InvalidUtf8 = refl
back refusal.TooDeep = refl
back refusal.NoNode = refl
back refusal.NoEntry = refl
back refusal.NoSlot = refl
back refusal.InputTooLong = refl
back refusal.NotCarried = refl
back refusal.BadTable = refl
back refusal.NoRoom = refl
back refusal.NumberRange = refl
back refusal.NoMarker = refl
back refusal.NoSuchStart = refl
back refusal.AlreadyEnded = refl
back refusal.RepeatedTag = refl
back refusal.NoSuchField = refl
back refusal.NotJoined = refl
back refusal.TrailingBytes = refl
back refusal.ValueTooLong = refl

-- the refusal that a number stands for, and a fault by its two numbers; of a number that is no refusal's nothing is said
pub refusal_at : ℕ → Refusal
refusal_at n = at_number table n

pub refusal_back : (r : Refusal) → refusal_at (number_of r) ≡ r
unfolding refusal_at
refusal_back r = back r

abbrev pub fault_at : (number place : ℕ) → Fault
fault_at number place = fault (refusal_at number) place

pub fault_back : (f : Fault) → fault_at (number_of f.refusal) f.place ≡ f
fault_back f = ap (λ why. fault why f.place) (refusal_back f.refusal)

pub number_back : (n : ℕ) → accepted < n → n ≤ last_number → number_of (refusal_at n) ≡ n
unfolding refusal_at at_number table
number_back zero some within = absurd (omega arith)
number_back (suc zero) some within = refl
number_back (suc (suc zero)) some within = refl
number_back (suc (suc (suc zero))) some within = refl
number_back (suc (suc (suc (suc zero)))) some within = refl
number_back (suc (suc (suc (suc (suc zero))))) some within = refl
number_back (suc (suc (suc (suc (suc (suc zero)))))) some within = refl
number_back (suc (suc (suc (suc (suc (suc (suc zero))))))) some within = refl
number_back (suc (suc (suc (suc (suc (suc (suc (suc zero)))))))) some within = refl
number_back (suc (suc (suc (suc (suc (suc (suc (suc (suc zero))))))))) some within = refl
number_back (suc (suc (suc (suc (suc (suc (suc (suc (suc (suc zero)))))))))) some within = refl
number_back (suc (suc (suc (suc (suc (suc (suc (suc (suc (suc (suc zero))))))))))) some within = refl
number_back (suc (suc (suc (suc (suc (suc (suc (suc (suc (suc (suc (suc zero)))))))))))) some within = refl
number_back (suc (suc (suc (suc (suc (suc (suc (suc (suc (suc (suc (suc (suc zero))))))))))))) some within = refl
number_back (suc (suc (suc (suc (suc (suc (suc (suc (suc (suc (suc (suc (suc (suc zero)))))))))))))) some within = refl
number_back (suc (suc (suc (suc (suc (suc (suc (suc (suc (suc (suc (suc (suc (suc (suc zero))))))))))))))) some within = refl
number_back (suc (suc (suc (suc (suc (suc (suc (suc (suc (suc (suc (suc (suc (suc (suc (suc zero)))))))))))))))) some within = refl
number_back (suc (suc (suc (suc (suc (suc (suc (suc (suc (suc (suc (suc (suc (suc (suc (suc (suc zero))))))))))))))))) some within = refl
number_back (suc (suc (suc (suc (suc (suc (suc (suc (suc (suc (suc (suc (suc (suc (suc (suc (suc (suc zero)))))))))))))))))) some within = refl
number_back (suc (suc (suc (suc (suc (suc (suc (suc (suc (suc (suc (suc (suc (suc (suc (suc (suc (suc (suc zero))))))))))))))))))) some within = refl
number_back (suc (suc (suc (suc (suc (suc (suc (suc (suc (suc (suc (suc (suc (suc (suc (suc (suc (suc (suc (suc zero)))))))))))))))))))) some within = refl
number_back (suc (suc (suc (suc (suc (suc (suc (suc (suc (suc (suc (suc (suc (suc (suc (suc (suc (suc (suc (suc (suc zero))))))))))))))))))))) some within = refl
number_back (suc (suc (suc (suc (suc (suc (suc (suc (suc (suc (suc (suc (suc (suc (suc (suc (suc (suc (suc (suc (suc (suc zero)))))))))))))))))))))) some within = refl
number_back (suc (suc (suc (suc (suc (suc (suc (suc (suc (suc (suc (suc (suc (suc (suc (suc (suc (suc (suc (suc (suc (suc (suc zero))))))))))))))))))))))) some within = refl
number_back (suc (suc (suc (suc (suc (suc (suc (suc (suc (suc (suc (suc (suc (suc (suc (suc (suc (suc (suc (suc (suc (suc (suc (suc zero)))))))))))))))))))))))) some within = refl
number_back (suc (suc (suc (suc (suc (suc (suc (suc (suc (suc (suc (suc (suc (suc (suc (suc (suc (suc (suc (suc (suc (suc (suc (suc (suc zero))))))))))))))))))))))))) some within = refl
number_back (suc (suc (suc (suc (suc (suc (suc (suc (suc (suc (suc (suc (suc (suc (suc (suc (suc (suc (suc (suc (suc (suc (suc (suc (suc (suc zero)))))))))))))))))))))))))) some within = refl
number_back (suc (suc (suc (suc (suc (suc (suc (suc (suc (suc (suc (suc (suc (suc (suc (suc (suc (suc (suc (suc (suc (suc (suc (suc (suc (suc (suc n))))))))))))))))))))))))))) some within = absurd (omega arith)

-- no two refusals have one number
pub number_of_injective : {a b : Refusal} → number_of a ≡ number_of b → a ≡ b
number_of_injective {a} {b} same = sym (back a) ∙ (ap (at_number table) same ∙ back b)

-- each number is one of the table
pub number_in_table : (r : Refusal) → (accepted < number_of r) × (number_of r ≤ last_number)
number_in_table refusal.EofObject = (omega arith, omega arith)
number_in_table refusal.DataTooShort = (omega arith, omega arith)
number_in_table refusal.UnknownType = (omega arith, omega arith)
number_in_table refusal.NullObject = (omega arith, omega arith)
number_in_table refusal.InvalidRef = (omega arith, omega arith)
number_in_table refusal.BadSize = (omega arith, omega arith)
number_in_table refusal.BadType = (omega arith, omega arith)
number_in_table refusal.InvalidBytecode = (omega arith, omega arith)
number_in_table refusal.InvalidUtf8 = (omega arith, omega arith)
number_in_table refusal.TooDeep = (omega arith, omega arith)
number_in_table refusal.NoNode = (omega arith, omega arith)
number_in_table refusal.NoEntry = (omega arith, omega arith)
number_in_table refusal.NoSlot = (omega arith, omega arith)
number_in_table refusal.InputTooLong = (omega arith, omega arith)
number_in_table refusal.NotCarried = (omega arith, omega arith)
number_in_table refusal.BadTable = (omega arith, omega arith)
number_in_table refusal.NoRoom = (omega arith, omega arith)
number_in_table refusal.NumberRange = (omega arith, omega arith)
number_in_table refusal.NoMarker = (omega arith, omega arith)
number_in_table refusal.NoSuchStart = (omega arith, omega arith)
number_in_table refusal.AlreadyEnded = (omega arith, omega arith)
number_in_table refusal.RepeatedTag = (omega arith, omega arith)
number_in_table refusal.NoSuchField = (omega arith, omega arith)
number_in_table refusal.NotJoined = (omega arith, omega arith)
number_in_table refusal.TrailingBytes = (omega arith, omega arith)
number_in_table refusal.ValueTooLong = (omega arith, omega arith)

-- `?` hands a fault on as it is
pub handed_on : {A : Type 0} {r : Result A Fault} {f : Fault} → IsErrAnd r (λ given. given ≡ f) → r ≡ Err f
handed_on {A} {r} is =
    let given = err_from_is_err_and r is in
    given.1 ∙ ap (λ (x : Fault). Err x) given.2
