-- How the calls over values, leaves, local names and varints end, for demand 1: what each contract says of an outcome gives the end, with
-- Numbers. Assumes nothing.
use mathlib.Core.Path.{◌≡◌, refl, ap, ◌∙◌}
use Prim.Native.Nat.{ℕ}
use mathlib.Core.List.{List}
use mathlib.Core.Option.{none, some}
use lib.ListN.{length}
use Rattle.grammar.specs.Reading.{Answer, gives, stops}
use Rattle.grammar.specs.State.{State}
use Rattle.grammar.specs.Answer.{outcome_of, reading, read_of}
use Rattle.grammar.specs.Leaf.{Leaf}
use Rattle.leaf.specs.Answers.{told_of, answered_of}
use Rattle.localsplus.specs.declared.Split.{Split}
use Rattle.localsplus.specs.Answer.{stored as stored_of}
use Rattle.std.specs.Prelude.{Result, Ok, Err, Some, None}
use Rattle.refusals.specs.Faults.{number_of}
use Rattle.refusals.specs.declared.Fault.{Fault}
use Rattle.refusals.proofs.Faults.{number_in_table}
use Rattle.varintread.specs.Reading.{Reading}
use Rattle.sillgarland.specs.Leaves.{leaf_struct}
use Rattle.sillgarland.specs.Locals.{split_struct}
use Rattle.sillgarland.specs.Values.{read_struct, ReadAs, wrote_struct, WroteAs}
use Rattle.sillgarland.specs.Varints.{written_as, found_struct}
use Rattle.sillgarland.specs.declared.leaves.SillLeaf.{SillLeaf}
use Rattle.sillgarland.specs.declared.locals.SillSplit.{SillSplit}
use Rattle.sillgarland.specs.declared.values.SillRead.{SillRead}
use Rattle.sillgarland.specs.declared.varints.SillWritten.{SillWritten}
use Rattle.sillgarland.specs.declared.varints.SillFound.{SillFound}
use Rattle.promises.specs.Demand1.{Ends, answers, refuses, Zero, VarintEnds, FoundEnds}
use Rattle.promises.proofs.Numbers.{Tabled, reading_in_table, Cleared, TabledStore, tabled}

-- Each kind of definition: what its contract says of an outcome gives the end.
pub read-ends : (s : List ℕ) (nodes entries slots : List ℕ) (nesting : ℕ) (r : SillRead) (ns es ss : List ℕ)
    → ReadAs (read_of s (length nodes) (length entries) (length slots) nesting) r ns es ss
    → Ends r (λ counts. read_struct (gives counts)) (λ number place. read_struct (stops number place)) (Zero nodes ns × Zero entries es × Zero slots ss)
unfolding read_of
read-ends s nodes entries slots nesting r ns es ss h = go (reading s (length nodes) (length entries) (length slots) nesting) refl h
  where
    go : (a : Answer (ℕ × State)) → reading s (length nodes) (length entries) (length slots) nesting ≡ a → ReadAs (outcome_of (length nodes) (length entries) (length slots) a) r ns es ss
        → Ends r (λ counts. read_struct (gives counts)) (λ number place. read_struct (stops number place)) (Zero nodes ns × Zero entries es × Zero slots ss)
    go (gives x) e k = answers _ k.numbers
    go (stops n p) e k =
        refuses n p (reading_in_table s (length nodes) (length entries) (length slots) nesting n p e) k.numbers (k.holds-nodes, k.holds-entries, k.holds-slots)

pub write_ends : (a : Answer (List ℕ)) → Tabled a → (out : List ℕ) (r : SillWritten) (left : List ℕ) → WroteAs a (length out) r left
    → Ends r (λ count. wrote_struct (gives count)) (λ number place. wrote_struct (stops number place)) (Zero out left)
write_ends (gives bytes) t out r left h = answers _ h.numbers
write_ends (stops n p) t out r left h = refuses n p t h.numbers h.holds

pub leaf_ends : (a : Answer Leaf) → Tabled a → (r : SillLeaf) → r ≡ leaf_struct (answered_of a)
    → Ends r (λ told. leaf_struct (gives told)) (λ number place. leaf_struct (stops number place)) Unit
leaf_ends (gives l) t r h = answers (told_of l) h
leaf_ends (stops n p) t r h = refuses n p t h tt

pub tabled_varint_ends : (o : Result ℕ Fault × List ℕ) (lent : List ℕ) → TabledStore (length lent) o → (r : SillWritten) (left : List ℕ) → (r, left) ≡ written_as o → VarintEnds r (Zero lent left)
tabled_varint_ends (Ok count, xs) lent t r left e = answers count (ap (λ x. x.0) e)
tabled_varint_ends (Err f, xs) lent t r left e = refuses (number_of f.refusal) f.place t.0 (ap (λ x. x.0) e) (ap (λ x. x.1) e ∙ t.1)

-- that the store is zero is enough
pub varint_ends : (o : Result ℕ Fault × List ℕ) (lent : List ℕ) → Cleared (length lent) o → (r : SillWritten) (left : List ℕ) → (r, left) ≡ written_as o → VarintEnds r (Zero lent left)
varint_ends o lent z = tabled_varint_ends o lent (tabled (length lent) o z)

pub split_ends : (x : Result Split Fault) → (r : SillSplit) → r ≡ split_struct x → (l c f m a l' c' f' m' a' ls cs fs ms bs : List ℕ)
    → l' ≡ stored_of x (length l) ls → c' ≡ stored_of x (length c) cs → f' ≡ stored_of x (length f) fs → m' ≡ stored_of x (length m) ms → a' ≡ stored_of x (length a) bs
    → Ends r (λ told. split_struct (Ok told)) (λ number place. record { refusal = number; place = place; locals = 0; cells = 0; frees = 0; present = 0 })
    (Zero l l' × Zero c c' × Zero f f' × Zero m m' × Zero a a')
unfolding stored_of
split_ends (Ok told) r e l c f m a l' c' f' m' a' ls cs fs ms bs hl hc hf hm ha = answers told e
split_ends (Err fault) r e l c f m a l' c' f' m' a' ls cs fs ms bs hl hc hf hm ha =
    refuses (number_of fault.refusal) fault.place (number_in_table fault.refusal) e (hl, hc, hf, hm, ha)

pub found-ends : (at : ℕ) (x : Reading) → (r : SillFound) → r ≡ found_struct at x → FoundEnds at r
found-ends at (Ok (Some f)) r e = answers (some (f.value, f.next)) e
found-ends at (Ok None) r e = answers none e
found-ends at (Err f) r e = refuses (number_of f.refusal) f.place (number_in_table f.refusal) e tt
