-- One answer for each call of the functions of `readsteps`: by an equation, in the grammar's words, or, of what comes next, by cases of the two
-- answers. Assumes nothing.
use mathlib.Core.Path.{◌≡◌, refl, sym, ◌∙◌, ap, ap₂}
use Prim.Native.Nat.{ℕ}
use mathlib.Core.Bool.{Bool, true, false}
use mathlib.Core.List.{List}
use lib.Dec.{ltb}
use borrow.Author.Tests.{ltb-true, ltb-false}
use native.Mathlib.Omega.{arith}
use Rattle.grammar.specs.Reading.{Answer, gives, stops}
use Rattle.grammar.specs.Steps.{Front, known, opens, code_parts}
use Rattle.fields.specs.declared.Kids.{Kids}
use Rattle.fields.specs.declared.Kids.TheVariants as kind
use Rattle.readsteps.specs.Opening.{front_of}
use Rattle.readsteps.specs.Linking.{ItemNext, PairNext, PartNext, NextOf}
use Rattle.readsteps.specs.declared.Opened.{Opened}
use Rattle.readsteps.specs.declared.Opened.TheVariants as opened
use Rattle.readsteps.specs.declared.Line.{Line}
use Rattle.std.specs.Prelude.{Result, Ok, Err}
use Rattle.refusals.specs.Faults.{number_of, fault}
use Rattle.refusals.proofs.Faults.{number_of_injective, fault_at, fault_back}
use Rattle.refusals.specs.declared.Fault.{Fault}
use Rattle.readsteps.specs.declared.Next.{Next}
use Rattle.readsteps.specs.declared.Next.TheVariants as next
use Rattle.readsteps.proofs as readsteps
use Rattle.readsteps.specs.contracts as readsteps_contracts
use Rattle.agreement.specs.Agreement.{Agree}
use Rattle.agreement.proofs.Same.{one, retold}
use Rattle.agreement.proofs.Fields.{kids_from, kids_back}

-- the answer, from the grammar's words back
abbrev front_from : Answer Front → Result Opened Fault
front_from (gives (known v at)) = Ok (opened.Known v at)
front_from (gives (opens letter flag f)) = Ok (opened.Node (record { letter = letter; flag = flag; place = f.place; size = f.size }) (kids_from f.children))
front_from (stops number place) = Err (fault_at number place)

front_back : (r : Result Opened Fault) → front_from (front_of r) ≡ r
front_back (Ok (opened.Known v at)) = refl
front_back (Ok (opened.Node h kids)) = ap (λ k. Ok (opened.Node h k)) (kids_back kids)
front_back (Err f) = ap (λ (g : Fault). Err g) (fault_back f)

pub resolve_ref_agrees : Agree readsteps_contracts.resolve_ref.ended readsteps.resolve_ref.Reads.Asked readsteps.resolve_ref.Reads.Learnt
resolve_ref_agrees κs a asked r r' ws ws' p p' = (retold front_of front_from front_back p.exact p'.exact, refl)

pub byte_at-agrees : Agree readsteps_contracts.byte_at.ended readsteps.byte_at.Reads.Asked readsteps.byte_at.Reads.Learnt
byte_at-agrees κs a asked r r' ws ws' p p' = (one p.0 p'.0, refl)

pub front-agrees : Agree readsteps_contracts.front.ended readsteps.front.Reads.Asked readsteps.front.Reads.Learnt
front-agrees κs a asked r r' ws ws' p p' = (retold front_of front_from front_back (p.exact 0) (p'.exact 0), refl)

pub attach-agrees : Agree readsteps_contracts.attach.ended readsteps.attach.Reads.Asked readsteps.attach.Reads.Learnt
attach-agrees κs a asked r r' ws ws' p p' = (one p.answer p'.answer, λ i. (one p.entries p'.entries i, (tt, (tt, (tt, (tt, (tt, tt)))))))

pub is_tuple-agrees : Agree readsteps_contracts.is_tuple.ended readsteps.is_tuple.Reads.Asked readsteps.is_tuple.Reads.Learnt
is_tuple-agrees κs a asked r r' ws ws' p p' = (one p p', refl)

pub is_string-agrees : Agree readsteps_contracts.is_string.ended readsteps.is_string.Reads.Asked readsteps.is_string.Reads.Learnt
is_string-agrees κs a asked r r' ws ws' p p' = (one p p', refl)

pub suits-agrees : Agree readsteps_contracts.suits.ended readsteps.suits.Reads.Asked readsteps.suits.Reads.Learnt
suits-agrees κs a asked r r' ws ws' p p' = (one p p', refl)

pub node-size-agrees : Agree readsteps_contracts.node_size.ended readsteps.node_size.Reads.Asked readsteps.node_size.Reads.Learnt
node-size-agrees κs a asked r r' ws ws' p p' = (one p p', refl)

-- two faults with the same numbers
fault_alike : (f f' : Fault) → number_of f.refusal ≡ number_of f'.refusal → f.place ≡ f'.place → f ≡ f'
fault_alike f f' number place = λ i. fault (number_of_injective number i) (place i)

-- What comes next, by the kind of the children.
items_alike : (count : ℕ) (l : Line) (r r' : Result Next Fault) → ItemNext count l r → ItemNext count l r' → r ≡ r'
items_alike count l (Ok (next.Child m rule)) (Ok (next.Child m' rule')) h h' = ap₂ (λ q u. Ok (next.Child q u)) (one h.0 h'.0) (one h.1 h'.1)
items_alike count l (Ok (next.Child m rule)) (Ok (next.Done m')) h h' = let a = h.2 in let b = h'.1 in absurd (omega (arith, a, b))
items_alike count l (Ok (next.Child m rule)) (Err f') h h' = absurd h'
items_alike count l (Ok (next.Done m)) (Ok (next.Child m' rule')) h h' = let a = h.1 in let b = h'.2 in absurd (omega (arith, a, b))
items_alike count l (Ok (next.Done m)) (Ok (next.Done m')) h h' = ap (λ q. Ok (next.Done q)) (one h.0 h'.0)
items_alike count l (Ok (next.Done m)) (Err f') h h' = absurd h'
items_alike count l (Err f) r' h h' = absurd h

pairs-alike : (s : List ℕ) (l : Line) (r r' : Result Next Fault) → PairNext s l r → PairNext s l r' → r ≡ r'
pairs-alike s l (Ok (next.Child m rule)) (Ok (next.Child m' rule')) h h' = ap₂ (λ q u. Ok (next.Child q u)) (one h.0 h'.0) (one h.1 h'.1)
pairs-alike s l (Ok (next.Child m rule)) (Ok (next.Done m')) h h' = absurd ((h.2 h'.1).1 h'.3)
pairs-alike s l (Ok (next.Child m rule)) (Err f') h h' = let a = (h.2 h'.2).0 in let b = h'.3 in absurd (omega (arith, a, b))
pairs-alike s l (Ok (next.Done m)) (Ok (next.Child m' rule')) h h' = absurd ((h'.2 h.1).1 h.3)
pairs-alike s l (Ok (next.Done m)) (Ok (next.Done m')) h h' = ap (λ q. Ok (next.Done q)) (one h.0 h'.0)
pairs-alike s l (Ok (next.Done m)) (Err f') h h' = let a = h.2 in let b = h'.3 in absurd (omega (arith, a, b))
pairs-alike s l (Err f) (Ok (next.Child m' rule')) h h' = let a = (h'.2 h.2).0 in let b = h.3 in absurd (omega (arith, a, b))
pairs-alike s l (Err f) (Ok (next.Done m')) h h' = let a = h'.2 in let b = h.3 in absurd (omega (arith, a, b))
pairs-alike s l (Err f) (Err f') h h' = ap (λ (g : Fault). Err g) (fault_alike f f' (one h.0 h'.0) (one h.1 h'.1))

-- a line that goes on is no refusal
abbrev line_in : Line → Result Line Fault → Line
line_in l (Ok m) = m
line_in l (Err f) = l

abbrev fault_in : Fault → Result Line Fault → Fault
fault_in none (Ok m) = none
fault_in none (Err f) = f

abbrev goes_on : Result Line Fault → ℕ
goes_on (Ok m) = 1
goes_on (Err f) = 0

line_or_refused : {x : Result Line Fault} {m : Line} {f : Fault} → x ≡ Ok m → x ≡ Err f → ⊥
line_or_refused e e' = let z : ◌≡◌ {A = ℕ} 1 0 = ap goes_on (one (sym e) (sym e')) in omega (arith, z)

refused-alike : (s ns : List ℕ) (at : ℕ) (l : Line) (f f' : Fault) → PartNext s ns at l (Err f) → PartNext s ns at l (Err f') → f ≡ f'
refused-alike s ns at l f f' h h' = go (ltb l.count code_parts) refl where
  go : (t : Bool) → ltb l.count code_parts ≡ t → f ≡ f'
  go true e = let less = ltb-true l.count code_parts e in ap (fault_in f) (one (sym (h.0 less)) (sym (h'.0 less)))
  go false e =
      let more = ltb-false l.count code_parts e in
      fault_alike f f' (one (h.1 more).1 (h'.1 more).1) (one (h.1 more).0 (h'.1 more).0)

parts-alike : (s ns : List ℕ) (at : ℕ) (l : Line) (r r' : Result Next Fault) → PartNext s ns at l r → PartNext s ns at l r' → r ≡ r'
parts-alike s ns at l (Ok (next.Child m rule)) (Ok (next.Child m' rule')) h h' = ap₂ (λ q u. Ok (next.Child q u)) (ap (line_in l) (one (sym h.0) (sym h'.0))) (one h.1 h'.1)
parts-alike s ns at l (Ok (next.Child m rule)) (Ok (next.Done m')) h h' = let a = h.2 in let b = h'.1 in absurd (omega (arith, a, b))
parts-alike s ns at l (Ok (next.Child m rule)) (Err f') h h' = absurd (line_or_refused h.0 (h'.0 h.2))
parts-alike s ns at l (Ok (next.Done m)) (Ok (next.Child m' rule')) h h' = let a = h.1 in let b = h'.2 in absurd (omega (arith, a, b))
parts-alike s ns at l (Ok (next.Done m)) (Ok (next.Done m')) h h' = ap (λ q. Ok (next.Done q)) (one h.0 h'.0)
parts-alike s ns at l (Ok (next.Done m)) (Err f') h h' = absurd ((h'.1 h.1).2 ((h'.1 h.1).1 ∙ h.2))
parts-alike s ns at l (Err f) (Ok (next.Child m' rule')) h h' = absurd (line_or_refused h'.0 (h.0 h'.2))
parts-alike s ns at l (Err f) (Ok (next.Done m')) h h' = absurd ((h.1 h'.1).2 ((h.1 h'.1).1 ∙ h'.2))
parts-alike s ns at l (Err f) (Err f') h h' = ap (λ (g : Fault). Err g) (refused-alike s ns at l f f' h h')

next_alike : (s ns : List ℕ) (kids : Kids) (at : ℕ) (l : Line) (r r' : Result Next Fault) → NextOf s ns kids at l r → NextOf s ns kids at l r' → r ≡ r'
next_alike s ns (kind.Items count) at l r r' h h' = items_alike count l r r' h h'
next_alike s ns kind.Pairs at l r r' h h' = pairs-alike s l r r' h h'
next_alike s ns kind.Parts at l r r' h h' = parts-alike s ns at l r r' h h'

pub next_child-agrees : Agree readsteps_contracts.next_child.ended readsteps.next_child.Reads.Asked readsteps.next_child.Reads.Learnt
next_child-agrees κs a asked r r' ws ws' p p' = (next_alike _ _ a.1.1.0 _ _ r r' p.is p'.is, refl)

pub below-agrees : Agree readsteps_contracts.below.ended readsteps.below.Reads.Asked readsteps.below.Reads.Learnt
below-agrees κs a asked r r' ws ws' p p' = (one p p', refl)
