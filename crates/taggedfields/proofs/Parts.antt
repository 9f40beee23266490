-- What the reading finds stands in the file: each field is a part of it with the length that its header says, and a fault is inside it,
-- with a number of at most a repeated tag's. Assumes nothing.
use mathlib.Core.Path.{◌≡◌, refl, sym, ap, ◌∙◌, subst}
use mathlib.Core.Bool.{Bool, true, false, cond}
use mathlib.Core.List.{List, [], ◌∷◌}
use mathlib.Core.Option.{Option, none, some, some-injective}
use Prim.Native.Nat.{ℕ, zero, suc, ◌+◌, ◌*◌, ◌≤◌, ◌<◌}
use native.Mathlib.Omega.{arith}
use lib.Dec.{ltb, eqb}
use lib.ListN.{length, get_or, take, drop, length-drop}
use lib.Seq.{length-take-le}
use borrow.Author.Tests.{eqb-true}
use Rattle.refusals.specs.declared.Fault.{Fault}
use Rattle.refusals.specs.declared.Refusal.{Refusal}
use Rattle.refusals.specs.declared.Refusal.TheVariants.{DataTooShort, RepeatedTag}
use Rattle.refusals.specs.Numbers.{repeated_tag}
use Rattle.refusals.specs.Faults.{fault, number_of}
use Rattle.taggedfields.specs.Fields.{Field, stopped, with_field, among, headed, read_from, reading, find, field_in}
use Rattle.taggedfields.specs.Looking.{size_in, field_at}
use Rattle.taggedfields.proofs.Steps.{from, Step, ends, stops, goes, step}

-- none is no some
pub none-some : {A : Type 0} {x : A} → none ≡ some x → ⊥
none-some {A} {x} e = let z : ◌≡◌ {A = ℕ} 0 1 = ap count e in absurd (omega arith)
  where
    count : Option A → ℕ
    count none = 0
    count (some y) = 1

-- a field stands in the file as its header says
pub record In (file : List ℕ) (f : Field) : Type 0 where
  pub tag : f.tag ≡ get_or file f.place 0
  pub size : length f.contents ≡ size_in file f.place
  pub within : f.place + 3 + length f.contents ≤ length file
  pub part : f.contents ≡ take (length f.contents) (drop (f.place + 3) file)

pub field_at-in : (file : List ℕ) (at : ℕ) → at + 3 + size_in file at ≤ length file → In file (field_at file at)
field_at-in file at h =
    let l : length (field_at file at).contents ≡ size_in file at = length-take-le (size_in file at) (drop (at + 3) file) (omega (arith, length-drop (at + 3) file)) in
    record { tag = refl; size = l; within = omega (arith, l); part = ap (λ n. take n (drop (at + 3) file)) (sym l) }

found_in : (bound : ℕ) (file tags : List ℕ) (at t : ℕ) (f : Field) → find t (from bound file tags at).fields ≡ some f → In file f × (f.tag ≡ t)
unfolding find read_from
found_in zero file tags at t f e = absurd (none-some e)
found_in (suc bound) file tags at t f e = go (found_in bound file (get_or file at 0 ∷ tags) (at + 3 + size_in file at) t f) (step file tags at bound)
  where
    rest : List Field
    rest = (from bound file (get_or file at 0 ∷ tags) (at + 3 + size_in file at)).fields

    go : (find t rest ≡ some f → In file f × (f.tag ≡ t)) → Step file tags at bound → In file f × (f.tag ≡ t)
    go again (ends h q) = absurd (none-some (sym (ap (λ r. find t r.fields) q) ∙ e))
    go again (stops why h q) = absurd (none-some (sym (ap (λ r. find t r.fields) q) ∙ e))
    go again (goes h k q) = case (eqb t (get_or file at 0)) refl (sym (ap (λ r. find t r.fields) q) ∙ e)
      where
        case : (c : Bool) → eqb t (get_or file at 0) ≡ c → cond c (some (field_at file at)) (find t rest) ≡ some f → In file f × (f.tag ≡ t)
        case true d z = subst (λ x. In file x × (x.tag ≡ t)) (here z) (field_at-in file at h, sym (eqb-true t (get_or file at 0) d))
          where
            here : some (field_at file at) ≡ some f → field_at file at ≡ f
            here y = cc
        case false d z = again z

pub field_found : (file : List ℕ) (t : ℕ) (f : Field) → field_in file t ≡ some f → In file f × (f.tag ≡ t)
unfolding reading
field_found file t f e = found_in (length file) file [] 0 t f e

-- the place of a fault is inside the file
fault_in_lem : (bound : ℕ) (file tags : List ℕ) (at : ℕ) (x : Fault) → (from bound file tags at).fault ≡ some x → x.place < length file
unfolding read_from
fault_in_lem zero file tags at x e = absurd (none-some e)
fault_in_lem (suc bound) file tags at x e = go (fault_in_lem bound file (get_or file at 0 ∷ tags) (at + 3 + size_in file at) x) (step file tags at bound)
  where
    rest : Option Fault
    rest = (from bound file (get_or file at 0 ∷ tags) (at + 3 + size_in file at)).fault

    go : (rest ≡ some x → x.place < length file) → Step file tags at bound → x.place < length file
    go again (ends h q) = absurd (none-some (sym (ap (λ r. r.fault) q) ∙ e))
    go again (stops why h q) = subst (λ y. y.place < length file) (here (sym (ap (λ r. r.fault) q) ∙ e)) h
      where
        here : some (fault why at) ≡ some x → fault why at ≡ x
        here y = cc
    go again (goes h k q) = again (sym (ap (λ r. r.fault) q) ∙ e)

pub fault-within : (file : List ℕ) (x : Fault) → (reading file).fault ≡ some x → x.place < length file
unfolding reading
fault-within file x e = fault_in_lem (length file) file [] 0 x e

-- a fault is of a number of at most a repeated tag's where its refusal is
pub stop-most : (why : Refusal) (place : ℕ) {x : Fault} → number_of why ≤ repeated_tag → some (fault why place) ≡ some x → number_of x.refusal ≤ repeated_tag
stop-most why place {x} h q = subst (λ (y : Fault). number_of y.refusal ≤ repeated_tag) (some-injective (fault why place) x q) h

-- a fault's number is at most a repeated tag's
number-most : (bound : ℕ) (tags : List ℕ) (at : ℕ) (bytes : List ℕ) (x : Fault) → (read_from bound tags at bytes).fault ≡ some x → number_of x.refusal ≤ repeated_tag
unfolding read_from
number-most zero tags at bytes x e = absurd (none-some e)
number-most (suc bound) tags at [] x e = absurd (none-some e)
number-most (suc bound) tags at (tag ∷ bytes) x e = go bytes (λ size rest. number-most bound (tag ∷ tags) (at + 3 + size) (drop size rest) x) (among tag tags) e
  where
    fits : (size : ℕ) (rest : List ℕ) → ((read_from bound (tag ∷ tags) (at + 3 + size) (drop size rest)).fault ≡ some x → number_of x.refusal ≤ repeated_tag) → (c : Bool)
        → (cond c (stopped DataTooShort at) (with_field (record { tag = tag; place = at; contents = take size rest }) (read_from bound (tag ∷ tags) (at + 3 + size)
        (drop size rest)))).fault ≡ some x
        → number_of x.refusal ≤ repeated_tag
    fits size rest again true q = stop-most DataTooShort at (omega arith) q
    fits size rest again false q = again q

    go : (l : List ℕ) → ((size : ℕ) (rest : List ℕ) → (read_from bound (tag ∷ tags) (at + 3 + size) (drop size rest)).fault ≡ some x → number_of x.refusal ≤ repeated_tag)
        → (c : Bool) → (cond c (stopped RepeatedTag at) (headed tag at l (read_from bound (tag ∷ tags)))).fault ≡ some x → number_of x.refusal ≤ repeated_tag
    go l again true q = stop-most RepeatedTag at (omega arith) q
    go [] again false q = stop-most DataTooShort at (omega arith) q
    go (low ∷ []) again false q = stop-most DataTooShort at (omega arith) q
    go (low ∷ high ∷ rest) again false q = fits (low + 256 * high) rest (again (low + 256 * high) rest) (ltb (length rest) (low + 256 * high)) q

pub fault-most : (file : List ℕ) (x : Fault) → (reading file).fault ≡ some x → number_of x.refusal ≤ repeated_tag
unfolding reading
fault-most file x e = number-most (length file) [] 0 file x e
