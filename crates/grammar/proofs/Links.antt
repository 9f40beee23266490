-- Entries linked into chains, and what becomes of them while others are added: a finished chain stays as it is, and an open one gets an entry
-- at its end. Each law is by induction on the children. Assumes nothing.
use mathlib.Core.Path.{◌≡◌, refl, sym, ap, ◌∙◌}
use Prim.Native.Nat.{ℕ, ◌+◌, ◌≤◌, ◌<◌}
use native.Mathlib.Omega.{arith}
use mathlib.Core.Bool.{Bool, true, false}
use mathlib.Core.Option.{Option, none, some}
use mathlib.Core.List.{List, [], ◌∷◌, ◌++◌}
use lib.ListN.{length, get_or, set, length-append, length-set, get_or-append}
use lib.Seq.{get_or-set_same, get_or-set_other, get_or-append_seam}
use lib.Dec.{eqb}
use borrow.Author.Tests.{eqb-true, eqb-false}
use Rattle.refusals.specs.Limits.{nothing}
use Rattle.grammar.specs.State.{Entry, unlinked}
use Rattle.grammar.specs.Steps.{first_of}

abbrev pub child_of : List Entry → ℕ → ℕ
child_of es e = (get_or es e unlinked).child

abbrev pub next_of : List Entry → ℕ → ℕ
next_of es e = (get_or es e unlinked).next

-- "one that is used or none"
pub data UsedOrNone (used e : ℕ) : Type 0 where
  is_used : e < used → UsedOrNone used e
  is_none : e ≡ nothing → UsedOrNone used e

-- The children after an entry, in the order of their entries' numbers; the link of the last entry is not looked at.
abbrev pub More : List Entry → ℕ → List ℕ → Type 0
More es e [] = Unit
More es e (w ∷ ws) = (e < next_of es e) × (next_of es e < length es) × (child_of es (next_of es e) ≡ w) × More es (next_of es e) ws

-- The children from a first entry on; no entry if there are none.
abbrev pub Linked : List Entry → ℕ → List ℕ → Type 0
Linked es e [] = e ≡ nothing
Linked es e (v ∷ vs) = (e < length es) × (child_of es e ≡ v) × More es e vs

pub linked_first : (es : List Entry) (e : ℕ) (vs : List ℕ) → Linked es e vs → UsedOrNone (length es) e
linked_first es e [] h = is_none h
linked_first es e (v ∷ vs) h = is_used h.0

-- Entries are added, and an open link may be set; all else stays.
pub data KeptLink (before now : ℕ) : Type 0 where
  was_open : before ≡ nothing → KeptLink before now
  stays : now ≡ before → KeptLink before now

pub record Grows (es es' : List Entry) : Type 0 where
  pub longer : length es ≤ length es'
  pub child : (i : ℕ) → i < length es → child_of es' i ≡ child_of es i
  pub link : (i : ℕ) → i < length es → KeptLink (next_of es i) (next_of es' i)

pub grows_more : (es es' : List Entry) → Grows es es' → length es ≤ nothing → (e : ℕ) (vs : List ℕ) → e < length es → More es e vs → More es' e vs
grows_more es es' g few e [] l h = tt
grows_more es es' g few e (w ∷ ws) l h = go (g.link e l) (grows_more es es' g few (next_of es e) ws h.1 h.3)
  where
    go : KeptLink (next_of es e) (next_of es' e) → More es' (next_of es e) ws → More es' e (w ∷ ws)
    go (was_open q) m = absurd (omega (arith, q, h.1))
    go (stays q) m = rw q (h.0, omega (arith, h.1, g.longer), g.child (next_of es e) h.1 ∙ h.2, m)

pub grows_linked : (es es' : List Entry) → Grows es es' → length es ≤ nothing → (e : ℕ) (vs : List ℕ) → Linked es e vs → Linked es' e vs
grows_linked es es' g few e [] h = h
grows_linked es es' g few e (v ∷ vs) h = (omega (arith, h.0, g.longer), g.child e h.0 ∙ h.1, grows_more es es' g few e vs h.0 h.2)

-- What stood stays.
pub record Kept (es es' : List Entry) : Type 0 where
  pub longer : length es ≤ length es'
  pub entry : (i : ℕ) → i < length es → get_or es' i unlinked ≡ get_or es i unlinked

pub kept_grows : (es es' : List Entry) → Kept es es' → Grows es es'
kept_grows es es' k = record { longer = k.longer; child = λ i h. ap (λ x. x.child) (k.entry i h); link = λ i h. stays (ap (λ x. x.next) (k.entry i h)) }

-- A chain while it is built: the way from its first entry to its last, whose link is open.
abbrev pub Way : List Entry → ℕ → List ℕ → ℕ → Type 0
Way es e [] last = last ≡ e
Way es e (w ∷ ws) last = (e < next_of es e) × (next_of es e < length es) × (child_of es (next_of es e) ≡ w) × Way es (next_of es e) ws last

-- entries from `base` on are the chain's own and its children's
pub data Built (base : ℕ) (es : List Entry) : List ℕ → ℕ → Option ℕ → Type 0 where
  no_child : Built base es [] nothing none
  children : (v : ℕ) (vs : List ℕ) (e last : ℕ) → base ≤ e → e < length es → child_of es e ≡ v → Way es e vs last → base ≤ last → last < length es → next_of es last ≡ nothing → Built base es (v ∷ vs) e (some last)

way_more : (es : List Entry) (e : ℕ) (vs : List ℕ) (last : ℕ) → Way es e vs last → More es e vs
way_more es e [] last w = tt
way_more es e (x ∷ xs) last w = (w.0, w.1, w.2, way_more es (next_of es e) xs last w.3)

pub built-linked : {base : ℕ} {es : List Entry} {kids : List ℕ} {first : ℕ} {last : Option ℕ} → Built base es kids first last → Linked es first kids
built-linked no_child = refl
built-linked {es = es} (children v vs e last b l c w lb ll o) = (l, c, way_more es e vs last w)

way_kept : (es es' : List Entry) → Kept es es' → (e : ℕ) (vs : List ℕ) (last : ℕ) → e < length es → Way es e vs last → Way es' e vs last
way_kept es es' k e [] last l w = w
way_kept es es' k e (x ∷ xs) last l w =
    let q : next_of es' e ≡ next_of es e = ap (λ z. z.next) (k.entry e l) in
    rw q (w.0, omega (arith, w.1, k.longer), ap (λ z. z.child) (k.entry (next_of es e) w.1) ∙ w.2, way_kept es es' k (next_of es e) xs last w.1 w.3)

-- a chain stays while its next child is read
pub built-kept : {base : ℕ} {es es' : List Entry} {kids : List ℕ} {first : ℕ} {last : Option ℕ} → Kept es es' → Built base es kids first last → Built base es' kids first last
built-kept k no_child = no_child
built-kept {es = es} {es' = es'} k (children v vs e last b l c w lb ll o) =
    children v vs e last b (omega (arith, k.longer)) (ap (λ z. z.child) (k.entry e l) ∙ c) (way_kept es es' k e vs last l w) lb (omega (arith, k.longer)) (ap (λ z. z.next) (k.entry last ll) ∙ o)

-- An entry is added for a child, and the last entry before it is linked to it.
pub record Added (es es' : List Entry) (last : Option ℕ) (v : ℕ) : Type 0 where
  pub longer : length es' ≡ length es + 1
  pub child : (i : ℕ) → i < length es → child_of es' i ≡ child_of es i
  pub link : (i : ℕ) → i < length es → (last ≡ some i → ⊥) → next_of es' i ≡ next_of es i
  pub linked : (i : ℕ) → last ≡ some i → i < length es → next_of es' i ≡ length es
  pub new_child : child_of es' (length es) ≡ v
  pub new_link : next_of es' (length es) ≡ nothing

abbrev pub new_entry : ℕ → Entry
new_entry v = record { child = v; next = nothing }

module _ (es : List Entry) (v : ℕ) where
  abbrev more : List Entry
  more = es ++ new_entry v ∷ []

  length_more : length more ≡ length es + 1
  length_more = length-append es (new_entry v ∷ [])

  old : (i : ℕ) → i < length es → get_or more i unlinked ≡ get_or es i unlinked
  old i h = get_or-append es (new_entry v ∷ []) unlinked i h

  new : get_or more (length es) unlinked ≡ new_entry v
  new = get_or-append_seam es (new_entry v) [] unlinked

  pub added_first : Added es more none v
  added_first =
      record {
        longer = length_more;
        child = λ i h. ap (λ z. z.child) (old i h);
        link = λ i h q. ap (λ z. z.next) (old i h);
        linked = λ i q h. let z : ◌≡◌ {A = ℕ} 0 1 = cc in absurd (omega arith);
        new_child = ap (λ z. z.child) new;
        new_link = ap (λ z. z.next) new;
      }

  module _ (last : ℕ) (l : last < length es) where
    abbrev joined : List Entry
    joined = set more last (record { child = (get_or more last unlinked).child; next = length es })

    at_last : get_or joined last unlinked ≡ record { child = (get_or more last unlinked).child; next = length es }
    at_last = get_or-set_same more last _ unlinked (omega (arith, length_more))

    elsewhere : (i : ℕ) → (i ≡ last → ⊥) → get_or joined i unlinked ≡ get_or more i unlinked
    elsewhere i q = get_or-set_other more last i _ unlinked q

    joined-child : (i : ℕ) → i < length es → (b : Bool) → eqb i last ≡ b → child_of joined i ≡ child_of es i
    joined-child i h true e =
        let q : i ≡ last = eqb-true i last e in
        rw q (ap (λ z. z.child) at_last ∙ ap (λ z. z.child) (old last l))
    joined-child i h false e = ap (λ z. z.child) (elsewhere i (eqb-false i last e)) ∙ ap (λ z. z.child) (old i h)

    pub added_next : Added es joined (some last) v
    added_next =
        record {
          longer = length-set more last _ ∙ length_more;
          child = λ i h. joined-child i h (eqb i last) refl;
          link = λ i h q. ap (λ z. z.next) (elsewhere i (λ e. q (ap some (sym e)))) ∙ ap (λ z. z.next) (old i h);
          linked = λ i q h. let e : last ≡ i = cc in rw (← e) (ap (λ z. z.next) at_last);
          new_child = ap (λ z. z.child) (elsewhere (length es) (λ e. omega arith)) ∙ ap (λ z. z.child) new;
          new_link = ap (λ z. z.next) (elsewhere (length es) (λ e. omega arith)) ∙ ap (λ z. z.next) new;
        }

way_le : (es : List Entry) (e : ℕ) (vs : List ℕ) (last : ℕ) → Way es e vs last → e ≤ last
way_le es e [] last w = omega arith
way_le es e (x ∷ xs) last w = omega (arith, w.0, way_le es (next_of es e) xs last w.3)

way_added : (es es' : List Entry) (last v : ℕ) → Added es es' (some last) v → (e : ℕ) (vs : List ℕ) → e < length es → Way es e vs last → Way es' e (vs ++ v ∷ []) (length es)
way_added es es' last v a e [] l w =
    let q : next_of es' e ≡ length es = a.linked e (ap some w) l in
    rw q (l, omega (arith, a.longer), a.new_child, refl)
way_added es es' last v a e (x ∷ xs) l w =
    let q : next_of es' e ≡ next_of es e = a.link e l (λ z. let y : last ≡ e = cc in omega (arith, w.0, way_le es (next_of es e) xs last w.3)) in
    rw q (w.0, omega (arith, w.1, a.longer), a.child (next_of es e) w.1 ∙ w.2, way_added es es' last v a (next_of es e) xs w.1 w.3)

-- the chain with one child more
pub built-added : {base : ℕ} {es es' : List Entry} {kids : List ℕ} {first : ℕ} {last : Option ℕ} {v : ℕ} → base ≤ length es → Added es es' last v
    → Built base es kids first last → Built base es' (kids ++ v ∷ []) (first_of last (length es) first) (some (length es))
built-added {es = es} {v = v} b a no_child = children v [] (length es) (length es) b (omega (arith, a.longer)) a.new_child refl b (omega (arith, a.longer)) a.new_link
built-added {es = es} {es' = es'} {v = v} b a (children x xs e last be l c w lb ll o) =
    children x (xs ++ v ∷ []) e (length es) be (omega (arith, a.longer)) (a.child e l ∙ c) (way_added es es' last v a e xs l w) b (omega (arith, a.longer)) a.new_link

-- finished chains stay
pub added_grows : {base : ℕ} {es es' : List Entry} {kids : List ℕ} {first : ℕ} {last : Option ℕ} {v : ℕ} → Added es es' last v → Built base es kids first last → Grows es es'
added_grows a no_child =
    record { longer = omega (arith, a.longer); child = a.child; link = λ i h. stays (a.link i h (λ q. let z : ◌≡◌ {A = ℕ} 0 1 = cc in absurd (omega arith))) }
added_grows {es = es} {es' = es'} a (children x xs e last be l c w lb ll o) =
    record { longer = omega (arith, a.longer); child = a.child; link = λ i h. go i h (eqb i last) refl }
  where
    go : (i : ℕ) → i < length es → (b : Bool) → eqb i last ≡ b → KeptLink (next_of es i) (next_of es' i)
    go i h true q =
        let z : i ≡ last = eqb-true i last q in
        was_open (rw z o)
    go i h false q = stays (a.link i h (λ z. let y : last ≡ i = cc in eqb-false i last q (sym y)))
