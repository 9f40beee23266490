-- What a writing emits, and what it comes to within room; and what a node is in the stores that a writer is lent. Assumes nothing.
use mathlib.Core.Path.{◌≡◌, refl, sym, ap, ◌∙◌}
use Prim.Native.Nat.{ℕ, zero, suc, ◌+◌, ◌≤◌, ◌<◌}
use native.Mathlib.Omega.{arith}
use mathlib.Core.Bool.{Bool, true, false, cond, ◌&&◌}
use mathlib.Core.List.{List, [], ◌++◌, append_assoc, append-nil}
use lib.ListN.{length, length-append}
use lib.Dec.{leb, ltb, eqb}
use borrow.Author.Tests.{le-leb, eqb-true, leb-true}
use Rattle.refusals.specs.Numbers.{no_room}
use Rattle.grammar.specs.Reading.{gives, stops}
use Rattle.grammar.specs.Letters.{letters, found, class_of}
use Rattle.grammar.specs.Record.{Tables, holds, look, node_of, nodes_in}
use Rattle.writing.specs.Writing.{Writing, ended, refused, emit, then, into}
use Rattle.writing.specs.Shape as shape
use Rattle.writing.specs.Shape.{Shape, shape_of}
use Rattle.writing.specs.Names.{contents_of}
use Rattle.writing.specs.Steps.{shaped, is_code, no_parts, parted, writing}
use Rattle.meaning.proofs.Means.{tag}
use Rattle.meaning.proofs.Inversion.{bytes_class, text_class}

-- The writing ends, and these are its bytes.
abbrev pub Emits : Writing → List ℕ → Type 0
Emits ended bs = bs ≡ []
Emits (refused number place) bs = ⊥
Emits (emit own w) bs = (rest : List ℕ) × (bs ≡ own ++ rest) × Emits w rest

pub emits_own : (own : List ℕ) → Emits (emit own ended) own
emits_own own = ([], sym (append-nil own), refl)

pub emits_then : (w u : Writing) (bs cs : List ℕ) → Emits w bs → Emits u cs → Emits (then w u) (bs ++ cs)
unfolding then
emits_then ended u bs cs e f = rw e f
emits_then (refused number place) u bs cs e f = absurd e
emits_then (emit own w) u bs cs e f = (e.0 ++ cs, ap (λ x. x ++ cs) e.1 ∙ append_assoc own e.0 cs, emits_then w u e.0 cs e.2 f)

pub emits_into : (room : ℕ) (out bs : List ℕ) (w : Writing) → Emits w bs → length out + length bs ≤ room → into room out w ≡ gives (out ++ bs)
unfolding into
emits_into room out bs ended e h = rw e (ap gives (sym (append-nil out)))
emits_into room out bs (refused number place) e h = absurd e
emits_into room out bs (emit own w) e h =
    let n = ap length e.1 ∙ length-append own e.0 in
    rw (le-leb (length out + length own) room (omega (arith, n)), e.1)
    (emits_into room (out ++ own) e.0 w e.2 (omega (arith, n, length-append out own)) ∙ ap gives (append_assoc out own e.0))

-- where they do not fit, that is the refusal
pub emits_over : (room : ℕ) (out bs : List ℕ) (w : Writing) → Emits w bs → length out ≤ room → room < length out + length bs → into room out w ≡ stops no_room room
unfolding into
emits_over room out bs ended e h l = absurd (omega (arith, ap length e))
emits_over room out bs (refused number place) e h l = absurd e
emits_over room out bs (emit own w) e h l = go (leb (length out + length own) room) refl (λ p q. emits_over room (out ++ own) e.0 w e.2 p q)
  where
    n : length bs ≡ length own + length e.0
    n = ap length e.1 ∙ length-append own e.0

    go : (b : Bool) → leb (length out + length own) room ≡ b
        → (length (out ++ own) ≤ room → room < length (out ++ own) + length e.0 → into room (out ++ own) w ≡ stops no_room room)
        → cond b (into room (out ++ own) w) (stops no_room room) ≡ stops no_room room
    go true q more = more (omega (arith, leb-true (length out + length own) room q, length-append out own)) (omega (arith, n, length-append out own))
    go false q more = refl

-- A node in the stores that a writer is lent.
pub record InTables (t : Tables) (n : ℕ) (kids : List ℕ) (sh : Shape) : Type 0 where
  pub held : look t n ≡ holds kids
  pub is : shape_of t n kids ≡ sh

module _ (t : Tables) where
  pub bytes_held : (n : ℕ) (kids cs : List ℕ) → InTables t n kids (shape.bytes cs) → contents_of t n ≡ cs
  unfolding shape_of
  bytes_held n kids cs h = (bytes_class t.input (node_of t n) kids (class_of (node_of t n).letter) cs h.is).1

  pub text_held : (n : ℕ) (kids cs : List ℕ) → InTables t n kids (shape.text cs) → contents_of t n ≡ cs
  unfolding shape_of
  text_held n kids cs h = (text_class t.input (node_of t n) kids (class_of (node_of t n).letter) cs h.is).1

  no_code : (n : ℕ) (kids : List ℕ) (sh : Shape) → InTables t n kids sh → tag sh < 9 → is_code t n ≡ false
  unfolding shape_of class_of letters found
  no_code n kids sh h l = go (ltb n (nodes_in t.nodes t.used_nodes)) (eqb (node_of t n).letter 0x63) refl
    where
      go : (a b : Bool) → eqb (node_of t n).letter 0x63 ≡ b → a && b ≡ false
      go true true e =
          let z : (node_of t n).letter ≡ 0x63 = eqb-true (node_of t n).letter 0x63 e in
          let q : tag (shape_of t n kids) ≡ 9 = rw z refl in
          absurd (omega (arith, q, ap tag h.is, l))
      go true false e = refl
      go false b e = refl

  -- a node that is no code is written by its shape
  pub plain-writing : (a n : ℕ) (kids : List ℕ) (sh : Shape) → InTables t n kids sh → tag sh < 9 → (g : ℕ → List ℕ → Writing) × (writing (suc a) t n ≡ shaped (writing a t) g sh)
  unfolding writing
  plain-writing zero n kids sh h l = (no_parts n, rw (no_code n kids sh h l, h.held, h.is) refl)
  plain-writing (suc a) n kids sh h l = (parted t a (writing a t), rw (h.held, h.is) refl)

  pub code-writing : (a n : ℕ) (kids : List ℕ) (sh : Shape) → InTables t n kids sh → writing (suc (suc a)) t n ≡ shaped (writing (suc a) t) (parted t a (writing a t)) sh
  unfolding writing
  code-writing a n kids sh h = rw (h.held, h.is) refl
