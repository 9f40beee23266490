-- A writing that is accepted is of the value's bytes, whatever the nesting and the room were: with more allowance a writing that ends emits
-- the same bytes, and with allowance enough it emits those of the value. By induction on the allowance. Assumes nothing.
use mathlib.Core.Path.{◌≡◌, refl, sym, ap, subst, ◌∙◌}
use Prim.Native.Nat.{ℕ, zero, suc, ◌+◌, ◌-◌, min}
use native.Mathlib.Omega.{arith}
use mathlib.Core.Bool.{Bool, true, false, cond}
use mathlib.Core.List.{List, [], ◌∷◌, ◌++◌, append_assoc, append-nil}
use lib.ListN.{length, get_or, take, drop}
use lib.Dec.{leb, ltb}
use Rattle.refusals.specs.Numbers.{no_room, input_too_long, too_deep}
use Rattle.refusals.specs.Limits.{most_bytes, most_nesting}
use Rattle.grammar.specs.Reading.{gives, stops}
use Rattle.grammar.specs.Record.{Tables, Looked, holds, faulty, look}
use Rattle.grammar.specs.Steps.{kinds_part, line_part}
use Rattle.writing.specs.Writing.{Writing, ended, refused, emit, then, each, into}
use Rattle.writing.specs.Shape as shape
use Rattle.writing.specs.Shape.{Shape, shape_of}
use Rattle.writing.specs.Canonical.{bytes32, words, shown_line}
use Rattle.writing.specs.Names.{contents_of, in_groups}
use Rattle.writing.specs.Steps as writer
use Rattle.writing.specs.Steps.{Manner, as_value, as_locals, manners, string_part, names_part, kids_of, part, parts_as, parted, shaped, looked, is_code, no_parts, writing}
use Rattle.writing.specs.Answer.{most_output, written}
use Rattle.meaning.specs.Value.{Value}
use Rattle.meaning.specs.Extent.{depth_of}
use Rattle.meaning.specs.Proper.{Proper}
use Rattle.meaning.specs.Written.{written_as}
use Rattle.meaning.proofs.Means.{Means}
use Rattle.meaning.proofs.Emits.{Emits, emits_then, InTables}
use Rattle.meaning.proofs.TheoremC.{emits_written}

-- What is accepted has ended, and its bytes are what it emits, one list and no other.
gives_emits : (room : ℕ) (out : List ℕ) (w : Writing) (bs : List ℕ) → into room out w ≡ gives bs → (rest : List ℕ) × (bs ≡ out ++ rest) × Emits w rest
unfolding into
gives_emits room out ended bs e = let z : out ≡ bs = cc in ([], sym z ∙ sym (append-nil out), refl)
gives_emits room out (refused number place) bs e = let z : ◌≡◌ {A = ℕ} 0 1 = cc in absurd (omega arith)
gives_emits room out (emit own w) bs e = go (leb (length out + length own) room) e (λ q. gives_emits room (out ++ own) w bs q)
  where
    go : (b : Bool) → cond b (into room (out ++ own) w) (stops no_room room) ≡ gives bs
        → (into room (out ++ own) w ≡ gives bs → (rest : List ℕ) × (bs ≡ (out ++ own) ++ rest) × Emits w rest)
        → (rest : List ℕ) × (bs ≡ out ++ rest) × Emits (emit own w) rest
    go true e on = let h = on e in (own ++ h.0, h.1 ∙ append_assoc out own h.0, (h.0, refl, h.2))
    go false e on = let z : ◌≡◌ {A = ℕ} 0 1 = cc in absurd (omega arith)

emits_one : (w : Writing) (bs cs : List ℕ) → Emits w bs → Emits w cs → bs ≡ cs
emits_one ended bs cs e f = e ∙ sym f
emits_one (refused number place) bs cs e f = absurd e
emits_one (emit own w) bs cs e f = e.1 ∙ ap (λ z. own ++ z) (emits_one w e.0 f.0 e.2 f.2) ∙ sym f.1

-- One writing emits whatever another does.
abbrev Keeps : Writing → Writing → Type 0
Keeps w u = (bs : List ℕ) → Emits w bs → Emits u bs

emits_apart : (w u : Writing) (bs : List ℕ) → Emits (then w u) bs → (b : List ℕ) × (c : List ℕ) × (bs ≡ b ++ c) × Emits w b × Emits u c
unfolding then
emits_apart ended u bs e = ([], bs, refl, refl, e)
emits_apart (refused number place) u bs e = absurd e
emits_apart (emit own w) u bs e =
    let h = emits_apart w u e.0 e.2 in
    (own ++ h.0, h.1, e.1 ∙ ap (λ z. own ++ z) h.2 ∙ sym (append_assoc own h.0 h.1), (h.0, refl, h.3), h.4)

then_keeps : (w w' u u' : Writing) → Keeps w w' → Keeps u u' → Keeps (then w u) (then w' u')
then_keeps w w' u u' k l bs e =
    let h = emits_apart w u bs e in
    subst (Emits (then w' u')) (sym h.2) (emits_then w' u' h.0 h.1 (k h.0 h.3) (l h.1 h.4))

emit-keeps : (own : List ℕ) (w w' : Writing) → Keeps w w' → Keeps (emit own w) (emit own w')
emit-keeps own w w' k bs e = (e.0, e.1, k e.0 e.2)

each_keeps : (f f' : ℕ → Writing) → ((n : ℕ) → Keeps (f n) (f' n)) → (ns : List ℕ) → Keeps (each f ns) (each f' ns)
unfolding each
each_keeps f f' k [] bs e = e
each_keeps f f' k (n ∷ ns) bs e = then_keeps (f n) (f' n) (each f ns) (each f' ns) (k n) (each_keeps f f' k ns) bs e

-- One level more, for each thing that is written.
module _ (t : Tables) where
  string-keeps : (a v : ℕ) → Keeps (string_part t a v) (string_part t (suc a) v)
  string-keeps zero v bs e = absurd e
  string-keeps (suc a) v bs e = e

  names_keep : (a v : ℕ) (names : List ℕ) → Keeps (names_part t a v names) (names_part t (suc a) v names)
  names_keep zero v names bs e = absurd e
  names_keep (suc a) v names bs e =
      let x : suc a - 1 ≡ a = omega arith in
      let y : suc (suc a) - 1 ≡ suc a = omega arith in
      let e₁ : Emits (emit (0x28 ∷ bytes32 (length names)) (each (string_part t a) names)) bs = rw x at e in
      rw y (emit-keeps (0x28 ∷ bytes32 (length names)) (each (string_part t a) names) (each (string_part t (suc a)) names)
      (each_keeps (string_part t a) (string_part t (suc a)) (string-keeps a) names) bs e₁)

  module _ (a : ℕ) (f f' : ℕ → Writing) (k : (n : ℕ) → Keeps (f n) (f' n)) where
    part-keeps : (kinds : List ℕ) (m : Manner) (v : ℕ) → Keeps (part t a f kinds m v) (part t (suc a) f' kinds m v)
    part-keeps kinds as_value v = k v
    part-keeps kinds writer.as_names v = names_keep a v (kids_of t v)
    part-keeps kinds as_locals v = names_keep a v (in_groups t kinds (kids_of t v))
    part-keeps kinds writer.as_string v = string-keeps a v

    parts_keep : (kinds : List ℕ) (ms : List Manner) (vs : List ℕ) → Keeps (parts_as t a f kinds ms vs) (parts_as t (suc a) f' kinds ms vs)
    unfolding parts_as
    parts_keep kinds [] vs bs e = e
    parts_keep kinds (m ∷ ms) [] bs e = e
    parts_keep kinds (m ∷ ms) (v ∷ vs) bs e =
        then_keeps (part t a f kinds m v) (part t (suc a) f' kinds m v) (parts_as t a f kinds ms vs) (parts_as t (suc a) f' kinds ms vs) (part-keeps kinds m v) (parts_keep kinds ms vs) bs e

    parted-keeps : (line : ℕ) (vs : List ℕ) → Keeps (parted t a f line vs) (parted t (suc a) f' line vs)
    unfolding parted
    parted-keeps line vs =
        let kinds = contents_of t (get_or vs kinds_part 0) in
        let first = bytes32 (shown_line line) in
        let ms = drop line_part manners in
        let ns = drop line_part vs in
        let w = parts_as t a f kinds ms ns in
        let w' = parts_as t (suc a) f' kinds ms ns in
        then_keeps (parts_as t a f kinds (take line_part manners) (take line_part vs)) (parts_as t (suc a) f' kinds (take line_part manners) (take line_part vs)) (emit first w) (emit first w')
        (parts_keep kinds (take line_part manners) (take line_part vs)) (emit-keeps first w w' (parts_keep kinds ms ns))

  module _ (f f' : ℕ → Writing) (g g' : ℕ → List ℕ → Writing) (k : (n : ℕ) → Keeps (f n) (f' n)) (l : (line : ℕ) (vs : List ℕ) → Keeps (g line vs) (g' line vs)) where
    shaped-keeps : (sh : Shape) → Keeps (shaped f g sh) (shaped f' g' sh)
    shaped-keeps (shape.single letter) bs e = e
    shaped-keeps (shape.integer z) bs e = e
    shaped-keeps (shape.float bits) bs e = e
    shaped-keeps (shape.complex real imaginary) bs e = e
    shaped-keeps (shape.bytes contents) bs e = e
    shaped-keeps (shape.text contents) bs e = e
    shaped-keeps (shape.sequence letter kids) bs e = emit-keeps (letter ∷ bytes32 (length kids)) (each f kids) (each f' kids) (each_keeps f f' k kids) bs e
    shaped-keeps (shape.slice kids) bs e = emit-keeps (0x3A ∷ []) (each f kids) (each f' kids) (each_keeps f f' k kids) bs e
    shaped-keeps (shape.dict kids) bs e =
        let close = emit (0x30 ∷ []) ended in
        emit-keeps (0x7B ∷ []) (then (each f kids) close) (then (each f' kids) close) (then_keeps (each f kids) (each f' kids) close close (each_keeps f f' k kids) (λ cs q. q)) bs e
    shaped-keeps (shape.code numbers line parts) bs e = emit-keeps (0x63 ∷ words numbers) (g line parts) (g' line parts) (l line parts) bs e

    looked-keeps : (n : ℕ) (o : Looked) → Keeps (looked f g t n o) (looked f' g' t n o)
    looked-keeps n (holds kids) bs e = shaped-keeps (shape_of t n kids) bs e
    looked-keeps n (faulty place) bs e = absurd e

  level-keeps : (a n : ℕ) → Keeps (writing a t n) (writing (suc a) t n)
  unfolding writing
  level-keeps zero n bs e = absurd e
  level-keeps (suc zero) n bs e = go (is_code t n) e
    where
      go : (b : Bool) → Emits (cond b (refused too_deep n) (looked (writing zero t) (no_parts n) t n (look t n))) bs
          → Emits (looked (writing (suc zero) t) (parted t zero (writing zero t)) t n (look t n)) bs
      go true e = absurd e
      go false e = looked-keeps (writing zero t) (writing (suc zero) t) (no_parts n) (parted t zero (writing zero t)) (λ m cs q. absurd q) (λ line vs cs q. absurd q) n (look t n) bs e
  level-keeps (suc (suc a)) n bs e =
      looked-keeps (writing (suc a) t) (writing (suc (suc a)) t) (parted t a (writing a t)) (parted t (suc a) (writing (suc a) t)) (level-keeps (suc a))
      (parted-keeps a (writing a t) (writing (suc a) t) (level-keeps a)) n (look t n) bs e

  levels_keep : (more a n : ℕ) → Keeps (writing a t n) (writing (more + a) t n)
  levels_keep zero a n bs e = let z : 0 + a ≡ a = omega arith in rw z e
  levels_keep (suc more) a n bs e =
      let z : suc more + a ≡ suc (more + a) = omega arith in
      rw z (level-keeps (more + a) n bs (levels_keep more a n bs e))

  within : (nesting room n : ℕ) (bs : List ℕ) → written t n nesting room ≡ gives bs → into (min room most_output) [] (writing (min nesting most_nesting) t n) ≡ gives bs
  unfolding written
  within nesting room n bs e = go (ltb most_bytes (length t.input)) e
    where
      go : (b : Bool) → cond b (stops input_too_long 0) (into (min room most_output) [] (writing (min nesting most_nesting) t n)) ≡ gives bs
          → into (min room most_output) [] (writing (min nesting most_nesting) t n) ≡ gives bs
      go true e = let z : ◌≡◌ {A = ℕ} 0 1 = cc in absurd (omega arith)
      go false e = e

  pub accepted_as : (n : ℕ) (v : Value) → Means (InTables t) n v → Proper v → (nesting room : ℕ) (bs : List ℕ) → written t n nesting room ≡ gives bs → bs ≡ written_as v
  accepted_as n v m p nesting room bs e =
      let a = min nesting most_nesting in
      let h = gives_emits (min room most_output) [] (writing a t n) bs (within nesting room n bs e) in
      let d = depth_of v in
      h.1 ∙ emits_one (writing (d + a) t n) h.0 (written_as v) (levels_keep d a n h.0 h.2) (emits_written t v n (d + a) m p (omega arith))
