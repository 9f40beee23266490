-- Each value without children is read from its bytes. Assumes that the input is bytes.
use mathlib.Core.Path.{◌≡◌, refl, ap, subst, ◌∙◌}
use Prim.Native.Nat.{ℕ, zero, suc, ◌+◌, ◌/◌, ◌%◌, ◌≤◌, ◌<◌}
use native.Mathlib.Omega.{arith}
use mathlib.Core.Bool.{Bool, true, false, cond, ◌&&◌}
use mathlib.Core.List.{List, [], ◌∷◌, ◌++◌}
use lib.ListN.{length, get_or, drop, length-append}
use lib.Dec.{ltb}
use borrow.Author.Tests.{lt-ltb, le-leb, ltb-true}
use Rattle.refusals.specs.Limits.{most_bytes}
use Rattle.wtf8.specs.Forms.{well_formed}
use Rattle.grammar.specs.Reading.{level, node, done, claim, gives}
use Rattle.grammar.specs.Letters as letter
use Rattle.grammar.specs.Letters.{Form, Sort, keeps, contains, letters, found, class_of, among, ends_dict}
use Rattle.grammar.specs.Fields.{Fields, items, le32, le64, not_negative, fields, contained}
use Rattle.grammar.specs.State.{State}
use Rattle.grammar.specs.Steps.{opens, header, front, Chain, fresh, kids, body, enter, value}
use Rattle.grammar.proofs.Following.{Need}
use Rattle.grammar.specs.Input.{Bytes}
use Rattle.grammar.proofs.Standing.{Holds, closing}
use Rattle.grammar.proofs.Lettered.{among-each}
use Rattle.writing.specs.Canonical.{Integer, bytes32, bytes64, of_bits, bits_of, in_signed32, sized, ascii, code_string}
use Rattle.writing.specs.Shape as shape
use Rattle.writing.specs.Shape.{classed}
use Rattle.meaning.specs.Value.{Value, nil, single, integer, float, complex, bytes as byte_string, text}
use Rattle.meaning.specs.Extent.{depth_of, nodes_of, entries_of}
use Rattle.meaning.specs.Proper.{singles, lengths, Signed}
use Rattle.meaning.proofs.Means.{Sees, Means}
use Rattle.meaning.proofs.At.{byte_first, length_at, drop_at, contents_at, word_at, long_at_lem, in_signed32_lem}
use Rattle.meaning.proofs.Goes.{Goes, Wrote, wrote_none, Reads}
use Rattle.meaning.proofs.Loops.{all_children, node_goes}

-- The front of a node whose letter has no flag.
module _ (s : List ℕ) (depth at nodes used : ℕ) (slots : List ℕ) (l : ℕ) (small : l < 128) (here : at < length s) (e : get_or s at 0 ≡ l) where
  pub kept-front : (form : Form) (f : Fields) → class_of l ≡ keeps form → fields s form (at + 1) ≡ gives f
      → front s depth at nodes used slots ≡ claim level (depth + 1) at (claim node (nodes + 1) at (done (opens l 0 f)))
  unfolding front header
  kept-front form f c g =
      let m : l % 128 ≡ l = omega arith in
      let d : l / 128 ≡ 0 = omega arith in
      rw (e, lt-ltb at (length s) here, d, m, c, g) refl

  pub contained-front : (sort : Sort) (f : Fields) → class_of l ≡ contains sort → contained s sort (at + 1) ≡ gives f
      → front s depth at nodes used slots ≡ claim level (depth + 1) at (claim node (nodes + 1) at (done (opens l 0 f)))
  unfolding front header
  contained-front sort f c g =
      let m : l % 128 ≡ l = omega arith in
      let d : l / 128 ≡ 0 = omega arith in
      rw (e, lt-ltb at (length s) here, d, m, c, g) refl

module _ (s : List ℕ) (small : length s ≤ most_bytes) (bytes : Bytes s) where
  -- a value's bytes read as it, if they do with fuel for the header
  pub reads-node : (v : Value) (l : ℕ) (tl : List ℕ) → ends_dict l ≡ false
      → ((fuel depth : ℕ) (st : State) (t : Need) (rest : List ℕ) → length s ≤ st.at + suc fuel → Holds s t st → drop st.at s ≡ l ∷ (tl ++ rest)
      → Goes (Wrote s v (suc (length tl)) depth st t) t (value (suc fuel) s depth st))
      → Reads s small bytes (l ∷ tl) v
  reads-node v l tl ne go = record { head = l; tail = tl; begins = refl; no_end = ne; goes = on }
    where
      on : (fuel depth : ℕ) (st : State) (t : Need) (rest : List ℕ) → length s ≤ st.at + fuel → Holds s t st → drop st.at s ≡ l ∷ (tl ++ rest)
          → Goes (Wrote s v (suc (length tl)) depth st t) t (value fuel s depth st)
      on zero depth st t rest enough h dr = absurd (omega (arith, length_at s st.at (l ∷ (tl ++ rest)) dr h.within))
      on (suc fuel) depth st t rest enough h dr = go fuel depth st t rest enough h dr

  -- a node without children
  pub leaf_goes : (v : Value) (long depth fuel : ℕ) (st : State) (t : Need) (h : Holds s t st) (l place size : ℕ)
      → front s depth st.at (length st.nodes) (length st.slots) st.slots
      ≡ claim level (depth + 1) st.at (claim node (length st.nodes + 1) st.at (done (opens l 0 (record { place = place; size = size; children = items 0 }))))
      → st.at < place + size → place + size ≡ st.at + long → place + size ≤ length s → nodes_of v ≡ 1 → entries_of v ≡ 0 → depth_of v ≡ 1
      → ((P : Sees) (n : ℕ) (c : Chain) → P n c.kids (classed s (closing l (record { place = place; size = size; children = items 0 }) c) c.kids (class_of l)) → Means P n v)
      → Goes (Wrote s v long depth st t) t (value (suc fuel) s depth st)
  unfolding body kids Means nodes_of entries_of depth_of
  leaf_goes v long depth fuel st t h l place size fr ahead lg within ns es dp make =
      node_goes s small bytes v nil long depth fuel st t h l (record { place = place; size = size; children = items 0 }) 0 fr ahead within
      (λ t₁ k. all_children s small bytes nil 0 (depth + 1) (enter st (place + size) 0) t₁ t₁ (fresh (enter st (place + size) 0)) (wrote_none nil (depth + 1) k refl))
      (λ P n c p m. make P n c p) (omega (arith, lg)) ns es (omega (arith, dp))

  -- N F T S .
  abbrev Single : ℕ → Type 0
  Single l = (l < 128) × (class_of l ≡ keeps letter.single) × (ends_dict l ≡ false)

  pub single_reads : (l : ℕ) → among l singles ≡ true → Reads s small bytes (l ∷ []) (single l)
  unfolding class_of letters found fields nodes_of entries_of depth_of Means
  single_reads l e =
      let q : Single l =
      among-each Single l singles
      ((omega arith, refl, refl), ((omega arith, refl, refl), ((omega arith, refl, refl), ((omega arith, refl, refl), ((omega arith, refl, refl), tt))))) e in
      reads-node (single l) l [] q.2
      (λ fuel depth st t rest enough h dr.
      let lg = length_at s st.at (l ∷ rest) dr h.within in
      leaf_goes (single l) 1 depth fuel st t h l (st.at + 1) 0
      (kept-front s depth st.at (length st.nodes) (length st.slots) st.slots l q.0 (omega (arith, lg)) (byte_first s st.at (l ∷ rest) dr) letter.single _ q.1 refl)
      (omega arith) (omega arith) (omega (arith, lg)) refl refl refl
      (λ P n c p. (c.kids, subst (λ y. P n c.kids (classed s (closing l (record { place = st.at + 1; size = 0; children = items 0 }) c) c.kids y)) q.1 p)))

  -- i
  pub short-reads : (z : Integer) → Signed z → in_signed32 z ≡ true → Reads s small bytes (0x69 ∷ bytes32 (bits_of 4294967296 z)) (integer z)
  unfolding class_of letters found fields nodes_of entries_of depth_of Means
  short-reads z sg e =
      let b = in_signed32_lem z sg e in
      let x = bits_of 4294967296 z in
      reads-node (integer z) 0x69 (bytes32 x) refl
      (λ fuel depth st t rest enough h dr.
      let lg = length_at s st.at (0x69 ∷ (bytes32 x ++ rest)) dr h.within in
      let w : le32 s (st.at + 1) ≡ x = word_at s (st.at + 1) x rest b.1 (drop_at s st.at (0x69 ∷ (bytes32 x ++ rest)) dr 1) in
      leaf_goes (integer z) 5 depth fuel st t h 0x69 (st.at + 1) 4
      (kept-front s depth st.at (length st.nodes) (length st.slots) st.slots 0x69 (omega arith) (omega (arith, lg)) (byte_first s st.at (0x69 ∷ (bytes32 x ++ rest)) dr) (letter.fixed 4) _ refl
      (rw (le-leb (st.at + 1 + 4) (length s) (omega (arith, lg))) refl))
      (omega arith) (omega arith) (omega (arith, lg)) refl refl refl
      (λ P n c p. (c.kids, subst (P n c.kids) (ap (λ y. shape.integer (of_bits 2147483648 y)) w ∙ ap shape.integer b.0) p)))

  -- g, y
  pub float-reads : (x : ℕ) → x < 18446744073709551616 → Reads s small bytes (0x67 ∷ bytes64 x) (float x)
  unfolding class_of letters found fields nodes_of entries_of depth_of Means
  float-reads x hx =
      reads-node (float x) 0x67 (bytes64 x) refl
      (λ fuel depth st t rest enough h dr.
      let lg = length_at s st.at (0x67 ∷ (bytes64 x ++ rest)) dr h.within in
      let w : le64 s (st.at + 1) ≡ x = long_at_lem s (st.at + 1) x rest hx (drop_at s st.at (0x67 ∷ (bytes64 x ++ rest)) dr 1) in
      leaf_goes (float x) 9 depth fuel st t h 0x67 (st.at + 1) 8
      (kept-front s depth st.at (length st.nodes) (length st.slots) st.slots 0x67 (omega arith) (omega (arith, lg)) (byte_first s st.at (0x67 ∷ (bytes64 x ++ rest)) dr) (letter.fixed 8) _ refl
      (rw (le-leb (st.at + 1 + 8) (length s) (omega (arith, lg))) refl))
      (omega arith) (omega arith) (omega (arith, lg)) refl refl refl
      (λ P n c p. (c.kids, subst (P n c.kids) (ap shape.float w) p)))

  pub complex-reads : (x y : ℕ) → x < 18446744073709551616 → y < 18446744073709551616 → Reads s small bytes (0x79 ∷ bytes64 x ++ bytes64 y) (complex x y)
  unfolding class_of letters found fields nodes_of entries_of depth_of Means
  complex-reads x y hx hy =
      reads-node (complex x y) 0x79 (bytes64 x ++ bytes64 y) refl
      (λ fuel depth st t rest enough h dr.
      let lg = length_at s st.at (0x79 ∷ (bytes64 x ++ bytes64 y) ++ rest) dr h.within in
      let d : drop (st.at + 1) s ≡ bytes64 x ++ (bytes64 y ++ rest) = drop_at s st.at (0x79 ∷ (bytes64 x ++ bytes64 y) ++ rest) dr 1 in
      let w : le64 s (st.at + 1) ≡ x = long_at_lem s (st.at + 1) x (bytes64 y ++ rest) hx d in
      let u : le64 s (st.at + 1 + 8) ≡ y = long_at_lem s (st.at + 1 + 8) y rest hy (drop_at s (st.at + 1) (bytes64 x ++ (bytes64 y ++ rest)) d 8) in
      leaf_goes (complex x y) 17 depth fuel st t h 0x79 (st.at + 1) 16
      (kept-front s depth st.at (length st.nodes) (length st.slots) st.slots 0x79 (omega arith) (omega (arith, lg)) (byte_first s st.at (0x79 ∷ (bytes64 x ++ bytes64 y) ++ rest) dr) letter.double _ refl
      (rw (le-leb (st.at + 1 + 8) (length s) (omega (arith, lg)), le-leb (st.at + 1 + 8 + 8) (length s) (omega (arith, lg))) refl))
      (omega arith) (omega arith) (omega (arith, lg)) refl refl refl
      (λ P n c p. (c.kids, subst (P n c.kids) (ap (λ a. shape.complex a (le64 s (st.at + 1 + 8))) w ∙ ap (shape.complex x) u) p)))

  -- s, u, z
  not_negative_lem : (n : ℕ) → n < lengths → not_negative n ≡ true
  not_negative_lem n h = lt-ltb n 2147483648 h

  pub bytes-reads : (cs : List ℕ) → length cs < lengths → Reads s small bytes (sized 0x73 cs) (byte_string cs)
  unfolding class_of letters found contained nodes_of entries_of depth_of Means
  bytes-reads cs hl =
      reads-node (byte_string cs) 0x73 (bytes32 (length cs) ++ cs) refl
      (λ fuel depth st t rest enough h dr.
      let lg = length_at s st.at (0x73 ∷ (bytes32 (length cs) ++ (cs ++ rest))) dr h.within in
      let ln = length-append cs rest in
      let d : drop (st.at + 1) s ≡ bytes32 (length cs) ++ (cs ++ rest) = drop_at s st.at (0x73 ∷ (bytes32 (length cs) ++ (cs ++ rest))) dr 1 in
      let w : le32 s (st.at + 1) ≡ length cs = word_at s (st.at + 1) (length cs) (cs ++ rest) (omega arith) d in
      let k = contents_at s (st.at + 1 + 4) cs rest (drop_at s (st.at + 1) (bytes32 (length cs) ++ (cs ++ rest)) d 4) in
      leaf_goes (byte_string cs) (suc (length (bytes32 (length cs) ++ cs))) depth fuel st t h 0x73 (st.at + 1 + 4) (length cs)
      (contained-front s depth st.at (length st.nodes) (length st.slots) st.slots 0x73 (omega arith) (omega (arith, lg)) (byte_first s st.at (0x73 ∷ (bytes32 (length cs) ++ (cs ++ rest))) dr) letter.bytes _ refl
      (rw (le-leb (st.at + 1 + 4) (length s) (omega (arith, lg)), w, not_negative_lem (length cs) hl, le-leb (st.at + 1 + 4 + length cs) (length s) (omega (arith, lg, ln))) refl))
      (omega arith) (omega arith) (omega (arith, lg, ln)) refl refl refl
      (λ P n c p. (c.kids, subst (P n c.kids) (ap shape.bytes k) p)))

  pub text-reads : (cs : List ℕ) → length cs < lengths → well_formed cs ≡ true → Reads s small bytes (sized 0x75 cs) (text cs)
  unfolding class_of letters found contained nodes_of entries_of depth_of Means
  text-reads cs hl wf =
      reads-node (text cs) 0x75 (bytes32 (length cs) ++ cs) refl
      (λ fuel depth st t rest enough h dr.
      let lg = length_at s st.at (0x75 ∷ (bytes32 (length cs) ++ (cs ++ rest))) dr h.within in
      let ln = length-append cs rest in
      let d : drop (st.at + 1) s ≡ bytes32 (length cs) ++ (cs ++ rest) = drop_at s st.at (0x75 ∷ (bytes32 (length cs) ++ (cs ++ rest))) dr 1 in
      let w : le32 s (st.at + 1) ≡ length cs = word_at s (st.at + 1) (length cs) (cs ++ rest) (omega arith) d in
      let k = contents_at s (st.at + 1 + 4) cs rest (drop_at s (st.at + 1) (bytes32 (length cs) ++ (cs ++ rest)) d 4) in
      leaf_goes (text cs) (suc (length (bytes32 (length cs) ++ cs))) depth fuel st t h 0x75 (st.at + 1 + 4) (length cs)
      (contained-front s depth st.at (length st.nodes) (length st.slots) st.slots 0x75 (omega arith) (omega (arith, lg)) (byte_first s st.at (0x75 ∷ (bytes32 (length cs) ++ (cs ++ rest))) dr) letter.text _ refl
      (rw (le-leb (st.at + 1 + 4) (length s) (omega (arith, lg)), w, not_negative_lem (length cs) hl, le-leb (st.at + 1 + 4 + length cs) (length s) (omega (arith, lg, ln)), ap well_formed k ∙ wf) refl))
      (omega arith) (omega arith) (omega (arith, lg, ln)) refl refl refl
      (λ P n c p. (c.kids, subst (P n c.kids) (ap shape.text k) p)))

  short-text-reads : (cs : List ℕ) → length cs < 256 → well_formed cs ≡ true → Reads s small bytes (0x7A ∷ length cs ∷ cs) (text cs)
  unfolding class_of letters found contained nodes_of entries_of depth_of Means
  short-text-reads cs hl wf =
      reads-node (text cs) 0x7A (length cs ∷ cs) refl
      (λ fuel depth st t rest enough h dr.
      let lg = length_at s st.at (0x7A ∷ length cs ∷ (cs ++ rest)) dr h.within in
      let ln = length-append cs rest in
      let d : drop (st.at + 1) s ≡ length cs ∷ (cs ++ rest) = drop_at s st.at (0x7A ∷ length cs ∷ (cs ++ rest)) dr 1 in
      let w : get_or s (st.at + 1) 0 ≡ length cs = byte_first s (st.at + 1) (length cs ∷ (cs ++ rest)) d in
      let k = contents_at s (st.at + 1 + 1) cs rest (drop_at s (st.at + 1) (length cs ∷ (cs ++ rest)) d 1) in
      leaf_goes (text cs) (suc (suc (length cs))) depth fuel st t h 0x7A (st.at + 1 + 1) (length cs)
      (contained-front s depth st.at (length st.nodes) (length st.slots) st.slots 0x7A (omega arith) (omega (arith, lg)) (byte_first s st.at (0x7A ∷ length cs ∷ (cs ++ rest)) dr) letter.short _ refl
      (rw (le-leb (st.at + 1 + 1) (length s) (omega (arith, lg)), w, le-leb (st.at + 1 + 1 + length cs) (length s) (omega (arith, lg, ln)), ap well_formed k ∙ wf) refl))
      (omega arith) (omega arith) (omega (arith, lg, ln)) refl refl refl
      (λ P n c p. (c.kids, subst (P n c.kids) (ap shape.text k) p)))

  pub code_string-reads : (cs : List ℕ) → length cs < lengths → well_formed cs ≡ true → Reads s small bytes (code_string cs) (text cs)
  unfolding code_string
  code_string-reads cs hl wf = go (ltb (length cs) 256) refl (ascii cs)
    where
      go : (b : Bool) → ltb (length cs) 256 ≡ b → (a : Bool) → Reads s small bytes (cond (b && a) (0x7A ∷ length cs ∷ cs) (sized 0x75 cs)) (text cs)
      go true e true = short-text-reads cs (ltb-true (length cs) 256 e) wf
      go true e false = text-reads cs hl wf
      go false e a = text-reads cs hl wf
