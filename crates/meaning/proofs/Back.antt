-- Theorem B: the canonical bytes of a value, with anything after them, are read as that value. One law a kind of value, and an induction on
-- the value. Assumes that the input is bytes.
use mathlib.Core.Path.{◌≡◌, refl, ap, subst, ◌∙◌}
use Prim.Native.Nat.{ℕ, zero, suc, ◌+◌, ◌-◌, ◌*◌, ◌%◌, ◌≤◌, ◌<◌}
use native.Mathlib.Omega.{arith}
use mathlib.Core.Bool.{Bool, true, false, cond, not}
use mathlib.Core.List.{List, [], ◌∷◌, ◌++◌, append_assoc}
use lib.ListN.{length, drop, length-append}
use lib.Dec.{leb, ltb}
use borrow.Author.Tests.{lt-ltb, le-ltb, le-leb, ltb-false, leb-false, ne_eqb}
use Rattle.refusals.specs.Limits.{most_bytes}
use Rattle.grammar.specs.Reading.{Answer}
use Rattle.grammar.specs.Letters as letter
use Rattle.grammar.specs.Letters.{keeps, letters, found, class_of, among, ends_dict}
use Rattle.grammar.specs.Fields.{Fields, items, pairs, le16, le32, not_negative, digit_count, digits, last_digit, pylong, fields}
use Rattle.grammar.specs.Leaf.{magnitude}
use Rattle.grammar.specs.State.{State}
use Rattle.grammar.specs.Steps.{fresh, kids, couples, body, enter, value}
use Rattle.grammar.proofs.Following.{Need, follows_map}
use Rattle.grammar.specs.Input.{Bytes}
use Rattle.grammar.proofs.Standing.{Chained, closing}
use Rattle.grammar.proofs.Lettered.{among-each}
use Rattle.writing.specs.Canonical.{Integer, bytes16, bytes32, bits_of, in_signed32, digits_of, digit_bytes, long_bytes, integer_bytes}
use Rattle.writing.specs.Shape as shape
use Rattle.writing.specs.Shape.{classed, long_at}
use Rattle.writing.proofs.Digits.{digit_bytes-length}
use Rattle.meaning.specs.Value.{Values, nil, integer, sequence, slice, dict, count_of}
use Rattle.meaning.specs.Extent.{depth_of, nodes_of, entries_of}
use Rattle.meaning.specs.Proper.{sequences, lengths, Signed}
use Rattle.meaning.proofs.Means.{Means}
use Rattle.meaning.proofs.At.{byte_first, length_at, drop_at, half_at, word_at, Digits, digits-below, total, digits-total, last_of, digits_last, magnitude_at}
use Rattle.meaning.proofs.Goes.{Goes, Never, Anywhere, WroteKids, Reads, AllRead, kids_go}
use Rattle.meaning.proofs.Loops.{WroteBody, Whatever, all_children, couples_go, node_goes}
use Rattle.meaning.proofs.Leaves.{kept-front, reads-node, short-reads, leaf_goes}

-- A long.
long_word : (n : Bool) (k : ℕ) → k < lengths → 0 < k
    → (cond n (4294967296 - k) k < 4294967296) × (digit_count (cond n (4294967296 - k) k) ≡ k) × (not (not_negative (cond n (4294967296 - k) k)) ≡ n)
long_word true k h p =
    let e : 4294967296 - (4294967296 - k) ≡ k = omega arith in
    let l = le-ltb (4294967296 - k) 2147483648 (omega arith) in
    (omega arith, rw (l, e) refl, rw l refl)
long_word false k h p = let l = lt-ltb k 2147483648 h in (omega arith, rw l refl, rw l refl)

digits_pass : {A : Type 0} (s ds : List ℕ) (a : ℕ) (r : List ℕ) (rest : Answer A) → Digits ds → a ≤ length s → drop a s ≡ digit_bytes ds ++ r → digits s (length ds) a rest ≡ rest
unfolding digits digit_bytes
digits_pass s [] a r rest h w d = refl
digits_pass s (x ∷ xs) a r rest h w d =
    let lg = length_at s a (bytes16 x ++ (digit_bytes xs ++ r)) d w in
    let e : le16 s a ≡ x = half_at s a x (digit_bytes xs ++ r) (omega (arith, h.0)) d in
    rw (le-leb (a + 2) (length s) (omega (arith, lg)), e, lt-ltb x 32768 h.0)
    (digits_pass s xs (a + 2) r rest h.1 (omega (arith, lg)) (drop_at s a (bytes16 x ++ (digit_bytes xs ++ r)) d 2))

last_at : (s ds : List ℕ) (k a : ℕ) (r : List ℕ) → Digits ds → length ds ≡ suc k → drop a s ≡ digit_bytes ds ++ r → le16 s (a + 2 * k) ≡ last_of ds
unfolding digit_bytes
last_at s [] k a r h e d = absurd (omega (arith, e))
last_at s (x ∷ []) k a r h e d =
    let z : k ≡ 0 = omega (arith, e) in
    let y : a + 2 * 0 ≡ a = omega arith in
    rw (z, y) (half_at s a x r (omega (arith, h.0)) d)
last_at s (x ∷ y ∷ ys) zero a r h e d = absurd (omega (arith, e))
last_at s (x ∷ y ∷ ys) (suc k) a r h e d =
    let z : a + 2 * suc k ≡ a + 2 + 2 * k = omega arith in
    rw z (last_at s (y ∷ ys) k (a + 2) r h.1 (omega (arith, e)) (drop_at s a (bytes16 x ++ (digit_bytes (y ∷ ys) ++ r)) d 2))

last_pass : {A : Type 0} (s ds : List ℕ) (a : ℕ) (r : List ℕ) (rest : Answer A) → Digits ds → 0 < last_of ds → drop a s ≡ digit_bytes ds ++ r → last_digit s (length ds) a rest ≡ rest
last_pass s [] a r rest h p d = refl
last_pass s (x ∷ xs) a r rest h p d =
    let e = last_at s (x ∷ xs) (length xs) a r h refl d in
    rw (ne_eqb (le16 s (a + 2 * length xs)) 0 (λ z. omega (arith, e, z, p))) refl

module _ (s : List ℕ) (small : length s ≤ most_bytes) (bytes : Bytes s) where
  long-reads : (z : Integer) → 0 < z.magnitude → length (digits_of z.magnitude) < lengths → Reads s small bytes (long_bytes z) (integer z)
  unfolding class_of letters found fields pylong nodes_of entries_of depth_of Means
  long-reads z pos few =
      let m = z.magnitude in
      let ds = digits_of m in
      let tot : total ds ≡ m = digits-total m m (omega arith) in
      let k = long_word z.negative (length ds) few (some ds (omega (arith, tot, pos))) in
      let x = bits_of 4294967296 (record { negative = z.negative; magnitude = length ds }) in
      let below = digits-below m m in
      reads-node s small bytes (integer z) 0x6C (bytes32 x ++ digit_bytes ds) refl
      (λ fuel depth st t rest enough h dr.
      let d₀ : drop st.at s ≡ 0x6C ∷ (bytes32 x ++ (digit_bytes ds ++ rest)) = dr in
      let lg = length_at s st.at (0x6C ∷ (bytes32 x ++ (digit_bytes ds ++ rest))) d₀ h.within in
      let ln = length-append (digit_bytes ds) rest in
      let ld = digit_bytes-length ds in
      let d₁ : drop (st.at + 1) s ≡ bytes32 x ++ (digit_bytes ds ++ rest) = drop_at s st.at (0x6C ∷ (bytes32 x ++ (digit_bytes ds ++ rest))) d₀ 1 in
      let d₂ : drop (st.at + 1 + 4) s ≡ digit_bytes ds ++ rest = drop_at s (st.at + 1) (bytes32 x ++ (digit_bytes ds ++ rest)) d₁ 4 in
      let w : le32 s (st.at + 1) ≡ x = word_at s (st.at + 1) x (digit_bytes ds ++ rest) k.0 d₁ in
      let mg : magnitude s (length ds) (st.at + 1 + 4) ≡ m = magnitude_at s ds (st.at + 1 + 4) rest below d₂ ∙ tot in
      leaf_goes s small bytes (integer z) (suc (length (bytes32 x ++ digit_bytes ds))) depth fuel st t h 0x6C (st.at + 1) (4 + 2 * length ds)
      (kept-front s depth st.at (length st.nodes) (length st.slots) st.slots 0x6C (omega arith) (omega (arith, lg)) (byte_first s st.at (0x6C ∷ (bytes32 x ++ (digit_bytes ds ++ rest))) d₀) letter.long _ refl
      (rw (le-leb (st.at + 1 + 4) (length s) (omega (arith, lg)), w, k.1)
      (digits_pass s ds (st.at + 1 + 4) rest _ below (omega (arith, lg)) d₂ ∙ last_pass s ds (st.at + 1 + 4) rest _ below (digits_last m m (omega arith)) d₂)))
      (omega arith) (omega (arith, ld)) (omega (arith, lg, ln, ld)) refl refl refl
      (λ P n c p. (c.kids, subst (P n c.kids) (ap shape.integer (is z (st.at + 1) x (length ds) w k.1 k.2 mg)) p)))
    where
      some : (ds : List ℕ) → 0 < total ds → 0 < length ds
      some [] h = h
      some (d ∷ ds) h = omega arith

      is : (z : Integer) (at x k : ℕ) → le32 s at ≡ x → digit_count x ≡ k → not (not_negative x) ≡ z.negative → magnitude s k (at + 4) ≡ z.magnitude → long_at s at ≡ z
      is z at x k w c n g = rw (w, c, n, g) refl

  pub integer-reads : (z : Integer) → Signed z → length (digits_of z.magnitude) < lengths → Reads s small bytes (integer_bytes z) (integer z)
  unfolding integer_bytes
  integer-reads z sg few = go (in_signed32 z) refl
    where
      wide : (n : Bool) (m : ℕ) → cond n (leb m 2147483648) (ltb m 2147483648) ≡ false → 0 < m
      wide true m e = omega (arith, leb-false m 2147483648 e)
      wide false m e = omega (arith, ltb-false m 2147483648 e)

      go : (b : Bool) → in_signed32 z ≡ b → Reads s small bytes (cond b (0x69 ∷ bytes32 (bits_of 4294967296 z)) (long_bytes z)) (integer z)
      go true e = short-reads s small bytes z sg e
      go false e = long-reads z (wide z.negative z.magnitude e) few

  -- where a node's children begin
  enter-enough : (st : State) (at fuel : ℕ) → length s ≤ at + fuel → length s ≤ (enter st at 0).at + fuel
  unfolding enter
  enter-enough st at fuel h = h

  enter-drop : (st : State) (at : ℕ) (bs : List ℕ) → drop at s ≡ bs → drop (enter st at 0).at s ≡ bs
  unfolding enter
  enter-drop st at bs e = e

  all_kids_lem : (fuel depth : ℕ) (st : State) (at : ℕ) (vs : Values) (bs : List ℕ) → AllRead s small bytes bs vs → (t₁ : Need) (rest : List ℕ) → Chained s (enter st at 0) t₁ (fresh (enter st at 0))
      → length s ≤ at + fuel → drop at s ≡ bs ++ rest → Goes (WroteBody s small bytes vs (length bs) (depth + 1) (enter st at 0) Whatever t₁) t₁ (kids (value fuel s (depth + 1)) (count_of vs) (fresh (enter st at 0)))
  unfolding Means
  all_kids_lem fuel depth st at vs bs al t₁ rest c enough dr =
      let b = enter st at 0 in
      follows_map Never Anywhere (WroteKids s nil vs (length bs) (depth + 1) b (fresh b) t₁) (WroteBody s small bytes vs (length bs) (depth + 1) b Whatever t₁) t₁ (kids (value fuel s (depth + 1)) (count_of vs) (fresh b))
      (kids_go s small bytes fuel (depth + 1) b vs bs al nil (fresh b) t₁ rest c refl (enter-enough st at fuel enough) (enter-drop st at (bs ++ rest) dr))
      (λ t' d w. all_children s small bytes vs (length bs) (depth + 1) b t₁ t' d w)

  all_pairs : (fuel depth : ℕ) (st : State) (at : ℕ) (vs : Values) (bs : List ℕ) → AllRead s small bytes bs vs → count_of vs % 2 ≡ 0 → (t₁ : Need) (rest : List ℕ) → Chained s (enter st at 0) t₁ (fresh (enter st at 0))
      → length s ≤ at + fuel → drop at s ≡ bs ++ 0x30 ∷ rest → Goes (WroteBody s small bytes vs (length bs + 1) (depth + 1) (enter st at 0) Whatever t₁) t₁ (couples (value fuel s (depth + 1)) s fuel (fresh (enter st at 0)))
  unfolding Means
  all_pairs fuel depth st at vs bs al even t₁ rest c enough dr =
      let b = enter st at 0 in
      follows_map Never Anywhere (WroteKids s nil vs (length bs + 1) (depth + 1) b (fresh b) t₁) (WroteBody s small bytes vs (length bs + 1) (depth + 1) b Whatever t₁) t₁ (couples (value fuel s (depth + 1)) s fuel (fresh b))
      (couples_go s small bytes fuel (depth + 1) b fuel vs bs al even nil (fresh b) t₁ rest c refl (enter-enough st at fuel enough) (enter-enough st at fuel enough) (enter-drop st at (bs ++ 0x30 ∷ rest) dr))
      (λ t' d w. all_children s small bytes vs (length bs + 1) (depth + 1) b t₁ t' d w)

  -- ( [ < >
  abbrev Row : ℕ → Type 0
  Row l = (l < 128) × (class_of l ≡ keeps letter.sequence) × (ends_dict l ≡ false)

  pub sequence-reads : (l : ℕ) (vs : Values) (bs : List ℕ) → among l sequences ≡ true → count_of vs < lengths → AllRead s small bytes bs vs
      → Reads s small bytes (l ∷ bytes32 (count_of vs) ++ bs) (sequence l vs)
  unfolding class_of letters found fields nodes_of entries_of depth_of Means body
  sequence-reads l vs bs e few al =
      let q : Row l = among-each Row l sequences ((omega arith, refl, refl), ((omega arith, refl, refl), ((omega arith, refl, refl), ((omega arith, refl, refl), tt)))) e in
      let k = count_of vs in
      reads-node s small bytes (sequence l vs) l (bytes32 k ++ bs) q.2
      (λ fuel depth st t rest enough h dr.
      let d₀ : drop st.at s ≡ l ∷ (bytes32 k ++ (bs ++ rest)) = dr in
      let lg = length_at s st.at (l ∷ (bytes32 k ++ (bs ++ rest))) d₀ h.within in
      let d₁ : drop (st.at + 1) s ≡ bytes32 k ++ (bs ++ rest) = drop_at s st.at (l ∷ (bytes32 k ++ (bs ++ rest))) d₀ 1 in
      let w : le32 s (st.at + 1) ≡ k = word_at s (st.at + 1) k (bs ++ rest) (omega arith) d₁ in
      let f : Fields = record { place = st.at + 1; size = 4; children = items k } in
      node_goes s small bytes (sequence l vs) vs (suc (length (bytes32 k ++ bs))) depth fuel st t h l f (length bs)
      (kept-front s depth st.at (length st.nodes) (length st.slots) st.slots l q.0 (omega (arith, lg)) (byte_first s st.at (l ∷ (bytes32 k ++ (bs ++ rest))) d₀) letter.sequence f q.1
      (rw (le-leb (st.at + 1 + 4) (length s) (omega (arith, lg)), w, lt-ltb k 2147483648 few) refl))
      (omega arith) (omega (arith, lg))
      (λ t₁ c. all_kids_lem fuel depth st (st.at + 1 + 4) vs bs al t₁ rest c (omega arith) (drop_at s (st.at + 1) (bytes32 k ++ (bs ++ rest)) d₁ 4))
      (λ P n c p m. (c.kids, subst (λ y. P n c.kids (classed s (closing l f c) c.kids y)) q.1 p, m))
      (omega arith) refl refl (omega arith))

  -- :
  pub slice-reads : (vs : Values) (bs : List ℕ) → count_of vs ≡ 3 → AllRead s small bytes bs vs → Reads s small bytes (0x3A ∷ bs) (slice vs)
  unfolding class_of letters found fields nodes_of entries_of depth_of Means body
  slice-reads vs bs three al =
      reads-node s small bytes (slice vs) 0x3A bs refl
      (λ fuel depth st t rest enough h dr.
      let lg = length_at s st.at (0x3A ∷ (bs ++ rest)) dr h.within in
      let e : st.at + 1 + 0 ≡ st.at + 1 = omega arith in
      let f : Fields = record { place = st.at + 1; size = 0; children = items (count_of vs) } in
      node_goes s small bytes (slice vs) vs (suc (length bs)) depth fuel st t h 0x3A f (length bs)
      (kept-front s depth st.at (length st.nodes) (length st.slots) st.slots 0x3A (omega arith) (omega (arith, lg)) (byte_first s st.at (0x3A ∷ (bs ++ rest)) dr) letter.slice f refl
      (rw three refl))
      (omega arith) (omega (arith, lg))
      (λ t₁ c. all_kids_lem fuel depth st (st.at + 1 + 0) vs bs al t₁ rest c (omega arith) (ap (λ i. drop i s) e ∙ drop_at s st.at (0x3A ∷ (bs ++ rest)) dr 1))
      (λ P n c p m. (c.kids, p, m))
      (omega arith) refl refl (omega arith))

  -- {
  pub dict-reads : (vs : Values) (bs : List ℕ) → count_of vs % 2 ≡ 0 → AllRead s small bytes bs vs → Reads s small bytes (0x7B ∷ bs ++ 0x30 ∷ []) (dict vs)
  unfolding class_of letters found fields nodes_of entries_of depth_of Means body
  dict-reads vs bs even al =
      reads-node s small bytes (dict vs) 0x7B (bs ++ 0x30 ∷ []) refl
      (λ fuel depth st t rest enough h dr.
      let d₀ : drop st.at s ≡ 0x7B ∷ (bs ++ 0x30 ∷ rest) = dr ∙ ap (λ x. 0x7B ∷ x) (append_assoc bs (0x30 ∷ []) rest) in
      let lg = length_at s st.at (0x7B ∷ (bs ++ 0x30 ∷ rest)) d₀ h.within in
      let ln = length-append bs (0x30 ∷ []) in
      let e : st.at + 1 + 0 ≡ st.at + 1 = omega arith in
      let f : Fields = record { place = st.at + 1; size = 0; children = pairs } in
      node_goes s small bytes (dict vs) vs (suc (length (bs ++ 0x30 ∷ []))) depth fuel st t h 0x7B f (length bs + 1)
      (kept-front s depth st.at (length st.nodes) (length st.slots) st.slots 0x7B (omega arith) (omega (arith, lg)) (byte_first s st.at (0x7B ∷ (bs ++ 0x30 ∷ rest)) d₀) letter.dict f refl refl)
      (omega arith) (omega (arith, lg))
      (λ t₁ c. all_pairs fuel depth st (st.at + 1 + 0) vs bs al even t₁ rest c (omega arith) (ap (λ i. drop i s) e ∙ drop_at s st.at (0x7B ∷ (bs ++ 0x30 ∷ rest)) d₀ 1))
      (λ P n c p m. (c.kids, p, m))
      (omega (arith, ln)) refl refl (omega arith))
