-- A code is read from its bytes: five numbers, eight parts, the first line and two tables. Assumes that the input is bytes.
use mathlib.Core.Path.{◌≡◌, refl, sym, ap, subst, ◌∙◌}
use Prim.Native.Nat.{ℕ, suc, ◌+◌, ◌-◌, ◌≤◌, ◌<◌, max}
use native.Mathlib.Omega.{arith}
use mathlib.Core.List.{List, [], ◌∷◌, ◌++◌, append_assoc}
use lib.ListN.{length, get_or, take, drop, length-append}
use borrow.Author.Tests.{lt-ltb, le-leb, eq-eqb}
use Rattle.refusals.specs.Numbers.{accepted}
use Rattle.refusals.specs.Limits.{most_bytes}
use Rattle.grammar.specs.Reading.{level, node, done, claim, bind}
use Rattle.grammar.specs.Letters.{letters, found, class_of}
use Rattle.grammar.specs.Fields.{Fields, parts, le32, numbers, code_fields}
use Rattle.grammar.specs.State.{Node, State, blank}
use Rattle.grammar.specs.Steps.{opens, header, front, Chain, fresh, whatever, child, rules, line_part, lined, first_line_of, parts_from, fault_of, ended, body, enter, one, value}
use Rattle.grammar.proofs.Following.{Need, raise, follows_bind}
use Rattle.grammar.specs.Input.{Bytes}
use Rattle.grammar.proofs.Standing.{Chained, Claimed, entered, started}
use Rattle.writing.specs.Canonical.{bytes32, words, shown_line}
use Rattle.writing.specs.Shape as shape
use Rattle.writing.specs.Shape.{Shape, numbers_at}
use Rattle.meaning.specs.Value.{Value, Values, nil, more, code, count_of, value_at, contents_of, members_of}
use Rattle.meaning.specs.Extent.{depth_of, depth_all, nodes_of, entries_of}
use Rattle.meaning.specs.Proper.{lengths, SuitFrom, fault_in}
use Rattle.meaning.proofs.Means.{Means, MeanAll, join, take_of, drop_of, mean_all_take, mean_all_drop}
use Rattle.meaning.proofs.At.{byte_first, length_at, drop_at, past, word_at}
use Rattle.meaning.proofs.Goes.{Goes, Never, Anywhere, WroteKids, Reads, child_goes, join_assoc, nodes-join, entries-join, depth-join}
use Rattle.meaning.proofs.Loops.{moved, Suited, PartsRead, parts_go, WroteBody, after_goes, value_goes, claimed_node}
use Rattle.meaning.proofs.Leaves.{reads-node}
use Rattle.meaning.proofs.Parts.{take-join, drop-join, looked_at}

-- the numbers that stand at a place
numbers_at_lem : (s : List ℕ) (at a b c d e : ℕ) (r : List ℕ) → a < 4294967296 → b < 4294967296 → c < 4294967296 → d < 4294967296 → e < 4294967296
    → drop at s ≡ bytes32 a ++ (bytes32 b ++ (bytes32 c ++ (bytes32 d ++ (bytes32 e ++ r)))) → numbers_at s at ≡ a ∷ b ∷ c ∷ d ∷ e ∷ []
numbers_at_lem s at a b c d e r ha hb hc hd he dr =
    let all = bytes32 a ++ (bytes32 b ++ (bytes32 c ++ (bytes32 d ++ (bytes32 e ++ r)))) in
    rw (
      word_at s at a (bytes32 b ++ (bytes32 c ++ (bytes32 d ++ (bytes32 e ++ r)))) ha dr,
      word_at s (at + 4) b (bytes32 c ++ (bytes32 d ++ (bytes32 e ++ r))) hb (drop_at s at all dr 4),
      word_at s (at + 8) c (bytes32 d ++ (bytes32 e ++ r)) hc (drop_at s at all dr 8),
      word_at s (at + 12) d (bytes32 e ++ r) hd (drop_at s at all dr 12),
      word_at s (at + 16) e r he (drop_at s at all dr 16),
    ) refl

-- levels, one after another
levels-then : (t a b d p q : ℕ) → a ≤ max t (d + p) → b ≤ max a (d + q) → b ≤ max t (d + max p q)
levels-then t a b d p q h k = omega arith

three-levels : (ps : Values) (x y : Value) (t a b c d : ℕ) → a ≤ max t (d + depth_all ps) → b ≤ max a (d + depth_all (more x nil)) → c ≤ max b (d + depth_all (more y nil))
    → c ≤ max t (d + depth_all (join ps (more x (more y nil))))
unfolding join
three-levels ps x y t a b c d h k l =
    let e : depth_all (join ps (more x (more y nil))) ≡ max (max (depth_all ps) (depth_all (more x nil))) (depth_all (more y nil)) =
    ap depth_all (sym (join_assoc ps (more x nil) (more y nil))) ∙ depth-join (join ps (more x nil)) (more y nil) ∙ ap (λ z. max z (depth_all (more y nil))) (depth-join ps (more x nil)) in
    rw e (levels-then t b c d (max (depth_all ps) (depth_all (more x nil))) (depth_all (more y nil)) (levels-then t a b d (depth_all ps) (depth_all (more x nil)) h k) l)

module _ (s : List ℕ) (small : length s ≤ most_bytes) (bytes : Bytes s) where
  -- the first line and the tables, after the parts
  module _ (fuel depth : ℕ) (b : State) (ps : Values) (pb : List ℕ) (line : ℕ) (x y : Value) (hx hy rest : List ℕ)
      (rx : Reads s small bytes hx x) (sx : Suited s small bytes (get_or rules 8 whatever) x) (ry : Reads s small bytes hy y) (sy : Suited s small bytes (get_or rules 9 whatever) y)
      (enough : length s ≤ b.at + fuel) where
    abbrev tables : Values
    tables = more x (more y nil)

    abbrev AtLine : Chain → Type 0
    AtLine c = c.line ≡ b.at + length pb

    tables_go : (t t' : Need) (d : Chain) → WroteKids s nil ps (length pb) depth b (fresh b) t t' d → drop d.st.at s ≡ bytes32 line ++ (hx ++ (hy ++ rest))
        → Goes (WroteBody s small bytes (join ps tables) (length pb + (4 + (length hx + length hy))) depth b AtLine t) t' (parts_from (value fuel s depth) s 2 8 d)
    unfolding parts_from first_line_of bind join nodes_of entries_of depth_of
    tables_go t t' d w dr =
        let lg = length_at s d.st.at (bytes32 line ++ (hx ++ (hy ++ rest))) dr w.chained.holds.within in
        let l : d.st.at + 4 ≤ length s = omega (arith, lg) in
        let d₁ : drop (d.st.at + 4) s ≡ hx ++ (hy ++ rest) = drop_at s d.st.at (bytes32 line ++ (hx ++ (hy ++ rest))) dr 4 in
        let W = WroteBody s small bytes (join ps tables) (length pb + (4 + (length hx + length hy))) depth b AtLine t in
        rw (le-leb (d.st.at + 4) (length s) l)
        (follows_bind Never Anywhere (WroteKids s ps (more x nil) (length hx) depth b (lined d) t') W t' (child (get_or rules 8 whatever) (value fuel s depth) (lined d)) _
        (child_goes s small bytes fuel depth b (get_or rules 8 whatever) hx x rx sx ps (lined d) t' (hy ++ rest) (moved 4 d.st.at l w.chained) w.means (omega (arith, w.at)) d₁)
        (λ t₂ e w₂.
        follows_bind Never Anywhere (WroteKids s (join ps (more x nil)) (more y nil) (length hy) depth b e t₂) W t₂ (child (get_or rules 9 whatever) (value fuel s depth) e) _
        (child_goes s small bytes fuel depth b (get_or rules 9 whatever) hy y ry sy (join ps (more x nil)) e t₂ rest w₂.chained w₂.means (omega (arith, w.at, w₂.at))
        (ap (λ i. drop i s) w₂.at ∙ past s (d.st.at + 4) hx (hy ++ rest) d₁))
        (λ t₃ f w₃. record {
          chained = w₃.chained;
          means = rw (join_assoc ps (more x nil) (more y nil)) at w₃.means;
          at = omega (arith, w.at, w₂.at, w₃.at);
          nodes = omega (arith, w.nodes, w₂.nodes, w₃.nodes, nodes-join ps tables);
          entries = omega (arith, w.entries, w₂.entries, w₃.entries, entries-join ps tables);
          slots = w₃.slots ∙ w₂.slots ∙ w.slots;
          levels = three-levels ps x y t.levels t'.levels t₂.levels t₃.levels depth w.levels w₂.levels w₃.levels;
          fact = w₃.line ∙ w₂.line ∙ w.at;
        })))

  -- c
  module _ (a b c d e : ℕ) (ha : a < 4294967296) (hb : b < 4294967296) (hc : c < 4294967296) (hd : d < 4294967296) (he : e < 4294967296)
      (ps : Values) (pb : List ℕ) (pr : PartsRead s small bytes 0 pb ps) (eight : count_of ps ≡ line_part) (suit : SuitFrom 0 ps)
      (fault : fault_in (a ∷ b ∷ c ∷ d ∷ e ∷ []) ps ≡ accepted) (line : ℕ) (hl : line < lengths) (x y : Value) (hx hy : List ℕ)
      (rx : Reads s small bytes hx x) (sx : Suited s small bytes (get_or rules 8 whatever) x) (ry : Reads s small bytes hy y) (sy : Suited s small bytes (get_or rules 9 whatever) y) where
    abbrev five : List ℕ
    five = a ∷ b ∷ c ∷ d ∷ e ∷ []

    abbrev last : Values
    last = more x (more y nil)

    abbrev behind : List ℕ
    behind = pb ++ bytes32 line ++ (hx ++ hy)

    abbrev v : Value
    v = code five ps line last

    opened_at : (rest : List ℕ) → (behind ++ rest) ≡ pb ++ (bytes32 line ++ (hx ++ (hy ++ rest)))
    opened_at rest =
        append_assoc (pb ++ bytes32 line) (hx ++ hy) rest ∙ append_assoc pb (bytes32 line) ((hx ++ hy) ++ rest)
        ∙ ap (λ z. pb ++ (bytes32 line ++ z)) (append_assoc hx hy rest)

    front-code : (depth at nodes used : ℕ) (slots : List ℕ) → at + 1 + 20 ≤ length s → get_or s at 0 ≡ 0x63
        → front s depth at nodes used slots
        ≡ claim level (depth + 1) at (claim node (nodes + 1) at (claim level (depth + 2) (at + 1) (done (opens 0x63 0 (record { place = at + 1; size = 20; children = parts })))))
    unfolding front header code_fields numbers class_of letters found
    front-code depth at nodes used slots w q =
        rw (
          q,
          lt-ltb at (length s) (omega arith),
          le-leb (at + 1 + 4) (length s) (omega arith),
          le-leb (at + 1 + 4 + 4) (length s) (omega arith),
          le-leb (at + 1 + 4 + 4 + 4) (length s) (omega arith),
          le-leb (at + 1 + 4 + 4 + 4 + 4) (length s) (omega arith),
          le-leb (at + 1 + 4 + 4 + 4 + 4 + 4) (length s) (omega arith),
        ) refl

    -- the parts, and the checks at the end
    body_goes : (fuel depth at : ℕ) (bs : State) (t : Need) (rest : List ℕ) → Chained s bs t (fresh bs) → length s ≤ bs.at + fuel → drop bs.at s ≡ behind ++ rest → numbers_at s (at + 1) ≡ five
        → Goes (WroteBody s small bytes (join ps last) (length pb + (4 + (length hx + length hy))) (depth + 2) bs (λ k. k.line ≡ bs.at + length pb) t) t
        (body (value fuel s) s fuel depth at parts (fresh bs))
    unfolding body ended Means
    body_goes fuel depth at bs t rest k enough dr ns =
        let W = WroteBody s small bytes (join ps last) (length pb + (4 + (length hx + length hy))) (depth + 2) bs (λ k. k.line ≡ bs.at + length pb) t in
        let f = value fuel s (depth + 2) in
        let d₀ : drop bs.at s ≡ pb ++ (bytes32 line ++ (hx ++ (hy ++ rest))) = dr ∙ opened_at rest in
        let g =
        parts_go s small bytes fuel (depth + 2) bs W ps 0 pb pr 2 (λ j p q z. omega (arith, eight)) nil (fresh bs) t (bytes32 line ++ (hx ++ (hy ++ rest))) k refl enough d₀
        (λ t' d w. subst (λ i. Goes W t' (parts_from f s 2 (0 + i) d)) (sym eight)
        (tables_go fuel (depth + 2) bs ps pb line x y hx hy rest rx sx ry sy enough t t' d w (ap (λ i. drop i s) w.at ∙ past s bs.at pb (bytes32 line ++ (hx ++ (hy ++ rest))) d₀))) in
        follows_bind Never Anywhere W W t (parts_from f s 10 0 (fresh bs)) (ended s at) (subst (λ i. Goes W t (parts_from f s (i + 2) 0 (fresh bs))) eight g)
        (λ t' q w.
        let l = looked_at s q.st q.kids ps last w.means eight suit in
        rw (eq-eqb (fault_of s at q) accepted (same at q ns l.code-size l.names-count l.kinds-size)) w)
      where
        kid : Chain → ℕ → Node
        kid q i = get_or q.st.nodes (get_or q.kids i 0) blank

        same : (at : ℕ) (q : Chain) → numbers_at s (at + 1) ≡ five → (kid q 0).size ≡ length (contents_of (value_at ps 0)) → (kid q 3).count ≡ count_of (members_of (value_at ps 3)) → (kid q 4).size ≡ length (contents_of (value_at ps 4))
            → fault_of s at q ≡ accepted
        same at q ns p₀ p₃ p₄ = rw (p₀, p₃, p₄, ap (λ z. get_or z 0 0) ns, ap (λ z. get_or z 2 0) ns, ap (λ z. get_or z 4 0) ns) fault

    pub code_reads : Reads s small bytes (0x63 ∷ words five ++ behind) v
    unfolding words class_of letters found value one bind nodes_of entries_of depth_of Means enter
    code_reads =
        reads-node s small bytes v 0x63 (words five ++ behind) refl
        (λ fuel depth st t rest enough h dr.
        let after = bytes32 a ++ (bytes32 b ++ (bytes32 c ++ (bytes32 d ++ (bytes32 e ++ (behind ++ rest))))) in
        let d₀ : drop st.at s ≡ 0x63 ∷ after = dr in
        let lg = length_at s st.at (0x63 ∷ after) d₀ h.within in
        let d₁ : drop (st.at + 1) s ≡ after = drop_at s st.at (0x63 ∷ after) d₀ 1 in
        let d₂ : drop (st.at + 1 + 20) s ≡ behind ++ rest = drop_at s (st.at + 1) after d₁ 20 in
        let ns = numbers_at_lem s (st.at + 1) a b c d e (behind ++ rest) ha hb hc hd he d₁ in
        let d₃ : drop (st.at + 1 + 20 + length pb) s ≡ bytes32 line ++ (hx ++ (hy ++ rest)) = past s (st.at + 1 + 20) pb (bytes32 line ++ (hx ++ (hy ++ rest))) (d₂ ∙ opened_at rest) in
        let lw : le32 s (st.at + 1 + 20 + length pb) ≡ line = word_at s (st.at + 1 + 20 + length pb) line (hx ++ (hy ++ rest)) (omega arith) d₃ in
        let lb = length-append (pb ++ bytes32 line) (hx ++ hy) in
        let lb' = length-append pb (bytes32 line) in
        let lb'' = length-append hx hy in
        let f : Fields = record { place = st.at + 1; size = 20; children = parts } in
        let cl = claimed_node s small bytes (depth + 1) t st h in
        let cl' : Claimed (raise level (depth + 2) (raise node (length st.nodes + 1) (raise level (depth + 1) t))) 0 st = record { nodes = cl.nodes; entries = cl.entries; slots = cl.slots } in
        let dj = depth-join ps last in
        let nj = nodes-join ps last in
        let ej = entries-join ps last in
        value_goes s small bytes v (join ps last) (suc (length (words five ++ behind))) depth (suc fuel) st t h
        (rw (front-code depth st.at (length st.nodes) (length st.slots) st.slots (omega (arith, lg)) (byte_first s st.at (0x63 ∷ after) d₀)) (
          tt,
          (
            tt,
            (
              tt,
              after_goes s small bytes v (join ps last) (suc (length (words five ++ behind))) depth fuel st t h 0x63 f (length pb + (4 + (length hx + length hy))) _ (λ k. k.line ≡ st.at + 1 + 20 + length pb) cl' (omega arith) (omega (arith, lg)) (depth + 2)
                  (body_goes fuel depth st.at (enter st (st.at + 1 + 20) 0) _ rest (started (entered 0 (st.at + 1 + 20) h cl' (omega arith) (omega (arith, lg)))) (omega arith) d₂ ns)
                  (λ P n k ln p m. (
                    k.kids,
                    line,
                    subst (P n k.kids) (says (st.at + 1) k.line k.kids (st.at + 1 + 20 + length pb) ln (omega arith) ns lw) p,
                    shown,
                    subst (MeanAll P (take line_part k.kids)) (ap (λ i. take_of i (join ps last)) (sym eight) ∙ take-join ps last) (mean_all_take P line_part (join ps last) k.kids m),
                    subst (MeanAll P (drop line_part k.kids)) (ap (λ i. drop_of i (join ps last)) (sym eight) ∙ drop-join ps last) (mean_all_drop P line_part (join ps last) k.kids m),
                  ))
                  (omega (arith, lb, lb', lb'')) (ap suc (sym nj)) (sym ej) (omega (arith, dj)) (omega arith),
            ),
          ),
        )))
      where
        shown : shown_line line ≡ line
        shown = rw (lt-ltb line 2147483648 hl) refl

        says : (at ln : ℕ) (kids : List ℕ) (there : ℕ) → ln ≡ there → at ≤ there → numbers_at s at ≡ five → le32 s there ≡ line
            → ◌≡◌ {A = Shape} (shape.code (numbers_at s at) (le32 s (at + (ln - at))) kids) (shape.code five line kids)
        says at ln kids there e le n w =
            let z : at + (ln - at) ≡ there = omega arith in
            rw (z, n, w) refl
