-- The children of a dict, the parts of a code, and a node around its children, read from their bytes. Assumes that the input is bytes.
use mathlib.Core.Path.{◌≡◌, refl, ap, ◌∙◌}
use Prim.Native.Nat.{ℕ, zero, suc, ◌+◌, ◌%◌, ◌≤◌, ◌<◌, max}
use native.Mathlib.Omega.{arith}
use native.Mathlib.Nat.{zero-add}
use mathlib.Core.Bool.{true}
use mathlib.Core.List.{List, [], ◌∷◌, ◌++◌, append_assoc}
use lib.ListN.{length, get_or, drop, length-append, length-set}
use borrow.Author.Tests.{lt-ltb, ne_eqb}
use Rattle.refusals.specs.Limits.{most_bytes}
use Rattle.grammar.specs.Reading.{level, node, done, claim, bind}
use Rattle.grammar.specs.Letters.{class_of}
use Rattle.grammar.specs.Fields.{Fields}
use Rattle.grammar.specs.State.{State, moved_to, blank}
use Rattle.grammar.specs.Steps.{opens, front, Chain, fresh, Rule, whatever, suits, child, couples, passed, Reader, rules, line_part, first_line_of, parts_from, body, enter, close, after, one, value}
use Rattle.grammar.specs.Record.{sound}
use Rattle.grammar.proofs.Following.{Need, raise, follows_bind, follows_map}
use Rattle.grammar.specs.Input.{Bytes}
use Rattle.grammar.proofs.Links.{built-linked}
use Rattle.grammar.proofs.Standing.{Holds, Valued, Chained, Claimed, entered, started, closing}
use Rattle.grammar.proofs.Keeping.{value_keeps}
use Rattle.grammar.proofs.Fielding.{Own}
use Rattle.writing.specs.Shape.{classed}
use Rattle.meaning.specs.Value.{Value, Values, nil, more, count_of}
use Rattle.meaning.specs.Extent.{depth_of, depth_all, nodes_of, nodes_all, entries_of, entries_all}
use Rattle.meaning.proofs.Means.{Sees, Means, MeanAll, join, join-nil}
use Rattle.meaning.proofs.Standing.{InState, mean_all_on, close_on, closed-node, inside}
use Rattle.meaning.proofs.At.{byte_first, length_at, past}
use Rattle.meaning.proofs.Goes.{follows_both, Never, Anywhere, Goes, Wrote, WroteKids, wrote_then, wrote_none, Reads, AllRead, child_goes, any}

-- bytes are passed between children
pub moved : {s : List ℕ} {b : State} {t : Need} {c : Chain} (size line : ℕ) → c.st.at + size ≤ length s → Chained s b t c
    → Chained s b t (record { kids = c.kids; first = c.first; last = c.last; line = line; st = moved_to (c.st.at + size) c.st })
moved {s} {b} {t} {c} size line l k =
    let h = k.holds in
    record {
      holds =
          record {
            within = l;
            few-nodes = omega (arith, h.few-nodes);
            few-entries = omega (arith, h.few-entries);
            few-slots = omega (arith, h.few-slots);
            claimed_nodes = h.claimed_nodes;
            claimed_entries = h.claimed_entries;
            claimed_slots = h.claimed_slots;
            entries_in_lem = h.entries_in_lem;
            slots_in = h.slots_in;
          };
      since = record { on = omega (arith, k.since.on); more_nodes = k.since.more_nodes; same_nodes = k.since.same_nodes; entries = k.since.entries };
      spent = omega (arith, k.spent);
      built = k.built;
      finished = k.finished;
    }

-- nothing more is known of a chain
abbrev pub Whatever : Chain → Type 0
Whatever c = Unit

module _ (s : List ℕ) (small : length s ≤ most_bytes) (bytes : Bytes s) where
  -- The parts of a code: each as its rule wants it.
  abbrev pub Suited : Rule → Value → Type 0
  Suited rule v = (st : State) (n : ℕ) → Means (InState s st) n v → suits rule st.nodes st.entries n ≡ true

  abbrev pub PartsRead : ℕ → List ℕ → Values → Type 0
  PartsRead i bs nil = bs ≡ []
  PartsRead i bs (more v vs) = (h : List ℕ) × (r : List ℕ) × (bs ≡ h ++ r) × Reads s small bytes h v × Suited (get_or rules i whatever) v × PartsRead (i + 1) r vs

  module _ (fuel depth : ℕ) (b : State) where
    abbrev f : Reader
    f = value fuel s depth

    ended : (us : Values) (c : Chain) (t : Need) → c.st.at + 1 ≤ length s → Chained s b t c → MeanAll (InState s c.st) c.kids us
        → WroteKids s us nil 1 depth b c t t (passed 1 c)
    unfolding nodes_of entries_of depth_of
    ended us c t l k m =
        record { chained = moved 1 c.line l k; means = rw (join-nil us) m; at = refl; nodes = omega arith; entries = omega arith; slots = refl; levels = omega arith; line = refl }

    -- pairs, up to the null in a key's place
    pub couples_go : (n : ℕ) (vs : Values) (bs : List ℕ) → AllRead s small bytes bs vs → count_of vs % 2 ≡ 0 → (us : Values) (c : Chain) (t : Need) (rest : List ℕ) → Chained s b t c
        → MeanAll (InState s c.st) c.kids us → length s ≤ c.st.at + fuel → length s ≤ c.st.at + n → drop c.st.at s ≡ bs ++ 0x30 ∷ rest
        → Goes (WroteKids s us vs (length bs + 1) depth b c t) t (couples f s n c)
    unfolding couples count_of join
    couples_go zero vs bs al ev us c t rest k m enough en dr =
        absurd (omega (arith, length_at s c.st.at (bs ++ 0x30 ∷ rest) dr k.holds.within, length-append bs (0x30 ∷ rest)))
    couples_go (suc n) nil bs al ev us c t rest k m enough en dr =
        let d₀ : drop c.st.at s ≡ 0x30 ∷ rest = dr ∙ ap (λ x. x ++ 0x30 ∷ rest) al in
        let l = length_at s c.st.at (0x30 ∷ rest) d₀ k.holds.within in
        rw (lt-ltb c.st.at (length s) (omega (arith, l)), byte_first s c.st.at (0x30 ∷ rest) d₀, al)
        (ended us c t (omega (arith, l)) k m)
    couples_go (suc n) (more v nil) bs al ev us c t rest k m enough en dr = absurd (omega (arith, ev))
    couples_go (suc n) (more v (more w vs)) bs al ev us c t rest k m enough en dr =
        let h = al.0 in
        let r = al.1 in
        let al' = al.4 in
        let h' = al'.0 in
        let r' = al'.1 in
        let rd = al.3 in
        let d₀ : drop c.st.at s ≡ h ++ (r ++ 0x30 ∷ rest) = dr ∙ ap (λ x. x ++ 0x30 ∷ rest) al.2 ∙ append_assoc h r (0x30 ∷ rest) in
        let d₁ : drop c.st.at s ≡ rd.head ∷ (rd.tail ++ (r ++ 0x30 ∷ rest)) = d₀ ∙ ap (λ x. x ++ (r ++ 0x30 ∷ rest)) rd.begins in
        let l = length_at s c.st.at (rd.head ∷ (rd.tail ++ (r ++ 0x30 ∷ rest))) d₁ k.holds.within in
        let long : length bs + 1 ≡ length h + (length h' + (length r' + 1)) = omega (arith, ap length al.2, length-append h r, ap length al'.2, length-append h' r') in
        rw (lt-ltb c.st.at (length s) (omega (arith, l)), byte_first s c.st.at (rd.head ∷ (rd.tail ++ (r ++ 0x30 ∷ rest))) d₁, rd.no_end, long)
        (follows_bind Never Anywhere (WroteKids s us (more v nil) (length h) depth b c t) (WroteKids s us (more v (more w vs)) (length h + (length h' + (length r' + 1))) depth b c t) t (child whatever f c) _
        (child_goes s small bytes fuel depth b whatever h v rd (any s small bytes v) us c t (r ++ 0x30 ∷ rest) k m enough d₀)
        (λ t₁ d w₁.
        let dr₁ : drop d.st.at s ≡ r ++ 0x30 ∷ rest = ap (λ i. drop i s) w₁.at ∙ past s c.st.at h (r ++ 0x30 ∷ rest) d₀ in
        let dr₂ : drop d.st.at s ≡ h' ++ (r' ++ 0x30 ∷ rest) = dr₁ ∙ ap (λ x. x ++ 0x30 ∷ rest) al'.2 ∙ append_assoc h' r' (0x30 ∷ rest) in
        follows_map Never Anywhere (WroteKids s (join us (more v nil)) (more w vs) (length h' + (length r' + 1)) depth b d t₁) (WroteKids s us (more v (more w vs)) (length h + (length h' + (length r' + 1))) depth b c t) t₁ (bind (child whatever f d) (couples f s n))
        (follows_bind Never Anywhere (WroteKids s (join us (more v nil)) (more w nil) (length h') depth b d t₁) (WroteKids s (join us (more v nil)) (more w vs) (length h' + (length r' + 1)) depth b d t₁) t₁ (child whatever f d) (couples f s n)
        (child_goes s small bytes fuel depth b whatever h' w al'.3 (any s small bytes w) (join us (more v nil)) d t₁ (r' ++ 0x30 ∷ rest) w₁.chained w₁.means (omega (arith, w₁.at)) dr₂)
        (λ t₂ e w₂.
        follows_map Never Anywhere (WroteKids s (join (join us (more v nil)) (more w nil)) vs (length r' + 1) depth b e t₂) (WroteKids s (join us (more v nil)) (more w vs) (length h' + (length r' + 1)) depth b d t₁) t₂ (couples f s n e)
        (couples_go n vs r' al'.4 (omega (arith, ev)) (join (join us (more v nil)) (more w nil)) e t₂ rest w₂.chained w₂.means (omega (arith, w₁.at, w₂.at))
        (omega (arith, w₁.at, w₂.at, ap length rd.begins)) (ap (λ i. drop i s) w₂.at ∙ past s d.st.at h' (r' ++ 0x30 ∷ rest) dr₂))
        (λ t₃ e' w₃. wrote_then (join us (more v nil)) (more w nil) vs w₂ w₃)))
        (λ t₄ e'' w₄. wrote_then us (more v nil) (more w vs) w₁ w₄)))

    -- the parts that no line stands between, and then what is left
    pub parts_go : (P : Need → Chain → Type 0) (vs : Values) (i : ℕ) (bs : List ℕ) → PartsRead i bs vs → (left : ℕ) → ((j : ℕ) → i ≤ j → j < i + count_of vs → j ≡ line_part → ⊥)
        → (us : Values) (c : Chain) (t : Need) (rest : List ℕ) → Chained s b t c → MeanAll (InState s c.st) c.kids us → length s ≤ c.st.at + fuel → drop c.st.at s ≡ bs ++ rest
        → ((t' : Need) (d : Chain) → WroteKids s us vs (length bs) depth b c t t' d → Goes P t' (parts_from f s left (i + count_of vs) d))
        → Goes P t (parts_from f s (count_of vs + left) i c)
    unfolding parts_from first_line_of count_of join bind
    parts_go P nil i bs pr left apart us c t rest k m enough dr go =
        let e : i + 0 ≡ i = omega arith in
        let z : Goes P t (parts_from f s left (i + 0) c) = go t c (rw pr (wrote_none us depth k m)) in
        rw (zero-add left) (rw e at z)
    parts_go P (more v vs) i bs pr left apart us c t rest k m enough dr go =
        let h = pr.0 in
        let r = pr.1 in
        let d₀ : drop c.st.at s ≡ h ++ (r ++ rest) = dr ∙ ap (λ x. x ++ rest) pr.2 ∙ append_assoc h r rest in
        let long : length bs ≡ length h + length r = ap length pr.2 ∙ length-append h r in
        let e : suc (count_of vs) + left ≡ suc (count_of vs + left) = omega arith in
        let j : i + 1 + count_of vs ≡ i + suc (count_of vs) = omega arith in
        rw (e, ne_eqb i line_part (apart i (omega arith) (omega arith)))
        (follows_bind Never Anywhere (WroteKids s us (more v nil) (length h) depth b c t) P t (child (get_or rules i whatever) f c) (parts_from f s (count_of vs + left) (i + 1))
        (child_goes s small bytes fuel depth b (get_or rules i whatever) h v pr.3 pr.4 us c t (r ++ rest) k m enough d₀)
        (λ t₁ d w₁.
        parts_go P vs (i + 1) r pr.5 left (λ x p q. apart x (omega arith) (omega arith)) (join us (more v nil)) d t₁ rest w₁.chained w₁.means (omega (arith, w₁.at))
        (ap (λ x. drop x s) w₁.at ∙ past s c.st.at h (r ++ rest) d₀)
        (λ t₂ d' w₂. rw j (go t₂ d' (rw long (wrote_then us (more v nil) vs w₁ w₂))))))

  -- What the children of a node come to; X is what more is known of the chain.
  pub record WroteBody (vs : Values) (long depth : ℕ) (b : State) (X : Chain → Type 0) (t t' : Need) (d : Chain) : Type 0 where
    pub chained : Chained s b t' d
    pub means : MeanAll (InState s d.st) d.kids vs
    pub at : d.st.at ≡ b.at + long
    pub nodes : length d.st.nodes ≡ length b.nodes + nodes_all vs
    pub entries : length d.st.entries ≡ length b.entries + entries_all vs
    pub slots : length d.st.slots ≡ length b.slots
    pub levels : t'.levels ≤ max t.levels (depth + depth_all vs)
    pub fact : X d

  pub all_children : (vs : Values) (long depth : ℕ) (b : State) (t t' : Need) (d : Chain) → WroteKids s nil vs long depth b (fresh b) t t' d → WroteBody vs long depth b Whatever t t' d
  unfolding join
  all_children vs long depth b t t' d w =
      record { chained = w.chained; means = w.means; at = w.at; nodes = w.nodes; entries = w.entries; slots = w.slots; levels = w.levels; fact = tt }

  -- A value, but that its own record is sound.
  pub record Nearly (v : Value) (long depth : ℕ) (st : State) (t t' : Need) (r : ℕ × State) : Type 0 where
    pub node : r.0 ≡ length st.nodes
    pub means : sound s (get_or r.1.nodes r.0 blank) ≡ true → Means (InState s r.1) r.0 v
    pub at : r.1.at ≡ st.at + long
    pub nodes : length r.1.nodes ≡ length st.nodes + nodes_of v
    pub entries : length r.1.entries ≡ length st.entries + entries_of v
    pub slots : length r.1.slots ≡ length st.slots
    pub levels : t'.levels ≤ max t.levels (depth + depth_of v)

  module _ (v : Value) (vs : Values) (long depth fuel : ℕ) (st : State) (t : Need) (h : Holds s t st) where
    -- the fields are read and the node is claimed: the children, and then the node
    pub after_goes : (l : ℕ) (f : Fields) (inner : ℕ) (t₁ : Need) (X : Chain → Type 0) → Claimed t₁ 0 st → st.at < f.place + f.size → f.place + f.size ≤ length s
        → (deep : ℕ) → Goes (WroteBody vs inner deep (enter st (f.place + f.size) 0) X t₁) t₁ (body (value fuel s) s fuel depth st.at f.children (fresh (enter st (f.place + f.size) 0)))
        → ((P : Sees) (n : ℕ) (c : Chain) → X c → P n c.kids (classed s (closing l f c) c.kids (class_of l)) → MeanAll P c.kids vs → Means P n v)
        → f.place + f.size + inner ≡ st.at + long → nodes_of v ≡ suc (nodes_all vs) → entries_of v ≡ entries_all vs → deep + depth_all vs ≤ depth + depth_of v → t₁.levels ≤ max t.levels (depth + depth_of v)
        → Goes (Nearly v long depth st t) t₁ (after (value fuel s) s fuel depth st (opens l 0 f))
    unfolding after enter close
    after_goes l f inner t₁ X cl past-header within deep goes make lg ns es lv lt =
        let b = enter st (f.place + f.size) 0 in
        follows_bind Never Anywhere (WroteBody vs inner deep b X t₁) (Nearly v long depth st t) t₁ (body (value fuel s) s fuel depth st.at f.children (fresh b)) _ goes
        (λ t' c w.
        let i = length st.nodes in
        let e = closed-node st 0 (f.place + f.size) w.chained l f in
        let ln = length-append st.nodes (blank ∷ []) in
        let sl = length-set c.st.nodes i (closing l f c) in
        record {
          node = refl;
          means =
              λ own.
              make (InState s (close st l 0 f c)) i c w.fact
              (record {
                within = omega (arith, sl, inside st 0 (f.place + f.size) w.chained);
                linked = rw e (built-linked w.chained.built);
                counted = ap (λ z. z.count) e;
                own = own;
                is = rw e refl;
              })
              (mean_all_on (close_on st 0 (f.place + f.size) w.chained l f small) vs c.kids w.means);
          at = omega (arith, w.at);
          nodes = omega (arith, sl, w.nodes, ln);
          entries = omega (arith, w.entries);
          slots = w.slots;
          levels = omega (arith, w.levels);
        })

    -- every node of a reading is sound, so that a value that is nearly read is read
    pub value_goes : Goes (Nearly v long depth st t) t (value fuel s depth st) → Goes (Wrote s v long depth st t) t (value fuel s depth st)
    value_goes g =
        follows_map Never Anywhere (λ t' r. Valued s st t' r × Nearly v long depth st t t' r) (Wrote s v long depth st t) t (value fuel s depth st)
        (follows_both (Own s) Never (λ p. p ≤ length s) Anywhere (Valued s st) (Nearly v long depth st t) t (value fuel s depth st) (value_keeps s small fuel depth t st h) g)
        (λ t' r p.
        let w = p.1 in
        record {
          valued = p.0;
          means = w.means ((p.0.finished r.0 (omega (arith, w.node)) p.0.named).own bytes);
          at = w.at;
          nodes = w.nodes;
          entries = w.entries;
          slots = w.slots;
          levels = w.levels;
        })

  pub claimed_node : (n : ℕ) (t : Need) (st : State) → Holds s t st → Claimed (raise node (length st.nodes + 1) (raise level n t)) 0 st
  claimed_node n t st h = record { nodes = omega (arith, h.claimed_nodes); entries = h.claimed_entries; slots = omega (arith, h.claimed_slots) }

  -- a node that is no code
  pub node_goes : (v : Value) (vs : Values) (long depth fuel : ℕ) (st : State) (t : Need) (h : Holds s t st) (l : ℕ) (f : Fields) (inner : ℕ)
      → front s depth st.at (length st.nodes) (length st.slots) st.slots ≡ claim level (depth + 1) st.at (claim node (length st.nodes + 1) st.at (done (opens l 0 f)))
      → st.at < f.place + f.size → f.place + f.size ≤ length s
      → ((t₁ : Need) → Chained s (enter st (f.place + f.size) 0) t₁ (fresh (enter st (f.place + f.size) 0))
      → Goes (WroteBody vs inner (depth + 1) (enter st (f.place + f.size) 0) Whatever t₁) t₁ (body (value fuel s) s fuel depth st.at f.children (fresh (enter st (f.place + f.size) 0))))
      → ((P : Sees) (n : ℕ) (c : Chain) → P n c.kids (classed s (closing l f c) c.kids (class_of l)) → MeanAll P c.kids vs → Means P n v)
      → f.place + f.size + inner ≡ st.at + long → nodes_of v ≡ suc (nodes_all vs) → entries_of v ≡ entries_all vs → depth + 1 + depth_all vs ≤ depth + depth_of v
      → Goes (Wrote s v long depth st t) t (value (suc fuel) s depth st)
  unfolding value one bind
  node_goes v vs long depth fuel st t h l f inner fr past-header within goes make lg ns es lv =
      value_goes v vs long depth (suc fuel) st t h
      (rw fr (
        tt,
        (
          tt,
          after_goes v vs long depth fuel st t h l f inner _ Whatever (claimed_node (depth + 1) t st h) past-header within (depth + 1)
              (goes _ (started (entered 0 (f.place + f.size) h (claimed_node (depth + 1) t st h) past-header within))) (λ P n c x p m. make P n c p m) lg ns es lv (omega arith),
        ),
      ))
