-- Written bytes, read: what holds of a value and of a chain of children that are read from them, and how one follows another. `Goes P t m`:
-- the reading m is not refused, and P holds of what it claims and gives. Assumes nothing.
use mathlib.Core.Path.{◌≡◌, refl, ap, ◌∙◌}
use Prim.Native.Nat.{ℕ, ◌+◌, ◌≤◌, max}
use native.Mathlib.Omega.{arith}
use mathlib.Core.Bool.{true, false}
use mathlib.Core.List.{List, [], ◌∷◌, ◌++◌, append_assoc}
use lib.ListN.{length, drop, length-append}
use Rattle.refusals.specs.Limits.{most_bytes}
use Rattle.grammar.specs.Reading.{Reading, done, refused, claim}
use Rattle.grammar.specs.Letters.{ends_dict}
use Rattle.grammar.specs.State.{State}
use Rattle.grammar.specs.Steps.{Chain, attach, Rule, whatever, suits, child, kids, Reader, value}
use Rattle.grammar.proofs.Following.{Need, raise, Follows, follows_bind, follows_map}
use Rattle.grammar.specs.Input.{Bytes}
use Rattle.grammar.proofs.Standing.{Holds, Valued, Chained, attached}
use Rattle.meaning.specs.Value.{Value, Values, nil, more, count_of}
use Rattle.meaning.specs.Extent.{depth_of, depth_all, nodes_of, nodes_all, entries_of, entries_all}
use Rattle.meaning.proofs.Means.{Means, MeanAll, snoc, join, join-nil}
use Rattle.meaning.proofs.Standing.{InState, attach-means}
use Rattle.meaning.proofs.At.{past}

-- What two theorems say of one reading.
pub follows_both : {A : Type 0} (Q Q' : ℕ → ℕ → Type 0) (C C' : ℕ → Type 0) (P P' : Need → A → Type 0) (t : Need) (m : Reading A)
    → Follows Q C P t m → Follows Q' C' P' t m → Follows Q' C' (λ t a. P t a × P' t a) t m
follows_both Q Q' C C' P P' t (done a) e f = (e, f)
follows_both Q Q' C C' P P' t (refused n p) e f = f
follows_both Q Q' C C' P P' t (claim k need p m) e f = (f.0, follows_both Q Q' C C' P P' (raise k need t) m e.1 f.1)

abbrev pub Never : ℕ → ℕ → Type 0
Never n p = ⊥

abbrev pub Anywhere : ℕ → Type 0
Anywhere p = Unit

abbrev pub Goes : {A : Type 0} → (Need → A → Type 0) → Need → Reading A → Type 0
Goes P t m = Follows Never Anywhere P t m

-- a value, read from so many bytes
pub record Wrote (s : List ℕ) (v : Value) (long depth : ℕ) (st : State) (t t' : Need) (r : ℕ × State) : Type 0 where
  pub valued : Valued s st t' r
  pub means : Means (InState s r.1) r.0 v
  pub at : r.1.at ≡ st.at + long
  pub nodes : length r.1.nodes ≡ length st.nodes + nodes_of v
  pub entries : length r.1.entries ≡ length st.entries + entries_of v
  pub slots : length r.1.slots ≡ length st.slots
  pub levels : t'.levels ≤ max t.levels (depth + depth_of v)

-- children vs, read after children us from so many bytes
pub record WroteKids (s : List ℕ) (us vs : Values) (long depth : ℕ) (b : State) (c : Chain) (t t' : Need) (d : Chain) : Type 0 where
  pub chained : Chained s b t' d
  pub means : MeanAll (InState s d.st) d.kids (join us vs)
  pub at : d.st.at ≡ c.st.at + long
  pub nodes : length d.st.nodes ≡ length c.st.nodes + nodes_all vs
  pub entries : length d.st.entries ≡ length c.st.entries + entries_all vs
  pub slots : length d.st.slots ≡ length c.st.slots
  pub levels : t'.levels ≤ max t.levels (depth + depth_all vs)
  pub line : d.line ≡ c.line

pub join_assoc : (us vs ws : Values) → join (join us vs) ws ≡ join us (join vs ws)
unfolding join
join_assoc nil vs ws = refl
join_assoc (more u us) vs ws = ap (more u) (join_assoc us vs ws)

join-snoc_more : (us : Values) (v : Value) → snoc us v ≡ join us (more v nil)
unfolding join snoc
join-snoc_more nil v = refl
join-snoc_more (more u us) v = ap (more u) (join-snoc_more us v)

pub nodes-join : (vs ws : Values) → nodes_all (join vs ws) ≡ nodes_all vs + nodes_all ws
unfolding join nodes_of
nodes-join nil ws = omega arith
nodes-join (more v vs) ws = omega (arith, nodes-join vs ws)

pub entries-join : (vs ws : Values) → entries_all (join vs ws) ≡ entries_all vs + entries_all ws
unfolding join entries_of
entries-join nil ws = omega arith
entries-join (more v vs) ws = omega (arith, entries-join vs ws)

pub depth-join : (vs ws : Values) → depth_all (join vs ws) ≡ max (depth_all vs) (depth_all ws)
unfolding join depth_of
depth-join nil ws = omega arith
depth-join (more v vs) ws = omega (arith, depth-join vs ws)

pub wrote_then : {s : List ℕ} (us vs ws : Values) {long long' depth : ℕ} {b : State} {c : Chain} {t t₁ t₂ : Need} {d e : Chain}
    → WroteKids s us vs long depth b c t t₁ d → WroteKids s (join us vs) ws long' depth b d t₁ t₂ e → WroteKids s us (join vs ws) (long + long') depth b c t t₂ e
wrote_then us vs ws p q =
    record {
      chained = q.chained;
      means = rw (← join_assoc us vs ws) q.means;
      at = omega (arith, p.at, q.at);
      nodes = omega (arith, p.nodes, q.nodes, nodes-join vs ws);
      entries = omega (arith, p.entries, q.entries, entries-join vs ws);
      slots = q.slots ∙ p.slots;
      levels = omega (arith, p.levels, q.levels, depth-join vs ws);
      line = q.line ∙ p.line;
    }

pub wrote_none : {s : List ℕ} (us : Values) (depth : ℕ) {b : State} {c : Chain} {t : Need} → Chained s b t c → MeanAll (InState s c.st) c.kids us → WroteKids s us nil 0 depth b c t t c
unfolding nodes_of entries_of depth_of
wrote_none {s} us depth {b} {c} {t} k m =
    record { chained = k; means = rw (join-nil us) m; at = omega arith; nodes = omega arith; entries = omega arith; slots = refl; levels = omega arith; line = refl }

module _ (s : List ℕ) (small : length s ≤ most_bytes) (bytes : Bytes s) where
  -- The bytes bs, wherever they stand, read as v: they begin with no dict's end, and the reading goes through.
  pub record Reads (bs : List ℕ) (v : Value) : Type 0 where
    pub head : ℕ
    pub tail : List ℕ
    pub begins : bs ≡ head ∷ tail
    pub no_end : ends_dict head ≡ false
    pub goes : (fuel depth : ℕ) (st : State) (t : Need) (rest : List ℕ) → length s ≤ st.at + fuel → Holds s t st → drop st.at s ≡ bs ++ rest
        → Goes (Wrote s v (length bs) depth st t) t (value fuel s depth st)

  -- one after another
  abbrev pub AllRead : List ℕ → Values → Type 0
  AllRead bs nil = bs ≡ []
  AllRead bs (more v vs) = (b : List ℕ) × (rest : List ℕ) × (bs ≡ b ++ rest) × Reads b v × AllRead rest vs

  -- any child may be any value
  pub any : (v : Value) (st : State) (n : ℕ) → Means (InState s st) n v → suits whatever st.nodes st.entries n ≡ true
  unfolding suits
  any v st n m = refl

  module _ (fuel depth : ℕ) (b : State) where
    abbrev f : Reader
    f = value fuel s depth

    -- one child
    pub child_goes : (rule : Rule) (bs : List ℕ) (v : Value) → Reads bs v → ((st : State) (n : ℕ) → Means (InState s st) n v → suits rule st.nodes st.entries n ≡ true)
        → (us : Values) (c : Chain) (t : Need) (rest : List ℕ) → Chained s b t c → MeanAll (InState s c.st) c.kids us → length s ≤ c.st.at + fuel
        → drop c.st.at s ≡ bs ++ rest → Goes (WroteKids s us (more v nil) (length bs) depth b c t) t (child rule f c)
    unfolding child attach nodes_of entries_of depth_of
    child_goes rule bs v rd suited us c t rest k m enough dr =
        follows_bind Never Anywhere (Wrote s v (length bs) depth c.st t) (WroteKids s us (more v nil) (length bs) depth b c t) t (f c.st) _
        (rd.goes fuel depth c.st t rest enough k.holds dr)
        (λ t₁ r w.
        let k₁ = attached small k w.valued in
        rw (suited r.1 r.0 w.means) (
          tt,
          record {
            chained = k₁;
            means = rw (← join-snoc_more us v) (attach-means small k w.valued us v m w.means);
            at = w.at;
            nodes = omega (arith, w.nodes);
            entries = omega (arith, w.entries, k₁.holds.claimed_entries, w.valued.holds.claimed_entries);
            slots = w.slots;
            levels = omega (arith, w.levels);
            line = refl;
          },
        ))

    pub kids_go : (vs : Values) (bs : List ℕ) → AllRead bs vs → (us : Values) (c : Chain) (t : Need) (rest : List ℕ) → Chained s b t c → MeanAll (InState s c.st) c.kids us
        → length s ≤ c.st.at + fuel → drop c.st.at s ≡ bs ++ rest → Goes (WroteKids s us vs (length bs) depth b c t) t (kids f (count_of vs) c)
    unfolding kids count_of join
    kids_go nil bs al us c t rest k m enough dr = rw al (wrote_none us depth k m)
    kids_go (more v vs) bs al us c t rest k m enough dr =
        let h = al.0 in
        let r = al.1 in
        let d₀ : drop c.st.at s ≡ h ++ (r ++ rest) = dr ∙ ap (λ x. x ++ rest) al.2 ∙ append_assoc h r rest in
        let long : length bs ≡ length h + length r = ap length al.2 ∙ length-append h r in
        rw long
        (follows_bind Never Anywhere (WroteKids s us (more v nil) (length h) depth b c t) (WroteKids s us (more v vs) (length h + length r) depth b c t) t (child whatever f c) (kids f (count_of vs))
        (child_goes whatever h v al.3 (any v) us c t (r ++ rest) k m enough d₀)
        (λ t₁ d w.
        follows_map Never Anywhere (WroteKids s (join us (more v nil)) vs (length r) depth b d t₁) (WroteKids s us (more v vs) (length h + length r) depth b c t) t₁ (kids f (count_of vs) d)
        (kids_go vs r al.4 (join us (more v nil)) d t₁ rest w.chained w.means (omega (arith, w.at)) (ap (λ i. drop i s) w.at ∙ past s c.st.at h (r ++ rest) d₀))
        (λ t₂ e w'. wrote_then us (more v nil) vs w w')))
