-- The shift of records, of the tests on a child and of each change of a state. One law a definition. Assumes nothing.
use mathlib.Core.Path.{◌≡◌, refl, sym, ap, ◌∙◌}
use Prim.Native.Nat.{ℕ, zero, suc, ◌+◌, ◌≤◌, ◌<◌}
use native.Mathlib.Omega.{arith}
use mathlib.Core.Bool.{Bool, true, false, cond, ◌&&◌}
use mathlib.Core.Option.{Option, none, some}
use mathlib.Core.List.{List, [], ◌∷◌, ◌++◌, map}
use lib.ListN.{length, get_or, set, length-append, length-map, get_or-map}
use lib.Seq.{get_or-append-add}
use lib.Dec.{eqb}
use borrow.Author.Tests.{ne_eqb}
use Rattle.refusals.specs.Limits.{nothing}
use Rattle.grammar.specs.Letters.{is_bytes, is_tuple, is_string}
use Rattle.grammar.specs.Fields.{Fields}
use Rattle.grammar.specs.State.{Node, Entry, State, blank, unlinked, moved_to}
use Rattle.grammar.specs.Steps.{Chain, first_of, follow, attach, Rule, whatever, as_bytes, as_tuple, as_names, as_string, letter_in, strings, suits, reserve, fill, enter, size_of, close}
use Rattle.grammar.proofs.Tests.{both_agree, never}
use Rattle.grammar.proofs.Links.{Linked, More, next_of}
use Rattle.grammar.proofs.Standing.{Finished}
use Rattle.shifts.specs.Shift.{Shift, raised_link, raised_number, raised_node, raised_entry, raised_slot, raised, raised_fields, raised_last, raised_line, raised_chain}

-- Lists behind a front.

module _ {A B : Type 0} (f : A → B) where
  map_snoc : (xs : List A) (x : A) → map f xs ++ f x ∷ [] ≡ map f (xs ++ x ∷ [])
  map_snoc [] x = refl
  map_snoc (y ∷ ys) x = ap (λ zs. f y ∷ zs) (map_snoc ys x)

  behind-snoc : (K : List B) (xs : List A) (x : A) → (K ++ map f xs) ++ f x ∷ [] ≡ K ++ map f (xs ++ x ∷ [])
  behind-snoc [] xs x = map_snoc xs x
  behind-snoc (y ∷ ys) xs x = ap (λ zs. y ∷ zs) (behind-snoc ys xs x)

  pub behind-length : (K : List B) (xs : List A) → length (K ++ map f xs) ≡ length K + length xs
  behind-length K xs = length-append K (map f xs) ∙ ap (λ n. length K + n) (length-map xs f)

  map-set : (xs : List A) (i : ℕ) (y : A) → set (map f xs) i (f y) ≡ map f (set xs i y)
  map-set [] i y = refl
  map-set (x ∷ xs) zero y = refl
  map-set (x ∷ xs) (suc i) y = ap (λ zs. f x ∷ zs) (map-set xs i y)

  pub map-get_in : (xs : List A) (i : ℕ) (d : A) (d' : B) → i < length xs → get_or (map f xs) i d' ≡ f (get_or xs i d)
  map-get_in [] i d d' l = absurd (omega arith)
  map-get_in (x ∷ xs) zero d d' l = refl
  map-get_in (x ∷ xs) (suc i) d d' l = map-get_in xs i d d' (omega arith)

pub set-append-add : {A : Type 0} (K xs : List A) (i : ℕ) (y : A) → set (K ++ xs) (length K + i) y ≡ K ++ set xs i y
set-append-add [] xs i y =
    let z : 0 + i ≡ i = omega arith in
    rw z refl
set-append-add (x ∷ K) xs i y =
    let z : suc (length K) + i ≡ suc (length K + i) = omega arith in
    rw z (ap (λ zs. x ∷ zs) (set-append-add K xs i y))

-- every complete node of a state is finished
abbrev pub Whole : List ℕ → State → Type 0
Whole s st = (i : ℕ) → i < length st.nodes → eqb (get_or st.nodes i blank).letter 0 ≡ false → Finished s st.entries (get_or st.nodes i blank)

module _ (k : Shift) where
  pub node_at : (ns : List Node) (v : ℕ) → get_or (k.nodes ++ map (raised_node k) ns) (length k.nodes + v) blank ≡ raised_node k (get_or ns v blank)
  node_at ns v = get_or-append-add k.nodes (map (raised_node k) ns) v blank ∙ get_or-map (raised_node k) ns v blank

  pub entry_at_lem : (es : List Entry) (e : ℕ) → e < length es → get_or (k.entries ++ map (raised_entry k) es) (length k.entries + e) unlinked ≡ raised_entry k (get_or es e unlinked)
  entry_at_lem es e l = get_or-append-add k.entries (map (raised_entry k) es) e unlinked ∙ map-get_in (raised_entry k) es e unlinked unlinked l

  letter-raised : (n : Node) → (raised_node k n).letter ≡ n.letter
  letter-raised n = go (eqb n.letter 0)
    where
      go : (b : Bool) → (cond b n (record {
        letter = n.letter;
        place = k.places + n.place;
        size = n.size;
        first = raised_link k
            n.first;
        count = n.count;
        end = k.places + n.end;
        input = n.input;
      })).letter ≡ n.letter
      go true = refl
      go false = refl

  pub size-raised : (n : Node) → (raised_node k n).size ≡ n.size
  size-raised n = go (eqb n.letter 0)
    where
      go : (b : Bool) → (cond b n (record {
        letter = n.letter;
        place = k.places + n.place;
        size = n.size;
        first = raised_link k
            n.first;
        count = n.count;
        end = k.places + n.end;
        input = n.input;
      })).size ≡ n.size
      go true = refl
      go false = refl

  pub count-raised : (n : Node) → (raised_node k n).count ≡ n.count
  count-raised n = go (eqb n.letter 0)
    where
      go : (b : Bool) → (cond b n (record {
        letter = n.letter;
        place = k.places + n.place;
        size = n.size;
        first = raised_link k
            n.first;
        count = n.count;
        end = k.places + n.end;
        input = n.input;
      })).count ≡ n.count
      go true = refl
      go false = refl

  pub link_raised : (e : ℕ) → e < nothing → raised_link k e ≡ length k.entries + e
  link_raised e l = rw (ne_eqb e nothing (λ q. omega arith)) refl

  -- the tests on a child

  letter_in-raised : (ns : List Node) (v : ℕ) → letter_in (k.nodes ++ map (raised_node k) ns) (length k.nodes + v) ≡ letter_in ns v
  letter_in-raised ns v = ap (λ z. z.letter) (node_at ns v) ∙ letter-raised (get_or ns v blank)

  strings_more : (ns : List Node) (es : List Entry) → length es ≤ nothing → (e : ℕ) (vs : List ℕ) → e < length es → More es e vs
      → strings (k.nodes ++ map (raised_node k) ns) (k.entries ++ map (raised_entry k) es) (suc (length vs)) (length k.entries + e) ≡ strings ns es (suc (length vs)) e
  unfolding strings
  strings_more ns es f e [] l m =
      rw (entry_at_lem es e l, letter_in-raised ns (get_or es e unlinked).child) refl
  strings_more ns es f e (w ∷ ws) l m =
      rw (entry_at_lem es e l, letter_in-raised ns (get_or es e unlinked).child, link_raised (get_or es e unlinked).next (omega (arith, m.1)))
      (ap (λ b. is_string (letter_in ns (get_or es e unlinked).child) && b) (strings_more ns es f (next_of es e) ws m.1 m.3))

  strings-linked : (ns : List Node) (es : List Entry) → length es ≤ nothing → (e : ℕ) (vs : List ℕ) → Linked es e vs
      → strings (k.nodes ++ map (raised_node k) ns) (k.entries ++ map (raised_entry k) es) (length vs) (raised_link k e) ≡ strings ns es (length vs) e
  unfolding strings
  strings-linked ns es f e [] h = refl
  strings-linked ns es f e (v ∷ vs) h = rw (link_raised e (omega (arith, h.0))) (strings_more ns es f e vs h.0 h.2)

  pub suits-raised : (s : List ℕ) (st : State) (rule : Rule) (v : ℕ) → Whole s st → v < length st.nodes → length st.entries ≤ nothing
      → suits rule (raised k st).nodes (raised k st).entries (raised_number k v) ≡ suits rule st.nodes st.entries v
  unfolding suits raised
  suits-raised s st whatever v w l f = refl
  suits-raised s st as_bytes v w l f = ap is_bytes (letter_in-raised st.nodes v)
  suits-raised s st as_tuple v w l f = ap is_tuple (letter_in-raised st.nodes v)
  suits-raised s st as_string v w l f = ap is_string (letter_in-raised st.nodes v)
  suits-raised s st as_names v w l f =
      both_agree (is_tuple (letter_in (k.nodes ++ map (raised_node k) st.nodes) (raised_number k v))) (is_tuple (letter_in st.nodes v)) (ap is_tuple (letter_in-raised st.nodes v))
      (λ t. named (tuple-kept (letter_in st.nodes v) (sym (ap is_tuple (letter_in-raised st.nodes v)) ∙ t)))
    where
      tuple-kept : (l : ℕ) → is_tuple l ≡ true → eqb l 0 ≡ false
      tuple-kept zero t = never t
      tuple-kept (suc l) t = ne_eqb (suc l) 0 (λ q. omega arith)

      named : eqb (letter_in st.nodes v) 0 ≡ false
          → strings (k.nodes ++ map (raised_node k) st.nodes) (k.entries ++ map (raised_entry k) st.entries)
          (get_or (k.nodes ++ map (raised_node k) st.nodes) (raised_number k v) blank).count (get_or (k.nodes ++ map (raised_node k) st.nodes) (raised_number k v) blank).first
          ≡ strings st.nodes st.entries (get_or st.nodes v blank).count (get_or st.nodes v blank).first
      named q =
          let fin = w v l q in
          rw (node_at st.nodes v, q, fin.counted) (strings-linked st.nodes st.entries f (get_or st.nodes v blank).first fin.kids fin.linked)

  -- the changes of a state

  pub state_same : {at at' : ℕ} {ns ns' : List Node} {es es' : List Entry} {ss ss' ms ms' : List ℕ} → at ≡ at' → ns ≡ ns' → es ≡ es' → ss ≡ ss' → ms ≡ ms'
      → ◌≡◌ {A = State} (record { at = at; nodes = ns; entries = es; slots = ss; met = ms }) (record { at = at'; nodes = ns'; entries = es'; slots = ss'; met = ms' })
  state_same a b c d e = rw (a, b, c, d, e) refl

  pub chain_same : {ks ks' : List ℕ} {f f' : ℕ} {l l' : Option ℕ} {n n' : ℕ} {st st' : State} → ks ≡ ks' → f ≡ f' → l ≡ l' → n ≡ n' → st ≡ st'
      → ◌≡◌ {A = Chain} (record { kids = ks; first = f; last = l; line = n; st = st }) (record { kids = ks'; first = f'; last = l'; line = n'; st = st' })
  chain_same a b c d e = rw (a, b, c, d, e) refl

  moved-raised : (st : State) (at at' : ℕ) → at' ≡ k.places + at → moved_to at' (raised k st) ≡ raised k (moved_to at st)
  unfolding raised
  moved-raised st at at' e = state_same e refl refl refl refl

  reserve-raised : (g : ℕ) (ss : List ℕ) → reserve g (map (raised_slot k) ss) ≡ map (raised_slot k) (reserve g ss)
  reserve-raised zero ss = refl
  reserve-raised (suc g) ss = map_snoc (raised_slot k) ss 0

  pub enter-raised : (st : State) (at at' g : ℕ) → at' ≡ k.places + at → enter (raised k st) at' g ≡ raised k (enter st at g)
  unfolding raised enter
  enter-raised st at at' g e = state_same e (behind-snoc (raised_node k) k.nodes st.nodes blank) refl (reserve-raised g st.slots) refl

  follow-set : (xs : List Entry) (l e : ℕ) → e < nothing
      → set (map (raised_entry k) xs) l (record { child = (get_or (map (raised_entry k) xs) l unlinked).child; next = length k.entries + e })
      ≡ map (raised_entry k) (set xs l (record { child = (get_or xs l unlinked).child; next = e }))
  follow-set [] l e q = refl
  follow-set (x ∷ xs) zero e q = rw (link_raised e q) refl
  follow-set (x ∷ xs) (suc l) e q = ap (λ zs. raised_entry k x ∷ zs) (follow-set xs l e q)

  follow-raised : (last : Option ℕ) (e : ℕ) (xs : List Entry) → e < nothing
      → follow (raised_last k last) (length k.entries + e) (k.entries ++ map (raised_entry k) xs) ≡ k.entries ++ map (raised_entry k) (follow last e xs)
  follow-raised none e xs q = refl
  follow-raised (some l) e xs q =
      rw (get_or-append-add k.entries (map (raised_entry k) xs) l unlinked, set-append-add k.entries (map (raised_entry k) xs) l _)
      (ap (λ zs. k.entries ++ zs) (follow-set xs l e q))

  first_raised : (last : Option ℕ) (e first : ℕ) → e < nothing → first_of (raised_last k last) (length k.entries + e) (raised_link k first) ≡ raised_link k (first_of last e first)
  first_raised none e first q = sym (link_raised e q)
  first_raised (some l) e first q = refl

  pub attach-raised : (c : Chain) (v : ℕ) (st : State) → length st.entries < nothing → attach (raised_chain k c) (raised_number k v) (raised k st) ≡ raised_chain k (attach c v st)
  unfolding raised raised_chain attach
  attach-raised c v st q =
      let z = behind-length (raised_entry k) k.entries st.entries in
      rw z
      (chain_same (map_snoc (raised_number k) c.kids v) (first_raised c.last (length st.entries) c.first q) refl refl
      (state_same refl refl
      (ap (follow (raised_last k c.last) (length k.entries + length st.entries)) (behind-snoc (raised_entry k) k.entries st.entries (record { child = v; next = nothing }))
      ∙ follow-raised c.last (length st.entries) (st.entries ++ record { child = v; next = nothing } ∷ []) q)
      refl refl))

  slot-raised : (v n : ℕ) → n ≡ raised_number k v → n + 1 ≡ raised_slot k (v + 1)
  slot-raised v n e =
      let z : v + 1 ≡ suc v = omega arith in
      rw z (omega arith)

  fill-raised : (g i v n : ℕ) (ss : List ℕ) → n ≡ raised_number k v → fill g i n (map (raised_slot k) ss) ≡ map (raised_slot k) (fill g i v ss)
  fill-raised zero i v n ss e = refl
  fill-raised (suc g) i v n ss e = rw (slot-raised v n e) (map-set (raised_slot k) ss i (v + 1))

  closed-node : (n : Node) → eqb n.letter 0 ≡ false
      → record { letter = n.letter; place = k.places + n.place; size = n.size; first = raised_link k n.first; count = n.count; end = k.places + n.end; input = n.input } ≡ raised_node k n
  closed-node n e = rw e refl

  pub close-raised : (st : State) (l g : ℕ) (f : Fields) (c : Chain) → eqb l 0 ≡ false
      → size_of f.children (k.places + f.place) f.size (raised_line k c.line) ≡ size_of f.children f.place f.size c.line
      → close (raised k st) l g (raised_fields k f) (raised_chain k c) ≡ raised k (close st l g f c)
  unfolding raised raised_chain close
  close-raised st l g f c e z =
      rw (behind-length (raised_node k) k.nodes st.nodes, length-map st.slots (raised_slot k), length-map c.kids (raised_number k), z)
      (state_same refl
      (set-append-add k.nodes (map (raised_node k) c.st.nodes) (length st.nodes) _
      ∙ ap (λ zs. k.nodes ++ zs)
      (ap (set (map (raised_node k) c.st.nodes) (length st.nodes))
      (closed-node (record { letter = l; place = f.place; size = size_of f.children f.place f.size c.line; first = c.first; count = length c.kids; end = c.st.at; input = 0 }) e)
      ∙ map-set (raised_node k) c.st.nodes (length st.nodes) _))
      refl
      (fill-raised g (length st.slots) (length st.nodes) _ c.st.slots refl) refl)
