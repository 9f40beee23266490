-- The law of two readings that differ by a shift: the whole reading behind kept nodes and entries, deeper and further on, is the plain
-- reading with its numbers raised. One law a definition of Steps. Assumes that the input is 16 MiB at most.
use mathlib.Core.Path.{◌≡◌, refl, sym, ap, ap₂}
use Prim.Native.Nat.{ℕ, zero, suc, ◌+◌, ◌≤◌, ◌<◌}
use native.Mathlib.Omega.{arith}
use mathlib.Core.Bool.{Bool, true, false, cond}
use mathlib.Core.List.{List, [], ◌∷◌, ◌++◌, map}
use lib.ListN.{length, get_or, length-append, length-map, get_or-append}
use lib.Seq.{get_or-append_seam}
use lib.Dec.{ltb, eqb}
use borrow.Author.Tests.{ltb-true, ltb-false, ne_eqb, eqb-true}
use Rattle.refusals.specs.Numbers.{accepted, eof_object, bad_type, unknown_type}
use Rattle.refusals.specs.Limits.{most_bytes, nothing}
use Rattle.grammar.specs.Reading.{level, entry, done, refused, claim, gives}
use Rattle.grammar.specs.Letters.{Class, refuses, class_of, letters, found, ends_dict}
use Rattle.grammar.specs.Fields.{Fields, Children, items, pairs, parts, field, sum_at}
use Rattle.grammar.specs.State.{State, blank}
use Rattle.grammar.specs.Steps.{Front, known, opens, front, Chain, fresh, attach, Rule, whatever, suits, Reader, child, kids, passed, couples, code_parts, rules, code_part, locals_part, kinds_part, line_part, lined, first_line_of, parts_from, fault_of, ended, body, enter, size_of, after, one, value}
use Rattle.grammar.proofs.Tests.{never}
use Rattle.grammar.proofs.Following.{Need, Follows}
use Rattle.grammar.proofs.Links.{kept_grows}
use Rattle.grammar.proofs.Standing.{Holds, Finished, Since, Valued, Chained, finished_grows, started, entered}
use Rattle.grammar.proofs.Fielding.{Own, Said, Filled, said-ahead, said-within}
use Rattle.grammar.proofs.Keeping.{Fronted, front-keeps, Childed, Ready, Parts, child-keeps, first_line-keeps, parts_from-keeps, body-keeps, said-behind, value_keeps, Behind, Filling}
use Rattle.shifts.specs.Shift.{Shift, raised_number, raised_node, raised_entry, raised_slot, raised, raised_value, raised_front, raised_line, raised_chain, lifted, lifted_a, Further}
use Rattle.shifts.proofs.Shifted.{claim_same, lift_bind, lift_cond, lift_reads, word_at, field-shift, byte_test_shift, front-shift}
use Rattle.shifts.proofs.Raising.{behind-length, map-get_in, Whole, node_at, size-raised, count-raised, suits-raised, state_same, chain_same, enter-raised, attach-raised, close-raised}

-- Whole states: what is read keeps them whole.

since_whole : (s : List ℕ) (a b : State) → Since a b → length a.entries ≤ nothing → Whole s a
    → ((i : ℕ) → length a.nodes ≤ i → i < length b.nodes → Finished s b.entries (get_or b.nodes i blank)) → Whole s b
since_whole s a b q f w fin i l e = go (ltb i (length a.nodes)) refl
  where
    go : (d : Bool) → ltb i (length a.nodes) ≡ d → Finished s b.entries (get_or b.nodes i blank)
    go true z =
        let h = ltb-true i (length a.nodes) z in
        let y = q.same_nodes i h in
        finished_grows (kept_grows a.entries b.entries q.entries) f y (w i h (rw y at e))
    go false z = fin i (ltb-false i (length a.nodes) z) l

enter-whole : (s : List ℕ) (st : State) (at g : ℕ) → Whole s st → Whole s (enter st at g)
unfolding enter
enter-whole s st at g w i l e = go (ltb i (length st.nodes)) refl
  where
    go : (d : Bool) → ltb i (length st.nodes) ≡ d → Finished s st.entries (get_or (st.nodes ++ blank ∷ []) i blank)
    go true z =
        let h = ltb-true i (length st.nodes) z in
        let y = get_or-append st.nodes (blank ∷ []) blank i h in
        rw y (w i h (rw y at e))
    go false z =
        let y : i ≡ length st.nodes = omega (arith, ltb-false i (length st.nodes) z, length-append st.nodes (blank ∷ [])) in
        let u : eqb 0 0 ≡ false = rw (y, get_or-append_seam st.nodes blank [] blank) at e in
        never (sym u)

-- a letter that is kept is not 0
pub kept-letter : (s : List ℕ) (l at : ℕ) (c : Class) (f : Fields) → class_of l ≡ c → Said s c at f → eqb l 0 ≡ false
unfolding class_of letters found
kept-letter s l at c f e said = go (eqb l 0) refl
  where
    go : (b : Bool) → eqb l 0 ≡ b → b ≡ false
    go false q = refl
    go true q =
        let z : l ≡ 0 = eqb-true l 0 q in
        let y : refuses unknown_type ≡ c = rw z at e in
        absurd (rw (← y) at said)

module _ (k : Shift) (s s' : List ℕ) (b : Further k s s') (small : length s ≤ most_bytes) where
  abbrev Q : ℕ → ℕ → Type 0
  Q n p = Own s n p

  abbrev C : ℕ → Type 0
  C p = p ≤ length s

  abbrev R : Chain → Chain
  R = raised_chain k

  abbrev RV : ℕ × State → ℕ × State
  RV = raised_value k

  -- the second reader gives what the first gives, raised
  abbrev Same : Reader → Reader → Type 0
  Same f f' = (t : Need) (st : State) → Holds s t st → Whole s st → f' (raised k st) ≡ lifted k RV (f st)

  abbrev Keeps : Reader → Type 0
  Keeps f = (t : Need) (st : State) → Holds s t st → Follows Q C (Valued s st) t (f st)

  chain-whole : (a : State) {t : Need} (c : Chain) → length a.entries ≤ nothing → Whole s a → Chained s a t c → Whole s c.st
  chain-whole a c l w h = since_whole s a c.st h.since l w h.finished

  value-whole : (st : State) {t : Need} (r : ℕ × State) → length st.entries ≤ nothing → Whole s st → Valued s st t r → Whole s r.1
  value-whole st r l w h = since_whole s st r.1 h.since l w h.finished

  below : {t : Need} {st : State} → Holds s t st → length st.entries < nothing
  below h = omega (arith, h.within, h.few-entries)

  child-shift : (rule : Rule) (f f' : Reader) → Keeps f → Same f f' → (t : Need) (c : Chain) → Holds s t c.st → Whole s c.st
      → child rule f' (R c) ≡ lifted k R (child rule f c)
  unfolding child raised_chain raised lifted
  child-shift rule f f' ok same t c h w =
      lift_bind k Q C (Valued s c.st) RV R t (f c.st) (f' (raised k c.st)) _ _ (ok t c.st h) (same t c.st h w)
      (λ t' r q. found-child t' r q)
    where
      found-child : (t' : Need) (r : ℕ × State) → Valued s c.st t' r
          → cond (suits rule (raised k r.1).nodes (raised k r.1).entries (raised_number k r.0))
          (claim entry (length (raised k r.1).entries + 1) (raised k c.st).at (done (attach (raised_chain k c) (raised_number k r.0) (raised k r.1))))
          (refused bad_type (raised k c.st).at)
          ≡ lifted k R (cond (suits rule r.1.nodes r.1.entries r.0) (claim entry (length r.1.entries + 1) c.st.at (done (attach c r.0 r.1))) (refused bad_type c.st.at))
      found-child t' r q =
          let few' = below q.holds in
          lift_cond k R (suits rule r.1.nodes r.1.entries r.0) _ _ _
          (suits-raised k s r.1 rule r.0 (value-whole c.st r (omega (arith, below h)) w q) q.named (omega arith))
          (claim_same entry (omega (arith, behind-length (raised_entry k) k.entries r.1.entries)) refl (ap done (attach-raised k c r.0 r.1 few')))
          refl

  kids-shift : (f f' : Reader) → Keeps f → Same f f' → (a : State) → length a.entries ≤ nothing → Whole s a → (n : ℕ) (t : Need) (c : Chain) → Chained s a t c
      → kids f' n (R c) ≡ lifted k R (kids f n c)
  unfolding kids lifted
  kids-shift f f' ok same a l w zero t c h = refl
  kids-shift f f' ok same a l w (suc n) t c h =
      lift_bind k Q C (Childed s small a c) R R t (child whatever f c) (child whatever f' (R c)) (kids f n) (kids f' n)
      (child-keeps s small whatever f ok a t c h) (child-shift whatever f f' ok same t c h.holds (chain-whole a c l w h))
      (λ t' d q. kids-shift f f' ok same a l w n t' d q.chained)

  passed-raised : (n : ℕ) (c : Chain) → passed n (R c) ≡ R (passed n c)
  unfolding raised_chain raised
  passed-raised n c = chain_same k refl refl refl refl (state_same k (omega arith) refl refl refl refl)

  couples-shift : (f f' : Reader) → Keeps f → Same f f' → (a : State) → length a.entries ≤ nothing → Whole s a → (fuel : ℕ) (t : Need) (c : Chain) → Chained s a t c
      → couples f' s' fuel (R c) ≡ lifted k R (couples f s fuel c)
  unfolding couples lifted raised_chain raised
  couples-shift f f' ok same a l w zero t c h = ap (refused eof_object) b.long
  couples-shift f f' ok same a l w (suc fuel) t c h =
      byte_test_shift k s s' b R c.st.at (k.places + c.st.at) _ _ refl
      (lift_cond k R (ends_dict (get_or s c.st.at 0)) _ _ _ (ap ends_dict (b.byte c.st.at)) (ap done (passed-raised 1 c))
      (lift_bind k Q C (Childed s small a c) R R t (child whatever f c) (child whatever f' (R c)) _ _
      (child-keeps s small whatever f ok a t c h) (child-shift whatever f f' ok same t c h.holds (chain-whole a c l w h))
      (λ t' d q. lift_bind k Q C (Childed s small a d) R R t' (child whatever f d) (child whatever f' (R d)) (couples f s fuel) (couples f' s' fuel)
      (child-keeps s small whatever f ok a t' d q.chained) (child-shift whatever f f' ok same t' d q.chained.holds (chain-whole a d l w q.chained))
      (λ t'' d' q'. couples-shift f f' ok same a l w fuel t'' d' q'.chained))))

  lined-raised : (c : Chain) → 0 < c.st.at → lined (R c) ≡ R (lined c)
  unfolding raised_chain raised
  lined-raised c l = rw (ne_eqb c.st.at 0 (λ q. omega arith)) (chain_same k refl refl refl refl (state_same k (omega arith) refl refl refl refl))

  first_line-shift : (i : ℕ) (c : Chain) → 0 < c.st.at → first_line_of s' i (R c) ≡ lifted k R (first_line_of s i c)
  unfolding first_line_of lifted raised_chain raised lifted_a
  first_line-shift i c l =
      lift_cond k R (eqb i line_part) (eqb i line_part) _ _ refl
      (lift_reads k R (field s c.st.at 4 (gives (lined c))) _ (field-shift k s s' b R c.st.at (k.places + c.st.at) 4 (gives (lined c)) _ refl (ap gives (lined-raised c l)))) refl

  parts_from-shift : (f f' : Reader) → Keeps f → Same f f' → (a : State) → 0 < a.at → length a.entries ≤ nothing → Whole s a → (n i : ℕ) (t : Need) (c : Chain) → Parts s small a i t c
      → parts_from f' s' n i (R c) ≡ lifted k R (parts_from f s n i c)
  unfolding parts_from lifted
  parts_from-shift f f' ok same a z l w zero i t c p = refl
  parts_from-shift f f' ok same a z l w (suc n) i t c p =
      lift_bind k Q C (Ready s small a i) R R t (first_line_of s i c) (first_line_of s' i (R c)) _ _
      (first_line-keeps s small a i t c p) (first_line-shift i c (omega (arith, p.chained.since.on)))
      (λ t' d r. lift_bind k Q C (Childed s small a d) R R t' (child (get_or rules i whatever) f d) (child (get_or rules i whatever) f' (R d)) (parts_from f s n (i + 1)) (parts_from f' s' n (i + 1))
      (child-keeps s small (get_or rules i whatever) f ok a t' d r.chained) (child-shift (get_or rules i whatever) f f' ok same t' d r.chained.holds (chain-whole a d l w r.chained))
      (λ t'' d' q. parts_from-shift f f' ok same a z l w n (i + 1) t'' d'
      (record {
        chained = q.chained;
        count = omega (arith, q.one_more, r.count);
        lined = record {
          line = λ y. omega (arith, q.line, r.lined.line y);
          behind = λ y. omega (arith, q.line, q.past, r.lined.behind y);
        };
      })))

  -- the checks at a code's end
  part-node : (c : Chain) (i : ℕ) → i < length c.kids → get_or (R c).st.nodes (get_or (R c).kids i 0) blank ≡ raised_node k (get_or c.st.nodes (get_or c.kids i 0) blank)
  unfolding raised_chain raised
  part-node c i l = rw (map-get_in (raised_number k) c.kids i 0 0 l) (node_at k c.st.nodes (get_or c.kids i 0))

  sum-raised : (at at' : ℕ) → at' ≡ k.places + at → sum_at s' at' ≡ sum_at s at
  sum-raised at at' e = rw (word_at k s s' b at at' e, word_at k s s' b (at + 8) (at' + 8) (omega arith), word_at k s s' b (at + 16) (at' + 16) (omega arith)) refl

  fault-raised : (at : ℕ) (c : Chain) → length c.kids ≡ code_parts → fault_of s' (k.places + at) (R c) ≡ fault_of s at c
  fault-raised at c e =
      rw (
        sum-raised (at + 1) (k.places + at + 1) (omega arith),
        part-node c code_part (omega arith),
        part-node c locals_part (omega arith),
        part-node c kinds_part (omega arith),
        size-raised k (get_or c.st.nodes (get_or c.kids code_part 0) blank),
        count-raised k (get_or c.st.nodes (get_or c.kids locals_part 0) blank),
        size-raised k (get_or c.st.nodes (get_or c.kids kinds_part 0) blank),
      )
      refl

  ended-shift : (at : ℕ) (c : Chain) → length c.kids ≡ code_parts → ended s' (k.places + at) (R c) ≡ lifted k R (ended s at c)
  unfolding ended lifted
  ended-shift at c e =
      lift_cond k R (eqb (fault_of s at c) accepted) _ _ _ (ap (λ z. eqb z accepted) (fault-raised at c e)) refl (ap (λ z. refused z (k.places + at)) (fault-raised at c e))

  abbrev Readers : (ℕ → Reader) → (ℕ → Reader) → Type 0
  Readers g g' = (d d' : ℕ) → d' ≡ k.levels + d → Same (g d) (g' d')

  body-shift : (g g' : ℕ → Reader) → ((d : ℕ) → Keeps (g d)) → Readers g g' → (a : State) (fuel depth depth' at : ℕ) → depth' ≡ k.levels + depth → (ch : Children) (t : Need)
      → at ≤ length s → Behind s small at a.at ch → length a.entries ≤ nothing → Whole s a → Chained s a t (fresh a)
      → body g' s' fuel depth' (k.places + at) ch (R (fresh a)) ≡ lifted k R (body g s fuel depth at ch (fresh a))
  unfolding body
  body-shift g g' ok same a fuel depth depth' at d (items n) t l h f w c = kids-shift (g (depth + 1)) (g' (depth' + 1)) (ok (depth + 1)) (same (depth + 1) (depth' + 1) (omega arith)) a f w n t
      (fresh a) c
  body-shift g g' ok same a fuel depth depth' at d pairs t l h f w c = couples-shift (g (depth + 1)) (g' (depth' + 1)) (ok (depth + 1)) (same (depth + 1) (depth' + 1) (omega arith)) a f w fuel t
      (fresh a) c
  body-shift g g' ok same a fuel depth depth' at d parts t l h f w c =
      let p : Parts s small a 0 t (fresh a) = record { chained = c; count = refl; lined = record { line = λ z. absurd (omega arith); behind = λ z. absurd (omega arith) } } in
      lift_bind k Q C (Parts s small a code_parts) R R t (parts_from (g (depth + 2)) s code_parts 0 (fresh a)) (parts_from (g' (depth' + 2)) s' code_parts 0 (R (fresh a))) (ended s at)
      (ended s' (k.places + at))
      (parts_from-keeps s small (g (depth + 2)) (ok (depth + 2)) a code_parts 0 code_parts t (fresh a) refl p)
      (parts_from-shift (g (depth + 2)) (g' (depth' + 2)) (ok (depth + 2)) (same (depth + 2) (depth' + 2) (omega arith)) a (omega arith) f w code_parts 0 t (fresh a) p)
      (λ t' e q. ended-shift at e q.count)

  fresh-raised : (st : State) → fresh (raised k st) ≡ R (fresh st)
  unfolding raised_chain
  fresh-raised st = refl

  -- a code's size is a distance
  size-shift : (ch : Children) (at place size : ℕ) (c : Chain) → Filled s (at + 1) ch c → size_of ch (k.places + place) size (raised_line k c.line) ≡ size_of ch place size c.line
  size-shift (items n) at place size c h = refl
  size-shift pairs at place size c h = refl
  size-shift parts at place size c h = rw (ne_eqb c.line 0 (λ q. omega (arith, h.line))) (omega arith)

  assoc_one : (p a : ℕ) → p + a + 1 ≡ p + (a + 1)
  assoc_one p a = omega arith

  after-shift : (g g' : ℕ → Reader) → ((d : ℕ) → Keeps (g d)) → Readers g g' → (fuel depth depth' : ℕ) → depth' ≡ k.levels + depth → (t₀ t : Need) (st : State) → Holds s t₀ st → Whole s st
      → (r : Front) → Fronted s st t r
      → after g' s' fuel depth' (raised k st) (raised_front k r) ≡ lifted k RV (after g s fuel depth st r)
  unfolding after lifted raised enter
  after-shift g g' ok same fuel depth depth' d t₀ t st h w (known v at) q = ap (λ z. done (raised_number k v, z))
      (state_same k refl refl refl refl (ap (λ z. z ∷ map (λ p. k.places + p) st.met ++ k.met) (assoc_one k.places st.at)))
  after-shift g g' ok same fuel depth depth' d t₀ t st h w (opens l fl f) o =
      let ahead = said-ahead s o.class (st.at + 1) f o.said in
      let inside = said-within s o.class (st.at + 1) f o.said in
      let e = entered fl (f.place + f.size) h o.claimed (omega arith) inside in
      let behind = said-behind s small o.class st.at f o.said in
      let a = enter st (f.place + f.size) fl in
      lift_bind k Q C (Filling s small a st.at f.children) R RV t (body g s fuel depth st.at f.children (fresh a)) _ _ _
      (body-keeps s small g ok a fuel depth st.at f.children t h.within behind (started e))
      (rw (enter-raised k st (f.place + f.size) (k.places + f.place + f.size) fl (omega arith), fresh-raised a)
      (body-shift g g' ok same a fuel depth depth' st.at d f.children t h.within behind (omega (arith, below e)) (enter-whole s st (f.place + f.size) fl w) (started e)))
      (λ t' c q. ap done (ap₂ (λ x y. (x, y)) (behind-length (raised_node k) k.nodes st.nodes)
      (close-raised k st l fl f c (kept-letter s l (st.at + 1) o.class f o.is o.said) (size-shift f.children st.at f.place f.size c q.1))))

  pub value-shift : (fuel depth depth' : ℕ) → depth' ≡ k.levels + depth → Same (value fuel s depth) (value fuel s' depth')
  unfolding value one raised lifted
  value-shift zero depth depth' d t st h w = claim_same level (omega arith) refl (ap (refused eof_object) b.long)
  value-shift (suc fuel) depth depth' d t st h w =
      lift_bind k Q C (Fronted s st) (raised_front k) RV t (front s depth st.at (length st.nodes) (length st.slots) st.slots) _ (after (value fuel s) s fuel depth st)
      (after (value fuel s') s' fuel depth' (raised k st))
      (front-keeps s small st t depth h)
      (rw (length-map st.slots (raised_slot k)) (front-shift k s s' b depth depth' st.at (k.places + st.at) (length st.nodes) _ (length st.slots) st.slots d refl
      (behind-length (raised_node k) k.nodes st.nodes)))
      (λ t' r q. after-shift (value fuel s) (value fuel s') (λ e. value_keeps s small fuel e) (λ e e' z. value-shift fuel e e' z) fuel depth depth' d t t' st h w r q)
