-- The lowered input has every byte but those of the indices, and each index is lowered. Assumes that the input is bytes.
use mathlib.Core.Path.{◌≡◌, refl, subst, ◌∙◌}
use Prim.Native.Nat.{ℕ, zero, suc, ◌+◌, ◌-◌, ◌/◌, ◌%◌, ◌≤◌, ◌<◌}
use native.Mathlib.Omega.{arith}
use mathlib.Core.Bool.{Bool, true, false, cond, ◌&&◌}
use mathlib.Core.List.{List, [], ◌∷◌}
use lib.ListN.{length, get_or, set, take, drop, length-set, length-take, get_or-eq_default}
use lib.Seq.{sets, length-sets, get_or-set_same, get_or-set_other, get_or-take, get_or-drop}
use lib.Dec.{ltb, eqb}
use borrow.Author.Tests.{ltb-true, ltb-false, lt-ltb, eqb-true, eqb-false}
use Rattle.grammar.specs.Letters.{among}
use Rattle.grammar.specs.Fields.{le32}
use Rattle.writing.specs.Canonical.{bytes32}
use Rattle.grammar.proofs.Tests.{never, both_true}
use Rattle.grammar.specs.Input.{Bytes}
use Rattle.shifts.proofs.Onward.{Spaced, spaced_more}
use Rattle.shifts.specs.Lower.{lowered, between, Own, Apart, ahead, past, Clear, Lowers}

-- four bytes stored

stored_four : (l : List ℕ) (r a b c d : ℕ) → r + 4 ≤ length l
    → (get_or (sets l r (a ∷ b ∷ c ∷ d ∷ [])) r 0 ≡ a) × (get_or (sets l r (a ∷ b ∷ c ∷ d ∷ [])) (r + 1) 0 ≡ b)
    × (get_or (sets l r (a ∷ b ∷ c ∷ d ∷ [])) (r + 2) 0 ≡ c) × (get_or (sets l r (a ∷ b ∷ c ∷ d ∷ [])) (r + 3) 0 ≡ d)
stored_four l r a b c d h =
    let e1 : r + 1 ≡ suc r = omega arith in
    let e2 : r + 2 ≡ suc (suc r) = omega arith in
    let e3 : r + 3 ≡ suc (suc (suc r)) = omega arith in
    let l1 = set l r a in
    let l2 = set l1 (suc r) b in
    let l3 = set l2 (suc (suc r)) c in
    let n1 = length-set l r a in
    let n2 = length-set l1 (suc r) b in
    let n3 = length-set l2 (suc (suc r)) c in
    rw (e1, e2, e3) (
      get_or-set_other l3 (suc (suc (suc r))) r d 0 (λ q. omega arith) ∙ get_or-set_other l2 (suc (suc r)) r c 0 (λ q. omega arith) ∙ get_or-set_other l1 (suc r) r b 0 (λ q. omega arith)
          ∙ get_or-set_same l r a 0 (omega arith),
      get_or-set_other l3 (suc (suc (suc r))) (suc r) d 0 (λ q. omega arith) ∙ get_or-set_other l2 (suc (suc r)) (suc r) c 0 (λ q. omega arith) ∙ get_or-set_same l1 (suc r) b 0 (omega arith),
      get_or-set_other l3 (suc (suc (suc r))) (suc (suc r)) d 0 (λ q. omega arith) ∙ get_or-set_same l2 (suc (suc r)) c 0 (omega arith),
      get_or-set_same l3 (suc (suc (suc r))) d 0 (omega arith),
    )

stored_other : (l vs : List ℕ) (r i : ℕ) → length vs ≡ 4 → Apart r i → get_or (sets l r vs) i 0 ≡ get_or l i 0
stored_other l vs r i e a = go vs l r (apart a)
  where
    apart : Apart r i → (j : ℕ) → j < length vs → i ≡ r + j → ⊥
    apart (ahead h) j q z = omega arith
    apart (past h) j q z = omega arith

    go : (vs l : List ℕ) (r : ℕ) → ((j : ℕ) → j < length vs → i ≡ r + j → ⊥) → get_or (sets l r vs) i 0 ≡ get_or l i 0
    go [] l r a = refl
    go (v ∷ vs) l r a = go vs (set l r v) (suc r) (λ j q z. a (suc j) (omega arith) (omega arith)) ∙ get_or-set_other l r i v 0 (λ q. a 0 (omega arith) (omega arith))

stored_bytes : (l vs : List ℕ) (r : ℕ) → Bytes l → ((j : ℕ) → get_or vs j 0 < 256) → Bytes (sets l r vs)
stored_bytes l [] r h k = h
stored_bytes l (v ∷ vs) r h k = stored_bytes (set l r v) vs (suc r) (λ i. one l r i h) (λ j. k (suc j))
  where
    one : (l : List ℕ) (r i : ℕ) → Bytes l → get_or (set l r v) i 0 < 256
    one [] r i h = h i
    one (x ∷ xs) zero zero h = k 0
    one (x ∷ xs) zero (suc i) h = h (suc i)
    one (x ∷ xs) (suc r) zero h = h 0
    one (x ∷ xs) (suc r) (suc i) h = one xs r i (λ i. h (suc i))

-- the lowered input

length-lowered : (b : ℕ) (N s : List ℕ) → length (lowered b N s) ≡ length s
unfolding lowered
length-lowered b [] s = refl
length-lowered b (r ∷ rs) s = length-sets (lowered b rs s) r (bytes32 (le32 s r - b)) ∙ length-lowered b rs s

member : (r : ℕ) (rs : List ℕ) → among r (r ∷ rs) ≡ true
member r rs = rw (eqb_self r) refl
  where
    eqb_self : (r : ℕ) → eqb r r ≡ true
    eqb_self r = go (eqb r r) refl
      where
        go : (c : Bool) → eqb r r ≡ c → c ≡ true
        go true e = refl
        go false e = absurd (eqb-false r r e refl)

later : (x r : ℕ) (rs : List ℕ) → among x rs ≡ true → among x (r ∷ rs) ≡ true
later x r rs m = go (eqb x r)
  where
    go : (c : Bool) → cond c true (among x rs) ≡ true
    go true = refl
    go false = m

pub lowered-byte : (b : ℕ) (N s : List ℕ) (i : ℕ) → Clear N i → get_or (lowered b N s) i 0 ≡ get_or s i 0
unfolding lowered
lowered-byte b [] s i c = refl
lowered-byte b (r ∷ rs) s i c =
    stored_other (lowered b rs s) (bytes32 (le32 s r - b)) r i refl (c r (member r rs)) ∙ lowered-byte b rs s i (λ x m. c x (later x r rs m))

lowered-bytes : (b : ℕ) (N s : List ℕ) → Bytes s → Bytes (lowered b N s)
unfolding lowered
lowered-bytes b [] s h = h
lowered-bytes b (r ∷ rs) s h = stored_bytes (lowered b rs s) (bytes32 (le32 s r - b)) r (lowered-bytes b rs s h) (λ j. four (le32 s r - b) j)
  where
    four : (n j : ℕ) → get_or (bytes32 n) j 0 < 256
    four n zero = omega arith
    four n (suc zero) = omega arith
    four n (suc (suc zero)) = omega arith
    four n (suc (suc (suc zero))) = omega arith
    four n (suc (suc (suc (suc j)))) = omega arith

pub spaced_behind : (top : ℕ) (N : List ℕ) → Spaced top N → (r : ℕ) → among r N ≡ true → r + 4 ≤ top
spaced_behind top [] h r m = never m
spaced_behind top (x ∷ xs) h r m = go (eqb r x) refl m (λ q. spaced_behind x xs h.1 r q)
  where
    go : (c : Bool) → eqb r x ≡ c → cond c true (among r xs) ≡ true → (among r xs ≡ true → r + 4 ≤ x) → r + 4 ≤ top
    go true e q more = omega (arith, h.0, eqb-true r x e)
    go false e q more = omega (arith, h.0, more q)

lowered-index : (b top : ℕ) (N s : List ℕ) → Bytes s → Spaced top N → top ≤ length s → (r : ℕ) → among r N ≡ true → le32 (lowered b N s) r ≡ le32 s r - b
unfolding lowered
lowered-index b top [] s h sp l r m = never m
lowered-index b top (x ∷ xs) s h sp l r m = go (eqb r x) refl m (λ q. lowered-index b x xs s h sp.1 (omega (arith, sp.0)) r q)
  where
    go : (c : Bool) → eqb r x ≡ c → cond c true (among r xs) ≡ true → (among r xs ≡ true → le32 (lowered b xs s) r ≡ le32 s r - b)
        → le32 (sets (lowered b xs s) x (bytes32 (le32 s x - b))) r ≡ le32 s r - b
    go true e q more =
        let z = eqb-true r x e in
        let n = le32 s x - b in
        let f = stored_four (lowered b xs s) x (n % 256) (n / 256 % 256) (n / 256 / 256 % 256) (n / 256 / 256 / 256 % 256) (omega (arith, length-lowered b xs s, sp.0)) in
        let h0 = h x in
        let h1 = h (x + 1) in
        let h2 = h (x + 2) in
        let h3 = h (x + 3) in
        rw (z, f.0, f.1, f.2, f.3) (omega arith)
    go false e q more =
        let w = spaced_behind x xs sp.1 r q in
        let o : (i : ℕ) → i < x → get_or (sets (lowered b xs s) x (bytes32 (le32 s x - b))) i 0 ≡ get_or (lowered b xs s) i 0 = λ i k. stored_other (lowered b xs s) (bytes32 (le32 s x - b)) x i refl
        (ahead k) in
        rw (o r (omega arith), o (r + 1) (omega arith), o (r + 2) (omega arith), o (r + 3) (omega arith)) (more q)

-- those between a header and an end
pub between_in : (at end : ℕ) (M : List ℕ) (r : ℕ) → among r (between at end M) ≡ true → (among r M ≡ true) × (at < r) × (r < end)
unfolding between
between_in at end [] r m = never m
between_in at end (x ∷ xs) r m = go (ltb at x && ltb x end) refl m (λ q. between_in at end xs r q)
  where
    keep : (c : Bool) → eqb r x ≡ c → ltb at x && ltb x end ≡ true → cond c true (among r (between at end xs)) ≡ true
        → (among r (between at end xs) ≡ true → (among r xs ≡ true) × (at < r) × (r < end)) → (cond c true (among r xs) ≡ true) × (at < r) × (r < end)
    keep true e y q more =
        let b = both_true (ltb at x) (ltb x end) y in
        let z = eqb-true r x e in
        (refl, omega (arith, ltb-true at x b.0), omega (arith, ltb-true x end b.1))
    keep false e y q more = more q

    go : (c : Bool) → ltb at x && ltb x end ≡ c → among r (cond c (x ∷ between at end xs) (between at end xs)) ≡ true
        → (among r (between at end xs) ≡ true → (among r xs ≡ true) × (at < r) × (r < end)) → (cond (eqb r x) true (among r xs) ≡ true) × (at < r) × (r < end)
    go true y q more = keep (eqb r x) refl y q more
    go false y q more = let w = more q in (later r x xs w.0, w.1, w.2)

pub in_between : (at end : ℕ) (M : List ℕ) (r : ℕ) → among r M ≡ true → at < r → r < end → among r (between at end M) ≡ true
unfolding between
in_between at end [] r m l h = m
in_between at end (x ∷ xs) r m l h = go (eqb r x) refl m (λ q. in_between at end xs r q l h)
  where
    more_in : (c : Bool) → among r (between at end xs) ≡ true → among r (cond c (x ∷ between at end xs) (between at end xs)) ≡ true
    more_in true q = later r x (between at end xs) q
    more_in false q = q

    go : (c : Bool) → eqb r x ≡ c → cond c true (among r xs) ≡ true → (among r xs ≡ true → among r (between at end xs) ≡ true)
        → among r (cond (ltb at x && ltb x end) (x ∷ between at end xs) (between at end xs)) ≡ true
    go true e q more =
        let z = eqb-true r x e in
        rw (lt-ltb at x (omega arith), lt-ltb x end (omega arith)) (subst (λ y. among r (y ∷ between at end xs) ≡ true) z (member r (between at end xs)))
    go false e q more = more_in (ltb at x && ltb x end) (more q)

pub between_spaced : (at end top : ℕ) (M : List ℕ) → Spaced top M → Spaced top (between at end M)
unfolding between
between_spaced at end top [] h = tt
between_spaced at end top (x ∷ xs) h = go (ltb at x && ltb x end) (between_spaced at end x xs h.1)
  where
    go : (c : Bool) → Spaced x (between at end xs) → Spaced top (cond c (x ∷ between at end xs) (between at end xs))
    go true q = (h.0, q)
    go false q = spaced_more x top (between at end xs) (omega (arith, h.0)) q

-- places in order, with the same members, are the same
pub spaced_same : (top top' : ℕ) (xs ys : List ℕ) → Spaced top xs → Spaced top' ys → ((r : ℕ) → among r xs ≡ true → among r ys ≡ true) → ((r : ℕ) → among r ys ≡ true → among r xs ≡ true) → xs ≡ ys
spaced_same top top' [] [] h k f g = refl
spaced_same top top' [] (y ∷ ys) h k f g = never (g y (member y ys))
spaced_same top top' (x ∷ xs) [] h k f g = never (f x (member x xs))
spaced_same top top' (x ∷ xs) (y ∷ ys) h k f g =
    let p = spaced_behind (y + 4) (y ∷ ys) (omega arith, k.1) x (f x (member x xs)) in
    let q = spaced_behind (x + 4) (x ∷ xs) (omega arith, h.1) y (g y (member y ys)) in
    let z : x ≡ y = omega arith in
    let rest = spaced_same x y xs ys h.1 k.1 (λ r m. other r y ys (f r (later r x xs m)) (omega (arith, spaced_behind x xs h.1 r m)))
    (λ r m. other r x xs (g r (later r y ys m)) (omega (arith, spaced_behind y ys k.1 r m))) in
    rw (z, rest) refl
  where
    other : (r y : ℕ) (ys : List ℕ) → among r (y ∷ ys) ≡ true → r + 4 ≤ y → among r ys ≡ true
    other r y ys m l = go (eqb r y) refl m
      where
        go : (c : Bool) → eqb r y ≡ c → cond c true (among r ys) ≡ true → among r ys ≡ true
        go true e q = absurd (omega (arith, eqb-true r y e))
        go false e q = q

-- The law of Lowering holds of it.
pub lowered_lowers : (s : List ℕ) → Bytes s → (b at end : ℕ) (M : List ℕ) → Spaced end M → end ≤ length s → Own s b at end M
    → Lowers b at M s (take end (lowered b (between at end M) s))
lowered_lowers s h b at end M sp l own =
    record {
      inside = omega (arith, length-take end L, length-lowered b N s);
      byte = λ i lo q c. get_or-take end L i 0 (omega (arith, length-take end L)) ∙ lowered-byte b N s i (λ r m. c r (between_in at end M r m).0);
      index = λ r m lo q. index r m lo (omega (arith, length-take end L));
    }
  where
    N : List ℕ
    N = between at end M

    L : List ℕ
    L = lowered b N s

    index : (r : ℕ) → among r M ≡ true → at < r → r + 4 ≤ end → b + le32 (take end (lowered b (between at end M) s)) r ≡ le32 s r
    index r m lo q =
        let z = lowered-index b end (between at end M) s h (between_spaced at end end M sp) l r (in_between at end M r m lo (omega arith)) in
        let o = own r m lo (omega arith) in
        let g : (i : ℕ) → i < end → get_or (take end (lowered b (between at end M) s)) i 0 ≡ get_or (lowered b (between at end M) s) i 0 = λ i k. get_or-take end (lowered b (between at end M) s) i 0 k in
        rw (g r (omega arith), g (r + 1) (omega arith), g (r + 2) (omega arith), g (r + 3) (omega arith)) (omega (arith, z, o))

pub length-low : (s : List ℕ) (b at end : ℕ) (M : List ℕ) → end ≤ length s → length (take end (lowered b (between at end M) s)) ≡ end
length-low s b at end M l = omega (arith, length-take end (lowered b (between at end M) s), length-lowered b (between at end M) s)

pub low-bytes : (s : List ℕ) → Bytes s → (b at end : ℕ) (M : List ℕ) → Bytes (drop at (take end (lowered b (between at end M) s)))
low-bytes s h b at end M i = rw (get_or-drop at (take end (lowered b (between at end M) s)) i 0) (taken (lowered b (between at end M) s) (lowered-bytes b (between at end M) s h) (at + i))
  where
    taken : (L : List ℕ) → Bytes L → (j : ℕ) → get_or (take end L) j 0 < 256
    taken L q j = go (ltb j end) refl
      where
        go : (c : Bool) → ltb j end ≡ c → get_or (take end L) j 0 < 256
        go true e = rw (get_or-take end L j 0 (ltb-true j end e)) (q j)
        go false e = rw (get_or-eq_default (take end L) 0 {n = j} (omega (arith, length-take end L, ltb-false j end e))) (omega arith)
