-- The fields of a rewritten file by their tags: what the changed ones and the added ones have for a tag, their order, and that no two have
-- one tag. Assumes nothing.
use mathlib.Core.Path.{◌≡◌, refl, sym, ap, ◌∙◌, subst}
use mathlib.Core.Bool.{Bool, true, false, cond}
use mathlib.Core.List.{List, [], ◌∷◌, ◌++◌}
use mathlib.Core.Option.{Option, none, some}
use Prim.Native.Nat.{ℕ, ◌+◌}
use native.Mathlib.Omega.{arith}
use lib.Dec.{eqb}
use lib.ListN.{length}
use borrow.Author.Tests.{eqb-true, eq-eqb}
use Rattle.taggedfields.specs.Fields.{Field, among, find, bytes_of, spelt}
use Rattle.taggedfields.specs.Promised.{tags_of, Once, laid}
use Rattle.taggedfields.proofs.Parts.{none-some}
use Rattle.settings.specs.Rewriting.{or_new, changed, if_new, added}
use Rattle.settings.specs.Promised.{contents_in, or_else}

-- ---- a field that is found has the tag
pub find-tag : (t : ℕ) (fs : List Field) (f : Field) → find t fs ≡ some f → f.tag ≡ t
unfolding find
find-tag t [] f e = absurd (none-some e)
find-tag t (g ∷ fs) f e = go (find-tag t fs f) (eqb t g.tag) refl e
  where
    go : (find t fs ≡ some f → f.tag ≡ t) → (c : Bool) → eqb t g.tag ≡ c → cond c (some g) (find t fs) ≡ some f → f.tag ≡ t
    go again true d q = let same : g ≡ f = cc in sym (ap (λ x. x.tag) same) ∙ sym (eqb-true t g.tag d)
    go again false d q = again q

-- a field or the one in its stead has its tag
new_tag : (changes : List Field) (f : Field) (o : Option Field) → find f.tag changes ≡ o → (or_new f o).tag ≡ f.tag
new_tag changes f none e = refl
new_tag changes f (some g) e = find-tag f.tag changes g e

pub changed_tags : (changes fs : List Field) → tags_of (changed changes fs) ≡ tags_of fs
unfolding changed tags_of
changed_tags changes [] = refl
changed_tags changes (f ∷ fs) =
    ap (λ t. t ∷ tags_of (changed changes fs)) (new_tag changes f (find f.tag changes) refl) ∙ ap (λ l. f.tag ∷ l) (changed_tags changes fs)

pub tags_append : (xs ys : List Field) → tags_of (xs ++ ys) ≡ tags_of xs ++ tags_of ys
unfolding tags_of
tags_append [] ys = refl
tags_append (x ∷ xs) ys = ap (λ l. x.tag ∷ l) (tags_append xs ys)

-- ---- what is laid out from a place on has the same tags, the same contents and the same bytes
pub laid_tags : (at : ℕ) (fs : List Field) → tags_of (laid at fs) ≡ tags_of fs
unfolding tags_of laid
laid_tags at [] = refl
laid_tags at (f ∷ fs) = ap (λ l. f.tag ∷ l) (laid_tags (at + 3 + length f.contents) fs)

pub laid-find : (at t : ℕ) (fs : List Field) → contents_in (find t (laid at fs)) ≡ contents_in (find t fs)
unfolding find laid
laid-find at t [] = refl
laid-find at t (f ∷ fs) = go (eqb t f.tag) (laid-find (at + 3 + length f.contents) t fs)
  where
    go : (c : Bool) → contents_in (find t (laid (at + 3 + length f.contents) fs)) ≡ contents_in (find t fs)
        → contents_in (cond c (some (record { tag = f.tag; place = at; contents = f.contents }))
        (find t (laid (at + 3 + length f.contents) fs))) ≡ contents_in (cond c (some f) (find t fs))
    go true again = refl
    go false again = again

pub laid-others : (changes : List Field) (at : ℕ) (fs : List Field) → spelt (added changes (laid at fs)) ≡ spelt (added changes fs)
unfolding added laid spelt
laid-others changes at [] = refl
laid-others changes at (f ∷ fs) = go (find f.tag changes) (laid-others changes (at + 3 + length f.contents) fs)
  where
    go : (o : Option Field) → spelt (added changes (laid (at + 3 + length f.contents) fs)) ≡ spelt (added changes fs)
        → spelt (if_new o (record { tag = f.tag; place = at; contents = f.contents }) (added changes (laid (at + 3 + length f.contents) fs))) ≡ spelt (if_new o f (added changes fs))
    go none again = ap (λ l. bytes_of f ++ l) again
    go (some g) again = again

-- ---- what is found
abbrev pub or_field : Option Field → Option Field → Option Field
or_field (some f) other = some f
or_field none other = other

pub find-append : (t : ℕ) (xs ys : List Field) → find t (xs ++ ys) ≡ or_field (find t xs) (find t ys)
unfolding find
find-append t [] ys = refl
find-append t (x ∷ xs) ys = go (eqb t x.tag) (find-append t xs ys)
  where
    go : (c : Bool) → find t (xs ++ ys) ≡ or_field (find t xs) (find t ys) → cond c (some x) (find t (xs ++ ys)) ≡ or_field (cond c (some x) (find t xs)) (find t ys)
    go true again = refl
    go false again = again

-- the changed field of a tag
abbrev pub changed_as : Option Field → Option Field → Option Field
changed_as none o = none
changed_as (some f) o = some (or_new f o)

pub find-changed : (t : ℕ) (changes fs : List Field) → find t (changed changes fs) ≡ changed_as (find t fs) (find t changes)
unfolding find changed
find-changed t changes [] = refl
find-changed t changes (f ∷ fs) =
    ap (λ i. cond (eqb t i) (some (or_new f (find f.tag changes))) (find t (changed changes fs))) (new_tag changes f (find f.tag changes) refl)
    ∙ go (eqb t f.tag) refl (find-changed t changes fs)
  where
    go : (c : Bool) → eqb t f.tag ≡ c → find t (changed changes fs) ≡ changed_as (find t fs) (find t changes)
        → cond c (some (or_new f (find f.tag changes))) (find t (changed changes fs)) ≡ changed_as (cond c (some f) (find t fs)) (find t changes)
    go true d again = ap (λ i. some (or_new f (find i changes))) (sym (eqb-true t f.tag d))
    go false d again = again

-- the added field of a tag
abbrev pub added_as : Option Field → Option Field → Option Field
added_as (some f) o = none
added_as none o = o

pub find-added : (t : ℕ) (fs gs : List Field) → find t (added fs gs) ≡ added_as (find t fs) (find t gs)
unfolding find added
find-added t fs [] = none_added (find t fs)
  where
    none_added : (o : Option Field) → none ≡ added_as o none
    none_added none = refl
    none_added (some f) = refl
find-added t fs (g ∷ gs) = go (find g.tag fs) refl (eqb t g.tag) refl (find-added t fs gs)
  where
    old : (o : Option Field) → find t (added fs gs) ≡ added_as o (find t gs) → (c : Bool) → (c ≡ true → (f : Field) × (o ≡ some f))
        → find t (added fs gs) ≡ added_as o (cond c (some g) (find t gs))
    old (some f) again c k = again
    old none again true k = absurd (none-some (k refl).1)
    old none again false k = again

    go : (o : Option Field) → find g.tag fs ≡ o → (c : Bool) → eqb t g.tag ≡ c → find t (added fs gs) ≡ added_as (find t fs) (find t gs)
        → find t (if_new o g (added fs gs)) ≡ added_as (find t fs) (cond c (some g) (find t gs))
    go none e true d again =
        ap (λ b. cond b (some g) (find t (added fs gs))) d
        ∙ sym (ap (λ o. added_as o (some g)) (ap (λ i. find i fs) (eqb-true t g.tag d) ∙ e))
    go none e false d again = ap (λ b. cond b (some g) (find t (added fs gs))) d ∙ again
    go (some f) e c d again = old (find t fs) again c (λ z. (f, ap (λ i. find i fs) (eqb-true t g.tag (d ∙ z)) ∙ e))

-- a tag of the rewritten file: what the changes say, else what the file says
pub find-both : (t : ℕ) (changes fs : List Field)
    → contents_in (find t (changed changes fs ++ added fs changes)) ≡ or_else (contents_in (find t changes)) (contents_in (find t fs))
find-both t changes fs =
    ap contents_in (find-append t (changed changes fs) (added fs changes)) ∙ ap (λ o. contents_in (or_field o (find t (added fs changes)))) (find-changed t changes fs)
    ∙ ap (λ o. contents_in (or_field (changed_as (find t fs) (find t changes)) o)) (find-added t fs changes) ∙ go (find t fs) (find t changes)
  where
    go : (f c : Option Field) → contents_in (or_field (changed_as f c) (added_as f c)) ≡ or_else (contents_in c) (contents_in f)
    go none none = refl
    go none (some g) = refl
    go (some f) none = refl
    go (some f) (some g) = refl

-- ---- the fields that the changes do not have
pub added-append : (changes xs ys : List Field) → added changes (xs ++ ys) ≡ added changes xs ++ added changes ys
unfolding added
added-append changes [] ys = refl
added-append changes (x ∷ xs) ys = go (find x.tag changes) (added-append changes xs ys)
  where
    go : (o : Option Field) → added changes (xs ++ ys) ≡ added changes xs ++ added changes ys → if_new o x (added changes (xs ++ ys)) ≡ if_new o x (added changes xs) ++ added changes ys
    go none again = ap (λ l. x ∷ l) again
    go (some g) again = again

pub others-changed : (changes fs : List Field) → added changes (changed changes fs) ≡ added changes fs
unfolding added changed
others-changed changes [] = refl
others-changed changes (f ∷ fs) = go (find f.tag changes) refl (others-changed changes fs)
  where
    go : (o : Option Field) → find f.tag changes ≡ o → added changes (changed changes fs) ≡ added changes fs
        → if_new (find (or_new f o).tag changes) (or_new f o) (added changes (changed changes fs)) ≡ if_new o f (added changes fs)
    go none e again = ap (λ o. if_new o f (added changes (changed changes fs))) e ∙ ap (λ l. f ∷ l) again
    go (some g) e again =
        ap (λ o. if_new o g (added changes (changed changes fs))) (ap (λ t. find t changes) (find-tag f.tag changes g e) ∙ e) ∙ again

-- every field of these has its tag among the changes
abbrev Known : List Field → List Field → Type 0
Known changes [] = Unit {0}
Known changes (g ∷ gs) = ((f : Field) × (find g.tag changes ≡ some f)) × Known changes gs

known_more : (c : Field) (changes gs : List Field) → Known changes gs → Known (c ∷ changes) gs
unfolding find
known_more c changes [] k = tt
known_more c changes (g ∷ gs) k = (go (eqb g.tag c.tag) refl, known_more c changes gs k.1)
  where
    go : (b : Bool) → eqb g.tag c.tag ≡ b → (f : Field) × (cond b (some c) (find g.tag changes) ≡ some f)
    go true e = (c, refl)
    go false e = k.0

known_self : (changes : List Field) → Known changes changes
unfolding find
known_self [] = tt
known_self (c ∷ changes) = ((c, ap (λ b. cond b (some c) (find c.tag changes)) (eq-eqb c.tag c.tag refl)), known_more c changes changes (known_self changes))

others-known : (changes fs gs : List Field) → Known changes gs → added changes (added fs gs) ≡ []
unfolding added
others-known changes fs [] k = refl
others-known changes fs (g ∷ gs) k = go (find g.tag fs) (others-known changes fs gs k.1)
  where
    go : (o : Option Field) → added changes (added fs gs) ≡ [] → added changes (if_new o g (added fs gs)) ≡ []
    go none again = ap (λ o. if_new o g (added changes (added fs gs))) k.0.1 ∙ again
    go (some f) again = again

pub others-added : (changes fs : List Field) → added changes (added fs changes) ≡ []
others-added changes fs = others-known changes fs changes (known_self changes)

-- ---- no two of one tag
abbrev push : List ℕ → List ℕ → List ℕ
push [] seen = seen
push (t ∷ ts) seen = push ts (t ∷ seen)

once-append : (seen ts us : List ℕ) → Once seen ts → Once (push ts seen) us → Once seen (ts ++ us)
once-append seen [] us a b = b
once-append seen (t ∷ ts) us a b = (a.0, once-append (t ∷ seen) ts us a.1 b)

-- a tag of no field is not among their tags
not_among : (t : ℕ) (fs : List Field) (seen : List ℕ) → find t fs ≡ none → among t seen ≡ false → among t (push (tags_of fs) seen) ≡ false
unfolding find tags_of among
not_among t [] seen e h = h
not_among t (f ∷ fs) seen e h = go (not_among t fs (f.tag ∷ seen)) (eqb t f.tag) refl e
  where
    go : (find t fs ≡ none → among t (f.tag ∷ seen) ≡ false → among t (push (tags_of fs) (f.tag ∷ seen)) ≡ false)
        → (c : Bool) → eqb t f.tag ≡ c → cond c (some f) (find t fs) ≡ none → among t (push (tags_of fs) (f.tag ∷ seen)) ≡ false
    go again true d q = absurd (none-some (sym q))
    go again false d q = again q (ap (λ b. cond b true (among t seen)) d ∙ h)

never : true ≡ false → ⊥
never e = let z : ◌≡◌ {A = ℕ} 1 0 = ap (λ b. cond b 1 0) e in absurd (omega arith)

once-added : (fs gs : List Field) (seen seen' : List ℕ) → Once seen (tags_of gs) → ((t : ℕ) → find t fs ≡ none → among t seen ≡ false → among t seen' ≡ false)
    → Once seen' (tags_of (added fs gs))
unfolding tags_of added among
once-added fs [] seen seen' w k = tt
once-added fs (g ∷ gs) seen seen' w k = go (λ held apart. once-added fs gs (g.tag ∷ seen) held w.1 apart) (find g.tag fs) refl
  where
    apart : (t : ℕ) → among t (g.tag ∷ seen) ≡ false → (eqb t g.tag ≡ false) × (among t seen ≡ false)
    apart t h = on (eqb t g.tag) refl h
      where
        on : (c : Bool) → eqb t g.tag ≡ c → cond c true (among t seen) ≡ false → (eqb t g.tag ≡ false) × (among t seen ≡ false)
        on true e q = absurd (never q)
        on false e q = (e, q)

    go : ((held : List ℕ) → ((t : ℕ) → find t fs ≡ none → among t (g.tag ∷ seen) ≡ false → among t held ≡ false) → Once held (tags_of (added fs gs)))
        → (o : Option Field) → find g.tag fs ≡ o → Once seen' (tags_of (if_new o g (added fs gs)))
    go again none e = (k g.tag e w.0, again (g.tag ∷ seen') (λ t n h. ap (λ b. cond b true (among t seen')) (apart t h).0 ∙ k t n (apart t h).1))
    go again (some f) e = again seen' (λ t n h. k t n (apart t h).1)

pub once-both : (changes fs : List Field) → Once [] (tags_of fs) → Once [] (tags_of changes) → Once [] (tags_of (changed changes fs ++ added fs changes))
unfolding among
once-both changes fs a b =
    subst (Once []) (sym (tags_append (changed changes fs) (added fs changes) ∙ ap (λ l. l ++ tags_of (added fs changes)) (changed_tags changes fs)))
    (once-append [] (tags_of fs) (tags_of (added fs changes)) a (once-added fs changes [] (push (tags_of fs) []) b (λ t n h. not_among t fs [] n refl)))
