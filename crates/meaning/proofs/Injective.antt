-- Equal bytes mean the same value, however many: two values' canonical bytes, each with anything after them, are the same only if the values
-- are, and what comes after them. By induction on the value; its first byte tells its kind. No reading of the bytes, so no bound on them.
-- Assumes nothing.
use mathlib.Core.Path.{◌≡◌, refl, sym, ap, subst, ◌∙◌}
use Prim.Native.Nat.{ℕ, zero, suc, ◌+◌, ◌<◌}
use native.Mathlib.Omega.{arith}
use mathlib.Core.Bool.{Bool, true, false, cond}
use mathlib.Core.List.{List, [], ◌∷◌, ◌++◌, append_assoc}
use lib.ListN.{get_or}
use lib.Dec.{eqb}
use Rattle.grammar.specs.LetterNames.{int_letter, long_letter, float_letter, complex_letter, bytes_letter, unicode_letter, slice_letter, dict_letter, code_letter}
use Rattle.grammar.specs.Letters.{among}
use Rattle.grammar.specs.Steps.{Rule, whatever, as_bytes, as_tuple, as_names, as_string, rules}
use Rattle.grammar.proofs.Lettered.{among-each}
use Rattle.writing.specs.Canonical.{Integer, bytes32, words, bits_of, in_signed32, long_bytes, integer_bytes, code_string}
use Rattle.writing.specs.Steps as writer
use Rattle.writing.specs.Steps.{Manner, as_value, as_locals, manners}
use Rattle.meaning.specs.Value.{Value, Values, nil, more, single, integer, float, complex, bytes, text, sequence, slice, dict, code, count_of, contents_of, members_of}
use Rattle.meaning.specs.Canonical.{code_strings, names_bytes, part_bytes, canonical, canonical_all, canonical_parts}
use Rattle.meaning.specs.Proper.{singles, sequences, AllTexts, Suits, SuitFrom, Proper, ProperAll}
use Rattle.meaning.proofs.Means.{tag_of}
use Rattle.meaning.proofs.TheoremB.{Allows, manner_allows}
use Rattle.meaning.proofs.Fronts.{firsts, afters, word_front, long-front, words-front, sized-front, string-front, integer-front}

-- The kind that a first byte tells: 10 is none.
abbrev kind_by : ℕ → ℕ
kind_by b =
    cond (among b singles) 0 (cond (among b (int_letter ∷ long_letter ∷ [])) 1 (cond (eqb b float_letter) 2 (cond (eqb b complex_letter) 3 (cond (eqb b bytes_letter) 4
    (cond (eqb b unicode_letter) 5 (cond (among b sequences) 6 (cond (eqb b slice_letter) 7 (cond (eqb b dict_letter) 8 (cond (eqb b code_letter) 9 10)))))))))

abbrev kind_in : List ℕ → ℕ
kind_in bs = kind_by (get_or bs 0 0)

integer-kind : (z : Integer) (r : List ℕ) → kind_in (integer_bytes z ++ r) ≡ 1
unfolding integer_bytes
integer-kind z r = go (in_signed32 z)
  where
    go : (b : Bool) → kind_in (cond b (0x69 ∷ bytes32 (bits_of 4294967296 z)) (long_bytes z) ++ r) ≡ 1
    go true = refl
    go false = refl

first_tells : (v : Value) → Proper v → (r : List ℕ) → kind_in (canonical v ++ r) ≡ tag_of v
unfolding canonical Proper
first_tells (single letter) p r = among-each (λ l. kind_by l ≡ 0) letter singles (refl, (refl, (refl, (refl, (refl, tt))))) p
first_tells (integer z) p r = integer-kind z r
first_tells (float bits) p r = refl
first_tells (complex real imaginary) p r = refl
first_tells (bytes contents) p r = refl
first_tells (text contents) p r = refl
first_tells (sequence letter vs) p r = among-each (λ l. kind_by l ≡ 6) letter sequences (refl, (refl, (refl, (refl, tt)))) p.0
first_tells (slice vs) p r = refl
first_tells (dict vs) p r = refl
first_tells (code numbers parts line tables) p r = refl

tag_below : (v : Value) → tag_of v < 10
tag_below (single letter) = omega arith
tag_below (integer z) = omega arith
tag_below (float bits) = omega arith
tag_below (complex real imaginary) = omega arith
tag_below (bytes contents) = omega arith
tag_below (text contents) = omega arith
tag_below (sequence letter vs) = omega arith
tag_below (slice vs) = omega arith
tag_below (dict vs) = omega arith
tag_below (code numbers parts line tables) = omega arith

-- a dict's closing byte begins no value
not_null : (v : Value) → Proper v → (r r' : List ℕ) → 0x30 ∷ r' ≡ canonical v ++ r → ⊥
not_null v p r r' e = let k : 10 ≡ tag_of v = ap kind_in e ∙ first_tells v p r in omega (arith, k, tag_below v)

-- A value of a kind is what the kind makes of some fields.
abbrev OfKind : ℕ → Value → Type 0
OfKind zero v = (letter : ℕ) × (v ≡ single letter)
OfKind (suc zero) v = (z : Integer) × (v ≡ integer z)
OfKind (suc (suc zero)) v = (bits : ℕ) × (v ≡ float bits)
OfKind (suc (suc (suc zero))) v = (real : ℕ) × (imaginary : ℕ) × (v ≡ complex real imaginary)
OfKind (suc (suc (suc (suc zero)))) v = (contents : List ℕ) × (v ≡ bytes contents)
OfKind (suc (suc (suc (suc (suc zero))))) v = (contents : List ℕ) × (v ≡ text contents)
OfKind (suc (suc (suc (suc (suc (suc zero)))))) v = (letter : ℕ) × (vs : Values) × (v ≡ sequence letter vs)
OfKind (suc (suc (suc (suc (suc (suc (suc zero))))))) v = (vs : Values) × (v ≡ slice vs)
OfKind (suc (suc (suc (suc (suc (suc (suc (suc zero)))))))) v = (vs : Values) × (v ≡ dict vs)
OfKind (suc (suc (suc (suc (suc (suc (suc (suc (suc k))))))))) v = (numbers : List ℕ) × (parts : Values) × (line : ℕ) × (tables : Values) × (v ≡ code numbers parts line tables)

of_kind : (v : Value) → OfKind (tag_of v) v
of_kind (single letter) = (letter, refl)
of_kind (integer z) = (z, refl)
of_kind (float bits) = (bits, refl)
of_kind (complex real imaginary) = (real, imaginary, refl)
of_kind (bytes contents) = (contents, refl)
of_kind (text contents) = (contents, refl)
of_kind (sequence letter vs) = (letter, vs, refl)
of_kind (slice vs) = (vs, refl)
of_kind (dict vs) = (vs, refl)
of_kind (code numbers parts line tables) = (numbers, parts, line, tables, refl)

-- Two values with the same bytes in front.
pub record SameFront (v w : Value) (r r' : List ℕ) : Type 0 where
  pub left : Proper v
  pub right : Proper w
  pub same : canonical v ++ r ≡ canonical w ++ r'

abbrev Told : (v w : Value) (r r' : List ℕ) → Type 0
Told v w r r' = (v ≡ w) × (r ≡ r')

alike : (v w : Value) (r r' : List ℕ) → SameFront v w r r' → OfKind (tag_of v) w
alike v w r r' f = subst (λ k. OfKind k w) (sym (first_tells w f.right r') ∙ ap kind_in (sym f.same) ∙ first_tells v f.left r) (of_kind w)

turned : (v w u : Value) (r r' : List ℕ) → w ≡ u → SameFront v w r r' → Proper u × (canonical v ++ r ≡ canonical u ++ r')
turned v w u r r' e f = subst (λ x. Proper x × (canonical v ++ r ≡ canonical x ++ r')) e (f.right, f.same)

-- The strings of a code.
texts_front : (vs ws : Values) (r r' : List ℕ) → count_of vs ≡ count_of ws → AllTexts vs → AllTexts ws → ProperAll vs → ProperAll ws → code_strings vs ++ r ≡ code_strings ws ++ r' → (vs ≡ ws) × (r ≡ r')
unfolding code_strings contents_of count_of Proper
texts_front nil nil r r' c t u p q e = (refl, e)
texts_front nil (more w ws) r r' c t u p q e = absurd (omega (arith, c))
texts_front (more v vs) nil r r' c t u p q e = absurd (omega (arith, c))
texts_front (more v vs) (more w ws) r r' c t u p q e =
    let x = t.0 in
    let y = u.0 in
    let pv : Proper (text x) = rw t.1 at p.0 in
    let pw : Proper (text y) = rw u.1 at q.0 in
    let e₁ : (code_string x ++ code_strings vs) ++ r ≡ (code_string y ++ code_strings ws) ++ r' = rw (t.1, u.1) at e in
    let e₂ = sym (append_assoc (code_string x) (code_strings vs) r) ∙ e₁ ∙ append_assoc (code_string y) (code_strings ws) r' in
    let h = string-front x y (code_strings vs ++ r) (code_strings ws ++ r') pv.0.0 pw.0.0 e₂ in
    let l = texts_front vs ws r r' (omega (arith, c)) t.2 u.2 p.1 q.1 h.1 in
    ((λ i. more ((t.1 ∙ ap text h.0 ∙ sym u.1) i) (l.0 i)), l.1)

names-front : (v w : Value) (r r' : List ℕ) → Suits as_names v → Suits as_names w → Proper v → Proper w → names_bytes (members_of v) ++ r ≡ names_bytes (members_of w) ++ r' → Told v w r r'
unfolding members_of Proper
names-front v w r r' f g p q e =
    let vs = f.0 in
    let ws = g.0 in
    let pv : Proper (sequence 0x28 vs) = rw f.1 at p in
    let pw : Proper (sequence 0x28 ws) = rw g.1 at q in
    let e₁ : names_bytes vs ++ r ≡ names_bytes ws ++ r' = rw (f.1, g.1) at e in
    let c = word_front (count_of vs) (count_of ws) (code_strings vs ++ r) (code_strings ws ++ r') (omega (arith, pv.1)) (omega (arith, pw.1)) (afters 0x28 0x28 _ _ e₁) in
    let t = texts_front vs ws r r' c.0 f.2 g.2 pv.2 pw.2 c.1 in
    (f.1 ∙ ap (sequence 0x28) t.0 ∙ sym g.1, t.1)

string_part_lem : (v w : Value) (r r' : List ℕ) → Suits as_string v → Suits as_string w → Proper v → Proper w → code_string (contents_of v) ++ r ≡ code_string (contents_of w) ++ r' → Told v w r r'
unfolding contents_of Proper
string_part_lem v w r r' f g p q e =
    let pv : Proper (text f.0) = rw f.1 at p in
    let pw : Proper (text g.0) = rw g.1 at q in
    let e₁ : code_string f.0 ++ r ≡ code_string g.0 ++ r' = rw (f.1, g.1) at e in
    let t = string-front f.0 g.0 r r' pv.0.0 pw.0.0 e₁ in
    (f.1 ∙ ap text t.0 ∙ sym g.1, t.1)

part-front : (m : Manner) (rule : Rule) (v w : Value) (r r' : List ℕ) → Allows m rule → Suits rule v → Suits rule w → Proper v → Proper w → (canonical v ++ r ≡ canonical w ++ r' → Told v w r r')
    → part_bytes m (canonical v) v ++ r ≡ part_bytes m (canonical w) w ++ r' → Told v w r r'
part-front as_value rule v w r r' al f g p q plain e = plain e
part-front writer.as_names as_names v w r r' al f g p q plain e = names-front v w r r' f g p q e
part-front as_locals as_names v w r r' al f g p q plain e = names-front v w r r' f g p q e
part-front writer.as_string as_string v w r r' al f g p q plain e = string_part_lem v w r r' f g p q e
part-front writer.as_names whatever v w r r' al f g p q plain e = absurd al
part-front writer.as_names as_bytes v w r r' al f g p q plain e = absurd al
part-front writer.as_names as_tuple v w r r' al f g p q plain e = absurd al
part-front writer.as_names as_string v w r r' al f g p q plain e = absurd al
part-front as_locals whatever v w r r' al f g p q plain e = absurd al
part-front as_locals as_bytes v w r r' al f g p q plain e = absurd al
part-front as_locals as_tuple v w r r' al f g p q plain e = absurd al
part-front as_locals as_string v w r r' al f g p q plain e = absurd al
part-front writer.as_string whatever v w r r' al f g p q plain e = absurd al
part-front writer.as_string as_bytes v w r r' al f g p q plain e = absurd al
part-front writer.as_string as_tuple v w r r' al f g p q plain e = absurd al
part-front writer.as_string as_names v w r r' al f g p q plain e = absurd al

-- A code, its fields one after another.
code_in_a_row : (numbers P : List ℕ) (line : ℕ) (T r : List ℕ) → (words numbers ++ P ++ bytes32 line ++ T) ++ r ≡ words numbers ++ (P ++ (bytes32 line ++ (T ++ r)))
code_in_a_row numbers P line T r =
    append_assoc (words numbers ++ P ++ bytes32 line) T r
    ∙ append_assoc (words numbers ++ P) (bytes32 line) (T ++ r)
    ∙ append_assoc (words numbers) P (bytes32 line ++ (T ++ r))

mutual
  unfolding canonical Proper SuitFrom count_of

  pub same_front : (v w : Value) (r r' : List ℕ) → SameFront v w r r' → Told v w r r'
  same_front (single letter) w r r' f =
      let k = alike (single letter) w r r' f in
      let u = turned (single letter) w (single k.0) r r' k.1 f in
      (ap single (firsts letter k.0 r r' u.1) ∙ sym k.1, afters letter k.0 r r' u.1)
  same_front (integer z) w r r' f =
      let k = alike (integer z) w r r' f in
      let u = turned (integer z) w (integer k.0) r r' k.1 f in
      let t = integer-front z k.0 r r' f.left.0 u.0.0 f.left.1 u.0.1 u.1 in
      (ap integer t.0 ∙ sym k.1, t.1)
  same_front (float bits) w r r' f =
      let k = alike (float bits) w r r' f in
      let u = turned (float bits) w (float k.0) r r' k.1 f in
      let t = long-front bits k.0 r r' f.left u.0 (afters 0x67 0x67 _ _ u.1) in
      (ap float t.0 ∙ sym k.1, t.1)
  same_front (complex real imaginary) w r r' f =
      let k = alike (complex real imaginary) w r r' f in
      let u = turned (complex real imaginary) w (complex k.0 k.1) r r' k.2 f in
      let s = long-front real k.0 _ _ f.left.0 u.0.0 (afters 0x79 0x79 _ _ u.1) in
      let t = long-front imaginary k.1 r r' f.left.1 u.0.1 s.1 in
      ((λ i. complex (s.0 i) (t.0 i)) ∙ sym k.2, t.1)
  same_front (bytes contents) w r r' f =
      let k = alike (bytes contents) w r r' f in
      let u = turned (bytes contents) w (bytes k.0) r r' k.1 f in
      let t = sized-front 0x73 contents k.0 r r' f.left.0 u.0.0 u.1 in
      (ap bytes t.0 ∙ sym k.1, t.1)
  same_front (text contents) w r r' f =
      let k = alike (text contents) w r r' f in
      let u = turned (text contents) w (text k.0) r r' k.1 f in
      let t = sized-front 0x75 contents k.0 r r' f.left.0.0 u.0.0.0 u.1 in
      (ap text t.0 ∙ sym k.1, t.1)
  same_front (sequence letter vs) w r r' f =
      let k = alike (sequence letter vs) w r r' f in
      let ws = k.1 in
      let u = turned (sequence letter vs) w (sequence k.0 ws) r r' k.2 f in
      let l = firsts letter k.0 _ _ u.1 in
      let c = word_front (count_of vs) (count_of ws) (canonical_all vs ++ r) (canonical_all ws ++ r') (omega (arith, f.left.1)) (omega (arith, u.0.1)) (afters letter k.0 _ _ u.1) in
      let t = same_all vs ws r r' c.0 f.left.2 u.0.2 c.1 in
      ((λ i. sequence (l i) (t.0 i)) ∙ sym k.2, t.1)
  same_front (slice vs) w r r' f =
      let k = alike (slice vs) w r r' f in
      let u = turned (slice vs) w (slice k.0) r r' k.1 f in
      let t = same_all vs k.0 r r' (f.left.0 ∙ sym u.0.0) f.left.1 u.0.1 (afters 0x3A 0x3A _ _ u.1) in
      (ap slice t.0 ∙ sym k.1, t.1)
  same_front (dict vs) w r r' f =
      let k = alike (dict vs) w r r' f in
      let ws = k.0 in
      let u = turned (dict vs) w (dict ws) r r' k.1 f in
      let e = sym (append_assoc (canonical_all vs) (0x30 ∷ []) r) ∙ afters 0x7B 0x7B _ _ u.1 ∙ append_assoc (canonical_all ws) (0x30 ∷ []) r' in
      let t = same_closed vs ws r r' f.left.1 u.0.1 e in
      (ap dict t.0 ∙ sym k.1, t.1)
  same_front (code numbers parts line tables) w r r' f =
      let k = alike (code numbers parts line tables) w r r' f in
      let ns = k.0 in
      let ps = k.1 in
      let y = k.2 in
      let ts = k.3 in
      let u = turned (code numbers parts line tables) w (code ns ps y ts) r r' k.4 f in
      let c = f.left.0 in
      let d = u.0.0 in
      let e =
      sym (code_in_a_row numbers (canonical_parts 0 parts) line (canonical_all tables) r) ∙ afters 0x63 0x63 _ _ u.1 ∙ code_in_a_row ns (canonical_parts 0 ps) y (canonical_all ts) r' in
      let n = words-front numbers ns _ _ (c.five ∙ sym d.five) c.numbers_fit d.numbers_fit e in
      let p = same_parts parts ps 0 _ _ (c.eight ∙ sym d.eight) c.parts_suit d.parts_suit f.left.1 u.0.1 n.1 in
      let l = word_front line y _ _ (omega (arith, c.line-fits)) (omega (arith, d.line-fits)) p.1 in
      let t = same_all tables ts r r' (c.two ∙ sym d.two) f.left.2 u.0.2 l.1 in
      ((λ i. code (n.0 i) (p.0 i) (l.0 i) (t.0 i)) ∙ sym k.4, t.1)

  -- so many values
  same_all : (vs ws : Values) (r r' : List ℕ) → count_of vs ≡ count_of ws → ProperAll vs → ProperAll ws → canonical_all vs ++ r ≡ canonical_all ws ++ r' → (vs ≡ ws) × (r ≡ r')
  same_all nil nil r r' c p q e = (refl, e)
  same_all nil (more w ws) r r' c p q e = absurd (omega (arith, c))
  same_all (more v vs) nil r r' c p q e = absurd (omega (arith, c))
  same_all (more v vs) (more w ws) r r' c p q e =
      let h =
      same_front v w (canonical_all vs ++ r) (canonical_all ws ++ r')
      (record { left = p.0; right = q.0; same = sym (append_assoc (canonical v) (canonical_all vs) r) ∙ e ∙ append_assoc (canonical w) (canonical_all ws) r' }) in
      let t = same_all vs ws r r' (omega (arith, c)) p.1 q.1 h.1 in
      ((λ i. more (h.0 i) (t.0 i)), t.1)

  -- values up to the closing byte
  same_closed : (vs ws : Values) (r r' : List ℕ) → ProperAll vs → ProperAll ws → canonical_all vs ++ 0x30 ∷ r ≡ canonical_all ws ++ 0x30 ∷ r' → (vs ≡ ws) × (r ≡ r')
  same_closed nil nil r r' p q e = (refl, afters 0x30 0x30 r r' e)
  same_closed nil (more w ws) r r' p q e = absurd (not_null w q.0 (canonical_all ws ++ 0x30 ∷ r') r (e ∙ append_assoc (canonical w) (canonical_all ws) (0x30 ∷ r')))
  same_closed (more v vs) nil r r' p q e = absurd (not_null v p.0 (canonical_all vs ++ 0x30 ∷ r) r' (sym e ∙ append_assoc (canonical v) (canonical_all vs) (0x30 ∷ r)))
  same_closed (more v vs) (more w ws) r r' p q e =
      let h =
      same_front v w (canonical_all vs ++ 0x30 ∷ r) (canonical_all ws ++ 0x30 ∷ r')
      (record { left = p.0; right = q.0; same = sym (append_assoc (canonical v) (canonical_all vs) (0x30 ∷ r)) ∙ e ∙ append_assoc (canonical w) (canonical_all ws) (0x30 ∷ r') }) in
      let t = same_closed vs ws r r' p.1 q.1 h.1 in
      ((λ i. more (h.0 i) (t.0 i)), t.1)

  -- the parts of a code, from the ith on
  same_parts : (vs ws : Values) (i : ℕ) (r r' : List ℕ) → count_of vs ≡ count_of ws → SuitFrom i vs → SuitFrom i ws → ProperAll vs → ProperAll ws
      → canonical_parts i vs ++ r ≡ canonical_parts i ws ++ r' → (vs ≡ ws) × (r ≡ r')
  same_parts nil nil i r r' c f g p q e = (refl, e)
  same_parts nil (more w ws) i r r' c f g p q e = absurd (omega (arith, c))
  same_parts (more v vs) nil i r r' c f g p q e = absurd (omega (arith, c))
  same_parts (more v vs) (more w ws) i r r' c f g p q e =
      let m = get_or manners i as_value in
      let x = canonical_parts (i + 1) vs ++ r in
      let y = canonical_parts (i + 1) ws ++ r' in
      let h =
      part-front m (get_or rules i whatever) v w x y (manner_allows i) f.0 g.0 p.0 q.0 (λ s. same_front v w x y (record { left = p.0; right = q.0; same = s }))
      (sym (append_assoc (part_bytes m (canonical v) v) (canonical_parts (i + 1) vs) r) ∙ e ∙ append_assoc (part_bytes m (canonical w) w) (canonical_parts (i + 1) ws) r') in
      let t = same_parts vs ws (i + 1) r r' (omega (arith, c)) f.1 g.1 p.1 q.1 h.1 in
      ((λ j. more (h.0 j) (t.0 j)), t.1)

pub canonical_injective : (v w : Value) → Proper v → Proper w → canonical v ≡ canonical w → v ≡ w
canonical_injective v w p q e = (same_front v w [] [] (record { left = p; right = q; same = ap (λ b. b ++ []) e })).0
