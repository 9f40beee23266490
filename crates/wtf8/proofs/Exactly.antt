-- Bytes are well-formed by Forms exactly where they are the encodings of a list of code points by Encoding, so that the latter alone is to be believed.
-- One lemma for each length of a sequence carries each direction. Assumes nothing.
use mathlib.Core.Path.{◌≡◌, refl, sym, ap, ◌∙◌}
use mathlib.Core.Bool.{Bool, true, false, cond}
use mathlib.Core.List.{List, [], ◌∷◌, ◌++◌}
use Prim.Native.Nat.{ℕ, zero, suc, ◌+◌, ◌-◌, ◌*◌, ◌/◌, ◌%◌, ◌≤◌, ◌<◌}
use native.Mathlib.Omega.{arith}
use lib.Dec.{ltb, leb}
use lib.ListN.{length, length-append}
use borrow.Author.Tests.{le-leb, ltb-true, ltb-false, leb-true}
use Rattle.wtf8.specs.Encoding.{last_point, encoding, encodings, Points, Encoded}
use Rattle.wtf8.specs.Forms.{Expected, point, trail, wrong, after_lead, after_trail, after, allows, well_formed}
use Rattle.wtf8.specs.Sequence.{low_after, high_after}
use Rattle.wtf8.proofs.Ascii.{apart}
use Rattle.wtf8.proofs.Reached.{spoilt, ascii}
use Rattle.wtf8.proofs.Leads.{stray, leads_two, leads_three, leads_four, beyond, low-holds, high_holds, low-three, low_four, high_four}
use Rattle.wtf8.proofs.Lengths.{one, two, three, four, by_length, some}

-- a byte 80..BF where one is expected
trails : (b : ℕ) (bs : List ℕ) (low high more : ℕ) → low ≤ b → b ≤ high → allows (b ∷ bs) (trail low high more) ≡ allows bs (after_trail more)
unfolding allows after
trails b bs low high more g l = rw (le-leb low b, le-leb b high)

-- An encoding passes the test, and what follows it is tested anew.
module _ (r : List ℕ) where
  opened : (c : ℕ) {bs : List ℕ} → encoding c ≡ bs → allows (encoding c ++ r) point ≡ allows (bs ++ r) point
  opened c e = ap (λ (l : List ℕ). allows (l ++ r) point) e

  leading : (b : ℕ) {e : Expected} (bs : List ℕ) → after_lead b ≡ e → allows (b ∷ bs) point ≡ allows bs e
  unfolding allows after
  leading b bs e = ap (allows bs) e

  passes_one : (c : ℕ) → c < 0x80 → allows (encoding c ++ r) point ≡ allows r point
  passes_one c l = opened c (one l) ∙ leading c r (ascii l)

  passes_two : (c : ℕ) → 0x80 ≤ c → c < 0x800 → allows (encoding c ++ r) point ≡ allows r point
  passes_two c g l =
      opened c (two g l) ∙ leading (0xC0 + c / 64) _ (leads_two (omega arith) (omega arith))
      ∙ trails (0x80 + c % 64) r 0x80 0xBF 0 (omega arith) (omega arith)

  passes_three : (c : ℕ) → 0x800 ≤ c → c < 0x10000 → allows (encoding c ++ r) point ≡ allows r point
  passes_three c g l =
      let b : ℕ = 0xE0 + c / 64 / 64 in
      opened c (three g l) ∙ leading b _ (leads_three (omega arith) (omega arith) refl)
      ∙ trails (0x80 + c / 64 % 64) _ (low_after b) 0xBF 1
      (low-holds {b = b} {n = 0x80 + c / 64 % 64} (omega arith) (λ e. omega (arith, e)) (λ e. omega (arith, e))) (omega arith)
      ∙ trails (0x80 + c % 64) r 0x80 0xBF 0 (omega arith) (omega arith)

  passes_four : (c : ℕ) → 0x10000 ≤ c → c ≤ last_point → allows (encoding c ++ r) point ≡ allows r point
  passes_four c g l =
      let b : ℕ = 0xF0 + c / 64 / 64 / 64 in
      let n : ℕ = 0x80 + c / 64 / 64 % 64 in
      opened c (four g) ∙ leading b _ (leads_four (omega arith) (omega arith) refl refl)
      ∙ trails n _ (low_after b) (high_after b) 2
      (low-holds {b = b} {n = n} (omega arith) (λ e. omega (arith, e)) (λ e. omega (arith, e)))
      (high_holds {b = b} {n = n} (omega arith) (λ e. omega (arith, e)))
      ∙ trails (0x80 + c / 64 % 64) _ 0x80 0xBF 1 (omega arith) (omega arith)
      ∙ trails (0x80 + c % 64) r 0x80 0xBF 0 (omega arith) (omega arith)

  passes : (c : ℕ) → c ≤ last_point → allows (encoding c ++ r) point ≡ allows r point
  passes =
      by_length (λ c. c ≤ last_point → allows (encoding c ++ r) point ≡ allows r point)
      (λ c l p. passes_one c l) (λ c g l p. passes_two c g l) (λ c g l p. passes_three c g l) passes_four

points_pass : (cs : List ℕ) → Points cs → allows (encodings cs) point ≡ true
unfolding allows encodings Points
points_pass [] p = refl
points_pass (c ∷ cs) p = passes (encodings cs) c p.0 ∙ points_pass cs p.1

-- What an expected byte was, and what is left after it.
record Trailed (bs : List ℕ) (low high more : ℕ) : Type 0 where
  byte : ℕ
  rest : List ℕ
  shape : bs ≡ byte ∷ rest
  least : low ≤ byte
  most : byte ≤ high
  left : allows rest (after_trail more) ≡ true

trailed : (bs : List ℕ) (low high more : ℕ) → allows bs (trail low high more) ≡ true → Trailed bs low high more
unfolding allows after
trailed [] low high more h = absurd (apart h)
trailed (b ∷ bs) low high more h = go (leb low b) refl (leb b high) refl h
  where
    go : (t : Bool) → leb low b ≡ t → (u : Bool) → leb b high ≡ u → allows bs (cond t (cond u (after_trail more) wrong) wrong) ≡ true → Trailed (b ∷ bs) low high more
    go true t true u h = record { byte = b; rest = bs; shape = refl; least = leb-true low b t; most = leb-true b high u; left = h }
    go true t false u h = absurd (apart (sym (spoilt bs) ∙ h))
    go false t u u' h = absurd (apart (sym (spoilt bs) ∙ h))

-- A sequence within its bounds is the encoding of a code point.
record Spelling (bs : List ℕ) : Type 0 where
  code : ℕ
  proper : code ≤ last_point
  spelt : encoding code ≡ bs

spelling_two : (b d : ℕ) → 0xC2 ≤ b → b < 0xE0 → 0x80 ≤ d → d ≤ 0xBF → Spelling (b ∷ d ∷ [])
spelling_two b d b₁ b₂ d₁ d₂ =
    let c : ℕ = (b - 0xC0) * 64 + (d - 0x80) in
    let b₃ : 0xC0 + c / 64 ≡ b = omega arith in
    let d₃ : 0x80 + c % 64 ≡ d = omega arith in
    record { code = c; proper = omega arith; spelt = rw (two {c = c} (omega arith) (omega arith), b₃, d₃) }

spelling_three : (b d e : ℕ) → 0xE0 ≤ b → b < 0xF0 → low_after b ≤ d → d ≤ 0xBF → 0x80 ≤ e → e ≤ 0xBF → Spelling (b ∷ d ∷ e ∷ [])
spelling_three b d e b₁ b₂ low d₂ e₁ e₂ =
    let d₁ = low-three b₁ b₂ low in
    let c : ℕ = ((b - 0xE0) * 64 + (d - 0x80)) * 64 + (e - 0x80) in
    let b₃ : 0xE0 + c / 64 / 64 ≡ b = omega arith in
    let d₃ : 0x80 + c / 64 % 64 ≡ d = omega arith in
    let e₃ : 0x80 + c % 64 ≡ e = omega arith in
    record { code = c; proper = omega arith; spelt = rw (three {c = c} (omega arith) (omega arith), b₃, d₃, e₃) }

spelling_four :
    (b d e f : ℕ) → 0xF0 ≤ b → b < 0xF5 → low_after b ≤ d → d ≤ high_after b → 0x80 ≤ e → e ≤ 0xBF → 0x80 ≤ f → f ≤ 0xBF
    → Spelling (b ∷ d ∷ e ∷ f ∷ [])
spelling_four b d e f b₁ b₂ low high e₁ e₂ f₁ f₂ =
    let d₁ = low_four b₁ low in
    let d₂ = high_four b₂ high in
    let c : ℕ = (((b - 0xF0) * 64 + (d - 0x80)) * 64 + (e - 0x80)) * 64 + (f - 0x80) in
    let b₃ : 0xF0 + c / 64 / 64 / 64 ≡ b = omega arith in
    let d₃ : 0x80 + c / 64 / 64 % 64 ≡ d = omega arith in
    let e₃ : 0x80 + c / 64 % 64 ≡ e = omega arith in
    let f₃ : 0x80 + c % 64 ≡ f = omega arith in
    record { code = c; proper = omega arith; spelt = rw (four {c = c} (omega arith), b₃, d₃, e₃, f₃) }

-- The first code point of bytes that pass the test, and what is left.
record Front (bs : List ℕ) : Type 0 where
  code : ℕ
  proper : code ≤ last_point
  rest : List ℕ
  spelt : bs ≡ encoding code ++ rest
  left : allows rest point ≡ true

front : {bs sequence : List ℕ} (rest : List ℕ) → Spelling sequence → bs ≡ sequence ++ rest → allows rest point ≡ true → Front bs
front rest s e h =
    record { code = s.code; proper = s.proper; rest = rest; spelt = e ∙ ap (λ l. l ++ rest) (sym s.spelt); left = h }

module _ (b : ℕ) (bs : List ℕ) where
  front_one : b < 0x80 → allows bs point ≡ true → Front (b ∷ bs)
  front_one l h = front bs (record { code = b; proper = omega arith; spelt = one l }) refl h

  front-two : 0xC2 ≤ b → b < 0xE0 → allows bs (trail 0x80 0xBF 0) ≡ true → Front (b ∷ bs)
  front-two g l h =
      let t = trailed bs 0x80 0xBF 0 h in
      front t.rest (spelling_two b t.byte g l t.least t.most) (ap (λ l. b ∷ l) t.shape) t.left

  front-three : 0xE0 ≤ b → b < 0xF0 → allows bs (trail (low_after b) 0xBF 1) ≡ true → Front (b ∷ bs)
  front-three g l h =
      let t = trailed bs (low_after b) 0xBF 1 h in
      let u = trailed t.rest 0x80 0xBF 0 t.left in
      front u.rest (spelling_three b t.byte u.byte g l t.least t.most u.least u.most)
      (ap (λ l. b ∷ l) (t.shape ∙ ap (λ l. t.byte ∷ l) u.shape)) u.left

  front_four : 0xF0 ≤ b → b < 0xF5 → allows bs (trail (low_after b) (high_after b) 2) ≡ true → Front (b ∷ bs)
  front_four g l h =
      let t = trailed bs (low_after b) (high_after b) 2 h in
      let u = trailed t.rest 0x80 0xBF 1 t.left in
      let v = trailed u.rest 0x80 0xBF 0 u.left in
      front v.rest (spelling_four b t.byte u.byte v.byte g l t.least t.most u.least u.most v.least v.most)
      (ap (λ l. b ∷ l) (t.shape ∙ ap (λ l. t.byte ∷ l) (u.shape ∙ ap (λ l. u.byte ∷ l) v.shape))) v.left

  -- by the ranges of the first byte
  fronted : allows (b ∷ bs) point ≡ true → Front (b ∷ bs)
  unfolding allows after
  fronted h =
      go (ltb b 0x80) refl (ltb b 0xC2) refl (ltb b 0xE0) refl (ltb b 0xF0) refl (ltb b 0xF5) refl
    where
      turned : {e : Expected} → after_lead b ≡ e → allows bs e ≡ true
      turned e = ap (allows bs) (sym e) ∙ h

      ill : after_lead b ≡ wrong → Front (b ∷ bs)
      ill e = absurd (apart (sym (spoilt bs) ∙ turned e))

      go :
          (p : Bool) → ltb b 0x80 ≡ p → (q : Bool) → ltb b 0xC2 ≡ q → (r : Bool) → ltb b 0xE0 ≡ r → (s : Bool) → ltb b 0xF0 ≡ s
          → (t : Bool) → ltb b 0xF5 ≡ t → Front (b ∷ bs)
      go true p q q' r r' s s' t t' = let l : b < 0x80 = ltb-true b 0x80 p in front_one l (turned (ascii l))
      go false p true q r r' s s' t t' = ill (stray (ltb-false b 0x80 p) (ltb-true b 0xC2 q))
      go false p false q true r s s' t t' =
          let g : 0xC2 ≤ b = ltb-false b 0xC2 q in
          let l : b < 0xE0 = ltb-true b 0xE0 r in
          front-two g l (turned (leads_two g l))
      go false p false q false r true s t t' =
          let g : 0xE0 ≤ b = ltb-false b 0xE0 r in
          let l : b < 0xF0 = ltb-true b 0xF0 s in
          front-three g l (turned (leads_three g l refl))
      go false p false q false r false s true t =
          let g : 0xF0 ≤ b = ltb-false b 0xF0 s in
          let l : b < 0xF5 = ltb-true b 0xF5 t in
          front_four g l (turned (leads_four g l refl refl))
      go false p false q false r false s false t = ill (beyond (ltb-false b 0xF5 t))

nothing : Encoded []
unfolding encodings Points
nothing = record { points = []; proper = tt; spelt = refl }

one_more : {bs : List ℕ} (f : Front bs) → Encoded f.rest → Encoded bs
unfolding encodings Points
one_more f r =
    record {
      points = f.code ∷ r.points;
      proper = (f.proper, r.proper);
      spelt = f.spelt ∙ ap (λ l. encoding f.code ++ l) r.spelt;
    }

-- Bytes that pass the test are encodings; how many are left bounds the recursion.
pass_points : (n : ℕ) (bs : List ℕ) → length bs ≤ n → allows bs point ≡ true → Encoded bs
pass_points zero bs k h = none bs k
  where
    none : (bs : List ℕ) → length bs ≤ 0 → Encoded bs
    none [] k = nothing
    none (b ∷ bs) k = absurd (omega arith)
pass_points (suc n) bs k h = go bs k h (pass_points n)
  where
    go : (bs : List ℕ) → length bs ≤ suc n → allows bs point ≡ true → ((rest : List ℕ) → length rest ≤ n → allows rest point ≡ true → Encoded rest) → Encoded bs
    go [] k h less = nothing
    go (b ∷ bs) k h less =
        let f = fronted b bs h in
        let shorter : length f.rest ≤ n = omega (arith, some f.code, ap length f.spelt, length-append (encoding f.code) f.rest) in
        one_more f (less f.rest shorter f.left)

-- Bytes are well-formed exactly where they are the encodings of a list of code points.
pub exactly : (bytes : List ℕ) → (well_formed bytes ≡ true → Encoded bytes) × (Encoded bytes → well_formed bytes ≡ true)
exactly bytes =
    (pass_points (length bytes) bytes (omega arith), λ e. ap (λ l. allows l point) e.spelt ∙ points_pass e.points e.proper)
