-- The letter of the whole value is that of its first byte. Assumes nothing.
use mathlib.Core.Path.{◌≡◌, refl, ap, ◌∙◌}
use Prim.Native.Nat.{ℕ, zero, suc, ◌+◌, ◌<◌}
use native.Mathlib.Omega.{arith}
use mathlib.Core.Bool.{Bool, true, false, cond}
use mathlib.Core.List.{List, []}
use lib.ListN.{length, get_or, set, length-set}
use lib.Seq.{get_or-set_same}
use lib.Dec.{leb, ltb}
use Rattle.refusals.specs.Numbers.{eof_object, data_too_short}
use Rattle.grammar.specs.Reading.{Reading, done, refused, claim, reads, Answer, gives, stops}
use Rattle.grammar.specs.Room.{plainly}
use Rattle.grammar.specs.Letters.{Class, refers, keeps, contains, codes, refuses, flag_of, letter_of, class_of}
use Rattle.grammar.specs.Fields.{Fields, fields, contained, code_fields}
use Rattle.grammar.specs.State.{Node, State, start, blank}
use Rattle.grammar.specs.Steps.{Front, known, opens, stored, reference, reserving, opened, header, front, letter_in, fresh, body, enter, close, after, one, value}
use Rattle.grammar.specs.Answer.{plain}
use Rattle.grammar.proofs.Root.{Ends, ends-bind, ends-gives}

-- a front that opens a node of this letter
abbrev Of : ℕ → Front → Type 0
Of letter (known v at) = ⊥
Of letter (opens l g f) = l ≡ letter

opened_of : (l g : ℕ) (r : Answer Fields) → Ends (Of l) (opened l g r)
opened_of l g (gives f) = refl
opened_of l g (stops n p) = tt

reserving_of : (l g used at : ℕ) (m : Reading Front) → Ends (Of l) m → Ends (Of l) (reserving g used at m)
reserving_of l zero used at m h = h
reserving_of l (suc g) used at m h = h

header_of : (s : List ℕ) (l g : ℕ) (c : Class) → Ends (Of l) (header s 0 0 0 0 [] l g c)
unfolding header reference
header_of s l g refers = go (leb 5 (length s))
  where
    go : (b : Bool) → Ends (Of l) (reads (cond b (stored 1 0) (stops data_too_short 1)))
    go true = tt
    go false = tt
header_of s l g (refuses n) = reserving_of l g 0 0 (refused n 0) tt
header_of s l g (keeps form) = reserving_of l g 0 0 _ (opened_of l g (fields s form 1))
header_of s l g (contains sort) = reserving_of l g 0 0 _ (opened_of l g (contained s sort 1))
header_of s l g codes = reserving_of l g 0 0 _ (opened_of l g (code_fields s 1))

front_of : (s : List ℕ) → Ends (Of (letter_of (get_or s 0 0))) (front s 0 0 0 0 [])
unfolding front
front_of s = go (ltb 0 (length s))
  where
    go : (b : Bool)
        → Ends (Of (letter_of (get_or s 0 0))) (cond b (header s 0 0 0 0 [] (letter_of (get_or s 0 0)) (flag_of (get_or s 0 0)) (class_of (letter_of (get_or s 0 0)))) (refused eof_object (length s)))
    go true = header_of s (letter_of (get_or s 0 0)) (flag_of (get_or s 0 0)) (class_of (letter_of (get_or s 0 0)))
    go false = tt

-- node 0, where there is one, has the letter
abbrev First : ℕ → ℕ × State → Type 0
First letter r = 0 < length r.1.nodes → letter_in r.1.nodes 0 ≡ letter

set_letter_lem : (ns : List Node) (n : Node) → 0 < length (set ns 0 n) → letter_in (set ns 0 n) 0 ≡ n.letter
set_letter_lem ns n h = ap (λ (x : Node). x.letter) (get_or-set_same ns 0 n blank (omega (arith, length-set ns 0 n)))

anyhow : {A : Type 0} (m : Reading A) → Ends (λ a. Unit) m
anyhow (done a) = tt
anyhow (refused n p) = tt
anyhow (claim k need p m) = anyhow m

after_of : (letter : ℕ) (g : ℕ → State → Reading (ℕ × State)) (s : List ℕ) (fuel : ℕ) (r : Front) → Of letter r → Ends (First letter) (after g s fuel 0 start r)
unfolding after close
after_of letter g s fuel (known v at) k = absurd k
after_of letter g s fuel (opens l fl f) k =
    ends-bind (λ c. Unit) (First letter) (body g s fuel 0 0 f.children (fresh (enter start (f.place + f.size) fl))) _
    (anyhow (body g s fuel 0 0 f.children (fresh (enter start (f.place + f.size) fl)))) (λ c q h. set_letter_lem c.st.nodes _ h ∙ k)

whole : (s : List ℕ) (fuel : ℕ) → Ends (First (letter_of (get_or s 0 0))) (value fuel s 0 start)
unfolding value one
whole s zero = tt
whole s (suc fuel) =
    ends-bind (Of (letter_of (get_or s 0 0))) (First (letter_of (get_or s 0 0))) (front s 0 0 0 0 []) (after (value fuel s) s fuel 0 start) (front_of s)
    (λ r k. after_of (letter_of (get_or s 0 0)) (value fuel s) s fuel r k)

pub first_letter : (s : List ℕ) (r : ℕ × State) → plainly (plain s) ≡ gives r → First (letter_of (get_or s 0 0)) r
unfolding plain
first_letter s r e = ends-gives (First (letter_of (get_or s 0 0))) (value (length s) s 0 start) r (whole s (length s)) e
