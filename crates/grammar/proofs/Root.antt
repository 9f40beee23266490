-- The whole value is never a reference, since no slot is reserved before it: it is node 0. Carried by `Ends P m`: P holds of what m gives,
-- if it gives anything. Assumes nothing.
use mathlib.Core.Path.{◌≡◌, refl}
use Prim.Native.Nat.{ℕ, zero, suc, ◌+◌}
use native.Mathlib.Omega.{arith}
use mathlib.Core.Bool.{Bool, true, false, cond}
use mathlib.Core.List.{List, []}
use lib.ListN.{length, get_or}
use lib.Dec.{leb, ltb}
use Rattle.refusals.specs.Numbers.{eof_object, data_too_short}
use Rattle.grammar.specs.Reading.{Reading, done, refused, claim, bind, reads, Answer, gives, stops}
use Rattle.grammar.specs.Room.{plainly}
use Rattle.grammar.specs.Letters.{Class, refers, keeps, contains, codes, refuses, flag_of, letter_of, class_of}
use Rattle.grammar.specs.Fields.{Fields, fields, contained, code_fields}
use Rattle.grammar.specs.State.{State, start}
use Rattle.grammar.specs.Steps.{Front, known, opens, stored, reference, reserving, opened, header, front, fresh, body, enter, close, after, one, value}
use Rattle.grammar.specs.Answer.{plain}

abbrev pub Ends : {A : Type 0} → (A → Type 0) → Reading A → Type 0
Ends P (done a) = P a
Ends P (refused n p) = Unit
Ends P (claim k need p m) = Ends P m

pub ends-bind : {A B : Type 0} (P : A → Type 0) (P' : B → Type 0) (m : Reading A) (f : A → Reading B) → Ends P m → ((a : A) → P a → Ends P' (f a)) → Ends P' (bind m f)
unfolding bind
ends-bind P P' (done a) f e g = g a e
ends-bind P P' (refused n p) f e g = tt
ends-bind P P' (claim k need p m) f e g = ends-bind P P' m f e g

pub ends-gives : {A : Type 0} (P : A → Type 0) (m : Reading A) (a : A) → Ends P m → plainly m ≡ gives a → P a
unfolding plainly
ends-gives P (done x) a e q = let z : x ≡ a = cc in rw (← z) e
ends-gives P (refused n p) a e q = let z : ◌≡◌ {A = ℕ} 0 1 = cc in absurd (omega arith)
ends-gives P (claim k need p m) a e q = ends-gives P m a e q

ends_anyhow : {A : Type 0} (m : Reading A) → Ends (λ a. Unit) m
ends_anyhow (done a) = tt
ends_anyhow (refused n p) = tt
ends_anyhow (claim k need p m) = ends_anyhow m

abbrev New : Front → Type 0
New (known v at) = ⊥
New (opens l g f) = Unit

opened_new : (l g : ℕ) (r : Answer Fields) → Ends New (opened l g r)
opened_new l g (gives f) = tt
opened_new l g (stops n p) = tt

reserving_new : (g used at : ℕ) (m : Reading Front) → Ends New m → Ends New (reserving g used at m)
reserving_new zero used at m h = h
reserving_new (suc g) used at m h = h

header_new : (s : List ℕ) (depth at nodes used l g : ℕ) (c : Class) → Ends New (header s depth at nodes used [] l g c)
unfolding header reference
header_new s depth at nodes used l g refers = go (leb (at + 1 + 4) (length s))
  where
    go : (b : Bool) → Ends New (reads (cond b (stored (at + 1) 0) (stops data_too_short (at + 1))))
    go true = tt
    go false = tt
header_new s depth at nodes used l g (refuses n) = reserving_new g used at (refused n at) tt
header_new s depth at nodes used l g (keeps form) = reserving_new g used at _ (opened_new l g (fields s form (at + 1)))
header_new s depth at nodes used l g (contains sort) = reserving_new g used at _ (opened_new l g (contained s sort (at + 1)))
header_new s depth at nodes used l g codes = reserving_new g used at _ (opened_new l g (code_fields s (at + 1)))

front_new : (s : List ℕ) → Ends New (front s 0 0 0 0 [])
unfolding front
front_new s = go (ltb 0 (length s))
  where
    go : (b : Bool) → Ends New (cond b (header s 0 0 0 0 [] (letter_of (get_or s 0 0)) (flag_of (get_or s 0 0)) (class_of (letter_of (get_or s 0 0)))) (refused eof_object (length s)))
    go true = header_new s 0 0 0 0 (letter_of (get_or s 0 0)) (flag_of (get_or s 0 0)) (class_of (letter_of (get_or s 0 0)))
    go false = tt

after-new : (g : ℕ → State → Reading (ℕ × State)) (s : List ℕ) (fuel : ℕ) (r : Front) → New r → Ends (λ x. x.0 ≡ 0) (after g s fuel 0 start r)
unfolding after
after-new g s fuel (known v at) k = absurd k
after-new g s fuel (opens l fl f) k =
    ends-bind (λ c. Unit) (λ x. x.0 ≡ 0) (body g s fuel 0 0 f.children (fresh (enter start (f.place + f.size) fl))) (λ c. done (0, close start l fl f c))
    (ends_anyhow (body g s fuel 0 0 f.children (fresh (enter start (f.place + f.size) fl)))) (λ c q. refl)

value_first : (s : List ℕ) (fuel : ℕ) → Ends (λ x. x.0 ≡ 0) (value fuel s 0 start)
unfolding value one
value_first s zero = tt
value_first s (suc fuel) = ends-bind New (λ x. x.0 ≡ 0) (front s 0 0 0 0 []) (after (value fuel s) s fuel 0 start) (front_new s) (λ r k. after-new (value fuel s) s fuel r k)

pub root_is_node_0 : (s : List ℕ) (r : ℕ × State) → plainly (plain s) ≡ gives r → r.0 ≡ 0
unfolding plain
root_is_node_0 s r e = ends-gives (λ x. x.0 ≡ 0) (plain s) r (value_first s (length s)) e
