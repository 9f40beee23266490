-- Letters that are none of a few, and sound bytes by their own numbers. Assumes nothing.
use mathlib.Core.Path.{◌≡◌, refl, sym, ap, subst, ◌∙◌}
use Prim.Native.Nat.{ℕ, ◌+◌, ◌<◌}
use mathlib.Core.Bool.{Bool, true, false, ◌&&◌}
use mathlib.Core.List.{List, [], ◌∷◌}
use lib.ListN.{length}
use lib.Dec.{leb, ltb, eqb}
use borrow.Author.Tests.{ne_eqb, lt-ltb}
use Rattle.grammar.specs.Letters.{found, letters, class_of, among, is_bytes}
use Rattle.grammar.specs.State.{Node, node_at}
use Rattle.grammar.specs.Record.{nodes_in, sound, sound_at, ruled}
use Rattle.grammar.proofs.Lettered.{among-each}
use Rattle.chains.specs.Chained.{bytes_at}

-- A letter that is none of these.
abbrev pub Apart : Type 0 → ℕ → List ℕ → Type 0
Apart Before l [] = Before
Apart Before l (x ∷ xs) = Apart (Before × (l ≡ x → ⊥)) l xs

before : {Before : Type 0} (l : ℕ) (xs : List ℕ) → Apart Before l xs → Before
before l [] told = told
before l (x ∷ xs) told = (before l xs told).0

pub not_among : (Before : Type 0) (l : ℕ) (xs : List ℕ) → Apart Before l xs → false ≡ among l xs
not_among Before l [] told = refl
not_among Before l (x ∷ xs) told = rw (ne_eqb l x (before l xs told).1) (not_among (Before × (l ≡ x → ⊥)) l xs told)

-- A test that settles another.
pub and-false : (b : Bool) → false ≡ (b && false)
and-false true = refl
and-false false = refl

pub and-true : (b : Bool) → b ≡ (b && true)
and-true true = refl
and-true false = refl

-- Bytes, by their own numbers.
sound-bytes : (s : List ℕ) (n : Node) → is_bytes n.letter ≡ true → (leb (n.place + n.size) (length s) && eqb n.count 0) ≡ sound s n
unfolding sound class_of letters found
sound-bytes s n is =
    ap (λ b. leb (n.place + n.size) (length s) && b)
    (and-true (eqb n.count 0) ∙ sym (among-each (λ l. ruled s n (class_of l) ≡ (eqb n.count 0 && true)) n.letter (0x73 ∷ []) (refl, tt) is))

pub bytes-told : (s nodes : List ℕ) (used v : ℕ) {N : Node} {r : Bool} → v < nodes_in nodes used → N ≡ node_at nodes v → is_bytes N.letter ≡ true
    → r ≡ (leb (N.place + N.size) (length s) && eqb N.count 0) → r ≡ bytes_at s nodes used v
unfolding sound_at
bytes-told s nodes used v {N} {r} l e is q =
    subst (λ (m : Node). r ≡ ((ltb v (nodes_in nodes used) && sound s m) && is_bytes m.letter)) e
    (q ∙ sound-bytes s N is ∙ ap (λ b. b && sound s N) (sym (lt-ltb v (nodes_in nodes used) l)) ∙ and-true (ltb v (nodes_in nodes used) && sound s N)
    ∙ ap (λ b. (ltb v (nodes_in nodes used) && sound s N) && b) (sym is))
