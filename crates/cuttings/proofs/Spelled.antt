-- The ten numbers at the front of a state, spelled out, and what a call that stores some of them leaves.
use mathlib.Core.Path.{◌≡◌, refl, ap, ◌∙◌}
use mathlib.Core.List.{List, [], ◌∷◌, map}
use Prim.Native.Nat.{ℕ, suc, ◌%◌, ◌≤◌}
use native.Mathlib.Omega.{arith}
use lib.ListN.{length, set, get_or, take, drop, length-drop}
use lib.Seq.{sets, drop-cons}
use Rattle.grammar.specs.Input.{Bytes}
use Rattle.piecestate.specs.State.{going, refusing, ended, low, refused_state, advanced}
use Rattle.piecestate.proofs.Stores.{front-sets}
use Rattle.pieces.specs.Calls.{fresh}

-- a list that begins with ten numbers
abbrev pub front : ℕ → ℕ → ℕ → ℕ → ℕ → ℕ → ℕ → ℕ → ℕ → ℕ → List ℕ → List ℕ
front a b c d e f g h i j t = a ∷ b ∷ c ∷ d ∷ e ∷ f ∷ g ∷ h ∷ i ∷ j ∷ t

abbrev at : List ℕ → ℕ → ℕ
at s i = get_or s i 0

pub spelled : (s : List ℕ) → 40 ≤ length s → s ≡ front (at s 0) (at s 1) (at s 2) (at s 3) (at s 4) (at s 5) (at s 6) (at s 7) (at s 8) (at s 9) (drop 10 s)
spelled s h =
    drop-cons s 0 0 (omega arith)
    ∙ ap {B = List ℕ} (λ t. at s 0 ∷ t) (drop-cons s 1 0 (omega arith)
    ∙ ap {B = List ℕ} (λ t. at s 1 ∷ t) (drop-cons s 2 0 (omega arith)
    ∙ ap {B = List ℕ} (λ t. at s 2 ∷ t) (drop-cons s 3 0 (omega arith)
    ∙ ap {B = List ℕ} (λ t. at s 3 ∷ t) (drop-cons s 4 0 (omega arith)
    ∙ ap {B = List ℕ} (λ t. at s 4 ∷ t) (drop-cons s 5 0 (omega arith)
    ∙ ap {B = List ℕ} (λ t. at s 5 ∷ t) (drop-cons s 6 0 (omega arith)
    ∙ ap {B = List ℕ} (λ t. at s 6 ∷ t) (drop-cons s 7 0 (omega arith)
    ∙ ap {B = List ℕ} (λ t. at s 7 ∷ t) (drop-cons s 8 0 (omega arith)
    ∙ ap {B = List ℕ} (λ t. at s 8 ∷ t) (drop-cons s 9 0 (omega arith))))))))))

-- stores behind the first number leave it
sets_behind : (x : ℕ) (xs : List ℕ) (i : ℕ) (vs : List ℕ) → sets (x ∷ xs) (suc i) vs ≡ x ∷ sets xs i vs
sets_behind x xs i [] = refl
sets_behind x xs i (v ∷ vs) = sets_behind x (set xs i v) (suc i) vs

-- and so behind the first ten
behind_ten : (a b c d e f g h i j : ℕ) (t vs : List ℕ) → sets (front a b c d e f g h i j t) 10 vs ≡ front a b c d e f g h i j (sets t 0 vs)
behind_ten a b c d e f g h i j t vs =
    sets_behind a _ 9 vs
    ∙ ap {B = List ℕ} (λ y. a ∷ y) (sets_behind b _ 8 vs
    ∙ ap {B = List ℕ} (λ y. b ∷ y) (sets_behind c _ 7 vs
    ∙ ap {B = List ℕ} (λ y. c ∷ y) (sets_behind d _ 6 vs
    ∙ ap {B = List ℕ} (λ y. d ∷ y) (sets_behind e _ 5 vs
    ∙ ap {B = List ℕ} (λ y. e ∷ y) (sets_behind f _ 4 vs
    ∙ ap {B = List ℕ} (λ y. f ∷ y) (sets_behind g _ 3 vs
    ∙ ap {B = List ℕ} (λ y. g ∷ y) (sets_behind h _ 2 vs
    ∙ ap {B = List ℕ} (λ y. h ∷ y) (sets_behind i _ 1 vs
    ∙ ap {B = List ℕ} (λ y. i ∷ y) (sets_behind j t 0 vs)))))))))

module _ (s : List ℕ) (h : 40 ≤ length s) where
  pub advanced_is : (line placed start bytes status : ℕ) (held : List ℕ)
      → advanced s line placed start bytes status held ≡ front (at s 0) (at s 1) line placed start bytes status (at s 7) (at s 8) (length held) (sets (drop 10 s) 0 held)
  advanced_is line placed start bytes status held =
      ap (λ z. advanced z line placed start bytes status held) (spelled s h) ∙ behind_ten (at s 0) (at s 1) line placed start bytes status (at s 7) (at s 8) (length held) (drop 10 s) held

  pub refused_is : (number place : ℕ) → refused_state s number place ≡ front (at s 0) (at s 1) (at s 2) (at s 3) (at s 4) (at s 5) refusing number place (at s 9) (drop 10 s)
  refused_is number place = ap (λ z. refused_state z number place) (spelled s h)

  pub counted_is : (bytes : ℕ) → sets s 5 (bytes ∷ []) ≡ front (at s 0) (at s 1) (at s 2) (at s 3) (at s 4) bytes (at s 6) (at s 7) (at s 8) (at s 9) (drop 10 s)
  counted_is bytes = ap (λ z. sets z 5 (bytes ∷ [])) (spelled s h)

  pub ended_is : sets s 6 (ended ∷ []) ≡ front (at s 0) (at s 1) (at s 2) (at s 3) (at s 4) (at s 5) ended (at s 7) (at s 8) (at s 9) (drop 10 s)
  ended_is = ap (λ z. sets z 6 (ended ∷ [])) (spelled s h)

  pub fresh-is : (first count : ℕ) → fresh first count s ≡ front first count first 0 0 0 going 0 0 0 (drop 10 s)
  fresh-is first count = ap (λ z. fresh first count z) (spelled s h)

  -- bytes that were stored behind the ten stand there
  pub stored_held : (held : List ℕ) → length held ≤ 25 → take (length held) (sets (drop 10 s) 0 held) ≡ held
  stored_held held k = front-sets (drop 10 s) held (length held) refl (omega (arith, length-drop 10 s))

-- bytes are what is read of them
pub same_bytes : (xs : List ℕ) → Bytes xs → map low xs ≡ xs
same_bytes [] b = refl
same_bytes (x ∷ xs) b =
    let z : x % 256 ≡ x = let k = b 0 in omega arith in
    ap {B = List ℕ} (λ y. y ∷ map low xs) z ∙ ap {B = List ℕ} (λ t. x ∷ t) (same_bytes xs (λ i. b (suc i)))
