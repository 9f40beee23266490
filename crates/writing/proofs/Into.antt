-- Writings one after another, into the same room. Assumes nothing.
use mathlib.Core.Path.{◌≡◌, refl, sym, ap, ◌∙◌}
use Prim.Native.Nat.{ℕ, ◌+◌}
use mathlib.Core.Bool.{Bool, true, false, cond}
use mathlib.Core.List.{List, [], ◌∷◌, ◌++◌}
use native.Mathlib.Omega.{arith}
use lib.ListN.{length}
use lib.Dec.{leb}
use Rattle.refusals.specs.Numbers.{no_room}
use Rattle.grammar.specs.Reading.{gives, stops}
use Rattle.writing.specs.Writing.{Writing, ended, refused, emit, then, each, into}

pub then-ended : (w : Writing) → then w ended ≡ w
unfolding then
then-ended ended = refl
then-ended (refused number place) = refl
then-ended (emit bytes w) = ap (emit bytes) (then-ended w)

pub then-then : (u v w : Writing) → then (then u v) w ≡ then u (then v w)
unfolding then
then-then ended v w = refl
then-then (refused number place) v w = refl
then-then (emit bytes u) v w = ap (emit bytes) (then-then u v w)

pub each_append : (f : ℕ → Writing) (vs ws : List ℕ) → each f (vs ++ ws) ≡ then (each f vs) (each f ws)
unfolding each then
each_append f [] ws = refl
each_append f (v ∷ vs) ws = ap (then (f v)) (each_append f vs ws) ∙ sym (then-then (f v) (each f vs) (each f ws))

-- what the first gives is what the second goes on from; where the first is refused, so are both
pub into-then : (room : ℕ) (out : List ℕ) (u v : Writing) (x : List ℕ) → into room out u ≡ gives x → into room out (then u v) ≡ into room x v
unfolding into then
into-then room out ended v x e = ap (λ o. into room o v) (is e)
  where
    is : gives out ≡ gives x → out ≡ x
    is e = cc
into-then room out (refused number place) v x e = let z : ◌≡◌ {A = ℕ} 0 1 = cc in absurd (omega arith)
into-then room out (emit bytes u) v x e = go (leb (length out + length bytes) room) (into-then room (out ++ bytes) u v x) e
  where
    go : (b : Bool) → (into room (out ++ bytes) u ≡ gives x → into room (out ++ bytes) (then u v) ≡ into room x v)
        → cond b (into room (out ++ bytes) u) (stops no_room room) ≡ gives x
        → cond b (into room (out ++ bytes) (then u v)) (stops no_room room) ≡ into room x v
    go true more e = more e
    go false more e = let z : ◌≡◌ {A = ℕ} 0 1 = cc in absurd (omega arith)

pub into-stops : (room : ℕ) (out : List ℕ) (u v : Writing) (number place : ℕ) → into room out u ≡ stops number place → into room out (then u v) ≡ stops number place
unfolding into then
into-stops room out ended v number place e = let z : ◌≡◌ {A = ℕ} 0 1 = cc in absurd (omega arith)
into-stops room out (refused n p) v number place e = e
into-stops room out (emit bytes u) v number place e = go (leb (length out + length bytes) room) (into-stops room (out ++ bytes) u v number place) e
  where
    go : (b : Bool) → (into room (out ++ bytes) u ≡ stops number place → into room (out ++ bytes) (then u v) ≡ stops number place)
        → cond b (into room (out ++ bytes) u) (stops no_room room) ≡ stops number place
        → cond b (into room (out ++ bytes) (then u v)) (stops no_room room) ≡ stops number place
    go true more e = more e
    go false more e = e
