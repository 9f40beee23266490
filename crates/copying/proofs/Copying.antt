-- What is copied so far is the front of the bytes. Assumes nothing.
use mathlib.Core.Path.{◌≡◌, ◌∙◌}
use mathlib.Core.List.{List}
use Prim.Native.Nat.{ℕ, ◌+◌, ◌<◌}
use lib.ListN.{length, set, get_or, take, length-set}
use Rattle.std.proofs.lemmas.List.{take_more, take_more_set}

pub record Copied (s out : List ℕ) (i : ℕ) : Type 0 where
  pub same : length out ≡ length s
  pub front : take i out ≡ take i s

pub copied_more : {s out : List ℕ} {i : ℕ} → Copied s out i → i < length s → i < length out → Copied s (set out i (get_or s i 0)) (i + 1)
copied_more {s} {out} {i} g l m = record {
  same = length-set out i (get_or s i 0) ∙ g.same;
  front = take_more_set out i (get_or s i 0) m ∙ rw (g.front, take_more s i 0 l);
}
