-- The parts of a code by their positions: what suits, what is joined and cut, and the sizes that the checks at a code's end look at.
-- Assumes nothing.
use mathlib.Core.Path.{◌≡◌, refl, sym, ap, ◌∙◌}
use Prim.Native.Nat.{ℕ, zero, suc, ◌+◌, ◌≤◌, ◌<◌}
use native.Mathlib.Omega.{arith}
use mathlib.Core.Bool.{true}
use mathlib.Core.List.{List, ◌++◌}
use lib.ListN.{length, get_or}
use lib.Seq.{length-slice}
use Rattle.grammar.specs.Letters.{class_of}
use Rattle.grammar.specs.Fields.{contents}
use Rattle.grammar.specs.State.{Node, State, blank}
use Rattle.grammar.specs.Steps.{whatever, as_bytes, as_names, rules, code_part, locals_part, kinds_part, line_part}
use Rattle.grammar.specs.Record.{sound}
use Rattle.grammar.proofs.Passed.{sound-ruled}
use Rattle.meaning.specs.Value.{Value, Values, nil, more, bytes, sequence, count_of, value_at, contents_of, members_of}
use Rattle.meaning.specs.Proper.{Suits, SuitFrom}
use Rattle.meaning.proofs.Means.{Sees, Means, MeanAll, join, take_of, drop_of, mean_at, mean_all_count}
use Rattle.meaning.proofs.Standing.{InState}
use Rattle.meaning.proofs.Inversion.{bytes_class}

pub suit_at : (j i : ℕ) (vs : Values) → SuitFrom i vs → j < count_of vs → Suits (get_or rules (i + j) whatever) (value_at vs j)
unfolding SuitFrom count_of value_at
suit_at j i nil h l = absurd (omega arith)
suit_at zero i (more v vs) h l =
    let e : i + 0 ≡ i = omega arith in
    rw e h.0
suit_at (suc j) i (more v vs) h l =
    let e : i + suc j ≡ i + 1 + j = omega arith in
    rw e (suit_at j (i + 1) vs h.1 (omega arith))

pub value-join : (i : ℕ) (us vs : Values) → i < count_of us → value_at (join us vs) i ≡ value_at us i
unfolding join count_of value_at
value-join i nil vs l = absurd (omega arith)
value-join zero (more u us) vs l = refl
value-join (suc i) (more u us) vs l = value-join i us vs (omega arith)

pub count-join : (us vs : Values) → count_of (join us vs) ≡ count_of us + count_of vs
unfolding join count_of
count-join nil vs = omega arith
count-join (more u us) vs = omega (arith, count-join us vs)

pub take-join : (us vs : Values) → take_of (count_of us) (join us vs) ≡ us
unfolding join take_of count_of
take-join nil vs = refl
take-join (more u us) vs = ap (more u) (take-join us vs)

pub drop-join : (us vs : Values) → drop_of (count_of us) (join us vs) ≡ vs
unfolding join drop_of count_of
drop-join nil vs = refl
drop-join (more u us) vs = drop-join us vs

-- a node's size and count, by what it means
module _ (s : List ℕ) (st : State) where
  abbrev node : ℕ → Node
  node n = get_or st.nodes n blank

  sound-within : (n : Node) → sound s n ≡ true → n.place + n.size ≤ length s
  unfolding sound
  sound-within n e = (sound-ruled s n e).0

  pub contents-length : (n : Node) → sound s n ≡ true → length (contents s n.place n.size) ≡ n.size
  contents-length n e = length-slice n.place (n.place + n.size) s (sound-within n e) ∙ omega arith

  pub bytes-size : (n : ℕ) (cs : List ℕ) → Means (InState s st) n (bytes cs) → (node n).size ≡ length cs
  unfolding Means
  bytes-size n cs m =
      let i = bytes_class s (node n) m.0 (class_of (node n).letter) cs m.1.is in
      sym (contents-length (node n) m.1.own) ∙ ap length i.1

  pub sequence-count : (n l : ℕ) (vs : Values) → Means (InState s st) n (sequence l vs) → (node n).count ≡ count_of vs
  unfolding Means
  sequence-count n l vs m = m.1.counted ∙ mean_all_count (InState s st) vs m.0 m.2

  -- what the checks at the end look at
  pub record Looked-at (kids : List ℕ) (parts : Values) : Type 0 where
    pub code-size : (node (get_or kids code_part 0)).size ≡ length (contents_of (value_at parts code_part))
    pub names-count : (node (get_or kids locals_part 0)).count ≡ count_of (members_of (value_at parts locals_part))
    pub kinds-size : (node (get_or kids kinds_part 0)).size ≡ length (contents_of (value_at parts kinds_part))

  as_bytes_lem : (n : ℕ) (v : Value) → Suits as_bytes v → Means (InState s st) n v → (node n).size ≡ length (contents_of v)
  unfolding contents_of
  as_bytes_lem n v f m = let h : Means (InState s st) n (bytes f.0) = rw f.1 at m in rw f.1 (bytes-size n f.0 h)

  as_names_lem : (n : ℕ) (v : Value) → Suits as_names v → Means (InState s st) n v → (node n).count ≡ count_of (members_of v)
  unfolding members_of
  as_names_lem n v f m = let h : Means (InState s st) n (sequence 0x28 f.0) = rw f.1 at m in rw f.1 (sequence-count n 0x28 f.0 h)

  pub looked_at : (kids : List ℕ) (parts tables : Values) → MeanAll (InState s st) kids (join parts tables) → count_of parts ≡ line_part → SuitFrom 0 parts → Looked-at kids parts
  unfolding rules
  looked_at kids parts tables m e f =
      record {
        code-size = as_bytes_lem (get_or kids 0 0) (value_at parts 0) (suit_at 0 0 parts f (omega (arith, e))) (part 0 (omega (arith, e)));
        names-count = as_names_lem (get_or kids 3 0) (value_at parts 3) (suit_at 3 0 parts f (omega (arith, e))) (part 3 (omega (arith, e)));
        kinds-size = as_bytes_lem (get_or kids 4 0) (value_at parts 4) (suit_at 4 0 parts f (omega (arith, e))) (part 4 (omega (arith, e)));
      }
    where
      part : (i : ℕ) → i < count_of parts → Means (InState s st) (get_or kids i 0) (value_at parts i)
      part i l = rw (value-join i parts tables l) at (mean_at (InState s st) i (join parts tables) kids m (omega (arith, count-join parts tables)))

-- parts and tables together
pub mean_all_join : (P : Sees) (us vs : Values) (xs ys : List ℕ) → MeanAll P xs us → MeanAll P ys vs → MeanAll P (xs ++ ys) (join us vs)
unfolding Means join
mean_all_join P nil vs xs ys p q = rw p q
mean_all_join P (more u us) vs xs ys p q = (p.0, p.1 ++ ys, ap (λ z. z ++ ys) p.2, p.3, mean_all_join P us vs p.1 ys p.4 q)

pub suit_join : (i : ℕ) (us vs : Values) → SuitFrom i us → SuitFrom (i + count_of us) vs → SuitFrom i (join us vs)
unfolding SuitFrom join count_of
suit_join i nil vs p q =
    let e : i + 0 ≡ i = omega arith in
    rw e at q
suit_join i (more u us) vs p q =
    let e : i + suc (count_of us) ≡ i + 1 + count_of us = omega arith in
    (p.0, suit_join (i + 1) us vs p.1 (rw e at q))
