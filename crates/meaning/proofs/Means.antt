-- Meaning as a relation, by recursion on the value, over any way P of finding a node's children and shape: the stores of a state while they
-- are read, or the stores that a writer is lent. Assumes nothing.
use mathlib.Core.Path.{◌≡◌, refl, ap, ◌∙◌}
use Prim.Native.Nat.{ℕ, zero, suc, ◌<◌}
use native.Mathlib.Omega.{arith}
use mathlib.Core.List.{List, [], ◌∷◌, ◌++◌}
use lib.ListN.{length, get_or, take, drop}
use Rattle.grammar.specs.Steps.{line_part}
use Rattle.writing.specs.Canonical.{shown_line}
use Rattle.writing.specs.Shape as shape
use Rattle.writing.specs.Shape.{Shape}
use Rattle.meaning.specs.Value.{Value, Values, nil, more, single, integer, float, complex, bytes, text, sequence, slice, dict, code, count_of, value_at}

-- a node has these children and this shape
abbrev pub Sees : Type 1
Sees = ℕ → List ℕ → Shape → Type 0

abbrev pub Leaf : Sees → ℕ → Shape → Type 0
Leaf P n sh = (kids : List ℕ) × P n kids sh

unfoldable mutual
  pub Means : Sees → ℕ → Value → Type 0
  Means P n (single letter) = Leaf P n (shape.single letter)
  Means P n (integer z) = Leaf P n (shape.integer z)
  Means P n (float bits) = Leaf P n (shape.float bits)
  Means P n (complex real imaginary) = Leaf P n (shape.complex real imaginary)
  Means P n (bytes contents) = Leaf P n (shape.bytes contents)
  Means P n (text contents) = Leaf P n (shape.text contents)
  Means P n (sequence letter vs) = (kids : List ℕ) × P n kids (shape.sequence letter kids) × MeanAll P kids vs
  Means P n (slice vs) = (kids : List ℕ) × P n kids (shape.slice kids) × MeanAll P kids vs
  Means P n (dict vs) = (kids : List ℕ) × P n kids (shape.dict kids) × MeanAll P kids vs
  Means P n (code numbers parts line tables) =
      (kids : List ℕ) × (word : ℕ) × P n kids (shape.code numbers word kids) × (shown_line word ≡ line)
      × MeanAll P (take line_part kids) parts × MeanAll P (drop line_part kids) tables

  pub MeanAll : Sees → List ℕ → Values → Type 0
  MeanAll P kids nil = kids ≡ []
  MeanAll P kids (more v vs) = (n : ℕ) × (rest : List ℕ) × (kids ≡ n ∷ rest) × Means P n v × MeanAll P rest vs

-- what is seen in one way is seen in another
mutual
  unfolding Means

  pub means-map : (P P' : Sees) → ((n : ℕ) (kids : List ℕ) (sh : Shape) → P n kids sh → P' n kids sh) → (v : Value) (n : ℕ) → Means P n v → Means P' n v
  means-map P P' h (single letter) n m = (m.0, h n m.0 _ m.1)
  means-map P P' h (integer z) n m = (m.0, h n m.0 _ m.1)
  means-map P P' h (float bits) n m = (m.0, h n m.0 _ m.1)
  means-map P P' h (complex real imaginary) n m = (m.0, h n m.0 _ m.1)
  means-map P P' h (bytes contents) n m = (m.0, h n m.0 _ m.1)
  means-map P P' h (text contents) n m = (m.0, h n m.0 _ m.1)
  means-map P P' h (sequence letter vs) n m = (m.0, h n m.0 _ m.1, mean_all_map P P' h vs m.0 m.2)
  means-map P P' h (slice vs) n m = (m.0, h n m.0 _ m.1, mean_all_map P P' h vs m.0 m.2)
  means-map P P' h (dict vs) n m = (m.0, h n m.0 _ m.1, mean_all_map P P' h vs m.0 m.2)
  means-map P P' h (code numbers parts line tables) n m =
      (m.0, m.1, h n m.0 _ m.2, m.3, mean_all_map P P' h parts (take line_part m.0) m.4, mean_all_map P P' h tables (drop line_part m.0) m.5)

  pub mean_all_map : (P P' : Sees) → ((n : ℕ) (kids : List ℕ) (sh : Shape) → P n kids sh → P' n kids sh) → (vs : Values) (kids : List ℕ) → MeanAll P kids vs → MeanAll P' kids vs
  mean_all_map P P' h nil kids m = m
  mean_all_map P P' h (more v vs) kids m = (m.0, m.1, m.2, means-map P P' h v m.0 m.3, mean_all_map P P' h vs m.1 m.4)

-- Sequences of values: one more at the end, one after another, and cut.
unfoldable pub snoc : Values → Value → Values
snoc nil v = more v nil
snoc (more u us) v = more u (snoc us v)

unfoldable pub join : Values → Values → Values
join nil vs = vs
join (more u us) vs = more u (join us vs)

unfoldable pub take_of : ℕ → Values → Values
take_of zero vs = nil
take_of (suc k) nil = nil
take_of (suc k) (more v vs) = more v (take_of k vs)

unfoldable pub drop_of : ℕ → Values → Values
drop_of zero vs = vs
drop_of (suc k) nil = nil
drop_of (suc k) (more v vs) = drop_of k vs

pub join-nil : (us : Values) → join us nil ≡ us
unfolding join
join-nil nil = refl
join-nil (more u us) = ap (more u) (join-nil us)

pub mean_all_snoc : (P : Sees) (us : Values) (kids : List ℕ) (n : ℕ) (v : Value) → MeanAll P kids us → Means P n v → MeanAll P (kids ++ n ∷ []) (snoc us v)
unfolding Means snoc
mean_all_snoc P nil kids n v m h = (n, [], ap (λ k. k ++ n ∷ []) m, h, refl)
mean_all_snoc P (more u us) kids n v m h =
    (m.0, m.1 ++ n ∷ [], ap (λ k. k ++ n ∷ []) m.2, m.3, mean_all_snoc P us m.1 n v m.4 h)

pub mean_all_count : (P : Sees) (us : Values) (kids : List ℕ) → MeanAll P kids us → length kids ≡ count_of us
unfolding Means count_of
mean_all_count P nil kids m = ap length m
mean_all_count P (more u us) kids m = ap length m.2 ∙ ap suc (mean_all_count P us m.1 m.4)

pub mean_all_take : (P : Sees) (k : ℕ) (us : Values) (kids : List ℕ) → MeanAll P kids us → MeanAll P (take k kids) (take_of k us)
unfolding Means take_of
mean_all_take P zero us kids m = refl
mean_all_take P (suc k) nil kids m = rw m refl
mean_all_take P (suc k) (more u us) kids m = (m.0, take k m.1, ap (take (suc k)) m.2, m.3, mean_all_take P k us m.1 m.4)

pub mean_all_drop : (P : Sees) (k : ℕ) (us : Values) (kids : List ℕ) → MeanAll P kids us → MeanAll P (drop k kids) (drop_of k us)
unfolding Means drop_of
mean_all_drop P zero us kids m = m
mean_all_drop P (suc k) nil kids m = rw m refl
mean_all_drop P (suc k) (more u us) kids m = rw m.2 (mean_all_drop P k us m.1 m.4)

-- the child and the value at one position
pub mean_at : (P : Sees) (i : ℕ) (vs : Values) (kids : List ℕ) → MeanAll P kids vs → i < count_of vs → Means P (get_or kids i 0) (value_at vs i)
unfolding Means count_of value_at
mean_at P i nil kids m h = absurd (omega arith)
mean_at P zero (more v vs) kids m h = rw m.2 m.3
mean_at P (suc i) (more v vs) kids m h = rw m.2 (mean_at P i vs m.1 m.4 (omega arith))

-- Which kind a shape and a value are of, by a number.
abbrev pub tag : Shape → ℕ
tag (shape.single letter) = 0
tag (shape.integer z) = 1
tag (shape.float bits) = 2
tag (shape.complex real imaginary) = 3
tag (shape.bytes contents) = 4
tag (shape.text contents) = 5
tag (shape.sequence letter kids) = 6
tag (shape.slice kids) = 7
tag (shape.dict kids) = 8
tag (shape.code numbers line kids) = 9

abbrev pub tag_of : Value → ℕ
tag_of (single letter) = 0
tag_of (integer z) = 1
tag_of (float bits) = 2
tag_of (complex real imaginary) = 3
tag_of (bytes contents) = 4
tag_of (text contents) = 5
tag_of (sequence letter vs) = 6
tag_of (slice vs) = 7
tag_of (dict vs) = 8
tag_of (code numbers parts line tables) = 9

pub record Seen (P : Sees) (n : ℕ) (v : Value) : Type 0 where
  pub kids : List ℕ
  pub shape : Shape
  pub seen : P n kids shape
  pub same : tag shape ≡ tag_of v

pub means_seen : (P : Sees) (n : ℕ) (v : Value) → Means P n v → Seen P n v
unfolding Means
means_seen P n (single letter) m = record { kids = m.0; shape = _; seen = m.1; same = refl }
means_seen P n (integer z) m = record { kids = m.0; shape = _; seen = m.1; same = refl }
means_seen P n (float bits) m = record { kids = m.0; shape = _; seen = m.1; same = refl }
means_seen P n (complex real imaginary) m = record { kids = m.0; shape = _; seen = m.1; same = refl }
means_seen P n (bytes contents) m = record { kids = m.0; shape = _; seen = m.1; same = refl }
means_seen P n (text contents) m = record { kids = m.0; shape = _; seen = m.1; same = refl }
means_seen P n (sequence letter vs) m = record { kids = m.0; shape = _; seen = m.1; same = refl }
means_seen P n (slice vs) m = record { kids = m.0; shape = _; seen = m.1; same = refl }
means_seen P n (dict vs) m = record { kids = m.0; shape = _; seen = m.1; same = refl }
means_seen P n (code numbers parts line tables) m = record { kids = m.0; shape = _; seen = m.2; same = refl }
