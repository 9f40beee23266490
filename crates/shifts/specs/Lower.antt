-- A reading with slots in front, and an input whose reference indices are lowered by them: definitions only.
-- 02, K7: "once each index in it is lowered by the slots reserved before the node".
use Rattle.std.specs.Prelude.{◌≡◌, ℕ, ◌+◌, ◌-◌, ◌≤◌, ◌<◌, true, cond, ◌&&◌, List, [], ◌∷◌, ◌++◌, length, get_or, take, drop, ltb}
use Rattle.std.proofs.lemmas.List.Edits.{sets}
use Rattle.grammar.specs.Reading.{Kind, level, node, entry, slot, Reading, done, refused, claim}
use Rattle.grammar.specs.Letters.{among}
use Rattle.grammar.specs.Fields.{le32}
use Rattle.grammar.specs.State.{State}
use Rattle.grammar.specs.Steps.{Chain}
use Rattle.writing.specs.Canonical.{bytes32}

-- The same state with slots in front.
abbrev pub fronted : List ℕ → State → State
fronted X st = record { at = st.at; nodes = st.nodes; entries = st.entries; slots = X ++ st.slots; met = st.met }

abbrev pub fronted_value : List ℕ → ℕ × State → ℕ × State
fronted_value X r = (r.0, fronted X r.1)

abbrev pub fronted_chain : List ℕ → Chain → Chain
fronted_chain X c = record { kids = c.kids; first = c.first; last = c.last; line = c.line; st = fronted X c.st }

abbrev pub more_need : ℕ → Kind → ℕ → ℕ
more_need b level n = n
more_need b node n = n
more_need b entry n = n
more_need b slot n = b + n

-- The whole reading with b slots in front: each slot claim needs b more, and nothing else changes.
unfoldable pub slotted : ℕ → {A B : Type 0} → (A → B) → Reading A → Reading B
slotted b g (done a) = done (g a)
slotted b g (refused n p) = refused n p
slotted b g (claim k need p m) = claim k (more_need b k need) p (slotted b g m)

-- An input in which the indices at given places are lowered.
unfoldable pub lowered : ℕ → List ℕ → List ℕ → List ℕ
lowered b [] s = s
lowered b (r ∷ rs) s = sets (lowered b rs s) r (bytes32 (le32 s r - b))

-- those of the places that stand between a header and an end
unfoldable pub between : (at end : ℕ) → List ℕ → List ℕ
between at end [] = []
between at end (r ∷ rs) = cond (ltb at r && ltb r end) (r ∷ between at end rs) (between at end rs)

-- The bytes from a header to an end, with each index met there lowered.
abbrev pub alone_of : List ℕ → (b at end : ℕ) → List ℕ → List ℕ
alone_of s b at end met = drop at (take end (lowered b (between at end met) s))

-- No reference between a header and an end names one of the b slots before it: what the law asks of them. An index that was read names a slot
-- that was reserved by then, so that the other bound need not be asked.
abbrev pub Own : List ℕ → (b at end : ℕ) → List ℕ → Type 0
Own s b at end met = (r : ℕ) → among r met ≡ true → at < r → r < end → b ≤ le32 s r

-- What the law needs to know of the lowered input t: it has the bytes of s, up to its end, but for the indices at the places met.
pub data Apart (r i : ℕ) : Type 0 where
  ahead : i < r → Apart r i
  past : r + 4 ≤ i → Apart r i

abbrev pub Clear : List ℕ → ℕ → Type 0
Clear M i = (r : ℕ) → among r M ≡ true → Apart r i

pub record Lowers (b from : ℕ) (M s t : List ℕ) : Type 0 where
  pub inside : length t ≤ length s
  pub byte : (i : ℕ) → from ≤ i → i < length t → Clear M i → get_or t i 0 ≡ get_or s i 0
  pub index : (r : ℕ) → among r M ≡ true → from < r → r + 4 ≤ length t → b + le32 t r ≡ le32 s r
