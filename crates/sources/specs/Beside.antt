-- What holds of the bytes beside the places that `sill_locate` shows for the same table, first line, count and room. `proofs/Beside` has the
-- theorem.
use Rattle.std.specs.Prelude.{◌≡◌, Bool, true, false, List, [], ◌∷◌, ◌++◌, ℕ, ◌-◌, min, length}
use Rattle.refusals.specs.Faults.{number_of}
use Rattle.clearing.specs.Lent.{zeros}
use Rattle.lineentry.specs.declared.Location.{Location}
use Rattle.linetable.specs.Walk.{Reading, done, refused}
use Rattle.linetable.specs.Answer.{located}
use Rattle.sources.specs.Marks.{Marks, marked, denied, sources, has, counts_of}

-- a fact of every byte
abbrev pub Each : (ℕ → Type 0) → List ℕ → Type 0
Each P [] = Unit {0}
Each P (b ∷ bs) = P b × Each P bs

-- "with 1 and 2 and without 16 the shown line or end line is 1": neither is below 1, so the smaller is 1
abbrev pub Shows : Location → ℕ → Type 0
Shows l byte = has 1 byte ≡ true → has 2 byte ≡ true → has 16 byte ≡ false → min l.line l.end_line ≡ 1

-- each place beside its byte, and as many of the one as of the other
abbrev pub Pairs : List Location → List ℕ → Type 0
Pairs [] [] = Unit {0}
Pairs (l ∷ ls) (b ∷ bs) = Shows l b × Pairs ls bs
Pairs [] (b ∷ bs) = ⊥
Pairs (l ∷ ls) [] = ⊥

-- k places came from entries, of `count` in all: the first k bytes have 1 and the others are 0, the count of 1 is k, and in a whole table no
-- entry has a byte missing.
pub record Beside (count : ℕ) (ls : List Location) (k : ℕ) (whole : Bool) (bytes : List ℕ) : Type 0 where
  pub given : List ℕ
  pub many : length given ≡ k
  pub placed : Each (λ b. has 1 b ≡ true) given
  pub all : bytes ≡ given ++ zeros (count - k)
  pub counted : (counts_of bytes).from_entries ≡ k
  pub shows : Pairs ls bytes
  pub unbroken : whole ≡ true → Each (λ b. has 32 b ≡ false) bytes

-- both accept, or both refuse alike
abbrev pub Agrees : ℕ → Reading → Marks → Type 0
Agrees count (done ls k whole) (marked bytes) = Beside count ls k whole bytes
Agrees count (refused number place) (denied why place') = (number ≡ number_of why) × (place ≡ place')
Agrees count (done ls k whole) (denied why place) = ⊥
Agrees count (refused number place) (marked bytes) = ⊥

pub record BesideLocated : Type 0 where
  pub agrees : (s : List ℕ) (first count capacity : ℕ) → Agrees count (located s first count capacity) (sources s first count capacity)
