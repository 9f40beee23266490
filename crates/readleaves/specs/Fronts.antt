-- No export and no promise rests on this page.
-- What is said of a plain value's front: where it is taken, it is the front that the definitions give.
-- Of what is left to others nothing is said.
use Rattle.std.specs.Prelude.{ℕ, ◌<◌, List, Ok, Option, Some, None}
use Rattle.fields.specs.Classes.{code_class, class_at}
use Rattle.fields.specs.Behind.{Reads}
use Rattle.fields.specs.declared.Kids.TheVariants as kind
use Rattle.fields.specs.declared.Behind.{Behind}
use Rattle.readsteps.specs.declared.Room.{Room}
use Rattle.readsteps.specs.declared.Walk.{Walk}
use Rattle.readsteps.specs.declared.Opened.TheVariants as opened
use Rattle.readsteps.specs.Opening.{References, Opens, Fronts}
use Rattle.readleaves.specs.declared.Plain.{Plain}
use Rattle.readleaves.specs.declared.Plain.TheVariants as plain

-- a reference whose slot is filled
abbrev pub RefersTo : (s slots : List ℕ) → ℕ → Option Plain → Type 0
RefersTo s slots at (Some (plain.Known v a)) = References s slots at (Ok (opened.Known v a))
RefersTo s slots at (Some (plain.Leaf h)) = ⊥
RefersTo s slots at None = Unit

pub record Refers (s slots : List ℕ) (at : ℕ) (r : Option Plain) : Type 0 where
  pub is : RefersTo s slots at r

-- the fields of a class below the code's
abbrev pub SpansOf : List ℕ → ℕ → ℕ → Option Behind → Type 0
SpansOf s class at (Some b) = (class < code_class) × Reads s (class_at class) at (Ok b)
SpansOf s class at None = Unit

pub record Spans (s : List ℕ) (class at : ℕ) (r : Option Behind) : Type 0 where
  pub is : SpansOf s class at r

-- a node without children, whatever allowance is left
abbrev pub LeafOf : List ℕ → (letter flag class at : ℕ) → Option Plain → Type 0
LeafOf s letter flag class at (Some (plain.Known v a)) = ⊥
LeafOf s letter flag class at (Some (plain.Leaf h)) = (class < code_class) × ((allowance : ℕ) → 0 < allowance → Opens s allowance letter flag class at (Ok (opened.Node h (kind.Items 0))))
LeafOf s letter flag class at None = Unit

pub record Leafs (s : List ℕ) (letter flag class at : ℕ) (r : Option Plain) : Type 0 where
  pub is : LeafOf s letter flag class at r

-- what `front` of the steps answers there
abbrev pub FrontOf : (s slots : List ℕ) → Room → ℕ → Walk → Option Plain → Type 0
FrontOf s slots room allowance w (Some (plain.Known v at)) = Fronts s slots room allowance w (Ok (opened.Known v at))
FrontOf s slots room allowance w (Some (plain.Leaf h)) = Fronts s slots room allowance w (Ok (opened.Node h (kind.Items 0)))
FrontOf s slots room allowance w None = Unit

pub record Plainly (s slots : List ℕ) (room : Room) (allowance : ℕ) (w : Walk) (r : Option Plain) : Type 0 where
  pub is : FrontOf s slots room allowance w r
