-- What 02's K8 promises of a lookup and of a rewriting. `proofs/Promised` has the theorem.
use Rattle.std.specs.Prelude.{◌≡◌, Ok, List, [], ◌++◌, ℕ, ◌≤◌, min, length, take, drop}
use Rattle.std.proofs.Math.Option.{Option, none, some}
use Rattle.refusals.specs.Limits.{nothing}
use Rattle.clearing.specs.Lent.{padded}
use Rattle.taggedfields.specs.Fields.{Field, reading, field_in, spelt}
use Rattle.taggedfields.specs.Promised.{tags_of, Sound}
use Rattle.settings.specs.declared.Setting.{Setting}
use Rattle.settings.specs.Setting.{file_of, setting_of, contents_of}
use Rattle.settings.specs.Rewriting.{added, rewritten, rewrite_of}

-- what a file says of a tag, if it has it
abbrev pub contents_in : Option Field → Option (List ℕ)
contents_in none = none
contents_in (some f) = some f.contents

abbrev pub said : List ℕ → ℕ → Option (List ℕ)
said file t = contents_in (field_in file t)

abbrev pub or_else : Option (List ℕ) → Option (List ℕ) → Option (List ℕ)
or_else (some c) other = some c
or_else none other = other

-- What is so of a file that was rewritten with changes.
pub record Rewrites (file changes : List ℕ) : Type 0 where
  -- it is a file of fields without a fault
  pub clean : (reading (rewritten file changes)).fault ≡ none
  -- "keeps tags it does not know byte for byte": the fields whose tags the changes do not have are the same bytes in the same order
  pub others : spelt (added (reading changes).fields (reading (rewritten file changes)).fields) ≡ spelt (added (reading changes).fields (reading file).fields)
  -- a tag that the changes have gets their contents, every other says what it said, and what neither has is not there
  pub says : (t : ℕ) → said (rewritten file changes) t ≡ or_else (said changes t) (said file t)
  -- the file's tags stand in their order, and those that it lacked behind them in the order of the changes
  pub order : tags_of (reading (rewritten file changes)).fields ≡ tags_of (reading file).fields ++ tags_of (added (reading file).fields (reading changes).fields)

pub record Promised : Type 0 where
  -- "as a part of the file it came from": the part that an answer names has the contents
  pub part : (own fallback : List ℕ) (t : ℕ) (s : Setting) → setting_of own fallback t ≡ Ok s
      → take s.contents.size (drop s.contents.start (file_of s.origin own fallback)) ≡ contents_of own fallback t
  pub rewrites : (file changes : List ℕ) → Rewrites file changes
  -- with no changes the file comes back
  pub unchanged : (file : List ℕ) → Sound file → rewritten file [] ≡ file
  -- the call writes it wherever there is room
  pub written : (file changes : List ℕ) (room : ℕ) → (reading file).fault ≡ none → (reading changes).fault ≡ none → length (rewritten file changes) ≤ min room nothing
      → rewrite_of file changes room ≡ (Ok (length (rewritten file changes)), padded room (rewritten file changes))
