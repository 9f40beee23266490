-- 02, K8: "A lookup answers with the bytes of the override if it has the tag, else with those of the default, as a part of the file it came from."
-- "Refusals, the first in file order, override before default"; "then, at 0, a tag in neither .. 23". Both files are tested before an answer.
use Rattle.std.specs.Prelude.{ℕ, List, [], Result, Ok, Err}
use Rattle.std.proofs.Math.Option.{Option, none, some}
use Rattle.refusals.specs.declared.Fault.{Fault}
use Rattle.refusals.specs.declared.Refusal.TheVariants.{NoSuchField}
use Rattle.refusals.specs.Faults.{refused}
use Rattle.taggedfields.specs.Fields.{Field, reading, field_in}
use Rattle.taggedfields.specs.Looking.{span_of}
use Rattle.settings.specs.declared.Origin.{Origin}
use Rattle.settings.specs.declared.Origin.TheVariants as origin
use Rattle.settings.specs.declared.Setting.{Setting}

-- where a field's contents stand, in the override or in the default
abbrev pub found_in : Origin → Field → Result Setting Fault
found_in from f = Ok (record { origin = from; contents = span_of f })

-- of the two files' faults, and their fields of the tag
abbrev pub setting_from : Option Fault → Option Fault → Option Field → Option Field → Result Setting Fault
setting_from (some x) d f g = Err x
setting_from none (some x) f g = Err x
setting_from none none (some f) g = found_in origin.Override f
setting_from none none none (some g) = found_in origin.Default g
setting_from none none none none = refused NoSuchField 0

unfoldable pub setting_of : List ℕ → List ℕ → ℕ → Result Setting Fault
setting_of own fallback t = setting_from (reading own).fault (reading fallback).fault (field_in own t) (field_in fallback t)

-- the file that an answer names
abbrev pub file_of : Origin → List ℕ → List ℕ → List ℕ
file_of origin.Override own fallback = own
file_of origin.Default own fallback = fallback

-- the bytes themselves; none where the lookup is refused
abbrev pub contents_from : Option Fault → Option Fault → Option Field → Option Field → List ℕ
contents_from (some x) d f g = []
contents_from none (some x) f g = []
contents_from none none (some f) g = f.contents
contents_from none none none (some g) = g.contents
contents_from none none none none = []

unfoldable pub contents_of : List ℕ → List ℕ → ℕ → List ℕ
contents_of own fallback t = contents_from (reading own).fault (reading fallback).fault (field_in own t) (field_in fallback t)
