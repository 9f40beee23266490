-- 02, K8: "An older harness keeps tags it does not know byte for byte when rewriting." A field whose tag the changes have gets its contents there,
-- where it stands; every other is kept; what the file lacks follows in the order of the changes, which are a file of fields too.
use Rattle.std.specs.Prelude.{ℕ, Result, Ok, Err, min, cond, List, [], ◌∷◌, ◌++◌, ltb, length}
use Rattle.std.proofs.Math.Option.{Option, none, some}
use Rattle.refusals.specs.declared.Fault.{Fault}
use Rattle.refusals.specs.declared.Refusal.TheVariants.{NoRoom}
use Rattle.refusals.specs.Faults.{fault}
use Rattle.refusals.specs.Limits.{nothing}
use Rattle.clearing.specs.Lent.{zeros, padded}
use Rattle.taggedfields.specs.Fields.{Field, reading, find, spelt}

-- a field, or the one that the changes have in its stead
abbrev pub or_new : Field → Option Field → Field
or_new f none = f
or_new f (some g) = g

unfoldable pub changed : List Field → List Field → List Field
changed changes [] = []
changed changes (f ∷ fs) = or_new f (find f.tag changes) ∷ changed changes fs

-- a field of the changes, where the file has none of its tag
abbrev pub if_new : Option Field → Field → List Field → List Field
if_new none g rest = g ∷ rest
if_new (some f) g rest = rest

unfoldable pub added : List Field → List Field → List Field
added fields [] = []
added fields (g ∷ gs) = if_new (find g.tag fields) g (added fields gs)

-- the file that is written
unfoldable pub rewritten : List ℕ → List ℕ → List ℕ
rewritten file changes = spelt (changed (reading changes).fields (reading file).fields) ++ spelt (added (reading file).fields (reading changes).fields)

abbrev pub refused_as : Fault → ℕ → Result ℕ Fault × List ℕ
refused_as x len = (Err x, zeros len)

-- "no room 17", at the output's length, which counts as at most 4,294,967,295
abbrev pub in_room : List ℕ → ℕ → Result ℕ Fault × List ℕ
in_room bytes len =
    cond (ltb (min len nothing) (length bytes)) (refused_as (fault NoRoom (min len nothing)) len) (Ok (length bytes), padded len bytes)

-- the file's fault comes before that of the changes
abbrev pub rewrite_from : Option Fault → Option Fault → List ℕ → ℕ → Result ℕ Fault × List ℕ
rewrite_from (some x) c bytes len = refused_as x len
rewrite_from none (some x) bytes len = refused_as x len
rewrite_from none none bytes len = in_room bytes len

unfoldable pub rewrite_of : List ℕ → List ℕ → ℕ → Result ℕ Fault × List ℕ
rewrite_of file changes len = rewrite_from (reading file).fault (reading changes).fault (rewritten file changes) len
