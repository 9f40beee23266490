-- What a test of held bytes comes to, by what was read.
use mathlib.Core.Path.{◌≡◌, sym, ap, ◌∙◌}
use mathlib.Core.Bool.{Bool, false, not}
use mathlib.Core.List.{List, map}
use Prim.Native.Nat.{ℕ, ◌≤◌}
use lib.ListN.{length, take}
use lib.Seq.{sets}
use Rattle.lineentry.specs.declared.Span.{Span}
use Rattle.lineentry.specs.declared.Entry.{Entry}
use Rattle.lineentry.specs.declared.Entry.TheVariants.{Covers, Stop, OutOfRange}
use Rattle.lineentry.specs.Entry.{entry_at}
use Rattle.lostentry.specs.Lost.{lost}
use Rattle.piecestate.specs.State.{low, open_as, open_entry}
use Rattle.piecestate.proofs.Stores.{front-sets, length-map}

pub open_covers : (s : List ℕ) (line : ℕ) {r : Entry} {e : Span} → r ≡ entry_at s line 0 → r ≡ Covers e → e.missing ≡ open_entry s line
unfolding open_entry
open_covers s line a b = sym (ap (open_as s line) (sym a ∙ b))

pub open_stop : (s : List ℕ) (line : ℕ) {r : Entry} → r ≡ entry_at s line 0 → r ≡ Stop → false ≡ open_entry s line
unfolding open_entry
open_stop s line a b = sym (ap (open_as s line) (sym a ∙ b))

pub open_out : (s : List ℕ) (line : ℕ) {r : Entry} {t : Bool} → r ≡ entry_at s line 0 → r ≡ OutOfRange → t ≡ lost s line → not t ≡ open_entry s line
unfolding open_entry
open_out s line a b h = ap not h ∙ sym (ap (open_as s line) (sym a ∙ b))

-- held bytes at the front of a store
pub open_front : (h out : List ℕ) (line : ℕ) {r : Bool} {bytes : List ℕ} → length h ≤ length out → r ≡ open_entry (take (length h) bytes) line → bytes ≡ sets out 0 (map low h) → r ≡ open_entry (map low h) line
open_front h out line c d e = d ∙ ap (λ t. open_entry t line) (ap (take (length h)) e ∙ front-sets out (map low h) (length h) (length-map low h) c)
