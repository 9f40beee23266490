-- 01's sheets P6 and P3 read behind one kept node and one kept entry, by computation: accepted, refused, and without room. Assumes nothing.
use mathlib.Core.Path.{◌≡◌, refl}
use Prim.Native.Nat.{ℕ}
use mathlib.Core.List.{List, [], ◌∷◌, ◌++◌}
use Rattle.refusals.specs.Numbers.{null_object, no_node, no_entry}
use Rattle.refusals.specs.Limits.{nothing}
use Rattle.clearing.specs.Lent.{zeros, padded}
use Rattle.grammar.specs.Reading.{gives, stops, bind}
use Rattle.grammar.specs.Room.{run}
use Rattle.grammar.specs.Letters.{letters, found, class_of}
use Rattle.grammar.specs.Fields.{digits, pylong, numbers, fields, contained, code_fields}
use Rattle.grammar.specs.Steps.{reference, header, front, attach, strings, suits, child, kids, couples, rules, first_line_of, parts_from, ended, body, enter, close, after, one, value}
use Rattle.grammar.specs.Answer.{plain, Outcome}
use Rattle.grammar.proofs.Sheets.{p3, p6, counts}
use Rattle.readmore.specs.More.{appending, more_of}

-- one node and one entry that are kept, and numbers behind them that are not
abbrev kept_node : List ℕ
kept_node = 0x29 ∷ 1 ∷ 1 ∷ 0 ∷ 1 ∷ 9 ∷ 4 ∷ []

abbrev kept_entry : List ℕ
kept_entry = 0 ∷ nothing ∷ []

abbrev rest : List ℕ
rest = 7 ∷ 7 ∷ 7 ∷ 7 ∷ 7 ∷ 7 ∷ 7 ∷ 7 ∷ 7 ∷ 7 ∷ 7 ∷ 7 ∷ 7 ∷ 7 ∷ []

abbrev more : List ℕ → (entries : List ℕ) → (kept : ℕ) → Outcome
more s entries kept = more_of s (kept_node ++ rest) (kept_entry ++ entries) 3 2000 1 kept 5

-- a refused append: the kept part as it was
abbrev Refuses : Outcome → (entries number place : ℕ) → Type 0
Refuses o entries number place = o ≡ record { answer = stops number place; nodes = kept_node ++ zeros 14; entries = kept_entry ++ zeros entries; slots = zeros 3 }

pub sheets :
    -- P6: "both entries name node 1; one slot", which are node 2, behind entry 0, of input 5
    (more p6 (7 ∷ 7 ∷ 7 ∷ 7 ∷ 7 ∷ []) 1
    ≡ record {
      answer = gives (counts 12 3 3 1);
      nodes = kept_node ++ 0x29 ∷ 1 ∷ 1 ∷ 1 ∷ 2 ∷ 12 ∷ 5 ∷ 0x69 ∷ 3 ∷ 4 ∷ nothing ∷ 0 ∷ 7 ∷ 5 ∷ [];
      entries = kept_entry ++ 2 ∷ 2 ∷ 2 ∷ nothing ∷ 0 ∷ [];
      slots = 3 ∷ 0 ∷ 0 ∷ [];
    })
    -- P3: "4 at 0"
    × Refuses (more p3 (7 ∷ 7 ∷ 7 ∷ []) 1) 3 null_object 0
    -- room for one entry more, kept plus new: the second is refused at the child's header, 7
    × Refuses (more p6 (7 ∷ 7 ∷ 7 ∷ []) 1) 3 no_entry 7
    -- more is kept than there is room for
    × Refuses (more p6 [] 2) 0 no_entry 0
    × (more_of p6 kept_node kept_entry 3 2000 2 2 5 ≡ record { answer = stops no_node 0; nodes = kept_node; entries = kept_entry; slots = zeros 3 })
unfolding bind run letters found class_of digits pylong numbers fields contained code_fields reference header front attach strings suits child kids couples rules first_line_of parts_from ended body enter close after one value plain appending more_of padded
sheets = (refl, refl, refl, refl, refl)
