-- 01, 'Sheets for the proof and the rig': P1 to P12 over the definitions, as a single statement, by computation.
-- Each gives the answer, the counts and the contents of the three stores, and where the sheet names one the leaf answer. Assumes nothing.
use mathlib.Core.Path.{◌≡◌, refl}
use Prim.Native.Nat.{ℕ}
use mathlib.Core.Bool.{true}
use mathlib.Core.List.{List, [], ◌∷◌}
use Rattle.refusals.specs.Numbers.{eof_object, null_object, invalid_ref, bad_size, invalid_bytecode, too_deep}
use Rattle.refusals.specs.Limits.{nothing}
use Rattle.clearing.specs.Lent.{zeros, padded}
use Rattle.grammar.specs.Reading.{gives, stops, bind}
use Rattle.grammar.specs.Room.{run}
use Rattle.grammar.specs.Letters.{letters, found, class_of}
use Rattle.grammar.specs.Fields.{digits, pylong, numbers, fields, contained, code_fields}
use Rattle.grammar.specs.Steps.{reference, header, front, attach, strings, suits, child, kids, couples, rules, first_line_of, parts_from, ended, body, enter, close, after, one, value}
use Rattle.grammar.specs.Answer.{plain, reading, Counts, read_of}
use Rattle.grammar.specs.Record.{sound, sound_at}
use Rattle.grammar.specs.Leaf.{Leaf, nothingness, truth, whole, magnitude, leaf_as, leaf_of}

-- The inputs.
abbrev pub p1 : List ℕ
p1 = 0x4E ∷ []

abbrev pub p2 : List ℕ
p2 = []

abbrev pub p3 : List ℕ
p3 = 0x30 ∷ []

abbrev pub p4 : List ℕ
p4 = 0x29 ∷ 0x02 ∷ 0x69 ∷ 0x01 ∷ 0x00 ∷ 0x00 ∷ 0x00 ∷ 0x54 ∷ []

abbrev pub p5 : List ℕ
p5 = 0xA9 ∷ 0x01 ∷ 0x72 ∷ 0x00 ∷ 0x00 ∷ 0x00 ∷ 0x00 ∷ []

abbrev pub p6 : List ℕ
p6 = 0x29 ∷ 0x02 ∷ 0xE9 ∷ 0x05 ∷ 0x00 ∷ 0x00 ∷ 0x00 ∷ 0x72 ∷ 0x00 ∷ 0x00 ∷ 0x00 ∷ 0x00 ∷ []

abbrev pub p7 : List ℕ
p7 = 0x7B ∷ 0xB0 ∷ []

abbrev pub p8 : List ℕ
p8 = 0x6C ∷ 0x01 ∷ 0x00 ∷ 0x00 ∷ 0x00 ∷ 0x00 ∷ 0x80 ∷ []

abbrev pub p9 : List ℕ
p9 = 0x28 ∷ 0xFF ∷ 0xFF ∷ 0xFF ∷ 0xFF ∷ []

abbrev pub p10 : List ℕ
p10 = 0x29 ∷ 0x01 ∷ 0x4E ∷ []

abbrev pub p11 : List ℕ
p11 = 0x7B ∷ 0x4E ∷ 0x4E ∷ 0x30 ∷ []

abbrev pub p12 : List ℕ
p12 = 0x63 ∷ []

-- What a sheet says of an input, the stores being of twenty-one numbers each.
abbrev pub counts : (consumed nodes entries slots : ℕ) → Counts
counts at ns es ss = record { consumed = at; nodes = ns; entries = es; slots = ss }

-- accepted, with these counts, and these numbers at the front of the stores
abbrev pub Reads : List ℕ → ℕ → Counts → List ℕ → List ℕ → List ℕ → Type 0
Reads s nesting c ns es ss =
    read_of s 21 21 21 nesting ≡ record { answer = gives c; nodes = padded 21 ns; entries = padded 21 es; slots = padded 21 ss }

-- refused, and the stores all zero
abbrev pub Refuses : List ℕ → ℕ → ℕ → ℕ → Type 0
Refuses s nesting number place =
    read_of s 21 21 21 nesting ≡ record { answer = stops number place; nodes = zeros 21; entries = zeros 21; slots = zeros 21 }

-- the leaf question about a node of what was read
abbrev pub Leafs : List ℕ → (used n : ℕ) → Leaf → Type 0
Leafs s used n l = leaf_of s (read_of s 21 21 21 2000).nodes used n ≡ gives l

pub sheets :
    -- P1: "none, consumed 1, one node"
    (Reads p1 2000 (counts 1 1 0 0) (0x4E ∷ 1 ∷ 0 ∷ nothing ∷ 0 ∷ 1 ∷ 0 ∷ []) [] [] × Leafs p1 1 0 nothingness)
    -- P2: "1 at 0"
    × Refuses p2 2000 eof_object 0
    -- P3: "4 at 0"
    × Refuses p3 2000 null_object 0
    -- P4: "(1, true), 3 nodes, 2 entries"
    × (Reads p4 2000 (counts 8 3 2 0)
    (0x29 ∷ 1 ∷ 1 ∷ 0 ∷ 2 ∷ 8 ∷ 0 ∷ 0x69 ∷ 3 ∷ 4 ∷ nothing ∷ 0 ∷ 7 ∷ 0 ∷ 0x54 ∷ 8 ∷ 0 ∷ nothing ∷ 0 ∷ 8 ∷ 0 ∷ []) (1 ∷ 1 ∷ 2 ∷ nothing ∷ []) []
    × Leafs p4 3 1 (whole 1) × Leafs p4 3 2 (truth true))
    -- P5: "5 at 3"
    × Refuses p5 2000 invalid_ref 3
    -- P6: "both entries name node 1; one slot"
    × Reads p6 2000 (counts 12 2 2 1) (0x29 ∷ 1 ∷ 1 ∷ 0 ∷ 2 ∷ 12 ∷ 0 ∷ 0x69 ∷ 3 ∷ 4 ∷ nothing ∷ 0 ∷ 7 ∷ 0 ∷ []) (1 ∷ 1 ∷ 1 ∷ nothing ∷ []) (2 ∷ [])
    -- P7: "empty dict, no slot"
    × Reads p7 2000 (counts 2 1 0 0) (0x7B ∷ 1 ∷ 0 ∷ nothing ∷ 0 ∷ 2 ∷ 0 ∷ []) [] []
    -- P8: "8 at 5"
    × Refuses p8 2000 invalid_bytecode 5
    -- P9: "6 at 1"
    × Refuses p9 2000 bad_size 1
    -- "With nesting 1": P10 "10 at 2", P11 "10 at 1", P12 "10 at 1"
    × Refuses p10 1 too_deep 2
    × Refuses p11 1 too_deep 1
    × Refuses p12 1 too_deep 1
unfolding bind run letters found class_of digits pylong numbers fields contained code_fields reference header front attach strings suits child kids couples rules first_line_of parts_from ended body enter close after one value plain reading read_of sound sound_at magnitude leaf_as leaf_of padded
sheets = ((refl, refl), refl, refl, (refl, refl, refl), refl, refl, refl, refl, refl, refl, refl, refl)
