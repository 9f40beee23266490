-- The canonical bytes of a proper value are bytes. Assumes nothing.
use mathlib.Core.Path.{◌≡◌, refl}
use Prim.Native.Nat.{ℕ, zero, suc, ◌+◌, ◌<◌}
use native.Mathlib.Omega.{arith}
use mathlib.Core.Bool.{Bool, true, false, cond, ◌&&◌}
use mathlib.Core.List.{List, [], ◌∷◌, ◌++◌}
use lib.ListN.{length, get_or}
use lib.Dec.{ltb}
use borrow.Author.Tests.{ltb-true}
use Rattle.grammar.proofs.Lettered.{among-each}
use Rattle.writing.specs.Canonical.{Integer, bytes32, bytes64, words, bits_of, in_signed32, digits_of, digit_bytes, long_bytes, integer_bytes, sized, ascii, code_string}
use Rattle.writing.specs.Steps as writer
use Rattle.writing.specs.Steps.{Manner, as_value, as_locals, manners}
use Rattle.meaning.specs.Value.{Value, Values, nil, more, single, integer, float, complex, bytes, text, sequence, slice, dict, code, count_of, contents_of, members_of}
use Rattle.meaning.specs.Canonical.{code_strings, names_bytes, part_bytes, canonical, canonical_all, canonical_parts}
use Rattle.meaning.specs.Proper.{singles, sequences, Below, Proper, ProperAll}

pub below-append : (xs ys : List ℕ) → Below 256 xs → Below 256 ys → Below 256 (xs ++ ys)
unfolding Below
below-append [] ys p q = q
below-append (x ∷ xs) ys p q = (p.0, below-append xs ys p.1 q)

pub below_at : (xs : List ℕ) → Below 256 xs → (i : ℕ) → get_or xs i 0 < 256
unfolding Below
below_at [] p i = omega arith
below_at (x ∷ xs) p zero = p.0
below_at (x ∷ xs) p (suc i) = below_at xs p.1 i

word_octets : (x : ℕ) → Below 256 (bytes32 x)
unfolding Below
word_octets x = (omega arith, (omega arith, (omega arith, (omega arith, tt))))

words_octets : (xs : List ℕ) → Below 256 (words xs)
unfolding words Below
words_octets [] = tt
words_octets (x ∷ xs) = below-append (bytes32 x) (words xs) (word_octets x) (words_octets xs)

digit_octets : (ds : List ℕ) → Below 256 (digit_bytes ds)
unfolding digit_bytes Below
digit_octets [] = tt
digit_octets (d ∷ ds) = (omega arith, (omega arith, digit_octets ds))

integer_octets : (z : Integer) → Below 256 (integer_bytes z)
unfolding integer_bytes Below
integer_octets z = go (in_signed32 z)
  where
    go : (b : Bool) → Below 256 (cond b (0x69 ∷ bytes32 (bits_of 4294967296 z)) (long_bytes z))
    go true = (omega arith, word_octets (bits_of 4294967296 z))
    go false = (
      omega arith,
      below-append (bytes32 (bits_of 4294967296 (record { negative = z.negative; magnitude = length (digits_of z.magnitude) }))) (digit_bytes (digits_of z.magnitude))
          (word_octets (bits_of 4294967296 (record { negative = z.negative; magnitude = length (digits_of z.magnitude) }))) (digit_octets (digits_of z.magnitude)),
    )

long_octets : (x : ℕ) → Below 256 (bytes64 x)
long_octets x = below-append (bytes32 _) (bytes32 _) (word_octets _) (word_octets _)

sized_octets : (l : ℕ) (cs : List ℕ) → l < 256 → Below 256 cs → Below 256 (sized l cs)
unfolding Below
sized_octets l cs h p = (h, below-append (bytes32 (length cs)) cs (word_octets (length cs)) p)

string_octets : (cs : List ℕ) → Below 256 cs → Below 256 (code_string cs)
unfolding code_string Below
string_octets cs p = go (ltb (length cs) 256) refl (ascii cs)
  where
    go : (b : Bool) → ltb (length cs) 256 ≡ b → (a : Bool) → Below 256 (cond (b && a) (0x7A ∷ length cs ∷ cs) (sized 0x75 cs))
    go true e true = (omega arith, (ltb-true (length cs) 256 e, p))
    go true e false = sized_octets 0x75 cs (omega arith) p
    go false e a = sized_octets 0x75 cs (omega arith) p

contents_octets : (v : Value) → Proper v → Below 256 (contents_of v)
unfolding contents_of Proper Below
contents_octets (single letter) p = tt
contents_octets (integer z) p = tt
contents_octets (float bits) p = tt
contents_octets (complex real imaginary) p = tt
contents_octets (bytes contents) p = p.1
contents_octets (text contents) p = p.0.1
contents_octets (sequence letter vs) p = tt
contents_octets (slice vs) p = tt
contents_octets (dict vs) p = tt
contents_octets (code numbers parts line tables) p = tt

strings_octets : (vs : Values) → ProperAll vs → Below 256 (code_strings vs)
unfolding code_strings Proper Below
strings_octets nil p = tt
strings_octets (more v vs) p = below-append (code_string (contents_of v)) (code_strings vs) (string_octets (contents_of v) (contents_octets v p.0)) (strings_octets vs p.1)

members_proper : (v : Value) → Proper v → ProperAll (members_of v)
unfolding members_of Proper
members_proper (single letter) p = tt
members_proper (integer z) p = tt
members_proper (float bits) p = tt
members_proper (complex real imaginary) p = tt
members_proper (bytes contents) p = tt
members_proper (text contents) p = tt
members_proper (sequence letter vs) p = p.2
members_proper (slice vs) p = tt
members_proper (dict vs) p = tt
members_proper (code numbers parts line tables) p = tt

names_octets : (vs : Values) → ProperAll vs → Below 256 (names_bytes vs)
unfolding Below
names_octets vs p = (omega arith, below-append (bytes32 (count_of vs)) (code_strings vs) (word_octets (count_of vs)) (strings_octets vs p))

part_octets : (m : Manner) (v : Value) → Proper v → Below 256 (canonical v) → Below 256 (part_bytes m (canonical v) v)
part_octets as_value v p h = h
part_octets writer.as_names v p h = names_octets (members_of v) (members_proper v p)
part_octets as_locals v p h = names_octets (members_of v) (members_proper v p)
part_octets writer.as_string v p h = string_octets (contents_of v) (contents_octets v p)

abbrev Small : ℕ → Type 0
Small l = l < 256

mutual
  unfolding canonical Proper Below

  pub octets : (v : Value) → Proper v → Below 256 (canonical v)
  octets (single letter) p = (among-each Small letter singles (omega arith, (omega arith, (omega arith, (omega arith, (omega arith, tt))))) p, tt)
  octets (integer z) p = integer_octets z
  octets (float bits) p = (omega arith, long_octets bits)
  octets (complex real imaginary) p = (omega arith, below-append (bytes64 real) (bytes64 imaginary) (long_octets real) (long_octets imaginary))
  octets (bytes contents) p = sized_octets 0x73 contents (omega arith) p.1
  octets (text contents) p = sized_octets 0x75 contents (omega arith) p.0.1
  octets (sequence letter vs) p =
      (among-each Small letter sequences (omega arith, (omega arith, (omega arith, (omega arith, tt)))) p.0, below-append (bytes32 (count_of vs)) (canonical_all vs) (word_octets (count_of vs)) (all_octets vs p.2))
  octets (slice vs) p = (omega arith, all_octets vs p.1)
  octets (dict vs) p = (omega arith, below-append (canonical_all vs) (0x30 ∷ []) (all_octets vs p.1) (omega arith, tt))
  octets (code numbers parts line tables) p = (
    omega arith,
    below-append (words numbers ++ canonical_parts 0 parts ++ bytes32 line) (canonical_all tables)
        (below-append (words numbers ++ canonical_parts 0 parts) (bytes32 line) (below-append (words numbers) (canonical_parts 0 parts) (words_octets numbers) (parts_octets parts 0 p.1)) (word_octets line)) (all_octets tables p.2),
  )

  all_octets : (vs : Values) → ProperAll vs → Below 256 (canonical_all vs)
  all_octets nil p = tt
  all_octets (more v vs) p = below-append (canonical v) (canonical_all vs) (octets v p.0) (all_octets vs p.1)

  parts_octets : (vs : Values) (i : ℕ) → ProperAll vs → Below 256 (canonical_parts i vs)
  parts_octets nil i p = tt
  parts_octets (more v vs) i p =
      below-append (part_bytes (get_or manners i as_value) (canonical v) v) (canonical_parts (i + 1) vs) (part_octets (get_or manners i as_value) v p.0 (octets v p.0)) (parts_octets vs (i + 1) p.1)
