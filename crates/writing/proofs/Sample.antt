-- 01's P4, `29 02 69 01 00 00 00 54`, with the stores that its reading leaves, and the same with other headers, another link behind the last
-- entry, other first entries where none is counted, no ends and other inputs: two lendings that differ, and are written alike.
use mathlib.Core.Path.{◌≡◌, refl, sym, ◌∙◌}
use Prim.Native.Nat.{ℕ, zero, suc, ◌<◌}
use native.Mathlib.Omega.{arith}
use mathlib.Core.List.{List, [], ◌∷◌}
use lib.ListN.{get_or}
use Rattle.refusals.specs.Limits.{nothing}
use Rattle.grammar.specs.Reading.{gives}
use Rattle.grammar.specs.Letters.{letters, found, class_of}
use Rattle.grammar.specs.Fields.{fields}
use Rattle.grammar.specs.Record.{Tables, sound, sound_at, chain, whole, look, node_of}
use Rattle.writing.specs.Writing.{then, each, into}
use Rattle.writing.specs.Canonical.{integer_bytes}
use Rattle.writing.specs.Shape.{shape_of}
use Rattle.writing.specs.Steps.{writing}
use Rattle.writing.specs.Answer.{written}
use Rattle.writing.specs.Unread.{SameLinks, SameNode, SameRead}
use Rattle.writing.proofs.Unread.{links_and_bytes_unread}

abbrev pairs : (header header' header'' : ℕ) → List ℕ
pairs a b c = a ∷ 2 ∷ b ∷ 1 ∷ 0 ∷ 0 ∷ 0 ∷ c ∷ []

abbrev lent : (input : List ℕ) → (unlinked last end end' of : ℕ) → Tables
lent input unlinked last end end' of =
    record {
      input = input;
      nodes = 0x29 ∷ 1 ∷ 1 ∷ 0 ∷ 2 ∷ end ∷ of ∷ 0x69 ∷ 3 ∷ 4 ∷ unlinked ∷ 0 ∷ end' ∷ of ∷ 0x54 ∷ 8 ∷ 0 ∷ unlinked ∷ 0 ∷ end ∷ of ∷ [];
      entries = 1 ∷ 1 ∷ 2 ∷ last ∷ [];
      used_nodes = 3;
      used_entries = 2;
    }

abbrev as_read : Tables
as_read = lent (pairs 0x29 0x69 0x54) nothing nothing 8 7 0

abbrev changed : Tables
changed = lent (pairs 0 0xFF 0x4E) 7 0 0 0 3

-- the bytes behind the three headers
unchanged : (i : ℕ) → (i ≡ 0 → ⊥) → (i ≡ 2 → ⊥) → (i ≡ 7 → ⊥) → get_or as_read.input i 0 ≡ get_or changed.input i 0
unchanged zero a b c = absurd (a refl)
unchanged (suc zero) a b c = refl
unchanged (suc (suc zero)) a b c = absurd (b refl)
unchanged (suc (suc (suc zero))) a b c = refl
unchanged (suc (suc (suc (suc zero)))) a b c = refl
unchanged (suc (suc (suc (suc (suc zero))))) a b c = refl
unchanged (suc (suc (suc (suc (suc (suc zero)))))) a b c = refl
unchanged (suc (suc (suc (suc (suc (suc (suc zero))))))) a b c = absurd (c refl)
unchanged (suc (suc (suc (suc (suc (suc (suc (suc i)))))))) a b c = refl

differ_only_there : SameRead as_read changed
unfolding SameLinks class_of letters found
differ_only_there = record { length_of_lem = refl; nodes_in_lem = refl; entries_in_lem = refl; each-node = node }
  where
    node : (n : ℕ) → n < 3 → SameNode as_read changed (node_of as_read n) (node_of changed n)
    node zero h =
        record {
          letter = refl;
          place = refl;
          size = refl;
          count = refl;
          links = (refl, λ l. (refl, (refl, λ k. (refl, tt))));
          bytes = λ i l k. unchanged i (λ e. omega arith) (λ e. omega arith) (λ e. omega arith);
        }
    node (suc zero) h =
        record {
          letter = refl;
          place = refl;
          size = refl;
          count = refl;
          links = tt;
          bytes = λ i l k. unchanged i (λ e. omega arith) (λ e. omega arith) (λ e. omega arith);
        }
    node (suc (suc zero)) h =
        record {
          letter = refl;
          place = refl;
          size = refl;
          count = refl;
          links = tt;
          bytes = λ i l k. unchanged i (λ e. omega arith) (λ e. omega arith) (λ e. omega arith);
        }
    node (suc (suc (suc n))) h = absurd (omega arith)

pub written-alike : written changed 0 2 11 ≡ gives (0x28 ∷ 2 ∷ 0 ∷ 0 ∷ 0 ∷ 0x69 ∷ 1 ∷ 0 ∷ 0 ∷ 0 ∷ 0x54 ∷ [])
unfolding letters found class_of fields sound sound_at chain whole look then each into integer_bytes shape_of writing written
written-alike = sym (links_and_bytes_unread as_read changed differ_only_there 0 2 11) ∙ refl
