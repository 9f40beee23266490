-- A leaf's tests are those of its record, and its bytes are its writing. Assumes nothing.
use mathlib.Core.Path.{◌≡◌, refl, sym, ap, subst, ◌∙◌}
use Prim.Native.Nat.{ℕ, zero, suc, ◌+◌, ◌-◌, ◌≤◌, ◌<◌}
use native.Mathlib.Omega.{arith}
use mathlib.Core.Bool.{Bool, true, false, cond, ◌&&◌}
use mathlib.Core.Option.{some, none}
use mathlib.Core.List.{List, [], ◌∷◌}
use lib.ListN.{length, get_or}
use lib.Dec.{eqb}
use borrow.Author.Tests.{lt-ltb, le-leb, eq-eqb, ne_eqb, eqb-true}
use Rattle.grammar.specs.Letters as letter
use Rattle.grammar.specs.Letters.{Class, keeps, contains, codes, class_of, letters, found, is_bytes, is_string}
use Rattle.grammar.specs.Reading.{stops}
use Rattle.refusals.specs.Numbers.{data_too_short, too_deep}
use Rattle.grammar.specs.Steps.{as_bytes}
use Rattle.grammar.specs.Fields.{fields, span, items}
use Rattle.grammar.specs.State.{Node, node_at}
use Rattle.grammar.specs.Record.{Tables, node_of, nodes_in, chain, whole, sound, sound_at, ruled, reads_as, containing, suited}
use Rattle.grammar.proofs.Lettered.{among-each}
use Rattle.grammar.proofs.Tests.{both_true}
use Rattle.grammar.proofs.Passed.{sound-ruled, sound_at_lem, unless_none, fits-some, fits-sound}
use Rattle.writing.specs.Shape.{classed}
use Rattle.writing.specs.Writing.{Writing, refused}
use Rattle.writing.specs.Steps.{shaped, writing}
use Rattle.output.specs.Puts.{Wrote, Puts}
use Rattle.writecheck.specs.declared.Used.{Used}
use Rattle.writecheck.specs.Looking.{lent}
use Rattle.writecheck.proofs.Codes.{code_class_lem, look-plain}
use Rattle.writeleaves.specs.declared.Leaf.{Leaf}
use Rattle.writeleaves.specs.declared.Leaf.TheVariants as leaf
use Rattle.writeleaves.specs.Leaves.{Leafed, four_at, sized_at, LeafIs, LeafAt, Leaves, text_if, Led, LeadAs, Leads}
use Rattle.underway.specs.Rows.{out_of_levels}
use Rattle.underway.proofs.Forms.{as_four, as_bytes as bytes_as, as_text, as_short}
use Rattle.underway.proofs.Under.{puts_equal, puts-told}
use Rattle.underway.proofs.Levels.{parts_by, writing-holds}
use Rattle.std.specs.Prelude.{Option, None, Some, Ok, Err}

-- The record of each kind: contents of so many bytes, and an integer of four.

leaf_sized : (s : List ℕ) (n : Node) {sort : letter.Sort} {l : ℕ} → class_of n.letter ≡ contains sort
    → ((f : ℕ → Writing) (g : ℕ → List ℕ → Writing) (kids : List ℕ) → shaped f g (classed s n kids (class_of n.letter)) ≡ sized_at s l n.place n.size)
    → sound s n ≡ true → LeafIs s n (Some (leaf.Sized l n.place n.size))
leaf_sized s n {sort} is writes sounds =
    let r = sound-ruled s n sounds in (
      record {
        sounds = sounds;
        childless = eqb-true n.count 0 (both_true (eqb n.count 0) (containing s n sort) (sym (ap (ruled s n) is) ∙ r.1)).0;
        no_code = λ e. apart (sym is ∙ e);
        writes = writes;
      },
      r.0,
    )
  where
    apart : contains sort ≡ codes → ⊥
    apart e = let z : ◌≡◌ {A = ℕ} 0 1 = cc in omega arith

module _ (s : List ℕ) (n : Node) (none_there : n.count ≡ 0) (within : n.place + n.size ≤ length s) where
  sounds_so : {class : Class} → class_of n.letter ≡ class → ruled s n class ≡ true → sound s n ≡ true
  unfolding sound
  sounds_so is rules = ap (λ b. b && ruled s n (class_of n.letter)) (le-leb (n.place + n.size) (length s) within) ∙ ap (ruled s n) is ∙ rules

  count_so : eqb n.count 0 ≡ true
  count_so = eq-eqb n.count 0 none_there

  pub leaf_four : ((i : ℕ) → get_or s i 0 < 256) → class_of n.letter ≡ keeps (letter.fixed 4) → n.size ≡ 4 → LeafIs s n (Some (leaf.Four n.place))
  unfolding fields
  leaf_four small is four = (
    record {
      sounds = sounds_so is rules;
      childless = none_there;
      no_code = λ e. apart (sym is ∙ e);
      writes = λ f g kids. as_four s small n f g kids is there;
    },
    there,
  )
    where
      there : n.place + 4 ≤ length s
      there = omega arith

      apart : keeps (letter.fixed 4) ≡ codes → ⊥
      apart e = let z : ◌≡◌ {A = ℕ} 0 1 = cc in omega arith

      rules : ruled s n (keeps (letter.fixed 4)) ≡ true
      rules =
          ap (λ b. reads_as (cond b (span n.place 4 (items 0)) (stops data_too_short n.place)) n) (le-leb (n.place + 4) (length s) there)
          ∙ ap (λ b. b && eqb n.count 0) (eq-eqb n.size 4 four) ∙ count_so

  pub leaf_bytes : ((i : ℕ) → get_or s i 0 < 256) → class_of n.letter ≡ contains letter.bytes → LeafIs s n (Some (leaf.Sized 0x73 n.place n.size))
  leaf_bytes small is =
      leaf_sized s n is (λ f g kids. bytes_as s small n f g kids is) (sounds_so is (ap (λ b. b && true) count_so))

-- a string, whichever its letter is
pub leaf_string : (s : List ℕ) (n : Node) → ((i : ℕ) → get_or s i 0 < 256) → is_string n.letter ≡ true → (b : Bool) → b ≡ sound s n
    → LeafIs s n (text_if b n.place n.size)
unfolding class_of letters found
leaf_string s n small is false formed = tt
leaf_string s n small is true formed =
    among-each (λ l. n.letter ≡ l → LeafIs s n (Some (leaf.Sized 0x75 n.place n.size))) n.letter (0x75 ∷ 0x74 ∷ 0x61 ∷ 0x41 ∷ 0x7A ∷ 0x5A ∷ [])
    (of_text refl, (of_text refl, (of_text refl, (of_text refl, (of_short refl, (of_short refl, tt)))))) is refl
  where
    of_text : {l : ℕ} → class_of l ≡ contains letter.text → n.letter ≡ l → LeafIs s n (Some (leaf.Sized 0x75 n.place n.size))
    of_text c q = let k = ap class_of q ∙ c in leaf_sized s n k (λ f g kids. as_text s small n f g kids k) (sym formed)

    of_short : {l : ℕ} → class_of l ≡ contains letter.short → n.letter ≡ l → LeafIs s n (Some (leaf.Sized 0x75 n.place n.size))
    of_short c q = let k = ap class_of q ∙ c in leaf_sized s n k (λ f g kids. as_short s small n f g kids k) (sym formed)

-- The writing of a leaf, with a level left.

module _ (t : Tables) (n : ℕ) (below : n < nodes_in t.nodes t.used_nodes) {w : Writing} (k : Leafed t.input (node_of t n) w) where
  no_letter : (node_of t n).letter ≡ 0x63 → ⊥
  no_letter e = k.no_code (code_class_lem (node_of t n).letter e)

  levels_left : (a : ℕ) → 0 < a → false ≡ out_of_levels t a n
  levels_left zero h = absurd (omega arith)
  levels_left (suc zero) h =
      sym (ap (λ b. b && eqb (node_of t n).letter 0x63) (lt-ltb n (nodes_in t.nodes t.used_nodes) below) ∙ ne_eqb (node_of t n).letter 0x63 no_letter)
  levels_left (suc (suc a)) h = refl

  no_kids : whole t n ≡ some []
  unfolding whole sound_at chain
  no_kids =
      ap (λ b. cond (b && sound t.input (node_of t n)) (chain t (node_of t n).count (node_of t n).first) none) (lt-ltb n (nodes_in t.nodes t.used_nodes) below)
      ∙ ap (λ b. cond b (chain t (node_of t n).count (node_of t n).first) none) k.sounds
      ∙ ap (λ c. chain t c (node_of t n).first) k.childless

  leaf_written : (a : ℕ) → 0 < a → writing a t n ≡ w
  leaf_written a h =
      let held = look-plain t n [] no_kids no_letter in
      writing-holds t a n (levels_left a h) held.kids held.holds-kids
      ∙ k.writes (writing (a - 1) t) (parts_by t a n) held.kids

-- bytes of a code, as it has tested them
module _ (t : Tables) (small : (i : ℕ) → get_or t.input i 0 < 256) (v : ℕ) (fits : suited t as_bytes v (whole t v) ≡ none) where
  bytes-sound : (v < nodes_in t.nodes t.used_nodes) × (sound t.input (node_of t v) ≡ true)
  bytes-sound = sound_at_lem t v (fits-sound t as_bytes v fits)

  bytes_class : class_of (node_of t v).letter ≡ contains letter.bytes
  unfolding class_of letters found
  bytes_class =
      let w = fits-some t as_bytes v (whole t v) fits in
      among-each (λ l. class_of l ≡ contains letter.bytes) (node_of t v).letter (0x73 ∷ []) (refl, tt)
      (unless_none (is_bytes (node_of t v).letter) v (sym (ap (suited t as_bytes v) w.1) ∙ fits))

  bytes_leaf : LeafIs t.input (node_of t v) (Some (leaf.Sized 0x73 (node_of t v).place (node_of t v).size))
  bytes_leaf = leaf_sized t.input (node_of t v) bytes_class (λ f g kids. bytes_as t.input small (node_of t v) f g kids bytes_class) bytes-sound.1

  pub bytes_in_lem : (node_of t v).place + (node_of t v).size ≤ length t.input
  bytes_in_lem = bytes_leaf.1

  pub bytes-written : (a : ℕ) → 0 < a → writing a t v ≡ sized_at t.input 0x73 (node_of t v).place (node_of t v).size
  bytes-written a h = leaf_written t v bytes-sound.0 bytes_leaf.0 a h

-- without a level nothing is written
pub deep-written : (t : Tables) (v a : ℕ) → a ≡ 0 → writing a t v ≡ refused too_deep v
unfolding writing
deep-written t v a e = ap (λ k. writing k t v) e

pub leaf_held : (s nodes : List ℕ) (used : Used) (a n : ℕ) {N : Node} {r : Option Leaf} → 0 < a → n < nodes_in nodes used.nodes
    → N ≡ node_at nodes n → LeafIs s N r → Leaves s nodes used a n r
leaf_held s nodes used a n {N} {r} level below is told =
    record { tells = λ entries. go (lent s nodes entries used) below r (subst (λ x. LeafIs s x r) is told) }
  where
    go : (t : Tables) → n < nodes_in t.nodes t.used_nodes → (r : Option Leaf) → LeafIs t.input (node_of t n) r → LeafAt t a n r
    go t b None k = tt
    go t b (Some (leaf.Four place)) k = (leaf_written t n b k.0 a level, k.1)
    go t b (Some (leaf.Sized letter place size)) k = (leaf_written t n b k.0 a level, k.1)

pub leaf_other : (s nodes : List ℕ) (used : Used) (a n : ℕ) → Leaves s nodes used a n None
leaf_other s nodes used a n = record { tells = λ entries. tt }

-- A leaf that was written, by what it was said to be.

abbrev led_of : Wrote → Led
led_of (Ok end) = Ok (Some end)
led_of (Err stop) = Err stop

module _ {s nodes : List ℕ} {used : Used} {a n : ℕ} {r : Option Leaf} (told : Leaves s nodes used a n r) where
  pub four_in : {place : ℕ} → r ≡ Some (leaf.Four place) → place + 4 ≤ length s
  four_in e = (subst (LeafAt (lent s nodes [] used) a n) e (told.tells [])).1

  pub sized_in : {letter place size : ℕ} → r ≡ Some (leaf.Sized letter place size) → place + size ≤ length s
  sized_in e = (subst (LeafAt (lent s nodes [] used) a n) e (told.tells [])).1

  module _ {at : ℕ} {o o' : List ℕ} {w w' : Wrote} where
    leads : ((entries : List ℕ) → Puts (writing a (lent s nodes entries used) n) at o w o') → w ≡ w' → Leads s nodes used a n at o (led_of w') o'
    leads put e = record { same = (put []).same; tells = λ entries. go (lent s nodes entries used) w' (puts-told (put entries) e) }
      where
        go : (t : Tables) (w : Wrote) → Puts (writing a t n) at o w o' → LeadAs t a n at o (led_of w) o'
        go t (Ok end) k = k
        go t (Err stop) k = k

    pub four_led : {place : ℕ} → r ≡ Some (leaf.Four place) → Puts (four_at s place) at o w o' → w ≡ w' → Leads s nodes used a n at o (led_of w') o'
    four_led e put = leads (λ entries. puts_equal put (subst (LeafAt (lent s nodes entries used) a n) e (told.tells entries)).0)

    pub sized_led : {letter place size : ℕ} → r ≡ Some (leaf.Sized letter place size) → Puts (sized_at s letter place size) at o w o' → w ≡ w'
        → Leads s nodes used a n at o (led_of w') o'
    sized_led e put = leads (λ entries. puts_equal put (subst (LeafAt (lent s nodes entries used) a n) e (told.tells entries)).0)

pub left_led : {s nodes : List ℕ} {used : Used} {a n at : ℕ} {o : List ℕ} → Leads s nodes used a n at o (Ok None) o
left_led = record { same = refl; tells = λ entries. refl }
