-- What any stores mean, also stores that no reading made: where `value_of` finds a value, the node means it, and it is proper. So theorem C
-- holds of whatever a writer is lent. Assumes that the input is bytes, 16 MiB at most.
use mathlib.Core.Path.{◌≡◌, refl, sym, ap, ◌∙◌}
use Prim.Native.Nat.{ℕ, ◌+◌, ◌≤◌}
use native.Mathlib.Omega.{arith}
use mathlib.Core.Bool.{Bool, true, false}
use mathlib.Core.Option.{none, some}
use mathlib.Core.List.{List, [], ◌∷◌}
use lib.ListN.{length, get_or}
use Rattle.grammar.specs.Letters.{is_bytes, is_tuple, is_string}
use Rattle.grammar.specs.Steps.{Rule, whatever, as_bytes, as_tuple, as_names, as_string, rules}
use Rattle.grammar.specs.Record.{sound_at, Tables, whole, node_of, bad_string, names, suited, bad_part}
use Rattle.grammar.proofs.Tests.{none-some, same_some, both_true}
use Rattle.grammar.proofs.Passed.{first_string, unless_none, or-none, looked_held}
use Rattle.writing.specs.Shape.{shape_of}
use Rattle.meaning.specs.Value.{Value, Values, nil, more, sequence, count_of}
use Rattle.meaning.specs.Proper.{AllTexts, Suits, SuitFrom}
use Rattle.meaning.proofs.Means.{Means, MeanAll, tag, means_seen}
use Rattle.meaning.proofs.Inversion.{bytes_tagged, text_tagged, tuple-shaped, tagged_bytes, tagged_text, tagged_sequence, same_letter}
use Rattle.meaning.proofs.Emits.{InTables}
use Rattle.meaning.proofs.Stores.{RulesAre}

module _ (t : Tables) where
  -- A part that passed its test means a value that suits.
  held_bytes : (n : ℕ) (v : Value) → is_bytes (node_of t n).letter ≡ true → Means (InTables t) n v → Suits as_bytes v
  unfolding shape_of
  held_bytes n v e m =
      let h = means_seen (InTables t) n v m in
      tagged_bytes v (sym h.same ∙ ap tag (sym h.seen.is) ∙ bytes_tagged (node_of t n).letter e t.input (node_of t n) h.kids)

  held_text : (n : ℕ) (v : Value) → is_string (node_of t n).letter ≡ true → Means (InTables t) n v → Suits as_string v
  unfolding shape_of
  held_text n v e m =
      let h = means_seen (InTables t) n v m in
      tagged_text v (sym h.same ∙ ap tag (sym h.seen.is) ∙ text_tagged (node_of t n).letter e t.input (node_of t n) h.kids)

  held_tuple : (n : ℕ) (v : Value) → is_tuple (node_of t n).letter ≡ true → Means (InTables t) n v → Suits as_tuple v
  unfolding shape_of Means
  held_tuple n v e m =
      let h = means_seen (InTables t) n v m in
      let x = tuple-shaped (node_of t n).letter e t.input (node_of t n) h.kids refl in
      let y = tagged_sequence v (sym h.same ∙ ap tag (sym h.seen.is ∙ x)) in
      let m' : Means (InTables t) n (sequence y.0 y.1) = rw y.2 at m in
      let z = same_letter y.0 0x28 m'.0 m'.0 (sym m'.1.is ∙ tuple-shaped (node_of t n).letter e t.input (node_of t n) m'.0 refl) in
      (y.1, y.2 ∙ ap (λ l. sequence l y.1) z)

  good_strings : (vs : Values) (kids : List ℕ) → MeanAll (InTables t) kids vs → bad_string t kids ≡ none → AllTexts vs
  unfolding Means
  good_strings nil kids m e = tt
  good_strings (more v vs) kids m e =
      let f = first_string t m.0 m.1 (rw m.2 at e) in
      let b = both_true (sound_at t.input t.nodes t.used_nodes m.0) (is_string (node_of t m.0).letter) f.0 in
      let x = held_text m.0 v b.1 m.3 in
      (x.0, x.1, good_strings vs m.1 m.4 f.1)

  good_part : (rule : Rule) (n : ℕ) (v : Value) → Means (InTables t) n v → suited t rule n (whole t n) ≡ none → Suits rule v
  unfolding Means
  good_part whatever n v m e = tt
  good_part as_bytes n v m e =
      let h = means_seen (InTables t) n v m in
      let w = (looked_held t n h.kids h.seen.held).linked in
      held_bytes n v (unless_none (is_bytes (node_of t n).letter) n (ap (suited t as_bytes n) (sym w) ∙ e)) m
  good_part as_tuple n v m e =
      let h = means_seen (InTables t) n v m in
      let w = (looked_held t n h.kids h.seen.held).linked in
      held_tuple n v (unless_none (is_tuple (node_of t n).letter) n (ap (suited t as_tuple n) (sym w) ∙ e)) m
  good_part as_string n v m e =
      let h = means_seen (InTables t) n v m in
      let w = (looked_held t n h.kids h.seen.held).linked in
      held_text n v (unless_none (is_string (node_of t n).letter) n (ap (suited t as_string n) (sym w) ∙ e)) m
  good_part as_names n v m e =
      let h = means_seen (InTables t) n v m in
      let w = (looked_held t n h.kids h.seen.held).linked in
      go (is_tuple (node_of t n).letter) refl h.kids w (ap (suited t as_names n) (sym w) ∙ e)
    where
      go : (b : Bool) → is_tuple (node_of t n).letter ≡ b → (kids : List ℕ) → whole t n ≡ some kids → names t n b kids ≡ none → Suits as_names v
      go true q kids w e =
          let x = held_tuple n v q m in
          let m' : Means (InTables t) n (sequence 0x28 x.0) = rw x.1 at m in
          let w' = (looked_held t n m'.0 m'.1.held).linked in
          let z : kids ≡ m'.0 = same_some (sym w ∙ w') in
          (x.0, x.1, good_strings x.0 m'.0 m'.2 (rw z at e))
      go false q kids w e = none-some (sym e)

  pub good_parts : (vs : Values) (i : ℕ) (rs : List Rule) (kids : List ℕ) → MeanAll (InTables t) kids vs → RulesAre i rs → count_of vs ≤ length rs → bad_part t rs kids ≡ none → SuitFrom i vs
  unfolding bad_part SuitFrom Means count_of
  good_parts nil i rs kids m q l e = tt
  good_parts (more v vs) i [] kids m q l e = absurd (omega (arith, l))
  good_parts (more v vs) i (x ∷ rs) kids m q l e =
      let e' : bad_part t (get_or rules i whatever ∷ rs) (m.0 ∷ m.1) ≡ none = rw (q.0, m.2) at e in
      let o = or-none (suited t (get_or rules i whatever) m.0 (whole t m.0)) (bad_part t rs m.1) e' in
      (good_part (get_or rules i whatever) m.0 v m.3 o.0, good_parts vs (i + 1) rs m.1 m.4 q.1 (omega (arith, l)) o.1)
