-- The parts of a code, written alike from two lendings that differ only in what is not read: its strings were tested, so that their bytes are
-- the same. Assumes nothing.
use mathlib.Core.Path.{◌≡◌, refl, sym, ap, ap₂, ◌∙◌}
use Prim.Native.Nat.{ℕ, zero, suc, ◌-◌}
use mathlib.Core.Bool.{Bool, true, false, cond, ◌||◌}
use mathlib.Core.Option.{Option, none, some}
use mathlib.Core.List.{List, [], ◌∷◌, ◌++◌}
use lib.ListN.{length, get_or, take, drop}
use Rattle.localsplus.specs.Kind.{local_bit, cell_bit, free_bit, has}
use Rattle.grammar.specs.Letters.{Class, refers, keeps, contains, codes, refuses, class_of, is_tuple, is_string}
use Rattle.grammar.specs.Steps as rule
use Rattle.grammar.specs.Steps.{Rule, rules, kinds_part, line_part}
use Rattle.grammar.specs.Record.{Tables, node_of, whole, bad_string, names, suited, or_else, bad_part, bad_end, Looked, holds, faulty, judged, looked_as, look}
use Rattle.grammar.proofs.Tests.{none-some}
use Rattle.grammar.proofs.Lettered.{Each}
use Rattle.grammar.proofs.Passed.{first_string, unless_none, or-none, fits-some, fits-sound}
use Rattle.writing.specs.Writing.{Writing, ended, emit, then, each}
use Rattle.writing.specs.Canonical.{bytes32, code_string, shown_line}
use Rattle.writing.specs.Names.{contents_of, same_bytes, having, named_in, apart_from, in_groups}
use Rattle.writing.specs.Steps.{levelled, string_part, names_part, some_of, kids_of, Manner, as_value, as_names, as_locals, as_string, manners, part, parts_as, parted}
use Rattle.writing.specs.Unread.{SameRead}
use Rattle.writing.proofs.Judging.{string-told, same_look}

each_append : (P : ℕ → Type 0) (xs ys : List ℕ) → Each P xs → Each P ys → Each P (xs ++ ys)
each_append P [] ys h k = k
each_append P (x ∷ xs) ys h k = (h.0, each_append P xs ys h.1 k)

each-having : (P : ℕ → Type 0) (bit : ℕ) (kinds vs : List ℕ) → Each P vs → Each P (having bit kinds vs)
unfolding having
each-having P bit [] vs h = tt
each-having P bit (k ∷ ks) [] h = tt
each-having P bit (k ∷ ks) (v ∷ vs) h = go (has bit k) (each-having P bit ks vs h.1)
  where
    go : (b : Bool) → Each P (having bit ks vs) → Each P (cond b (v ∷ having bit ks vs) (having bit ks vs))
    go true r = (h.0, r)
    go false r = r

bad-take : (t : Tables) (k : ℕ) (rs : List Rule) (vs : List ℕ) → bad_part t rs vs ≡ none → bad_part t (take k rs) (take k vs) ≡ none
unfolding bad_part
bad-take t zero rs vs e = refl
bad-take t (suc k) [] vs e = refl
bad-take t (suc k) (r ∷ rs) [] e = refl
bad-take t (suc k) (r ∷ rs) (v ∷ vs) e =
    let o = or-none (suited t r v (whole t v)) (bad_part t rs vs) e in
    ap₂ or_else o.0 (bad-take t k rs vs o.1)

bad-drop : (t : Tables) (k : ℕ) (rs : List Rule) (vs : List ℕ) → bad_part t rs vs ≡ none → bad_part t (drop k rs) (drop k vs) ≡ none
unfolding bad_part
bad-drop t zero rs vs e = e
bad-drop t (suc k) [] vs e = refl
bad-drop t (suc k) (r ∷ rs) [] e = go (drop k rs)
  where
    go : (xs : List Rule) → bad_part t xs [] ≡ none
    go [] = refl
    go (x ∷ xs) = refl
bad-drop t (suc k) (r ∷ rs) (v ∷ vs) e = bad-drop t k rs vs (or-none (suited t r v (whole t v)) (bad_part t rs vs) e).1

-- what is written as a string, or as names, was tested to be that
abbrev Fits : Rule → Manner → Type 0
Fits r as_value = Unit
Fits r as_names = r ≡ rule.as_names
Fits r as_locals = r ≡ rule.as_names
Fits r as_string = r ≡ rule.as_string

abbrev FitAll : List Rule → List Manner → Type 0
FitAll rs [] = Unit
FitAll [] (m ∷ ms) = ⊥
FitAll (r ∷ rs) (m ∷ ms) = Fits r m × FitAll rs ms

module _ (t t' : Tables) (same : SameRead t t') where
  -- Strings with the same contents.
  abbrev pub Told : ℕ → Type 0
  Told v = contents_of t v ≡ contents_of t' v

  strings-told : (vs : List ℕ) → bad_string t vs ≡ none → Each Told vs
  strings-told [] e = tt
  strings-told (v ∷ vs) e = let f = first_string t v vs e in (string-told t t' same v f.0, strings-told vs f.1)

  kids-told : (v : ℕ) (kids : List ℕ) → whole t v ≡ some kids → Each Told kids → Each Told (kids_of t v)
  unfolding look
  kids-told v kids q h = rw q (go (class_of (node_of t v).letter))
    where
      over : (o : Option ℕ) → Each Told (some_of t v (judged v kids o))
      over none = h
      over (some f) = tt

      go : (c : Class) → Each Told (some_of t v (looked_as t v kids c))
      go refers = tt
      go (refuses number) = tt
      go (keeps form) = h
      go (contains which) = h
      go codes = over (or_else (bad_part t rules kids) (bad_end t v kids))

  names-told : (v : ℕ) → suited t rule.as_names v (whole t v) ≡ none → Each Told (kids_of t v)
  names-told v e =
      let w = fits-some t rule.as_names v (whole t v) e in
      kids-told v w.0 w.1 (go (is_tuple (node_of t v).letter) w.0 (ap (suited t rule.as_names v) (sym w.1) ∙ e))
    where
      go : (b : Bool) (kids : List ℕ) → names t v b kids ≡ none → Each Told kids
      go true kids e = strings-told kids e
      go false kids e = none-some (sym e)

  -- Local names in their groups.
  same_named : (name : List ℕ) (vs : List ℕ) → Each Told vs → named_in t name vs ≡ named_in t' name vs
  unfolding named_in
  same_named name [] h = refl
  same_named name (v ∷ vs) h = ap₂ ◌||◌ (ap (same_bytes name) h.0) (same_named name vs h.1)

  same_apart : (locals cells : List ℕ) → Each Told locals → Each Told cells → apart_from t locals cells ≡ apart_from t' locals cells
  unfolding apart_from
  same_apart locals [] h k = refl
  same_apart locals (v ∷ vs) h k = rw (same_named (contents_of t v) locals h, k.0, same_apart locals vs h k.1) refl

  each-apart : (locals cells : List ℕ) → Each Told cells → Each Told (apart_from t locals cells)
  unfolding apart_from
  each-apart locals [] h = tt
  each-apart locals (v ∷ vs) h = go (named_in t (contents_of t v) locals) (each-apart locals vs h.1)
    where
      go : (b : Bool) → Each Told (apart_from t locals vs) → Each Told (cond b (apart_from t locals vs) (v ∷ apart_from t locals vs))
      go true r = r
      go false r = (h.0, r)

  same_groups : (kinds vs : List ℕ) → Each Told vs → (in_groups t kinds vs ≡ in_groups t' kinds vs) × Each Told (in_groups t kinds vs)
  unfolding in_groups
  same_groups kinds vs h =
      let locals = having local_bit kinds vs in
      let cells = having cell_bit kinds vs in
      let hl = each-having Told local_bit kinds vs h in
      let hc = each-having Told cell_bit kinds vs h in (
        ap (λ ws. locals ++ ws ++ having free_bit kinds vs) (same_apart locals cells hl hc),
        each_append Told (locals ++ apart_from t locals cells) (having free_bit kinds vs) (each_append Told locals (apart_from t locals cells) hl (each-apart locals cells hc)) (each-having Told free_bit kinds vs h),
      )

  -- The parts of a code.
  same_string_part : (a v : ℕ) → Told v → string_part t a v ≡ string_part t' a v
  same_string_part a v h = ap (λ bs. levelled a v (emit (code_string bs) ended)) h

  same_names_part : (a v : ℕ) (vs : List ℕ) → Each Told vs → names_part t a v vs ≡ names_part t' a v vs
  unfolding each
  same_names_part a v vs h = ap (λ w. levelled a v (emit (0x28 ∷ bytes32 (length vs)) w)) (go vs h)
    where
      go : (vs : List ℕ) → Each Told vs → each (string_part t (a - 1)) vs ≡ each (string_part t' (a - 1)) vs
      go [] h = refl
      go (v ∷ vs) h = ap₂ then (same_string_part (a - 1) v h.0) (go vs h.1)

  same_kids : (v : ℕ) → kids_of t v ≡ kids_of t' v
  same_kids v = go (look t v) ∙ ap (some_of t' v) (same_look t t' same v)
    where
      go : (l : Looked) → some_of t v l ≡ some_of t' v l
      go (holds kids) = refl
      go (faulty place) = refl

  module _ (f f' : ℕ → Writing) (same_f : (v : ℕ) → f v ≡ f' v) (a : ℕ) (kinds : List ℕ) where
    same_part_as : (m : Manner) (r : Rule) (v : ℕ) → Fits r m → suited t r v (whole t v) ≡ none → part t a f kinds m v ≡ part t' a f' kinds m v
    same_part_as as_value r v q e = same_f v
    same_part_as as_names r v q e =
        let told = names-told v (rw q at e) in
        same_names_part a v (kids_of t v) told ∙ ap (names_part t' a v) (same_kids v)
    same_part_as as_locals r v q e =
        let told = same_groups kinds (kids_of t v) (names-told v (rw q at e)) in
        same_names_part a v (in_groups t kinds (kids_of t v)) told.1 ∙ ap (names_part t' a v) (told.0 ∙ ap (in_groups t' kinds) (same_kids v))
    same_part_as as_string r v q e =
        let fits : suited t rule.as_string v (whole t v) ≡ none = rw q at e in
        let w = fits-some t rule.as_string v (whole t v) fits in
        let text = unless_none (is_string (node_of t v).letter) v (ap (suited t rule.as_string v) (sym w.1) ∙ fits) in
        same_string_part a v (string-told t t' same v (rw (fits-sound t rule.as_string v fits, text) refl))

    same_parts_as : (rs : List Rule) (ms : List Manner) (vs : List ℕ) → FitAll rs ms → bad_part t rs vs ≡ none → parts_as t a f kinds ms vs ≡ parts_as t' a f' kinds ms vs
    unfolding parts_as bad_part
    same_parts_as rs [] vs q e = refl
    same_parts_as rs (m ∷ ms) [] q e = refl
    same_parts_as [] (m ∷ ms) (v ∷ vs) q e = absurd q
    same_parts_as (r ∷ rs) (m ∷ ms) (v ∷ vs) q e =
        let o = or-none (suited t r v (whole t v)) (bad_part t rs vs) e in
        ap₂ then (same_part_as m r v q.0 o.0) (same_parts_as rs ms vs q.1 o.1)

  pub same_parted : (f f' : ℕ → Writing) → ((v : ℕ) → f v ≡ f' v) → (a line : ℕ) (vs : List ℕ) → bad_part t rules vs ≡ none → Told (get_or vs kinds_part 0)
      → parted t a f line vs ≡ parted t' a f' line vs
  unfolding parted manners rules
  same_parted f f' h a line vs e k =
      let kinds = contents_of t (get_or vs kinds_part 0) in
      ap₂ (λ u w. then u (emit (bytes32 (shown_line line)) w))
      (same_parts_as f f' h a kinds (take line_part rules) (take line_part manners) (take line_part vs) (tt, (tt, (refl, (refl, (tt, (refl, (refl, (refl, tt)))))))) (bad-take t line_part rules vs e))
      (same_parts_as f f' h a kinds (drop line_part rules) (drop line_part manners) (drop line_part vs) (tt, (tt, tt)) (bad-drop t line_part rules vs e))
      ∙ ap (λ ks. then (parts_as t' a f' ks (take line_part manners) (take line_part vs)) (emit (bytes32 (shown_line line)) (parts_as t' a f' ks (drop line_part manners) (drop line_part vs)))) k
