-- The record test of two lendings that differ only in what is not read: the same sound nodes, the same children, the same fault. Carried by
-- chains, step by step of the count; a part or a name that passed has a number in the store, so that its record is the same. Assumes nothing.
use mathlib.Core.Path.{◌≡◌, refl, sym, ap, ap₂, ◌∙◌}
use Prim.Native.Nat.{ℕ, zero, suc, ◌<◌}
use native.Mathlib.Omega.{arith}
use mathlib.Core.Bool.{Bool, true, false, ◌&&◌}
use mathlib.Core.Option.{Option, none, some}
use mathlib.Core.List.{List, [], ◌∷◌}
use lib.ListN.{length, get_or}
use lib.Dec.{ltb}
use borrow.Author.Tests.{ltb-true}
use Rattle.grammar.specs.Letters.{Class, refers, keeps, contains, codes, refuses, letters, found, class_of, is_bytes, is_tuple, is_string}
use Rattle.grammar.specs.State.{Node, entry_at}
use Rattle.grammar.specs.Steps.{Rule, whatever, as_bytes, as_tuple, as_names, as_string, rules}
use Rattle.grammar.specs.Record.{sound, ruled, nodes_in, entries_in, sound_at, Tables, put, chain, whole, node_of, bad_string, unless, names, suited, or_else, bad_part, bad_end, judged, looked_as, looked_of, look}
use Rattle.grammar.proofs.Tests.{cond_agree, both_agree, both_true}
use Rattle.grammar.proofs.Lettered.{among-each}
use Rattle.grammar.proofs.Passed.{sound-ruled, code-ruled, sound_at_lem, whole-some, chain_length, fits-sound, fits_at}
use Rattle.writing.specs.Names.{contents_of}
use Rattle.writing.specs.Unread.{SameFrom, SameBytes, SameLinks, SameNode, SameRead}
use Rattle.writing.proofs.Alike.{linked, same_contents, same_sound, numbers-sum}

-- the letters of bytes and strings, whose span is their contents
abbrev Spanned : ℕ → Type 0
Spanned l = (s s' : List ℕ) (n : Node) → SameBytes s s' n (class_of l) → SameFrom s s' n.place n.size

spanned-bytes : (l : ℕ) → is_bytes l ≡ true → Spanned l
unfolding class_of letters found
spanned-bytes l e = among-each Spanned l (0x73 ∷ []) ((λ s s' n h. h), tt) e

spanned-string : (l : ℕ) → is_string l ≡ true → Spanned l
unfolding class_of letters found
spanned-string l e =
    among-each Spanned l (0x75 ∷ 0x74 ∷ 0x61 ∷ 0x41 ∷ 0x7A ∷ 0x5A ∷ [])
    ((λ s s' n h. h), ((λ s s' n h. h), ((λ s s' n h. h), ((λ s s' n h. h), ((λ s s' n h. h), ((λ s s' n h. h), tt)))))) e

module _ (t t' : Tables) (same : SameRead t t') where
  abbrev used : ℕ
  used = nodes_in t.nodes t.used_nodes

  abbrev is_sound : ℕ → Bool
  is_sound n = sound_at t.input t.nodes t.used_nodes n

  pub relinked : (n : ℕ) → n < used → node_of t' n ≡ linked (node_of t' n).first (node_of t' n).end (node_of t' n).input (node_of t n)
  relinked n l = let h = same.each-node n l in rw (h.letter, h.place, h.size, h.count) refl

  -- Chains and records.
  same_chain : (k e e' : ℕ) → SameLinks t t' k e e' → chain t k e ≡ chain t' k e'
  unfolding chain SameLinks
  same_chain zero e e' h = refl
  same_chain (suc k) e e' h =
      cond_agree (ltb e (entries_in t.entries t.used_entries)) (ltb e' (entries_in t'.entries t'.used_entries)) none (ap₂ ltb h.0 same.entries_in_lem)
      (λ p. let l = h.1 (ltb-true e (entries_in t.entries t.used_entries) p) in ap₂ put l.0 (same_chain k (entry_at t.entries e).next (entry_at t'.entries e').next l.1))

  pub same_sound_at : (n : ℕ) → is_sound n ≡ sound_at t'.input t'.nodes t'.used_nodes n
  unfolding sound_at
  same_sound_at n =
      both_agree (ltb n used) (ltb n (nodes_in t'.nodes t'.used_nodes)) (ap (ltb n) same.nodes_in_lem)
      (λ p. let l = ltb-true n used p in
      same_sound t.input t'.input same.length_of_lem (node_of t' n).first (node_of t' n).end (node_of t' n).input (node_of t n) (same.each-node n l).bytes ∙ ap (sound t'.input) (sym (relinked n l)))

  pub same_whole : (n : ℕ) → whole t n ≡ whole t' n
  unfolding whole
  same_whole n =
      cond_agree (is_sound n) (sound_at t'.input t'.nodes t'.used_nodes n) none (same_sound_at n)
      (λ p. let h = same.each-node n (sound_at_lem t n p).0 in
      same_chain (node_of t n).count (node_of t n).first (node_of t' n).first h.links ∙ ap (λ k. chain t' k (node_of t' n).first) h.count)

  pub same_letter : (n : ℕ) → is_sound n ≡ true → (node_of t n).letter ≡ (node_of t' n).letter
  same_letter n e = (same.each-node n (sound_at_lem t n e).0).letter

  -- Parts and names.
  same_string : (vs : List ℕ) → bad_string t vs ≡ bad_string t' vs
  unfolding bad_string
  same_string [] = refl
  same_string (v ∷ vs) =
      cond_agree (is_sound v && is_string (node_of t v).letter) (sound_at t'.input t'.nodes t'.used_nodes v && is_string (node_of t' v).letter) (some v)
      (both_agree (is_sound v) (sound_at t'.input t'.nodes t'.used_nodes v) (same_sound_at v) (λ e. ap is_string (same_letter v e))) (λ p. same_string vs)

  same_suited : (r : Rule) (v : ℕ) (o : Option (List ℕ)) → whole t v ≡ o → suited t r v o ≡ suited t' r v o
  same_suited whatever v none q = refl
  same_suited as_bytes v none q = refl
  same_suited as_tuple v none q = refl
  same_suited as_names v none q = refl
  same_suited as_string v none q = refl
  same_suited whatever v (some kids) q = refl
  same_suited as_bytes v (some kids) q = ap (λ l. unless (is_bytes l) v) (same_letter v (whole-some t v kids q).0)
  same_suited as_tuple v (some kids) q = ap (λ l. unless (is_tuple l) v) (same_letter v (whole-some t v kids q).0)
  same_suited as_string v (some kids) q = ap (λ l. unless (is_string l) v) (same_letter v (whole-some t v kids q).0)
  same_suited as_names v (some kids) q = go (is_tuple (node_of t v).letter) ∙ ap (λ l. names t' v (is_tuple l) kids) (same_letter v (whole-some t v kids q).0)
    where
      go : (b : Bool) → names t v b kids ≡ names t' v b kids
      go true = same_string kids
      go false = refl

  pub same_part : (r : Rule) (v : ℕ) → suited t r v (whole t v) ≡ suited t' r v (whole t' v)
  same_part r v = same_suited r v (whole t v) refl ∙ ap (suited t' r v) (same_whole v)

  same_parts : (rs : List Rule) (vs : List ℕ) → bad_part t rs vs ≡ bad_part t' rs vs
  unfolding bad_part
  same_parts [] vs = refl
  same_parts (r ∷ rs) [] = refl
  same_parts (r ∷ rs) (v ∷ vs) = ap₂ or_else (same_part r v) (same_parts rs vs)

  -- The contents of strings and bytes that passed.
  contents_at : (v : ℕ) → is_sound v ≡ true → Spanned (node_of t v).letter → contents_of t v ≡ contents_of t' v
  contents_at v e spanned =
      let h = same.each-node v (sound_at_lem t v e).0 in
      rw (← h.place, ← h.size)
      (same_contents t.input t'.input same.length_of_lem (node_of t v).place (node_of t v).size (spanned t.input t'.input (node_of t v) h.bytes))

  pub string-told : (v : ℕ) → is_sound v && is_string (node_of t v).letter ≡ true → contents_of t v ≡ contents_of t' v
  string-told v e =
      let b = both_true (is_sound v) (is_string (node_of t v).letter) e in
      contents_at v b.0 (spanned-string (node_of t v).letter b.1)

  pub bytes-told : (v : ℕ) → is_sound v ≡ true → is_bytes (node_of t v).letter ≡ true → contents_of t v ≡ contents_of t' v
  bytes-told v e b = contents_at v e (spanned-bytes (node_of t v).letter b)

  -- The checks at a code's end.
  module _ (n : ℕ) (vs : List ℕ) (held : whole t n ≡ some vs) (code : class_of (node_of t n).letter ≡ codes) where
    pub own : is_sound n ≡ true
    own = (whole-some t n vs held).0

    pub ten : length vs ≡ 10
    ten =
        chain_length t (node_of t n).count (node_of t n).first vs (whole-some t n vs held).1
        ∙ (code-ruled t.input (node_of t n) (ap (ruled t.input (node_of t n)) (sym code) ∙ (sound-ruled t.input (node_of t n) (sound_at_lem t n own).1).1)).ten

    module _ (good : bad_part t rules vs ≡ none) where
      pub part-fits : (i : ℕ) → i < 10 → suited t (get_or rules i whatever) (get_or vs i 0) (whole t (get_or vs i 0)) ≡ none
      unfolding rules
      part-fits i l = fits_at t rules vs i good l (omega (arith, ten))

      part-node : (i : ℕ) → i < 10 → SameNode t t' (node_of t (get_or vs i 0)) (node_of t' (get_or vs i 0))
      part-node i l = same.each-node (get_or vs i 0) (sound_at_lem t (get_or vs i 0) (fits-sound t (get_or rules i whatever) (get_or vs i 0) (part-fits i l))).0

      same_end : bad_end t n vs ≡ bad_end t' n vs
      unfolding bad_end
      same_end =
          let h = same.each-node n (sound_at_lem t n own).0 in
          let b : SameBytes t.input t'.input (node_of t n) codes = rw code at h.bytes in
          rw (← h.place, numbers-sum t.input t'.input same.length_of_lem 0 0 0 (node_of t n) b.0, (part-node 0 (omega arith)).size, (part-node 3 (omega arith)).count, (part-node 4 (omega arith)).size)
          refl

  -- The whole test.
  same_judged : (n : ℕ) (vs : List ℕ) → whole t n ≡ some vs → (c : Class) → class_of (node_of t n).letter ≡ c → looked_as t n vs c ≡ looked_as t' n vs c
  same_judged n vs q refers p = refl
  same_judged n vs q (refuses number) p = refl
  same_judged n vs q (keeps form) p = refl
  same_judged n vs q (contains which) p = refl
  same_judged n vs q codes p = ap (judged n vs) (go (bad_part t rules vs) refl ∙ ap (λ o. or_else o (bad_end t' n vs)) (same_parts rules vs))
    where
      go : (o : Option ℕ) → bad_part t rules vs ≡ o → or_else o (bad_end t n vs) ≡ or_else o (bad_end t' n vs)
      go none e = same_end n vs q p e
      go (some v) e = refl

  pub same_look : (n : ℕ) → look t n ≡ look t' n
  unfolding look
  same_look n = go (whole t n) refl ∙ ap (looked_of t' n) (same_whole n)
    where
      go : (o : Option (List ℕ)) → whole t n ≡ o → looked_of t n o ≡ looked_of t' n o
      go none q = refl
      go (some vs) q =
          same_judged n vs q (class_of (node_of t n).letter) refl ∙ ap (λ l. looked_as t' n vs (class_of l)) (same_letter n (whole-some t n vs q).0)
