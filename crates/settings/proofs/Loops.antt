-- The two loops of the rewriting: what is left of the fields still comes to the same output. Assumes nothing.
use mathlib.Core.Path.{◌≡◌, refl, sym, ap, ◌∙◌, subst}
use mathlib.Core.Bool.{cond}
use mathlib.Core.List.{List, [], ◌++◌, append_assoc}
use mathlib.Core.Option.{Option, none, some}
use Prim.Native.Nat.{ℕ, ◌+◌, ◌-◌, ◌≤◌, ◌<◌}
use native.Mathlib.Omega.{arith}
use lib.Dec.{eqb}
use lib.ListN.{length, get_or}
use borrow.Author.Tests.{eq-eqb, ne_eqb}
use Rattle.taggedfields.specs.Fields.{Field, reading, field_in, bytes_of, spelt}
use Rattle.taggedfields.specs.Looking.{placed, size_in, field_at, bytes_at}
use Rattle.taggedfields.proofs.Parts.{field_found}
use Rattle.taggedfields.proofs.Spelt.{Bytes, bytes_at_lem, in_bytes}
use Rattle.taggedfields.proofs.Unread.{Unread, rest, unread_start, unread_end, unread_next}
use Rattle.std.specs.Prelude as rust
use Rattle.settings.specs.Rewriting.{or_new, changed, if_new, added}
use Rattle.settings.specs.Putting.{after, Puts}

-- so many bytes are left of those that an output is to get
abbrev pub Left : (room start : ℕ) (out₀ all out : List ℕ) (used : ℕ) (left : List ℕ) → Type 0
Left room start out₀ all out used left = (more : List ℕ) → after room used out (left ++ more) ≡ after room start out₀ (all ++ more)

-- bytes are put, and what comes behind them is left
put_more : {room : ℕ} (start : ℕ) (out₀ all : List ℕ) {out : List ℕ} {used : ℕ} (left bytes left' : List ℕ) → Left room start out₀ all out used left → left ≡ bytes ++ left'
    → {out' : List ℕ} {r : ℕ} → Puts room used out bytes (rust.Some r) out' → Left room start out₀ all out' r left'
put_more {room} start out₀ all {out} {used} left bytes left' g e {out'} {r} p =
    λ more. p.comes (left' ++ more) ∙ ap (after room used out) (sym (append_assoc bytes left' more)) ∙ ap (λ x. after room used out (x ++ more)) (sym e) ∙ g more

-- bytes that do not fit
put_no_more : {room : ℕ} (start : ℕ) (out₀ all : List ℕ) {out : List ℕ} {used : ℕ} (left bytes left' : List ℕ) → Left room start out₀ all out used left → left ≡ bytes ++ left'
    → {out' out'' : List ℕ} → Puts room used out bytes rust.None out' → Puts room start out₀ all rust.None out''
put_no_more {room} start out₀ all {out} {used} left bytes left' g e {out'} p =
    record {
      upto = λ q. absurd (cc);
      comes = λ more. p.comes (left' ++ more) ∙ ap (after room used out) (sym (append_assoc bytes left' more)) ∙ ap (λ x. after room used out (x ++ more)) (sym e) ∙ g more;
    }

-- a place that is noted for a tag is a whole field's
pub place-whole : (file : List ℕ) (t place : ℕ) → place ≡ placed (field_in file t) → 0 < place → place - 1 + 3 + size_in file (place - 1) ≤ length file
place-whole file t place e h = go (field_in file t) refl e
  where
    go : (o : Option Field) → field_in file t ≡ o → place ≡ placed o → place - 1 + 3 + size_in file (place - 1) ≤ length file
    go none q d = absurd (omega arith)
    go (some f) q d =
        let i = (field_found file t f q).0 in
        let a : f.place ≡ place - 1 = omega arith in
        subst (λ n. n + 3 + size_in file n ≤ length file) a (omega (arith, i.within, i.size))

-- the field's bytes, or those that the changes have
pub new-bytes : (file changes : List ℕ) (at place : ℕ) → Bytes file → Bytes changes → at + 3 + size_in file at ≤ length file → place ≡ placed (field_in changes (get_or file at 0))
    → bytes_of (or_new (field_at file at) (field_in changes (get_or file at 0))) ≡ cond (eqb place 0) (bytes_at file at) (bytes_at changes (place - 1))
new-bytes file changes at place b c h e = go (field_in changes (get_or file at 0)) refl e
  where
    go : (o : Option Field) → field_in changes (get_or file at 0) ≡ o → place ≡ placed o
        → bytes_of (or_new (field_at file at) o) ≡ cond (eqb place 0) (bytes_at file at) (bytes_at changes (place - 1))
    go none q d = sym (bytes_at_lem file at b h) ∙ ap (λ t. cond t (bytes_at file at) (bytes_at changes (place - 1))) (sym (eq-eqb place 0 d))
    go (some g) q d =
        let a : g.place ≡ place - 1 = omega arith in
        in_bytes changes g c (field_found changes (get_or file at 0) g q).0 ∙ ap (bytes_at changes) a
        ∙ ap (λ t. cond t (bytes_at file at) (bytes_at changes (place - 1))) (sym (ne_eqb place 0 (λ z. omega arith)))

-- ---- the fields of the file, changed
pub record KeptSoFar (file changes : List ℕ) (room : ℕ) (out₀ out : List ℕ) (at used : ℕ) : Type 0 where
  pub unread : Unread file at
  pub within : at ≤ length file
  pub same : length out ≡ length out₀
  pub upto : used ≤ room
  pub left : Left room 0 out₀ (spelt (changed (reading changes).fields (reading file).fields)) out used (spelt (changed (reading changes).fields (rest unread)))

pub kept_start : {file changes : List ℕ} {room : ℕ} {out : List ℕ} → (reading file).fault ≡ none → KeptSoFar file changes room out out 0 0
kept_start {file} {changes} {room} {out} e =
    let u = unread_start file e in
    record {
      unread = u.0;
      within = omega arith;
      same = refl;
      upto = omega arith;
      left = λ more. ap (λ fs. after room 0 out (spelt (changed (reading changes).fields fs) ++ more)) u.1;
    }

pub kept_whole : {file changes : List ℕ} {room : ℕ} {out₀ out : List ℕ} {at used : ℕ} → KeptSoFar file changes room out₀ out at used → at < length file
    → at + 3 + size_in file at ≤ length file
kept_whole g h = (unread_next g.unread h).whole

pub kept_more : {file changes : List ℕ} {room : ℕ} {out₀ out : List ℕ} {at used place size : ℕ} {out' : List ℕ} {r : ℕ} → KeptSoFar file changes room out₀ out at used → at < length file
    → Bytes file → Bytes changes → place ≡ placed (field_in changes (get_or file at 0)) → size ≡ size_in file at → length out' ≡ length out
    → Puts room used out (cond (eqb place 0) (bytes_at file at) (bytes_at changes (place - 1))) (rust.Some r) out' → KeptSoFar file changes room out₀ out' (at + 3 + size) r
unfolding changed spelt
kept_more {file} {changes} {room} {out₀} {out} {at} {used} {place} {size} {out'} {r} g h b c e z l p =
    let n = unread_next g.unread h in
    let cs = (reading changes).fields in
    let new = cond (eqb place 0) (bytes_at file at) (bytes_at changes (place - 1)) in
    let behind = spelt (changed cs (rest n.behind)) in
    let s : spelt (changed cs (rest g.unread)) ≡ new ++ behind =
    ap (λ fs. spelt (changed cs fs)) n.splits ∙ ap (λ x. x ++ behind) (new-bytes file changes at place b c n.whole e) in
    subst (λ m. KeptSoFar file changes room out₀ out' (at + 3 + m) r) (sym z)
    (record {
      unread = n.behind;
      within = n.whole;
      same = l ∙ g.same;
      upto = p.upto refl;
      left = put_more 0 out₀ (spelt (changed cs (reading file).fields))
          (spelt (changed cs (rest g.unread))) new behind g.left s p;
    })

pub kept_short : {file changes : List ℕ} {room : ℕ} {out₀ out : List ℕ} {at used place : ℕ} {out' out'' : List ℕ} → KeptSoFar file changes room out₀ out at used → at < length file
    → Bytes file → Bytes changes → place ≡ placed (field_in changes (get_or file at 0))
    → Puts room used out (cond (eqb place 0) (bytes_at file at) (bytes_at changes (place - 1))) rust.None out'
    → Puts room 0 out₀ (spelt (changed (reading changes).fields (reading file).fields)) rust.None out''
unfolding changed spelt
kept_short {file} {changes} {room} {out₀} {out} {at} {used} {place} g h b c e p =
    let n = unread_next g.unread h in
    let cs = (reading changes).fields in
    let new = cond (eqb place 0) (bytes_at file at) (bytes_at changes (place - 1)) in
    let behind = spelt (changed cs (rest n.behind)) in
    let s : spelt (changed cs (rest g.unread)) ≡ new ++ behind =
    ap (λ fs. spelt (changed cs fs)) n.splits ∙ ap (λ x. x ++ behind) (new-bytes file changes at place b c n.whole e) in
    put_no_more 0 out₀ (spelt (changed cs (reading file).fields)) (spelt (changed cs (rest g.unread))) new behind g.left s p

pub kept_end : {file changes : List ℕ} {room : ℕ} {out₀ out : List ℕ} {at used : ℕ} → KeptSoFar file changes room out₀ out at used → length file ≤ at
    → Puts room 0 out₀ (spelt (changed (reading changes).fields (reading file).fields)) (rust.Some used) out
unfolding changed spelt
kept_end {file} {changes} {room} {out₀} {out} {at} {used} g h =
    let e : spelt (changed (reading changes).fields (rest g.unread)) ≡ [] = ap (λ fs. spelt (changed (reading changes).fields fs)) (unread_end g.unread h) in
    record { upto = λ {n} q. (let z : used ≡ n = cc in let u = g.upto in omega arith); comes = λ more. ap (λ x. after room used out (x ++ more)) (sym e) ∙ g.left more }

-- ---- the fields of the changes whose tags the file does not have
pub record AddedSoFar (changes file : List ℕ) (room start : ℕ) (out₀ out : List ℕ) (at used : ℕ) : Type 0 where
  pub unread : Unread changes at
  pub within : at ≤ length changes
  pub same : length out ≡ length out₀
  pub upto : used ≤ room
  pub left : Left room start out₀ (spelt (added (reading file).fields (reading changes).fields)) out used (spelt (added (reading file).fields (rest unread)))

pub added_start : {changes file : List ℕ} {room start : ℕ} {out : List ℕ} → (reading changes).fault ≡ none → start ≤ room → AddedSoFar changes file room start out out 0 start
added_start {changes} {file} {room} {start} {out} e s =
    let u = unread_start changes e in
    record {
      unread = u.0;
      within = omega arith;
      same = refl;
      upto = s;
      left = λ more. ap (λ fs. after room start out (spelt (added (reading file).fields fs) ++ more)) u.1;
    }

pub added-whole : {changes file : List ℕ} {room start : ℕ} {out₀ out : List ℕ} {at used : ℕ} → AddedSoFar changes file room start out₀ out at used → at < length changes
    → at + 3 + size_in changes at ≤ length changes
added-whole g h = (unread_next g.unread h).whole

-- the bytes of a field of the changes, where the file does not have its tag
new_or_none : (changes file : List ℕ) (at place : ℕ) (behind : List Field) → Bytes changes → at + 3 + size_in changes at ≤ length changes → place ≡ placed (field_in file (get_or changes at 0))
    → spelt (if_new (field_in file (get_or changes at 0)) (field_at changes at) behind) ≡ cond (eqb place 0) (bytes_at changes at) [] ++ spelt behind
unfolding spelt
new_or_none changes file at place behind b h e = go (field_in file (get_or changes at 0)) e
  where
    go : (o : Option Field) → place ≡ placed o → spelt (if_new o (field_at changes at) behind) ≡ cond (eqb place 0) (bytes_at changes at) [] ++ spelt behind
    go none d = ap (λ x. x ++ spelt behind) (sym (bytes_at_lem changes at b h)) ∙ ap (λ t. cond t (bytes_at changes at) [] ++ spelt behind) (sym (eq-eqb place 0 d))
    go (some x) d = ap (λ t. cond t (bytes_at changes at) [] ++ spelt behind) (sym (ne_eqb place 0 (λ y. omega arith)))

pub added_more : {changes file : List ℕ} {room start : ℕ} {out₀ out : List ℕ} {at used place size : ℕ} {out' : List ℕ} {r : ℕ} → AddedSoFar changes file room start out₀ out at used
    → at < length changes → Bytes changes → place ≡ placed (field_in file (get_or changes at 0)) → size ≡ size_in changes at → length out' ≡ length out
    → Puts room used out (cond (eqb place 0) (bytes_at changes at) []) (rust.Some r) out' → AddedSoFar changes file room start out₀ out' (at + 3 + size) r
unfolding added
added_more {changes} {file} {room} {start} {out₀} {out} {at} {used} {place} {size} {out'} {r} g h b e z l p =
    let n = unread_next g.unread h in
    let fs = (reading file).fields in
    let new = cond (eqb place 0) (bytes_at changes at) [] in
    let s : spelt (added fs (rest g.unread)) ≡ new ++ spelt (added fs (rest n.behind)) =
    ap (λ gs. spelt (added fs gs)) n.splits ∙ new_or_none changes file at place (added fs (rest n.behind)) b n.whole e in
    subst (λ m. AddedSoFar changes file room start out₀ out' (at + 3 + m) r) (sym z)
    (record {
      unread = n.behind;
      within = n.whole;
      same = l ∙ g.same;
      upto = p.upto refl;
      left = put_more start out₀ (spelt (added fs (reading changes).fields))
          (spelt (added fs (rest g.unread))) new (spelt (added fs (rest n.behind))) g.left s p;
    })

pub added_short : {changes file : List ℕ} {room start : ℕ} {out₀ out : List ℕ} {at used place : ℕ} {out' out'' : List ℕ} → AddedSoFar changes file room start out₀ out at used
    → at < length changes → Bytes changes → place ≡ placed (field_in file (get_or changes at 0)) → Puts room used out (cond (eqb place 0) (bytes_at changes at) []) rust.None out'
    → Puts room start out₀ (spelt (added (reading file).fields (reading changes).fields)) rust.None out''
unfolding added
added_short {changes} {file} {room} {start} {out₀} {out} {at} {used} {place} g h b e p =
    let n = unread_next g.unread h in
    let fs = (reading file).fields in
    let new = cond (eqb place 0) (bytes_at changes at) [] in
    let s : spelt (added fs (rest g.unread)) ≡ new ++ spelt (added fs (rest n.behind)) =
    ap (λ gs. spelt (added fs gs)) n.splits ∙ new_or_none changes file at place (added fs (rest n.behind)) b n.whole e in
    put_no_more start out₀ (spelt (added fs (reading changes).fields)) (spelt (added fs (rest g.unread))) new (spelt (added fs (rest n.behind))) g.left s p

pub added_end : {changes file : List ℕ} {room start : ℕ} {out₀ out : List ℕ} {at used : ℕ} → AddedSoFar changes file room start out₀ out at used → length changes ≤ at
    → Puts room start out₀ (spelt (added (reading file).fields (reading changes).fields)) (rust.Some used) out
unfolding added spelt
added_end {changes} {file} {room} {start} {out₀} {out} {at} {used} g h =
    let e : spelt (added (reading file).fields (rest g.unread)) ≡ [] = ap (λ gs. spelt (added (reading file).fields gs)) (unread_end g.unread h) in
    record { upto = λ {n} q. (let z : used ≡ n = cc in let u = g.upto in omega arith); comes = λ more. ap (λ x. after room used out (x ++ more)) (sym e) ∙ g.left more }
