-- THEOREM of 02's K12: all that is promised of a join (specs/Promised). A whole table is spelt by its entries, and rows' `spells_join` puts
-- one behind the other; all else is that law twice, or once with the empty table. Assumes nothing.
use mathlib.Core.Path.{◌≡◌, refl, sym, ap, subst, ◌∙◌}
use mathlib.Core.Bool.{Bool, true, false, cond}
use mathlib.Core.List.{List, ◌++◌, append_assoc, append-nil}
use Prim.Native.Nat.{ℕ, ◌+◌, ◌≤◌, ◌<◌, ◌^◌, min}
use native.Mathlib.Omega.{arith}
use lib.ListN.{length, length-append}
use lib.Dec.{ltb}
use borrow.Author.Tests.{lt-ltb, le-ltb, eqb-true, eq-eqb}
use Rattle.std.specs.Prelude.{Result, Ok}
use Rattle.refusals.specs.Faults.{refused as refused_as}
use Rattle.refusals.specs.declared.Fault.{Fault}
use Rattle.refusals.specs.declared.Refusal.TheVariants.{InputTooLong, NoRoom, NotJoined}
use Rattle.refusals.specs.Limits.{most_bytes}
use Rattle.clearing.specs.Lent.{zeros, padded}
use Rattle.lineentry.specs.declared.Location.{Location}
use Rattle.linetable.specs.Walk.{done}
use Rattle.linetable.specs.Complete.{here}
use Rattle.rows.specs.Spells.{Spells}
use Rattle.rows.proofs.Joins.{spells_join, spells_none, spells_complete, complete_spells}
use Rattle.salvage.proofs.Kept.{spells_walk}
use Rattle.join.specs.declared.Joined.{Joined}
use Rattle.join.specs.Join.{meets, joins, join_of}
use Rattle.join.specs.Promised.{Table, Whole, leaves, Shows, followed, nothing, Meet, Allowed, joining, Promised}
use Rattle.join.proofs.Wholes.{both, whole_complete, complete_whole, spells_whole, spells_eights}

-- ---- one table behind another
spelt : (t : Table) → Whole t → (ls : List Location) × Spells t.bytes t.first t.count (leaves t) ls
spelt t w =
    let c = complete_spells w in
    (c.1, subst (λ g. Spells t.bytes t.first t.count g c.1) (sym (spells_whole c.2).1) c.2)

joined_spells : (t u : Table) {ls ms : List Location} → Spells t.bytes t.first t.count (leaves t) ls → leaves t ≡ u.first → Spells u.bytes u.first u.count (leaves u) ms
    → Spells (t.bytes ++ u.bytes) t.first (t.count + u.count) (leaves u) (ls ++ ms)
joined_spells t u {ls} A e B = spells_join (subst (λ g. Spells t.bytes t.first t.count g ls) e A) B

same_shown : {ls ms : List Location} {n : ℕ} → done ls n true ≡ done ms n true → ls ≡ ms
same_shown e = cc

shows-joined : (t u : Table) {ls ms : List Location} → Meet t u → Shows t ls → Shows u ms → Shows (followed t u) (ls ++ ms)
shows-joined t u {ls} {ms} m a b at =
    let A = spelt t m.former in
    let B = spelt u m.latter in
    let p : A.0 ≡ ls = same_shown (sym (spells_walk A.1 at) ∙ a at) in
    let q : B.0 ≡ ms = same_shown (sym (spells_walk B.1 at) ∙ b at) in
    spells_walk (joined_spells t u A.1 m.lines B.1) at ∙ ap (λ xs. done (xs ++ B.0) (t.count + u.count) true) p ∙ ap (λ ys. done (ls ++ ys) (t.count + u.count) true) q

whole-joined : (t u : Table) → Meet t u → Whole (followed t u) × (leaves (followed t u) ≡ leaves u)
whole-joined t u m =
    let J = joined_spells t u (spelt t m.former).1 m.lines (spelt u m.latter).1 in
    (spells_complete J, (spells_whole J).1)

-- ---- either order
on_the_right : (t u v : Table) → Allowed t u × Allowed (followed t u) v → Allowed u v × Allowed t (followed u v)
on_the_right t u v h =
    let l = length-append t.bytes u.bytes in
    let r = length-append u.bytes v.bytes in
    let tu = h.0.meet in
    let uv : Meet u v = record { former = tu.latter; lines = sym (whole-joined t u tu).1 ∙ h.1.meet.lines; latter = h.1.meet.latter } in
    (record { short = omega (arith, l, h.1.short); meet = uv }, record { short = omega (arith, l, r, h.1.short); meet = record { former = tu.former; lines = tu.lines; latter = (whole-joined u v uv).0 } })

on_the_left : (t u v : Table) → Allowed u v × Allowed t (followed u v) → Allowed t u × Allowed (followed t u) v
on_the_left t u v h =
    let l = length-append t.bytes u.bytes in
    let r = length-append u.bytes v.bytes in
    let uv = h.0.meet in
    let tu : Meet t u = record { former = h.1.meet.former; lines = h.1.meet.lines; latter = uv.former } in
    (record { short = omega (arith, r, h.1.short); meet = tu }, record { short = omega (arith, l, r, h.1.short); meet = record { former = (whole-joined t u tu).0; lines = (whole-joined t u tu).1 ∙ uv.lines; latter = uv.latter } })

table_eq : {a b : List ℕ} {n m : ℕ} (f : ℕ) → a ≡ b → n ≡ m → ◌≡◌ {A = Table} (record { bytes = a; first = f; count = n }) (record { bytes = b; first = f; count = m })
table_eq f p q = cc

associate : (t u v : Table) → followed (followed t u) v ≡ followed t (followed u v)
associate t u v = table_eq t.first (append_assoc t.bytes u.bytes v.bytes) (omega arith)

-- ---- the empty table
behind_it : (t : Table) → Whole t → length t.bytes ≤ most_bytes → Allowed t (nothing (leaves t)) × (followed t (nothing (leaves t)) ≡ t)
behind_it t w h = (record { short = omega arith; meet = record { former = w; lines = refl; latter = here refl } }, table_eq t.first (append-nil t.bytes) (omega arith))

ahead_of_it : (t : Table) → Whole t → length t.bytes ≤ most_bytes → Allowed (nothing t.first) t × (followed (nothing t.first) t ≡ t)
ahead_of_it t w h = (
  record { short = omega arith; meet = record { former = here refl; lines = (spells_whole (spells_none t.first)).1; latter = w } },
  table_eq t.first refl (omega arith),
)

-- ---- the two counts
sum-small : (t u : Table) → Allowed t u → t.count + u.count < 2 ^ 32
sum-small t u h = omega (arith, h.short, spells_eights (spelt t h.meet.former).1, spells_eights (spelt u h.meet.latter).1)

-- ---- the call
pub meets-meet : (t u : Table) → meets t.bytes t.first t.count u.bytes u.first u.count ≡ true → Meet t u
meets-meet t u e =
    let p = both _ _ e in
    let q = both _ _ p.1 in
    record { former = whole_complete t.bytes t.first t.count p.0; lines = eqb-true (leaves t) u.first q.0; latter = whole_complete u.bytes u.first u.count q.1 }

pub meet-meets : (t u : Table) → Meet t u → meets t.bytes t.first t.count u.bytes u.first u.count ≡ true
meet-meets t u m = rw (complete_whole m.former, eq-eqb (leaves t) u.first m.lines, complete_whole m.latter)

module _ (t u : Table) (room : ℕ) where
  accepted_where : Allowed t u → length t.bytes + length u.bytes ≤ room
      → joining t u room ≡ (Ok (joins (length t.bytes + length u.bytes) (t.count + u.count) (leaves u)), padded room (t.bytes ++ u.bytes))
  unfolding join_of
  accepted_where h k = rw (le-ltb most_bytes (length t.bytes + length u.bytes) h.short, meet-meets t u h.meet, le-ltb room (length t.bytes + length u.bytes) k)

  long-refused : most_bytes < length t.bytes + length u.bytes → joining t u room ≡ (refused_as InputTooLong 0, zeros room)
  unfolding join_of
  long-refused h = rw (lt-ltb most_bytes (length t.bytes + length u.bytes) h)

  apart-refused : length t.bytes + length u.bytes ≤ most_bytes → (Meet t u → ⊥) → joining t u room ≡ (refused_as NotJoined 0, zeros room)
  unfolding join_of
  apart-refused h other = rw (le-ltb most_bytes (length t.bytes + length u.bytes) h) (on (meets t.bytes t.first t.count u.bytes u.first u.count) refl) where
    on : (b : Bool) → meets t.bytes t.first t.count u.bytes u.first u.count ≡ b
        → ◌≡◌ {A = Result Joined Fault × List ℕ} (cond b (cond (ltb room (length t.bytes + length u.bytes)) (refused_as NoRoom (min room 4294967295), zeros room) (Ok (joins (length t.bytes + length u.bytes) (t.count + u.count) (leaves u)), padded room (t.bytes ++ u.bytes))) (refused_as NotJoined 0, zeros room))
        (refused_as NotJoined 0, zeros room)
    on true e = absurd (other (meets-meet t u e))
    on false e = refl

  narrow-refused : Allowed t u → room < length t.bytes + length u.bytes → joining t u room ≡ (refused_as NoRoom (min room 4294967295), zeros room)
  unfolding join_of
  narrow-refused h k = rw (le-ltb most_bytes (length t.bytes + length u.bytes) h.short, meet-meets t u h.meet, lt-ltb room (length t.bytes + length u.bytes) k)

pub join-keeps_its_promises : Promised
join-keeps_its_promises =
    record {
      shows = shows-joined;
      each = λ t w. let A = spelt t w in (A.0, spells_walk A.1);
      whole = whole-joined;
      order = λ t u v. (on_the_right t u v, on_the_left t u v);
      associates = associate;
      behind = behind_it;
      ahead = ahead_of_it;
      sum = sum-small;
      accepts = accepted_where;
      long = long-refused;
      apart = apart-refused;
      narrow = narrow-refused;
    }
