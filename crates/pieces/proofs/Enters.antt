-- What a state says that lets a piece in, and what the piece then comes to.
use mathlib.Core.Path.{◌≡◌, refl, sym, ap, subst}
use mathlib.Core.Bool.{Bool, true, false, cond}
use mathlib.Core.List.{List, [], ◌∷◌, ◌++◌}
use Prim.Native.Nat.{ℕ, ◌+◌, ◌-◌, ◌≤◌, ◌<◌}
use native.Mathlib.Omega.{arith}
use lib.ListN.{length}
use lib.Seq.{sets}
use lib.Dec.{leb, ltb, eqb}
use borrow.Author.Tests.{lt-ltb, le-ltb, ltb-false, leb-true, eq-eqb, ne_eqb, eqb-true, eqb-false}
use Rattle.refusals.specs.Limits.{most_bytes}
use Rattle.rows.proofs.Local.{never}
use Rattle.piecestate.specs.declared.Kept.{Kept}
use Rattle.piecestate.specs.State.{over, held_in, held_at, open_entry, counted, sound_going, kept_refusal, sound_by}
use Rattle.piecestate.specs.Answers.{left, told, stuck}
use Rattle.pieces.specs.Piece.{walked, piece_by}
use Rattle.pieces.specs.Facts.{Opened, Entered}
use Rattle.refusals.specs.Faults.{fault}
use Rattle.refusals.specs.declared.Refusal.TheVariants.{InputTooLong}

pub record Counts (k : Kept) : Type 0 where
  pub few : k.placed ≤ k.count
  pub small : k.bytes ≤ most_bytes

pub counts : (k : Kept) → counted k ≡ true → Counts k
unfolding counted
counts k h = on (ltb k.count k.placed) refl h where
  on : (t : Bool) → ltb k.count k.placed ≡ t → cond t false (leb k.bytes most_bytes) ≡ true → Counts k
  on true e q = never (sym q)
  on false e q = record { few = ltb-false k.count k.placed e; small = leb-true k.bytes most_bytes q }

pub record Goings (s : List ℕ) (k : Kept) : Type 0 where
  pub counts : Counts k
  pub short : k.size ≤ 25
  pub from : k.start ≤ k.bytes
  pub within : k.size ≤ k.bytes - k.start
  pub opens : 0 < k.size → open_entry (held_in s k.size) k.line ≡ true

goings : (s : List ℕ) (k : Kept) → sound_going s k ≡ true → Goings s k
unfolding sound_going
goings s k h = c (counted k) refl h where
  z : ltb 25 k.size ≡ false → ltb k.bytes k.start ≡ false → ltb (k.bytes - k.start) k.size ≡ false → counted k ≡ true → (t : Bool) → eqb k.size 0 ≡ t
      → cond t true (open_entry (held_in s k.size) k.line) ≡ true → Goings s k
  z a b d e true f q =
      record { counts = counts k e; short = ltb-false 25 k.size a; from = ltb-false k.bytes k.start b; within = ltb-false (k.bytes - k.start) k.size d; opens = λ y. absurd (omega (arith, eqb-true k.size 0 f)) }
  z a b d e false f q =
      record { counts = counts k e; short = ltb-false 25 k.size a; from = ltb-false k.bytes k.start b; within = ltb-false (k.bytes - k.start) k.size d; opens = λ y. q }

  w : ltb 25 k.size ≡ false → ltb k.bytes k.start ≡ false → counted k ≡ true → (t : Bool) → ltb (k.bytes - k.start) k.size ≡ t
      → cond t false (cond (eqb k.size 0) true (open_entry (held_in s k.size) k.line)) ≡ true → Goings s k
  w a b e true f q = never (sym q)
  w a b e false f q = z a b f e (eqb k.size 0) refl q

  v : ltb 25 k.size ≡ false → counted k ≡ true → (t : Bool) → ltb k.bytes k.start ≡ t
      → cond t false (cond (ltb (k.bytes - k.start) k.size) false (cond (eqb k.size 0) true (open_entry (held_in s k.size) k.line))) ≡ true → Goings s k
  v a e true f q = never (sym q)
  v a e false f q = w a f e (ltb (k.bytes - k.start) k.size) refl q

  u : counted k ≡ true → (t : Bool) → ltb 25 k.size ≡ t
      → cond t false (cond (ltb k.bytes k.start) false (cond (ltb (k.bytes - k.start) k.size) false (cond (eqb k.size 0) true (open_entry (held_in s k.size) k.line)))) ≡ true → Goings s k
  u e true f q = never (sym q)
  u e false f q = v f e (ltb k.bytes k.start) refl q

  c : (t : Bool) → counted k ≡ t
      → cond t (cond (ltb 25 k.size) false (cond (ltb k.bytes k.start) false (cond (ltb (k.bytes - k.start) k.size) false (cond (eqb k.size 0) true (open_entry (held_in s k.size) k.line))))) false ≡ true → Goings s k
  c true e q = u e (ltb 25 k.size) refl q
  c false e q = never (sym q)

module _ (k : Kept) (s rs : List ℕ) (g : Entered k s rs) where
  pub goes : (k.status ≡ over → ⊥) → Goings s k
  unfolding sound_by
  goes o = on (eqb k.status 1) refl g.sounds where
    on : (t : Bool) → eqb k.status 1 ≡ t → cond t (sound_going s k) (cond (eqb k.status 2) (counted k) (cond (eqb k.status 3) (kept_refusal k.refusal) (eqb k.status 4))) ≡ true → Goings s k
    on true e q = goings s k q
    on false e q =
        never (sym (rw (ne_eqb k.status 2 o, ne_eqb k.status 3 g.stands, ne_eqb k.status 4 g.lasts) at q))

  pub all_counts : Counts k
  unfolding sound_by
  all_counts = on (eqb k.status 2) refl where
    on : (t : Bool) → eqb k.status 2 ≡ t → Counts k
    on false e = (goes (eqb-false k.status 2 e)).counts
    on true e =
        let z : k.status ≡ 2 = eqb-true k.status 2 e in
        counts k (rw (ne_eqb k.status 1 (λ y. absurd (omega arith)), e) at g.sounds)

  pub bytes-upto : k.bytes ≤ most_bytes
  bytes-upto = all_counts.small

  pub opened : (v : List ℕ) → k.bytes + length v ≤ most_bytes → (k.status ≡ over → ⊥) → Opened v (k.bytes + length v) k s rs
  unfolding held_at
  opened v h o =
      let a = goes o in
      record {
        numbers = g.numbers;
        keeps = g.keeps;
        few = a.counts.few;
        room = g.room;
        short = a.short;
        small = omega (arith, a.from, a.within);
        opens = λ y. subst (λ n. open_entry (held_in s n) k.line ≡ true) (ap (λ x. x.size) g.keeps) (a.opens y);
      }

  pub piece-long : (v : List ℕ) → most_bytes < k.bytes + length v → piece_by v s rs k ≡ stuck s rs (fault InputTooLong 0)
  unfolding piece_by
  piece-long v h = rw (lt-ltb most_bytes (k.bytes + length v) h)

  pub piece-over : (v : List ℕ) → k.bytes + length v ≤ most_bytes → k.status ≡ over → piece_by v s rs k ≡ left (told k.placed false) (sets s 5 ((k.bytes + length v) ∷ [])) rs
  unfolding piece_by
  piece-over v h e = rw (le-ltb most_bytes (k.bytes + length v) h, eq-eqb k.status 2 e)

  pub piece_on : (v : List ℕ) → k.bytes + length v ≤ most_bytes → (k.status ≡ over → ⊥) → piece_by v s rs k ≡ walked (held_at s ++ v) k.start (k.bytes + length v) k.line k.placed k.count s rs
  unfolding piece_by
  piece_on v h e = rw (le-ltb most_bytes (k.bytes + length v) h, ne_eqb k.status 2 e)
