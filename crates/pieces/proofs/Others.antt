-- A piece behind held bytes whose first entry is not complete, or does not fit: the held bytes and the piece's first come to what all of them
-- come to. An entry that is cut or not yet lost has all bytes there are; every other ending is settled.
use mathlib.Core.Path.{◌≡◌, refl, sym, ap, subst, ◌∙◌}
use mathlib.Core.Bool.{Bool, true, false, cond}
use mathlib.Core.List.{List, [], ◌++◌, append_assoc, append-nil}
use Prim.Native.Nat.{ℕ, ◌-◌, ◌≤◌, ◌<◌}
use native.Mathlib.Omega.{arith}
use lib.ListN.{length, take, drop, length-append, drop_of_length-le}
use lib.Seq.{length-take-le}
use lib.Dec.{ltb}
use borrow.Author.Tests.{ltb-true, ltb-false}
use Rattle.lineentry.specs.declared.Span.{Span}
use Rattle.lineentry.specs.declared.Entry.{Entry}
use Rattle.lineentry.specs.declared.Entry.TheVariants.{Covers, Stop, OutOfRange}
use Rattle.lineentry.specs.Entry.{entry_at}
use Rattle.rows.specs.Row.{Ending, placed_all, stop_byte, cut_short, out_of_range, past_count, alone, row, line_after, place_after}
use Rattle.rows.proofs.Chains.{row_ends}
use Rattle.lostentry.specs.Lost.{Lost, lost}
use Rattle.lostentry.proofs.Losing.{lost-refuses}
use Rattle.lostentry.proofs.Heals.{refuses-lost}
use Rattle.std.specs.Prelude.{Some, None}
use Rattle.pieces.specs.Piece.{by_ending, after, walked, first_of}
use Rattle.pieces.proofs.Settled.{Settled, stop, past, gone, row_settled}
use Rattle.pieces.proofs.Short.{Goes, incomplete, unsure, held_short}
use Rattle.pieces.proofs.Fronts.{front_rest}

-- fewer bytes than were asked for are all
all_taken : (v : List ℕ) → length (take 25 v) < 25 → drop 25 v ≡ []
all_taken v h = on (ltb (length v) 25) refl where
  on : (t : Bool) → ltb (length v) 25 ≡ t → drop 25 v ≡ []
  on true e = let k = ltb-true (length v) 25 e in drop_of_length-le v {i = 25} (omega arith)
  on false e = let k = ltb-false (length v) 25 e in absurd (omega (arith, length-take-le 25 v k))

-- two rows of no entries and one ending
pub alike : (f t : List ℕ) (start bytes line placed count : ℕ) (s rs : List ℕ) (x : Ending) → row f line 0 (count - placed) ≡ alone x → row t line 0 (count - placed) ≡ alone x
    → ((n : ℕ) (ys : List ℕ) → by_ending t start bytes count s ys line 0 n x ≡ by_ending f start bytes count s ys line 0 n x)
    → walked t start bytes line placed count s rs ≡ walked f start bytes line placed count s rs
unfolding walked after
alike f t start bytes line placed count s rs x a b h = rw (a, b) (h _ _)

module _ (f w : List ℕ) (start bytes line placed count : ℕ) (s rs : List ℕ) (fits : line < 4294967296) (short : length f ≤ 25 → w ≡ []) where
  settles : (x : Ending) → row f line 0 (count - placed) ≡ alone x → Settled f line 0 x → row (f ++ w) line 0 (count - placed) ≡ alone x
  settles x e k = row_settled f w line (count - placed) (subst (λ r. Settled f (line_after line r.entries) (place_after 0 r.entries) r.ending) (sym e) k) ∙ e

  few : (x : Ending) → row f line 0 (count - placed) ≡ alone x → Goes f line 0 x → walked (f ++ w) start bytes line placed count s rs ≡ walked f start bytes line placed count s rs
  few x e k =
      let l : length f ≤ 25 =
      subst (λ r. length (drop (place_after 0 r.entries) f) ≤ 25) e (held_short f line (count - placed) (subst (λ r. Goes f (line_after line r.entries) (place_after 0 r.entries) r.ending) (sym e) k)) in
      ap (λ t. walked t start bytes line placed count s rs) (ap (λ u. f ++ u) (short l) ∙ append-nil f)

  out : 0 < count - placed → entry_at f line 0 ≡ OutOfRange → (b : Bool) → lost f line ≡ b → walked (f ++ w) start bytes line placed count s rs ≡ walked f start bytes line placed count s rs
  out h c false l = few out_of_range (row_ends f line 0 (count - placed) out_of_range (h, c)) (unsure l)
  out h c true l =
      let e = row_ends f line 0 (count - placed) out_of_range (h, c) in
      let g : Lost f line = lost-refuses f line fits l in
      let l' : lost (f ++ w) line ≡ true = refuses-lost (f ++ w) line (λ v. subst (λ t. entry_at t line 0 ≡ OutOfRange) (sym (append_assoc f w v)) (g (w ++ v))) in
      alike f (f ++ w) start bytes line placed count s rs out_of_range e (settles out_of_range e (gone g)) (λ m ys. rw (l, l'))

  covers : 0 < count - placed → (e : Span) → entry_at f line 0 ≡ Covers e → (b c : Bool) → e.missing ≡ b → ltb (count - placed) e.instructions ≡ c → None ≡ cond b None (cond c None (Some e))
      → walked (f ++ w) start bytes line placed count s rs ≡ walked f start bytes line placed count s rs
  covers h e q true c m l o = few (cut_short e) (row_ends f line 0 (count - placed) (cut_short e) (h, q, m)) incomplete
  covers h e q false true m l o =
      let d = row_ends f line 0 (count - placed) (past_count e) (h, q, m, ltb-true (count - placed) e.instructions l) in
      alike f (f ++ w) start bytes line placed count s rs (past_count e) d (settles (past_count e) d past) (λ m ys. refl)
  covers h e q false false m l o = let z : ◌≡◌ {A = ℕ} 0 1 = cc in absurd (omega arith)

  some : 0 < length f → 0 < count - placed → (e : Entry) → entry_at f line 0 ≡ e → None ≡ first_of (count - placed) e → walked (f ++ w) start bytes line placed count s rs ≡ walked f start bytes line placed count s rs
  some k h (Covers e) q o = covers h e q e.missing (ltb (count - placed) e.instructions) refl refl o
  some k h Stop q o =
      let d = row_ends f line 0 (count - placed) stop_byte (h, k, q) in
      alike f (f ++ w) start bytes line placed count s rs stop_byte d (settles stop_byte d stop) (λ m ys. refl)
  some k h OutOfRange q o = out h q (lost f line) refl

  any : 0 < length f → None ≡ first_of (count - placed) (entry_at f line 0) → walked (f ++ w) start bytes line placed count s rs ≡ walked f start bytes line placed count s rs
  any k o = on (ltb 0 (count - placed)) refl where
    on : (t : Bool) → ltb 0 (count - placed) ≡ t → walked (f ++ w) start bytes line placed count s rs ≡ walked f start bytes line placed count s rs
    on true h = some k (ltb-true 0 (count - placed) h) (entry_at f line 0) refl o
    on false h =
        let z : count - placed ≡ 0 = let y = ltb-false 0 (count - placed) h in omega arith in
        alike f (f ++ w) start bytes line placed count s rs placed_all (row_ends f line 0 (count - placed) placed_all z) (row_ends (f ++ w) line 0 (count - placed) placed_all z) (λ m ys. refl)

pub front-other : (held v : List ℕ) (start bytes line placed count : ℕ) (s rs : List ℕ) → line < 4294967296 → 0 < length held
    → None ≡ first_of (count - placed) (entry_at (held ++ take 25 v) line 0)
    → walked (held ++ v) start bytes line placed count s rs ≡ walked (held ++ take 25 v) start bytes line placed count s rs
front-other held v start bytes line placed count s rs b h o =
    let l = length-append held (take 25 v) in
    ap (λ t. walked t start bytes line placed count s rs) (front_rest held v)
    ∙ any (held ++ take 25 v) (drop 25 v) start bytes line placed count s rs b (λ k. all_taken v (omega arith)) (omega arith) o
