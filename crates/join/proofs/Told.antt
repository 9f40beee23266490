-- The ways out of the code: what the summary of a row tells of a table, what two tables' answers tell of their meeting, and each answer of a
-- join with what is then written. Assumes nothing.
use mathlib.Core.Path.{◌≡◌, refl, sym, ap, subst, ◌∙◌}
use mathlib.Core.Bool.{Bool, true, false, cond, ◌&&◌}
use mathlib.Core.List.{List, ◌++◌}
use Prim.Native.Nat.{ℕ, ◌+◌, ◌-◌, ◌≤◌, ◌<◌, min}
use native.Mathlib.Omega.{arith}
use lib.ListN.{length, drop, length-append}
use lib.Seq.{sets, sets-eq, length-sets}
use lib.Dec.{eqb}
use borrow.Author.Tests.{lt-ltb, le-ltb, eq-eqb, ne_eqb}
use Rattle.std.specs.Prelude.{Option, Some, None, is_some, Result, Ok, Err}
use Rattle.refusals.specs.Faults.{fault, refused}
use Rattle.refusals.specs.declared.Fault.{Fault}
use Rattle.refusals.specs.declared.Refusal.TheVariants.{InputTooLong, NoRoom, NumberRange, NotJoined}
use Rattle.refusals.specs.Limits.{most_bytes}
use Rattle.clearing.specs.Lent.{zeros}
use Rattle.lineentry.specs.declared.Span.{Span}
use Rattle.lineentry.specs.Entry.{entry_at}
use Rattle.lineentry.proofs.Entries.{entry_past}
use Rattle.linetable.proofs.Stores.{sets-append, put_mid-sets}
use borrow.Rule.Slice.PartMut.{put_mid}
use Rattle.rows.specs.declared.How.TheVariants as way
use Rattle.rows.proofs.Going.{number}
use Rattle.rows.specs.Row.{Ending, placed_all, table_end, stop_byte, cut_short, out_of_range, past_count, row, Rowed, line_after, place_after}
use Rattle.rows.specs.declared.RowEnd.{RowEnd}
use Rattle.rows.specs.Summary.{summary_of, summary}
use Rattle.rows.proofs.Local.{never}
use Rattle.rows.proofs.Chains.{rowed, chain-upto}
use Rattle.salvage.proofs.Told.{over_zeros}
use Rattle.join.specs.declared.LineTold.{LineTold}
use Rattle.join.specs.declared.Joined.{Joined}
use Rattle.join.specs.Whole.{all_placed, whole_for, end_line, entry_line, line_of, refuses, told, line_told}
use Rattle.join.specs.Join.{meets, met, joins, join_of}
use Rattle.join.proofs.Wholes.{both, whole_eights}

-- ---- one table
pub place_inside : (s : List ℕ) (first count : ℕ) {e : RowEnd} → e ≡ summary s first count → e.place ≤ length s
unfolding summary
place_inside s first count q =
    subst (λ r. r.place ≤ length s) (sym q) (chain-upto s first 0 (row s first 0 count).entries (omega arith) (rowed s first 0 count).chain)

pub tells-long : (s : List ℕ) (first count : ℕ) {f : Fault} → most_bytes < length s → f ≡ fault InputTooLong 0 → Err f ≡ line_told s first count
unfolding line_told
tells-long s first count h e = rw (e, lt-ltb most_bytes (length s) h)

module _ (s : List ℕ) (first count : ℕ) where
  abbrev tells : List Span → Ending → Result LineTold Fault
  tells es x =
      cond (refuses x) (refused NumberRange (place_after 0 es)) (Ok (told (all_placed x && eqb (place_after 0 es) (length s)) (end_line (line_after first es) x)))

  -- what the way in which a row ends tells
  abbrev Tells : List Span → Ending → RowEnd → Type 0
  Tells es x e =
      (e.how ≡ way.Refused → refused NumberRange e.place ≡ tells es x)
      × (e.how ≡ way.AllPlaced → Ok (told (eqb e.place (length s)) e.line) ≡ tells es x)
      × ((e.how ≡ way.Refused → ⊥) → (e.how ≡ way.AllPlaced → ⊥) → Ok (told false (entry_line e.line (entry_at s e.line e.place))) ≡ tells es x)

  tells_row : (es : List Span) (x : Ending) → Rowed s first 0 count (record { entries = es; ending = x }) → Tells es x (summary_of 0 first 0 count (record { entries = es; ending = x }))
  tells_row es placed_all d = (λ h. absurd (omega (arith, ap number h)), λ h. refl, λ a b. absurd (b refl))
  tells_row es table_end d = (λ h. absurd (omega (arith, ap number h)), λ h. absurd (omega (arith, ap number h)), λ a b. rw (entry_past s (line_after first es) (place_after 0 es) d.ends.1))
  tells_row es stop_byte d = (λ h. absurd (omega (arith, ap number h)), λ h. absurd (omega (arith, ap number h)), λ a b. rw d.ends.2)
  tells_row es (cut_short e) d = (λ h. absurd (omega (arith, ap number h)), λ h. absurd (omega (arith, ap number h)), λ a b. rw d.ends.1)
  tells_row es out_of_range d = (λ h. refl, λ h. absurd (omega (arith, ap number h)), λ a b. absurd (a refl))
  tells_row es (past_count e) d = (λ h. absurd (omega (arith, ap number h)), λ h. absurd (omega (arith, ap number h)), λ a b. rw d.ends.1)

  tells_all : length s ≤ most_bytes → {e : RowEnd} → e ≡ summary s first count → Tells (row s first 0 count).entries (row s first 0 count).ending e
  unfolding summary
  tells_all h q = subst (Tells (row s first 0 count).entries (row s first 0 count).ending) (sym q) (tells_row (row s first 0 count).entries (row s first 0 count).ending (rowed s first 0 count))

  told_as : length s ≤ most_bytes → line_told s first count ≡ tells (row s first 0 count).entries (row s first 0 count).ending
  unfolding line_told whole_for line_of
  told_as h = rw (le-ltb most_bytes (length s) h)

pub tells-refused : (s : List ℕ) (first count : ℕ) {e : RowEnd} {f : Fault} → length s ≤ most_bytes → e ≡ summary s first count → e.how ≡ way.Refused → f ≡ fault NumberRange e.place → Err f ≡ line_told s first count
tells-refused s first count h q k p = ap {B = Result LineTold Fault} (λ f. Err f) p ∙ (tells_all s first count h q).0 k ∙ sym (told_as s first count h)

pub tells-placed : (s : List ℕ) (first count : ℕ) {e : RowEnd} → length s ≤ most_bytes → e ≡ summary s first count → e.how ≡ way.AllPlaced → Ok (told (eqb e.place (length s)) e.line) ≡ line_told s first count
tells-placed s first count h q k = (tells_all s first count h q).1 k ∙ sym (told_as s first count h)

pub tells-ended : (s : List ℕ) (first count : ℕ) {l : ℕ} {e : RowEnd} → length s ≤ most_bytes → e ≡ summary s first count → (e.how ≡ way.Refused → ⊥) → (e.how ≡ way.AllPlaced → ⊥)
    → l ≡ entry_line e.line (entry_at s e.line e.place) → Ok (told false l) ≡ line_told s first count
tells-ended s first count h q a b p = ap {B = Result LineTold Fault} (λ l. Ok (told false l)) p ∙ (tells_all s first count h q).2 a b ∙ sym (told_as s first count h)

-- ---- two tables
-- a table that refuses is not whole
abbrev pub is_whole : Result LineTold Fault → Bool
is_whole (Ok t) = t.whole
is_whole (Err f) = false

abbrev pub line_in : Result LineTold Fault → ℕ
line_in (Ok t) = t.line
line_in (Err f) = 0

whole_row : (s : List ℕ) (first : ℕ) (es : List Span) (x : Ending) → (is_whole (tells s first 0 es x) ≡ (all_placed x && eqb (place_after 0 es) (length s)))
    × (is_whole (tells s first 0 es x) ≡ true → line_in (tells s first 0 es x) ≡ end_line (line_after first es) x)
whole_row s first es placed_all = (refl, λ h. refl)
whole_row s first es table_end = (refl, λ h. refl)
whole_row s first es stop_byte = (refl, λ h. refl)
whole_row s first es (cut_short e) = (refl, λ h. refl)
whole_row s first es out_of_range = (refl, λ h. never (sym h))
whole_row s first es (past_count e) = (refl, λ h. refl)

pub whole_told_lem : (s : List ℕ) (f n : ℕ) {r : Result LineTold Fault} → length s ≤ most_bytes → r ≡ line_told s f n → (is_whole r ≡ whole_for s f n) × (is_whole r ≡ true → line_in r ≡ line_of s f n)
unfolding whole_for line_of
whole_told_lem s f n h e =
    let p = whole_row s f (row s f 0 n).entries (row s f 0 n).ending in
    subst (λ r. (is_whole r ≡ whole_for s f n) × (is_whole r ≡ true → line_in r ≡ line_of s f n)) (sym (e ∙ told_as s f n h)) p

pub meet-former : (a : List ℕ) (f n : ℕ) (b : List ℕ) (g m : ℕ) {r : Result LineTold Fault} → length a ≤ most_bytes → r ≡ line_told a f n → is_whole r ≡ false → None ≡ met a f n b g m
unfolding met
meet-former a f n b g m h e w = rw (sym (whole_told_lem a f n h e).0 ∙ w)

pub meet-lines : (a : List ℕ) (f n : ℕ) (b : List ℕ) (g m : ℕ) {r : Result LineTold Fault} → length a ≤ most_bytes → r ≡ line_told a f n → is_whole r ≡ true → (line_in r ≡ g → ⊥) → None ≡ met a f n b g m
unfolding met
meet-lines a f n b g m h e w l =
    let t = whole_told_lem a f n h e in
    rw (sym t.0 ∙ w, ne_eqb (line_of a f n) g (λ z. l (t.1 w ∙ z)))

pub meet-latter : (a : List ℕ) (f n : ℕ) (b : List ℕ) (g m : ℕ) {r q : Result LineTold Fault} → length a ≤ most_bytes → length b ≤ most_bytes → r ≡ line_told a f n → is_whole r ≡ true → line_in r ≡ g → q ≡ line_told b g m → is_whole q ≡ false
    → None ≡ met a f n b g m
unfolding met
meet-latter a f n b g m h k e w l d v =
    let t = whole_told_lem a f n h e in
    rw (sym t.0 ∙ w, eq-eqb (line_of a f n) g (sym (t.1 w) ∙ l), sym (whole_told_lem b g m k d).0 ∙ v)

pub meet_all : (a : List ℕ) (f n : ℕ) (b : List ℕ) (g m : ℕ) {r q : Result LineTold Fault} → length a ≤ most_bytes → length b ≤ most_bytes → r ≡ line_told a f n → is_whole r ≡ true → line_in r ≡ g → q ≡ line_told b g m → is_whole q ≡ true
    → Some (line_in q) ≡ met a f n b g m
unfolding met
meet_all a f n b g m h k e w l d v =
    let t = whole_told_lem a f n h e in
    let u = whole_told_lem b g m k d in
    rw (sym t.0 ∙ w, eq-eqb (line_of a f n) g (sym (t.1 w) ∙ l), sym u.0 ∙ v, u.1 v)

-- ---- the join
met_none : (a : List ℕ) (f n : ℕ) (b : List ℕ) (g m : ℕ) {x : Option ℕ} → x ≡ met a f n b g m → x ≡ None → meets a f n b g m ≡ false
unfolding met
met_none a f n b g m e z = on (meets a f n b g m) (sym z ∙ e) where
  on : (t : Bool) → None ≡ cond {A = Option ℕ} t (Some (line_of b g m)) None → t ≡ false
  on true k = never (sym (ap is_some k))
  on false k = refl

met_some : (a : List ℕ) (f n : ℕ) (b : List ℕ) (g m : ℕ) {x : Option ℕ} {l : ℕ} → x ≡ met a f n b g m → x ≡ Some l → (meets a f n b g m ≡ true) × (l ≡ line_of b g m)
unfolding met
met_some a f n b g m {l = l} e z = on (meets a f n b g m) (sym z ∙ e) where
  held : Option ℕ → ℕ
  held (Some l) = l
  held None = 0

  on : (t : Bool) → Some l ≡ cond {A = Option ℕ} t (Some (line_of b g m)) None → (t ≡ true) × (l ≡ line_of b g m)
  on true k = (refl, ap held k)
  on false k = never (ap is_some k)

-- the counts of tables that meet do not pass 32 bits
pub met-small : (a : List ℕ) (f n : ℕ) (b : List ℕ) (g m : ℕ) {x : Option ℕ} {l : ℕ} → x ≡ met a f n b g m → x ≡ Some l → length a + length b ≤ most_bytes → n + m < 4294967296
met-small a f n b g m e w h =
    let p = both (whole_for a f n) (eqb (line_of a f n) g && whole_for b g m) (met_some a f n b g m e w).0 in
    let q = both (eqb (line_of a f n) g) (whole_for b g m) p.1 in
    omega (arith, whole_eights a f n p.0, whole_eights b g m q.1)

-- the answer of a join, and what the output then holds
abbrev pub Joins : List ℕ → ℕ → ℕ → List ℕ → ℕ → ℕ → ℕ → Result Joined Fault → List ℕ → Type 0
Joins a f n b g m room r zs = (r ≡ (join_of a f n b g m room).0) × (zs ≡ (join_of a f n b g m room).1)

pub joins_long : (a : List ℕ) (f n : ℕ) (b : List ℕ) (g m room : ℕ) {w : Fault} {zs : List ℕ} → most_bytes < length a + length b → w ≡ fault InputTooLong 0 → zs ≡ zeros room → Joins a f n b g m room (Err w) zs
unfolding join_of
joins_long a f n b g m room h e q = rw (e, lt-ltb most_bytes (length a + length b) h) (refl, q)

pub joins-apart : (a : List ℕ) (f n : ℕ) (b : List ℕ) (g m room : ℕ) {x : Option ℕ} {r : Result Joined Fault} {zs : List ℕ} → length a + length b ≤ most_bytes → x ≡ met a f n b g m → x ≡ None
    → r ≡ refused NotJoined 0 → zs ≡ zeros room → Joins a f n b g m room r zs
unfolding join_of
joins-apart a f n b g m room h d w e q = rw (le-ltb most_bytes (length a + length b) h, met_none a f n b g m d w) (e, q)

pub joins-short : (a : List ℕ) (f n : ℕ) (b : List ℕ) (g m room : ℕ) {x : Option ℕ} {l : ℕ} {w : Fault} {zs : List ℕ} → length a + length b ≤ most_bytes → x ≡ met a f n b g m → x ≡ Some l
    → room < length a + length b → w ≡ fault NoRoom (min room 4294967295) → zs ≡ zeros room → Joins a f n b g m room (Err w) zs
unfolding join_of
joins-short a f n b g m room h d w k e q = rw (e, le-ltb most_bytes (length a + length b) h, (met_some a f n b g m d w).0, lt-ltb room (length a + length b) k) (refl, q)

pub joins-done : (a : List ℕ) (f n : ℕ) (b : List ℕ) (g m room : ℕ) {x : Option ℕ} {l : ℕ} {ys zs : List ℕ} → length a + length b ≤ most_bytes → x ≡ met a f n b g m → x ≡ Some l
    → length a + length b ≤ room → ys ≡ zeros room → zs ≡ sets ys 0 (a ++ b) → Joins a f n b g m room (Ok (joins (length a + length b) (n + m) l)) zs
unfolding join_of
joins-done a f n b g m room h d w k y z =
    let t = met_some a f n b g m d w in
    rw (le-ltb most_bytes (length a + length b) h, t.0, le-ltb room (length a + length b) k)
    (ap {B = Result Joined Fault} (λ l. Ok (joins (length a + length b) (n + m) l)) t.1, z ∙ ap (λ t. sets t 0 (a ++ b)) y ∙ over_zeros room (a ++ b) (omega (arith, length-append a b)))

-- two slices, one written behind the other
pub stored-both : (a b xs : List ℕ) {ys zs : List ℕ} → length a + length b ≤ length xs → ys ≡ a → zs ≡ b
    → put_mid (length a) (length a + length b - length a) (ys ++ drop (length a) xs) zs ≡ sets xs 0 (a ++ b)
stored-both a b xs {ys} h p q =
    let z : 0 + length a ≡ length a = omega arith in
    let front : ys ++ drop (length a) xs ≡ sets xs 0 a = ap (λ t. t ++ drop (length a) xs) p ∙ sym (sets-eq a xs 0 (omega arith) ∙ ap (λ i. a ++ drop i xs) z) in
    ap (put_mid (length a) (length a + length b - length a) (ys ++ drop (length a) xs)) q ∙ ap (λ t. put_mid (length a) (length a + length b - length a) t b) front
    ∙ put_mid-sets (length a) (length a + length b) (sets xs 0 a) b (omega arith) (omega (arith, length-sets xs 0 a)) (omega arith) ∙ sym (sets-append xs 0 a b ∙ ap (λ i. sets (sets xs 0 a) i b) z)
