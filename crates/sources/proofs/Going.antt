-- The loop of `walk_marks`: what comes of the whole table is what comes of the rest, behind the bytes that are placed. One law for each way on
-- from a turn. Assumes nothing.
use mathlib.Core.Path.{◌≡◌, refl, sym, ap, subst, ◌∙◌}
use mathlib.Core.Bool.{Bool, true, false, cond}
use mathlib.Core.List.{List, [], ◌∷◌, ◌++◌, append_assoc, append-nil}
use Prim.Native.Nat.{ℕ, zero, suc, ◌+◌, ◌-◌, ◌≤◌, ◌<◌, min}
use native.Mathlib.Nat.{zero-add}
use native.Mathlib.Omega.{arith}
use lib.ListN.{length, replicate, drop, length-append, length-replicate, drop_of_length-le}
use lib.Seq.{sets, sets-eq, length-sets, take-append_seam, drop-append-add}
use lib.Dec.{leb}
use borrow.Author.Tests.{eq-eqb, ne_eqb, lt-ltb, le-ltb, leb-true}
use Rattle.std.specs.Prelude.{Result, Ok}
use Rattle.refusals.specs.Faults.{refused}
use Rattle.refusals.specs.declared.Refusal.{Refusal}
use Rattle.refusals.specs.declared.Refusal.TheVariants.{InputTooLong, NoRoom, NumberRange}
use Rattle.refusals.specs.declared.Fault.{Fault}
use Rattle.refusals.specs.Limits.{most_bytes}
use Rattle.clearing.specs.Lent.{zeros, padded}
use Rattle.lineentry.specs.declared.Span.{Span}
use Rattle.lineentry.specs.declared.Entry.{Entry}
use Rattle.lineentry.specs.declared.Entry.TheVariants.{Covers, Stop, OutOfRange}
use Rattle.lineentry.specs.Entry.{entry_at}
use Rattle.lineentry.proofs.Entries.{entry-places}
use Rattle.sources.specs.declared.Counts.{Counts}
use Rattle.sources.specs.declared.Lacks.{Lacks}
use Rattle.sources.specs.declared.Mark.{Mark}
use Rattle.sources.specs.Source.{source_of}
use Rattle.sources.specs.Marks.{Marks, marked, denied, behind, from_entry, marks, sources, is_placed, times, plus, counts_of, answer_of, bytes_of}
use Rattle.sources.specs.Turns.{lacks, lacking, Few, having}
use Rattle.sources.proofs.Counting.{plus_none, counts-append, counts-replicate, having_more, few_more, padded-zeros}
use Rattle.sources.proofs.Bits.{source-placed}
use Rattle.sources.proofs.Turning.{Given}

-- ---- one turn
pub marks-ended : (turns : ℕ) (s : List ℕ) (line p left : ℕ) → left ≡ 0 → marks turns s line p left ≡ marked []
marks-ended zero s line p left e = refl
marks-ended (suc turns) s line p left e = rw (eq-eqb left 0 e)

pub marks-entry : (turns : ℕ) (s : List ℕ) (line p left : ℕ) → 0 < left → left ≤ turns → marks turns s line p left ≡ from_entry (marks (turns - 1) s) s p left (entry_at s line p)
marks-entry zero s line p left h k = absurd (omega arith)
marks-entry (suc turns) s line p left h k =
    let e : suc turns - 1 ≡ turns = omega arith in
    rw (e, ne_eqb left 0 (λ z. omega arith))

behind_none : (m : Marks) → behind [] m ≡ m
behind_none (marked bytes) = refl
behind_none (denied why place) = refl

behind-twice : (xs ys : List ℕ) (m : Marks) → behind xs (behind ys m) ≡ behind (xs ++ ys) m
behind-twice xs ys (marked bytes) = ap marked (sym (append_assoc xs ys bytes))
behind-twice xs ys (denied why place) = refl

-- ---- what is stored behind what is placed
laid : (placed rest vs : List ℕ) → length placed + length vs ≤ length (placed ++ rest) → sets (placed ++ rest) (length placed) vs ≡ placed ++ (vs ++ drop (length vs) rest)
laid placed rest vs h = sets-eq vs (placed ++ rest) (length placed) h ∙ rw (take-append_seam placed rest, drop-append-add placed rest (length vs)) (append_assoc placed vs (drop (length vs) rest))

laid_behind_lem : {xs ys : List ℕ} {i : ℕ} (placed rest vs : List ℕ) → xs ≡ placed ++ rest → length placed ≡ i → i + length vs ≤ length xs → ys ≡ sets xs i vs → ys ≡ placed ++ (vs ++ drop (length vs) rest)
laid_behind_lem {xs} {ys} {i} placed rest vs e l h q =
    let k : length xs ≡ length (placed ++ rest) = ap length e in
    let z : length placed + length vs ≤ length (placed ++ rest) = omega (arith, h, k, l) in
    q ∙ rw (e, ← l) (laid placed rest vs z)

same_more : (k m byte : ℕ) → replicate (k + m) byte ≡ replicate k byte ++ replicate m byte
same_more zero m byte = rw zero-add
same_more (suc k) m byte =
    let e : suc k + m ≡ suc (k + m) = omega arith in
    rw e (ap (λ t. byte ∷ t) (same_more k m byte))

-- a store that begins with these
pub record Begins (ys front : List ℕ) : Type 0 where
  pub rest : List ℕ
  pub holds : ys ≡ front ++ rest

-- so many of the eight that are stored are the entry's own
begins_filled : {xs ys : List ℕ} {i : ℕ} (m byte : ℕ) (placed rest : List ℕ) → xs ≡ placed ++ rest → length placed ≡ i → i + m ≤ length xs → m ≤ 8
    → ys ≡ sets xs i (cond (leb 8 (length xs - i)) (replicate 8 byte) (replicate m byte)) → Begins ys (placed ++ replicate m byte)
begins_filled {xs} {ys} {i} m byte placed rest e l h k q = go (leb 8 (length xs - i)) refl where
  go : (t : Bool) → leb 8 (length xs - i) ≡ t → Begins ys (placed ++ replicate m byte)
  go true f =
      let room : 8 ≤ length xs - i = leb-true _ _ f in
      let behind : List ℕ = drop (length (replicate 8 byte)) rest in
      let eight : replicate 8 byte ≡ replicate m byte ++ replicate (8 - m) byte = let z : m + (8 - m) ≡ 8 = omega arith in rw z at (same_more m (8 - m) byte) in
      record {
        rest = replicate (8 - m) byte ++ behind;
        holds =
            laid_behind_lem placed rest (replicate 8 byte) e l (omega (arith, length-replicate 8 byte, room)) (q ∙ ap (λ t. sets xs i (cond t (replicate 8 byte) (replicate m byte))) f)
            ∙ ap (λ t. placed ++ (t ++ behind)) eight ∙ ap (λ t. placed ++ t) (append_assoc (replicate m byte) (replicate (8 - m) byte) behind)
            ∙ sym (append_assoc placed (replicate m byte) (replicate (8 - m) byte ++ behind));
      }
  go false f =
      record {
        rest = drop (length (replicate m byte)) rest;
        holds =
            laid_behind_lem placed rest (replicate m byte) e l (omega (arith, length-replicate m byte, h)) (q ∙ ap (λ t. sets xs i (cond t (replicate 8 byte) (replicate m byte))) f)
            ∙ sym (append_assoc placed (replicate m byte) (drop (length (replicate m byte)) rest));
      }

-- and what is behind is cleared in the end
cleared-behind : {xs ys : List ℕ} {i n : ℕ} (placed rest : List ℕ) → xs ≡ placed ++ rest → length placed ≡ i → length xs ≡ n → i ≤ n → ys ≡ sets xs i (zeros (length xs - i)) → ys ≡ padded n placed
unfolding padded
cleared-behind {xs} {ys} {i} {n} placed rest e l s h q =
    let size : length xs ≡ length placed + length rest = ap length e ∙ length-append placed rest in
    let all : length rest ≤ length (zeros (length xs - i)) = omega (arith, size, l, length-replicate {A = ℕ} (length xs - i) 0) in
    let same : length xs - i ≡ n - length placed = omega (arith, s, l) in
    laid_behind_lem placed rest (zeros (length xs - i)) e l (omega (arith, length-replicate {A = ℕ} (length xs - i) 0, s, h)) q
    ∙ ap (λ t. placed ++ (zeros (length xs - i) ++ t)) (drop_of_length-le rest all) ∙ ap (λ t. placed ++ t) (append-nil (zeros (length xs - i)))
    ∙ ap (λ t. placed ++ zeros t) same

-- ---- the loop's invariant
-- The store has n bytes and begins with what is placed; `c` has what that lacks.
pub record Going (s : List ℕ) (total n : ℕ) (goal : Marks) (xs : List ℕ) (c : Lacks) (line at i : ℕ) : Type 0 where
  pub placed : List ℕ
  pub count : length placed ≡ i
  pub upto : i ≤ total
  pub room : total ≤ n
  pub same : length xs ≡ n
  pub begins : Begins xs placed
  pub tallied : having i c ≡ counts_of placed
  pub few : Few c i
  pub turns : ℕ
  pub enough : total - i ≤ turns
  pub comes : goal ≡ behind placed (marks turns s line at (total - i))

-- the answer r and the store's contents ys are the goal's
abbrev pub Ends : ℕ → Marks → Result Counts Fault → List ℕ → Type 0
Ends n goal r ys = (r ≡ answer_of goal) × (ys ≡ bytes_of n goal)

ends-marked : (n : ℕ) (goal : Marks) (bytes : List ℕ) (c : Counts) {ys : List ℕ} → goal ≡ marked bytes → c ≡ counts_of bytes → ys ≡ padded n bytes → Ends n goal (Ok c) ys
unfolding bytes_of
ends-marked n goal bytes c e q h = rw e (ap {B = Result Counts Fault} (λ x. Ok x) q, h)

pub ends_zero : (n : ℕ) {goal : Marks} {why : Refusal} {place : ℕ} {r : Result Counts Fault} {ys : List ℕ} → goal ≡ denied why place → (r ≡ refused why place) × (ys ≡ zeros n) → Ends n goal r ys
unfolding bytes_of
ends_zero n e x = rw e x

-- where the loop begins nothing is placed
pub going_start : (s : List ℕ) (count first : ℕ) (xs : List ℕ) → count ≤ length xs
    → Going s count (length xs) (marks count s first 0 count) xs (lacks 0 0 0) first 0 0
going_start s count first xs h =
    record {
      placed = [];
      count = refl;
      upto = omega arith;
      room = omega arith;
      same = refl;
      begins = record { rest = xs; holds = refl };
      tallied = refl;
      few = record { few-lines = omega arith; few-columns = omega arith; few_sure = omega arith };
      turns = count;
      enough = omega arith;
      comes =
          let z : count - 0 ≡ count = omega arith in
          rw z (sym (behind_none (marks count s first 0 count)));
    }

module _ {s : List ℕ} {total n : ℕ} {goal : Marks} {xs : List ℕ} {c : Lacks} {line at i : ℕ} (g : Going s total n goal xs c line at i) where
  at_entry : (e : Entry) → i < total → entry_at s line at ≡ e → goal ≡ behind g.placed (from_entry (marks (g.turns - 1) s) s at (total - i) e)
  at_entry e h q =
      g.comes
      ∙ ap (behind g.placed) (marks-entry g.turns s line at (total - i) (omega arith) g.enough ∙ ap (from_entry (marks (g.turns - 1) s) s at (total - i)) q)

  -- what is placed, and zeros behind it
  padded-placed : {ys : List ℕ} → ys ≡ sets xs i (zeros (length xs - i)) → ys ≡ padded n g.placed
  padded-placed q = cleared-behind g.placed g.begins.rest g.begins.holds g.count g.same (omega (arith, g.upto, g.room)) q

  pub ends-stop : {ys : List ℕ} {d : Counts} → i < total → entry_at s line at ≡ Stop → ys ≡ sets xs i (zeros (length xs - i)) → d ≡ having i c → Ends n goal (Ok d) ys
  ends-stop {d = d} h q w f =
      ends-marked n goal (g.placed ++ zeros (total - i)) d (at_entry Stop h q)
      (f ∙ g.tallied ∙ sym (counts-append g.placed (zeros (total - i)) ∙ ap (plus (counts_of g.placed)) (counts-replicate (total - i) 0) ∙ plus_none (counts_of g.placed)))
      (padded-placed w ∙ padded-zeros n (total - i) g.placed (omega (arith, g.count, g.upto, g.room)))

  pub ends-refused : {r : Result Counts Fault} {ys : List ℕ} → i < total → entry_at s line at ≡ OutOfRange → (r ≡ refused NumberRange at) × (ys ≡ zeros (length xs)) → Ends n goal r ys
  ends-refused h q e = ends_zero n (at_entry OutOfRange h q) (e.0, e.1 ∙ ap zeros g.same)

  pub ends_all : {ys : List ℕ} {d : Counts} → total ≤ i → ys ≡ sets xs i (zeros (length xs - i)) → d ≡ having i c → Ends n goal (Ok d) ys
  ends_all {d = d} h w f =
      ends-marked n goal (g.placed ++ []) d (g.comes ∙ ap (behind g.placed) (marks-ended g.turns s line at (total - i) (omega arith)))
      (f ∙ g.tallied ∙ ap counts_of (sym (append-nil g.placed))) (padded-placed w ∙ ap (padded n) (sym (append-nil g.placed)))

  goes : (x : Span) (ys : List ℕ) (m byte : ℕ) (d : Lacks) → i < total → entry_at s line at ≡ Covers x → m ≡ min x.instructions (total - i) → byte ≡ source_of s at x.line x.missing
      → m ≤ 8 → ys ≡ sets xs i (cond (leb 8 (length xs - i)) (replicate 8 byte) (replicate m byte)) → d ≡ lacking c m byte → Going s total n goal ys d x.line x.next (i + m)
  goes x ys m byte d h q k b most e w =
      let z : 0 < x.instructions = entry-places s line at x q in
      let l : total - i - x.instructions ≡ total - (i + m) = omega arith in
      let more = replicate m byte in
      record {
        placed = g.placed ++ more;
        count = omega (arith, length-append g.placed more, length-replicate m byte, g.count);
        upto = omega (arith, g.upto);
        room = g.room;
        same = ap length e ∙ length-sets xs i (cond (leb 8 (length xs - i)) (replicate 8 byte) (replicate m byte)) ∙ g.same;
        begins = begins_filled m byte g.placed g.begins.rest g.begins.holds g.count (omega (arith, g.same, g.upto, g.room)) most e;
        tallied =
            ap (having (i + m)) w ∙ sym (having_more i m byte c g.few (ap is_placed b ∙ source-placed s at x.line x.missing))
            ∙ ap (λ t. plus t (times m byte)) g.tallied ∙ sym (counts-append g.placed more ∙ ap (plus (counts_of g.placed)) (counts-replicate m byte));
        few = subst (λ t. Few t (i + m)) (sym w) (few_more i m byte c g.few);
        turns = g.turns - 1;
        enough = omega (arith, g.enough);
        comes =
            rw (← k, ← b, behind-twice g.placed more (marks (g.turns - 1) s x.line x.next (total - i - x.instructions)), l)
            at (at_entry (Covers x) h q);
      }

  -- by the turn that was taken
  pub goes_on : (x : Mark) (ys : List ℕ) (m : ℕ) (d : Lacks) → i < total → (t : Given s line at x) → m ≡ min x.instructions (total - i) → m ≤ 8
      → ys ≡ sets xs i (cond (leb 8 (length xs - i)) (replicate 8 x.byte) (replicate m x.byte)) → d ≡ lacking c m x.byte → Going s total n goal ys d x.line x.next (i + m)
  goes_on x ys m d h t k most e w =
      subst (λ a. Going s total n goal ys d a x.next (i + m)) (sym t.line_same)
      (subst (λ a. Going s total n goal ys d t.entry.line a (i + m)) (sym t.next_same)
      (goes t.entry ys m x.byte d h t.stands (k ∙ ap (λ a. min a (total - i)) t.instructions_same) t.byte_same most e w))

-- ---- the answer of a whole table, case by case: 14, 17, then the walk
module _ (s : List ℕ) (first count capacity : ℕ) where
  pub sources-long : most_bytes < length s → sources s first count capacity ≡ denied InputTooLong 0
  unfolding sources
  sources-long h = rw (lt-ltb most_bytes (length s) h)

  pub sources-short : length s ≤ most_bytes → capacity < count → sources s first count capacity ≡ denied NoRoom capacity
  unfolding sources
  sources-short h k = rw (le-ltb most_bytes (length s) h, lt-ltb capacity count k)

  pub sources_walks : length s ≤ most_bytes → count ≤ capacity → sources s first count capacity ≡ marks count s first 0 count
  unfolding sources
  sources_walks h k = rw (le-ltb most_bytes (length s) h, le-ltb capacity count k)

pub ends-walk : (s : List ℕ) (first count capacity : ℕ) (n x : ℕ) {r : Result Counts Fault} {ys : List ℕ} → length s ≤ most_bytes → count ≤ capacity → x ≡ first
    → Ends n (marks count s x 0 count) r ys → Ends n (sources s first count capacity) r ys
ends-walk s first count capacity n x' h k e x = rw (sources_walks s first count capacity h k, ← e) x
