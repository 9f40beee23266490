-- The loop of `walk_entries`: what comes of the whole table is what comes of the rest, after what is already placed.
-- One law for each way on from a turn.
use mathlib.Core.Path.{◌≡◌, refl, sym, ◌∙◌, ap, subst}
use mathlib.Core.Bool.{Bool, true, false, not, ◌&&◌, ◌||◌}
use mathlib.Core.List.{List, [], ◌++◌, append_assoc}
use Prim.Native.Nat.{ℕ, zero, suc, ◌+◌, ◌-◌, ◌*◌, ◌≤◌, ◌<◌}
use native.Mathlib.Nat.{add_assoc}
use native.Mathlib.Omega.{arith}
use Rattle.std.specs.Prelude.{Result}
use lib.ListN.{length, replicate, length-append, length-replicate}
use lib.Seq.{sets, length-sets}
use lib.Dec.{leb, eqb}
use borrow.Author.Tests.{le-leb, lt-leb, eq-eqb, ne_eqb}
use Rattle.refusals.specs.Faults.{refused as refused_as}
use Rattle.refusals.specs.declared.Fault.{Fault}
use Rattle.refusals.specs.declared.Refusal.TheVariants.{NumberRange}
use Rattle.clearing.specs.Lent.{zeros, padded}
use Rattle.lineentry.specs.declared.Location.{Location}
use Rattle.lineentry.specs.declared.Span.{Span}
use Rattle.lineentry.specs.declared.Entry.{Entry}
use Rattle.lineentry.specs.declared.Entry.TheVariants.{Covers, Stop, OutOfRange}
use Rattle.lineentry.specs.Entry.{entry_at, at_line}
use Rattle.lineentry.proofs.Entries.{entry-places}
use Rattle.linetable.specs.declared.Located.{Located}
use Rattle.linetable.specs.Walk.{Reading, done, refused, joined, ended, after, walk}
use Rattle.linetable.specs.Answer.{numbers, tells, answer, numbered, records_of}
use Rattle.linetable.proofs.Stores.{length-numbers, stored-after, over_zeros}

-- ---- one turn of the walk
pub walk-ended : (turns : ℕ) (s : List ℕ) (first : Location) (line p left : ℕ) → left ≡ 0 → walk turns s first line p left ≡ ended s p
walk-ended zero s first line p left e = refl
walk-ended (suc turns) s first line p left e = rw (eq-eqb left 0 e)

pub walk-entry : (turns : ℕ) (s : List ℕ) (first : Location) (line p left : ℕ) → 0 < left → left ≤ turns
    → walk turns s first line p left ≡ after (walk (turns - 1) s first) first p left (entry_at s line p)
walk-entry zero s first line p left h k = absurd (omega arith)
walk-entry (suc turns) s first line p left h k =
    let e : suc turns - 1 ≡ turns = omega arith in
    rw (e, ne_eqb left 0 (λ z. omega arith))

-- ---- what is placed before a reading
and_assoc : (a b c : Bool) → (not a && (not b && c)) ≡ (not (a || b) && c)
and_assoc true b c = refl
and_assoc false b c = refl

pub and-false : (a : Bool) → (a && false) ≡ false
and-false true = refl
and-false false = refl

done_eq : {xs ys : List Location} {i j : ℕ} {v w : Bool} → xs ≡ ys → i ≡ j → v ≡ w → done xs i v ≡ done ys j w
done_eq p q r = cc

pub joined-none : (r : Reading) → joined [] 0 false r ≡ r
joined-none (done at k whole) = done_eq refl (omega arith) refl
joined-none (refused number place) = refl

pub joined-twice : (xs ys : List Location) (i n : ℕ) (a b : Bool) (r : Reading) → joined xs i a (joined ys n b r) ≡ joined (xs ++ ys) (i + n) (a || b) r
joined-twice xs ys i n a b (done at k whole) = done_eq (sym (append_assoc xs ys at)) (sym (add_assoc i n k)) (and_assoc a b whole)
joined-twice xs ys i n a b (refused number place) = refl

-- ---- the loop's invariant
-- `clean` is the store where the loop begins, of n numbers, zero past the records of all `total` instructions.
pub record Going (s : List ℕ) (total n : ℕ) (first : Location) (goal : Reading) (clean xs : List ℕ) (line at i : ℕ) (missing : Bool) : Type 0 where
  pub placed : List Location
  pub count : length placed ≡ i
  pub upto : i ≤ total
  pub room : 4 * total ≤ n
  pub same : length xs ≡ n
  pub holds : xs ≡ sets clean 0 (numbers placed)
  pub padding : (zs : List ℕ) → length zs ≡ 4 * total → sets clean 0 zs ≡ padded n zs
  pub turns : ℕ
  pub enough : total - i ≤ turns
  pub comes : goal ≡ joined placed i missing (walk turns s first line at (total - i))

-- the answer r and the store's contents ys are the goal's
abbrev pub Ends : ℕ → Reading → Result Located (ℕ × ℕ) → List ℕ → Type 0
Ends n goal r ys = (r ≡ answer goal) × (ys ≡ records_of n goal)

ends-done : (n : ℕ) (goal : Reading) (at : List Location) (i k : ℕ) (v w : Bool) (ys : List ℕ) → goal ≡ done at k w → i ≡ k → v ≡ w → ys ≡ padded n (numbers at) → Ends n goal (tells i v) ys
unfolding records_of
ends-done n goal at i k v w ys e p q h = rw e (cc, h)

-- where the loop begins: the store was passed as xs, and is cleared past the records
pub going_start : (s : List ℕ) (count first : ℕ) (xs clean : List ℕ) (l : Location) → 4 * count ≤ length xs → length clean ≡ length xs
    → clean ≡ sets xs (4 * count) (zeros (length xs - 4 * count)) → l ≡ at_line first
    → Going s count (length clean) l (walk count s (at_line first) first 0 count) clean clean first 0 0 false
going_start s count first xs clean l h n e q =
    record {
      placed = [];
      count = refl;
      upto = omega arith;
      room = omega arith;
      same = refl;
      holds = refl;
      padding = λ zs k. rw (n, e) (over_zeros xs (4 * count) zs h k);
      turns = count;
      enough = omega arith;
      comes =
          let z : count - 0 ≡ count = omega arith in
          rw (q, z) (sym (joined-none (walk count s (at_line first) first 0 count)));
    }

-- the store that was passed is as long as the store where the loop begins
pub at_length : {n k : ℕ} (goal : Reading) {r : Result Located (ℕ × ℕ)} {ys : List ℕ} → n ≡ k → Ends n goal r ys → Ends k goal r ys
at_length goal {r} {ys} e x = subst (λ j. Ends j goal r ys) e x

module _ {s : List ℕ} {total n : ℕ} {first : Location} {goal : Reading} {clean xs : List ℕ} {line at i : ℕ} {missing : Bool} (g : Going s total n first goal clean xs line at i missing) where
  -- what `fill` asks
  pub fits : (k : ℕ) → k ≤ total - i → 4 * i + 4 * k ≤ length xs
  fits k h = omega (arith, g.same, g.room, g.upto)

  -- what is stored after what is placed, where that is all
  padded_all : (more : List Location) (ys : List ℕ) → length more ≡ total - i → ys ≡ sets xs (4 * i) (numbers more) → ys ≡ padded n (numbers (g.placed ++ more))
  padded_all more ys h e =
      let k : length (numbers (g.placed ++ more)) ≡ 4 * total = omega (arith, length-numbers (g.placed ++ more), length-append g.placed more, g.count, g.upto) in
      e ∙ rw g.holds (stored-after clean g.placed more i g.count) ∙ g.padding (numbers (g.placed ++ more)) k

  at_entry : (e : Entry) → i < total → entry_at s line at ≡ e → goal ≡ joined g.placed i missing (after (walk (g.turns - 1) s first) first at (total - i) e)
  at_entry e h q =
      g.comes
      ∙ ap (joined g.placed i missing) (walk-entry g.turns s first line at (total - i) (omega arith) g.enough ∙ ap (after (walk (g.turns - 1) s first) first at (total - i)) q)

  pub ends-stop : (ys : List ℕ) → i < total → entry_at s line at ≡ Stop → ys ≡ sets xs (4 * i) (numbers (replicate (total - i) first)) → Ends n goal (tells i false) ys
  ends-stop ys h q e =
      ends-done n goal (g.placed ++ replicate (total - i) first) i (i + 0) false (not missing && false) ys (at_entry Stop h q) (omega arith) (sym (and-false (not missing)))
      (padded_all (replicate (total - i) first) ys (length-replicate (total - i) first) e)

  pub ends-refused : (r : Result Located Fault) (ys : List ℕ) → i < total → entry_at s line at ≡ OutOfRange → (r ≡ refused_as NumberRange at) × (ys ≡ zeros (length xs)) → Ends n goal (numbered r) ys
  unfolding records_of
  ends-refused r ys h q e = rw (at_entry OutOfRange h q) (ap numbered e.0, e.1 ∙ ap zeros g.same)

  pub ends-beyond : (x : Span) (ys : List ℕ) → i < total → entry_at s line at ≡ Covers x → total - i < x.instructions → ys ≡ sets xs (4 * i) (numbers (replicate (total - i) x.location)) → Ends n goal (tells total false) ys
  ends-beyond x ys h q k e =
      let t : leb x.instructions (total - i) ≡ false = lt-leb x.instructions (total - i) k in
      ends-done n goal (g.placed ++ replicate (total - i) x.location) total (i + (total - i)) false (not missing && false) ys (rw t at (at_entry (Covers x) h q)) (omega arith) (sym (and-false (not missing)))
      (padded_all (replicate (total - i) x.location) ys (length-replicate (total - i) x.location) e)

  pub goes_on : (x : Span) (ys : List ℕ) (m : Bool) → i < total → entry_at s line at ≡ Covers x → x.instructions ≤ total - i → ys ≡ sets xs (4 * i) (numbers (replicate x.instructions x.location)) → m ≡ (missing || x.missing)
      → Going s total n first goal clean ys x.line x.next (i + x.instructions) m
  goes_on x ys m h q k e w =
      let t : leb x.instructions (total - i) ≡ true = le-leb x.instructions (total - i) k in
      let z : 0 < x.instructions = entry-places s line at x q in
      let l : total - i - x.instructions ≡ total - (i + x.instructions) = omega arith in
      let more = replicate x.instructions x.location in
      record {
        placed = g.placed ++ more;
        count = omega (arith, length-append g.placed more, length-replicate x.instructions x.location, g.count);
        upto = omega (arith, g.upto);
        room = g.room;
        same = ap length e ∙ length-sets xs (4 * i) (numbers more) ∙ g.same;
        holds = e ∙ rw g.holds (stored-after clean g.placed more i g.count);
        padding = g.padding;
        turns = g.turns - 1;
        enough = omega (arith, g.enough);
        comes =
            rw (t, joined-twice g.placed more i x.instructions missing x.missing (walk (g.turns - 1) s first x.line x.next (total - i - x.instructions)), l, ← w)
            at (at_entry (Covers x) h q);
      }

  pub ends_all : (v : Bool) → total ≤ i → v ≡ (not missing && eqb at (length s)) → Ends n goal (tells total v) xs
  ends_all v h e =
      let z : length {A = Location} [] ≡ total - i = omega arith in
      ends-done n goal (g.placed ++ []) total (i + 0) v (not missing && eqb at (length s)) xs
      (g.comes ∙ ap (joined g.placed i missing) (walk-ended g.turns s first line at (total - i) (omega arith)))
      (omega (arith, g.upto)) e (padded_all [] xs z refl)
