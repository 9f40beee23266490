-- THEOREM of 02's K6: what the calls make of any state: one that keeps a refusal repeats it, one that has ended is of no use, numbers that are no
-- state are 21, and a call on a state leaves a state.
use mathlib.Core.Path.{◌≡◌, refl, sym, ap, subst, ◌∙◌}
use mathlib.Core.Bool.{Bool, true, false, cond, ◌||◌}
use mathlib.Core.List.{List, [], ◌∷◌, ◌++◌}
use Prim.Native.Nat.{ℕ, zero, suc, ◌+◌, ◌-◌, ◌/◌, ◌≤◌}
use native.Mathlib.Omega.{arith}
use lib.ListN.{length, get_or, length-append, length-replicate}
use lib.Seq.{sets, length-sets}
use lib.Dec.{ltb, eqb}
use borrow.Author.Tests.{ltb-true, ltb-false, eqb-true, eqb-false}
use Rattle.std.specs.Prelude.{Err}
use Rattle.refusals.specs.Numbers.{input_too_long, no_room, number_range}
use Rattle.refusals.specs.Faults.{number_of, fault}
use Rattle.refusals.specs.declared.Refusal.{Refusal}
use Rattle.refusals.specs.declared.Refusal.TheVariants.{InputTooLong, NoRoom, NumberRange, AlreadyEnded}
use Rattle.refusals.specs.declared.Fault.{Fault}
use Rattle.refusals.proofs.Faults.{number_of_injective}
use Rattle.refusals.specs.Limits.{most_bytes}
use Rattle.grammar.specs.Input.{Bytes}
use Rattle.clearing.specs.Lent.{zeros}
use Rattle.lineentry.specs.declared.Entry.{Entry}
use Rattle.lineentry.specs.declared.Entry.TheVariants.{Covers, Stop, OutOfRange}
use Rattle.lineentry.specs.Entry.{entry_at}
use Rattle.piecestate.specs.declared.Gate.TheVariants.{Open, Shut, Stuck}
use Rattle.piecestate.specs.State.{going, refusing, ended, kept_at, held_at, kept_refusal, kept_why, sound_by, sound, refused_state}
use Rattle.piecestate.specs.Answers.{Left, left, shut, stuck, gate}
use Rattle.piecestate.proofs.Stores.{length_held}
use Rattle.pieces.specs.Facts.{Entered}
use Rattle.pieces.specs.Piece.{piece_by}
use Rattle.pieces.proofs.Enters.{goes, all_counts, piece-long, piece-over, piece_on}
use Rattle.pieces.specs.Calls.{by_held, end_by, fresh, begin, piece, end}
use Rattle.cuttings.specs.Promised.{calls, States}
use Rattle.pieces.proofs.Gates.{open_gate, refused-gate, ended-gate, other-gate, room-gate, by_gate}
use Rattle.pieces.proofs.Begins.{begin-few, begin_on}
use Rattle.pieces.proofs.Closes.{end_over, end_placed, end_held_by}
use Rattle.cuttings.proofs.Spelled.{refused_is, ended_is}
use Rattle.cuttings.proofs.Sound.{bytes-append, bytes_held, refused-sound, ended-sound, counted-sound, fresh-sound, walked-sound}

-- a shut gate shuts both calls
shuts : (v s rs : List ℕ) (why : Fault) → 40 ≤ length s → gate s (kept_at s) (length rs / 4) ≡ Shut why → (piece v s rs ≡ shut s rs why) × (end s rs ≡ shut s rs why)
unfolding piece end
shuts v s rs why h e = (by_gate s rs h (piece_by v s rs (kept_at s)) (Shut why) e, by_gate s rs h (end_by s rs (kept_at s)) (Shut why) e)

-- ---- a refusal that is kept
-- a number that is kept is that of a refusal
kept_number : (number : ℕ) → kept_refusal number ≡ true → number_of (kept_why number) ≡ number
kept_number number h = a (eqb number 14) refl (eqb number 17) refl h where
  a : (p : Bool) → eqb number 14 ≡ p → (q : Bool) → eqb number 17 ≡ q → (p || (q || eqb number 18)) ≡ true → number_of (cond p InputTooLong (cond q NoRoom NumberRange)) ≡ number
  a true p q b h = sym (eqb-true number 14 p)
  a false p true b h = sym (eqb-true number 17 b)
  a false p false b h = sym (eqb-true number 18 h)

kept_same : (why : Refusal) → kept_refusal (number_of why) ≡ true → kept_why (number_of why) ≡ why
kept_same why h = number_of_injective (kept_number (number_of why) h)

module _ (s rs : List ℕ) (why : Fault) (h : 40 ≤ length s) (k : kept_refusal (number_of why.refusal) ≡ true) where
  abbrev kept : List ℕ
  kept = refused_state s (number_of why.refusal) why.place

  long : 40 ≤ length kept
  long = omega (arith, length-sets s 6 (refusing ∷ number_of why.refusal ∷ why.place ∷ []), h)

  pub repeats : (v ys : List ℕ) → (piece v kept ys ≡ shut kept ys why) × (end kept ys ≡ shut kept ys why)
  repeats v ys =
      let z = refused_is s h (number_of why.refusal) why.place in
      shuts v kept ys why long
      (refused-gate kept (kept_at kept) (length ys / 4) (refused-sound s h (number_of why.refusal) why.place k) (ap (λ y. get_or y 6 0) z)
      ∙ ap (λ i. Shut (fault (kept_why i) (get_or kept 8 0))) (ap (λ y. get_or y 7 0) z) ∙ ap (λ i. Shut (fault (kept_why (number_of why.refusal)) i)) (ap (λ y. get_or y 8 0) z)
      ∙ ap (λ w. Shut (fault w why.place)) (kept_same why.refusal k))

  still : shut kept (zeros (length rs)) why ≡ stuck s rs why
  still = ap (λ i. left (Err why) kept (zeros i)) (length-replicate {A = ℕ} (length rs) 0)

  pub stuck_stays : (v : List ℕ) → piece v (stuck s rs why).state (stuck s rs why).records ≡ stuck s rs why
  stuck_stays v = (repeats v (zeros (length rs))).0 ∙ still

  pub stuck-ends : end (stuck s rs why).state (stuck s rs why).records ≡ stuck s rs why
  stuck-ends = (repeats [] (zeros (length rs))).1 ∙ still

pub stuck-calls : (s rs : List ℕ) (why : Fault) (h : 40 ≤ length s) (k : kept_refusal (number_of why.refusal) ≡ true) (vs : List (List ℕ)) → calls (stuck s rs why) vs ≡ stuck s rs why
stuck-calls s rs why h k [] = refl
stuck-calls s rs why h k (v ∷ vs) = ap (λ x. calls x vs) (stuck_stays s rs why h k v) ∙ stuck-calls s rs why h k vs

-- ---- after the end
over_now : (v s rs : List ℕ) → 40 ≤ length s
    → (piece v (sets s 6 (ended ∷ [])) rs ≡ shut (sets s 6 (ended ∷ [])) rs (fault AlreadyEnded 0)) × (end (sets s 6 (ended ∷ [])) rs ≡ shut (sets s 6 (ended ∷ [])) rs (fault AlreadyEnded 0))
over_now v s rs h =
    let t = sets s 6 (ended ∷ []) in
    shuts v t rs (fault AlreadyEnded 0) (omega (arith, length-sets s 6 (ended ∷ []))) (ended-gate t (kept_at t) (length rs / 4) (ended-sound s h) (ap (λ y. get_or y 6 0) (ended_is s h)))

-- ---- zeros
zero_at : (n i : ℕ) → get_or (zeros n) i 0 ≡ 0
zero_at zero i = refl
zero_at (suc n) zero = refl
zero_at (suc n) (suc i) = zero_at n i

zeros_none : (n : ℕ) → sound (zeros n) ≡ false
unfolding sound_by
zeros_none n = rw (zero_at n 6)

-- ---- a call on a state leaves a state
length-kept : (s : List ℕ) → get_or s 9 0 ≤ 25 → 40 ≤ length s → length (held_at s) ≡ get_or s 9 0
unfolding held_at
length-kept s k h = length_held s (get_or s 9 0) k h

begun-sound : (first count : ℕ) (s rs : List ℕ) → 40 ≤ length s → sound (begin first count s rs).state ≡ true
begun-sound first count s rs h = by (ltb (length rs / 4) count) refl where
  by : (t : Bool) → ltb (length rs / 4) count ≡ t → sound (begin first count s rs).state ≡ true
  by true e =
      ap (λ (x : Left). sound x.state) (begin-few first count s rs h (ltb-true (length rs / 4) count e))
      ∙ refused-sound (fresh first count s) (omega (arith, length-sets s 0 (first ∷ count ∷ first ∷ 0 ∷ 0 ∷ 0 ∷ going ∷ 0 ∷ 0 ∷ 0 ∷ []))) no_room (length rs / 4) refl
  by false e = ap (λ (x : Left). sound x.state) (begin_on first count s rs h (ltb-false (length rs / 4) count e)) ∙ fresh-sound s h first count

module _ (s rs : List ℕ) (h : 40 ≤ length s) (ok : sound s ≡ true) where
  -- whatever the gate says, the state is one
  opened : (x f : Left) → ((why : Fault) → gate s (kept_at s) (length rs / 4) ≡ Shut why → x ≡ shut s rs why)
      → ((why : Fault) → gate s (kept_at s) (length rs / 4) ≡ Stuck why → x ≡ stuck s rs why)
      → (gate s (kept_at s) (length rs / 4) ≡ Open → x ≡ f) → (Entered (kept_at s) s rs → sound f.state ≡ true) → sound x.state ≡ true
  opened x f shut_by stuck_by open_by k = a (eqb (get_or s 6 0) 3) refl where
    c : (get_or s 6 0 ≡ 3 → ⊥) → (get_or s 6 0 ≡ 4 → ⊥) → (t : Bool) → ltb (length rs / 4) (get_or s 1 0) ≡ t → sound x.state ≡ true
    c p q true e =
        ap (λ (y : Left). sound y.state) (stuck_by (fault NoRoom (length rs / 4)) (room-gate s (kept_at s) (length rs / 4) ok p q (ltb-true (length rs / 4) (get_or s 1 0) e))) ∙ refused-sound s h no_room (length rs / 4) refl
    c p q false e =
        let w = ltb-false (length rs / 4) (get_or s 1 0) e in
        ap (λ (y : Left). sound y.state) (open_by (open_gate s (kept_at s) (length rs / 4) ok p q w))
        ∙ k (record { numbers = h; keeps = refl; sounds = ok; stands = p; lasts = q; room = omega arith })

    b : (get_or s 6 0 ≡ 3 → ⊥) → (t : Bool) → eqb (get_or s 6 0) 4 ≡ t → sound x.state ≡ true
    b p true e = ap (λ (y : Left). sound y.state) (shut_by (fault AlreadyEnded 0) (ended-gate s (kept_at s) (length rs / 4) ok (eqb-true (get_or s 6 0) 4 e))) ∙ ok
    b p false e = c p (eqb-false (get_or s 6 0) 4 e) (ltb (length rs / 4) (get_or s 1 0)) refl

    a : (t : Bool) → eqb (get_or s 6 0) 3 ≡ t → sound x.state ≡ true
    a true e = ap (λ (y : Left). sound y.state) (shut_by (fault (kept_why (get_or s 7 0)) (get_or s 8 0)) (refused-gate s (kept_at s) (length rs / 4) ok (eqb-true (get_or s 6 0) 3 e))) ∙ ok
    a false e = b (eqb-false (get_or s 6 0) 3 e) (eqb (get_or s 6 0) 4) refl

  module _ (v : List ℕ) (b : Bytes v) where
    taken_sound : Entered (kept_at s) s rs → sound (piece_by v s rs (kept_at s)).state ≡ true
    taken_sound e = long_by_lem (ltb most_bytes (get_or s 5 0 + length v)) refl where
      going_by : get_or s 5 0 + length v ≤ most_bytes → (t : Bool) → eqb (get_or s 6 0) 2 ≡ t → sound (piece_by v s rs (kept_at s)).state ≡ true
      going_by w true q =
          let o = eqb-true (get_or s 6 0) 2 q in
          ap (λ (y : Left). sound y.state) (piece-over (kept_at s) s rs e v w o) ∙ counted-sound s h (get_or s 5 0 + length v) o (all_counts (kept_at s) s rs e).few w
      going_by w false q =
          let o = eqb-false (get_or s 6 0) 2 q in
          let a = goes (kept_at s) s rs e o in
          let l : length (held_at s) ≡ get_or s 9 0 = length-kept s a.short h in
          ap (λ (y : Left). sound y.state) (piece_on (kept_at s) s rs e v w o)
          ∙ walked-sound s h (held_at s ++ v) (get_or s 4 0) (get_or s 5 0 + length v) (get_or s 2 0) (get_or s 3 0) (get_or s 1 0) rs refl w (omega (arith, length-append (held_at s) v, a.from, a.within)) (bytes-append (held_at s) v (bytes_held s) b)

      long_by_lem : (t : Bool) → ltb most_bytes (get_or s 5 0 + length v) ≡ t → sound (piece_by v s rs (kept_at s)).state ≡ true
      long_by_lem true q = ap (λ (y : Left). sound y.state) (piece-long (kept_at s) s rs e v (ltb-true most_bytes (get_or s 5 0 + length v) q)) ∙ refused-sound s h input_too_long 0 refl
      long_by_lem false q = going_by (ltb-false most_bytes (get_or s 5 0 + length v) q) (eqb (get_or s 6 0) 2) refl

    pub piece-sound : sound (piece v s rs).state ≡ true
    unfolding piece
    piece-sound =
        opened (piece v s rs) (piece_by v s rs (kept_at s)) (λ why. by_gate s rs h (piece_by v s rs (kept_at s)) (Shut why)) (λ why. by_gate s rs h (piece_by v s rs (kept_at s)) (Stuck why))
        (by_gate s rs h (piece_by v s rs (kept_at s)) Open) taken_sound

  held_sound : (n : ℕ) (y : Entry) → sound (by_held s rs (kept_at s) n y).state ≡ true
  held_sound n (Covers e) = ended-sound s h
  held_sound n Stop = ended-sound s h
  held_sound n OutOfRange = refused-sound s h number_range (get_or s 4 0) refl

  ends-sound : sound (end_by s rs (kept_at s)).state ≡ true
  ends-sound = by (eqb (get_or s 6 0) 2) refl where
    at : (get_or s 6 0 ≡ 2 → ⊥) → (t : Bool) → eqb (get_or s 3 0) (get_or s 1 0) ≡ t → sound (end_by s rs (kept_at s)).state ≡ true
    at o true q = ap (λ (y : Left). sound y.state) (end_placed s rs (kept_at s) o (eqb-true (get_or s 3 0) (get_or s 1 0) q)) ∙ ended-sound s h
    at o false q =
        ap (λ (y : Left). sound y.state) (end_held_by s rs (kept_at s) o (eqb-false (get_or s 3 0) (get_or s 1 0) q)) ∙ held_sound (get_or s 1 0 - get_or s 3 0) (entry_at (held_at s) (get_or s 2 0) 0)

    by : (t : Bool) → eqb (get_or s 6 0) 2 ≡ t → sound (end_by s rs (kept_at s)).state ≡ true
    by true q = ap (λ (y : Left). sound y.state) (end_over s rs (kept_at s) (eqb-true (get_or s 6 0) 2 q)) ∙ ended-sound s h
    by false q = at (eqb-false (get_or s 6 0) 2 q) (eqb (get_or s 3 0) (get_or s 1 0)) refl

  pub end_sound : sound (end s rs).state ≡ true
  unfolding end
  end_sound =
      opened (end s rs) (end_by s rs (kept_at s)) (λ why. by_gate s rs h (end_by s rs (kept_at s)) (Shut why)) (λ why. by_gate s rs h (end_by s rs (kept_at s)) (Stuck why))
      (by_gate s rs h (end_by s rs (kept_at s)) Open) (λ e. ends-sound)

repeats_number : (v s rs : List ℕ) (number place : ℕ) → 40 ≤ length s → kept_refusal number ≡ true
    → (why : Refusal) × ((number_of why ≡ number)
    × ((piece v (refused_state s number place) rs ≡ shut (refused_state s number place) rs (fault why place)) × (end (refused_state s number place) rs ≡ shut (refused_state s number place) rs (fault why place))))
repeats_number v s rs number place h k =
    let why = kept_why number in
    let e = kept_number number k in
    (why, (e, subst (λ n. (piece v (refused_state s n place) rs ≡ shut (refused_state s n place) rs (fault why place)) × (end (refused_state s n place) rs ≡ shut (refused_state s n place) rs (fault why place))) e (repeats s rs (fault why place) h (subst (λ n. kept_refusal n ≡ true) (sym e) k) v rs)))

pub states-kept : States
states-kept =
    record {
      after_end = over_now;
      repeats = repeats_number;
      other = λ v s rs h e. shuts v s rs (fault AlreadyEnded 0) h (other-gate s (kept_at s) (length rs / 4) e);
      zeros_are_none = zeros_none;
      begun = begun-sound;
      pieced = λ v s rs h b e. piece-sound s rs h e v b;
      finished = λ s rs h e. end_sound s rs h e;
    }
