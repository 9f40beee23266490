-- The children of a value, one after another: each definition of Steps keeps what Made says of them. Assumes that the input is 16 MiB at most.
use mathlib.Core.Path.{◌≡◌, refl, sym, ap, ◌∙◌}
use Prim.Native.Nat.{ℕ, zero, suc, ◌+◌, ◌≤◌, ◌<◌}
use native.Mathlib.Omega.{arith}
use mathlib.Core.Bool.{Bool, true, false, cond}
use mathlib.Core.Option.{some}
use mathlib.Core.List.{List, [], ◌∷◌}
use lib.ListN.{length, get_or, length-append}
use lib.Dec.{leb, ltb, eqb}
use borrow.Author.Tests.{ltb-true, ltb-false, leb-true}
use Rattle.refusals.specs.Numbers.{accepted, eof_object, data_too_short, bad_type, no_entry}
use Rattle.refusals.specs.Limits.{most_bytes, nothing}
use Rattle.grammar.specs.Reading.{entry, Reading, done, refused, claim, bind, reads, Answer, gives, stops}
use Rattle.grammar.specs.Room.{Rooms, room_for, number_of, run, plainly}
use Rattle.grammar.specs.Letters.{ends_dict}
use Rattle.grammar.specs.Fields.{Children, items, pairs, parts}
use Rattle.grammar.specs.State.{State, moved_to}
use Rattle.grammar.specs.Steps.{Chain, fresh, attach, Rule, whatever, suits, Reader, child, kids, passed, couples, code_parts, rules, line_part, lined, first_line_of, parts_from, fault_of, ended, body}
use Rattle.grammar.proofs.Following.{Need, raise}
use Rattle.grammar.proofs.Standing.{Holds, attached, started, few}
use Rattle.grammar.proofs.Keeping.{moved}
use Rattle.meaning.proofs.Standing.{attach_on}
use Rattle.shifts.proofs.Onward.{New, old, new, onward_same, onward_trans, Spaced}
use Rattle.shifts.proofs.Agreeing.{Either, this, that}
use Rattle.shifts.proofs.Lowered.{spaced_behind}
use Rattle.alone.proofs.Totals.{total_split}
use Rattle.alone.proofs.Kin.{flag, Kin, Earlier, kin_none, kin_moved, totals_on}
use Rattle.alone.proofs.KinSteps.{kin_then, kin_entry}
use Rattle.alone.proofs.Made.{LineClear, Flagged, rebased, Made, Makes, Placed, Run, follow-length, last-in, attach-stands, filled_on, value-stands, value-grown}

-- A reading that gives something, taken apart.

pub same_gives : {A : Type 0} (a b : A) → gives a ≡ gives b → a ≡ b
same_gives a b e = cc

pub stops-gives : {A X : Type 0} {n p : ℕ} {a : A} → stops n p ≡ gives a → X
stops-gives e = let z : ◌≡◌ {A = ℕ} 0 1 = cc in absurd (omega arith)

-- a claim that there is room for
pub fits : {A : Type 0} (t : Bool) (x : Answer A) (n p : ℕ) (a : A) → cond t x (stops n p) ≡ gives a → (t ≡ true) × (x ≡ gives a)
fits true x n p a e = (refl, e)
fits false x n p a e = stops-gives e

module _ (R : Rooms) where
  -- what is given in some room is what the plain reading gives
  pub run-plainly : {A : Type 0} (m : Reading A) (a : A) → run R m ≡ gives a → plainly m ≡ gives a
  unfolding run plainly
  run-plainly (done x) a e = e
  run-plainly (refused n p) a e = e
  run-plainly (claim k need p m) a e = run-plainly m a (fits (leb need (room_for R k)) (run R m) (number_of k) p a e).1

  pub record Split {A B : Type 0} (m : Reading A) (f : A → Reading B) (b : B) : Type 0 where
    pub between : A
    pub first : run R m ≡ gives between
    pub rest : run R (f between) ≡ gives b

  pub split : {A B : Type 0} (m : Reading A) (f : A → Reading B) (b : B) → run R (bind m f) ≡ gives b → Split m f b
  unfolding run bind
  split (done a) f b e = record { between = a; first = refl; rest = e }
  split (refused n p) f b e = stops-gives e
  split (claim k need p m) f b e =
      let z = fits (leb need (room_for R k)) (run R (bind m f)) (number_of k) p b e in
      let q = split m f b z.1 in
      record { between = q.between; first = ap (λ t. cond t (run R m) (stops (number_of k) p)) z.0 ∙ q.first; rest = q.rest }

  split_cond : {A : Type 0} (t : Bool) (m : Reading A) (n p : ℕ) (b : A) → run R (cond t m (refused n p)) ≡ gives b → (t ≡ true) × (run R m ≡ gives b)
  unfolding run
  split_cond true m n p b e = (refl, e)
  split_cond false m n p b e = stops-gives e

module _ (s : List ℕ) (R : Rooms) (small : length s ≤ most_bytes) where
  module _ (base : State) (c : Chain) (r : ℕ × State) (u : Run s R base c) (m : Made s R c.st r) where
    earlier : Earlier s base c.st
    earlier = record { on = u.chained.since.on; nodes = u.chained.since.more_nodes }

    few-read : length r.1.entries ≤ nothing
    few-read = few small m.valued.holds

    attach_kin : Kin s base (attach c r.0 r.1).st (attach c r.0 r.1).kids (length (attach c r.0 r.1).kids)
    unfolding attach
    attach_kin =
        kin_entry s (attach c r.0 r.1).st.entries (length-append c.kids (r.0 ∷ [])) (follow-length c.last (length r.1.entries) r.1.entries _)
        (attach_on small u.chained m.valued).links few-read
        (kin_then s u.kin m.kin (value-grown s R small (few small u.chained.holds) m) m.on.1 earlier few-read)

    -- the slots reserved before a node of the children's, and before one of this child's
    attach-flagged : (n slots : ℕ) → n ≤ length c.st.nodes → Flagged s base n c.st slots → Flagged s base n (attach c r.0 r.1).st slots
    unfolding attach
    attach-flagged n slots l f =
        record {
          nodes = f.nodes;
          many = f.many;
          flags = f.flags ∙ ap (λ z. length base.slots + z)
              (sym (totals_on s (flag s) (value-grown s R small (few small u.chained.holds) m) f.nodes (length base.nodes) (omega arith) (omega (arith, f.many))));
        }

    child-flagged : (n slots : ℕ) → Flagged s c.st n r.1 slots → Flagged s base n (attach c r.0 r.1).st slots
    unfolding attach
    child-flagged n slots f =
        record {
          nodes = u.kin.made + f.nodes;
          many = omega (arith, f.many, u.kin.many);
          flags = omega (
            arith,
            f.flags,
            u.kin.flags,
            total_split (flag s) r.1.nodes u.kin.made f.nodes (u.kin.made + f.nodes) (length base.nodes) (length c.st.nodes) refl u.kin.many,
            totals_on s (flag s) (value-grown s R small (few small u.chained.holds) m) u.kin.made (length base.nodes) (omega arith) (omega (arith, u.kin.many)),
          );
        }

    line_on : 0 < c.line → (x : ℕ) → New c.st r.1 x → Either (x + 4 ≤ c.line) (c.line + 4 ≤ x)
    line_on z x (old q) = u.line_clear z x q
    line_on z x (new l h) = that (omega (arith, u.line-behind z))

    last-is : (l : ℕ) → some (length r.1.entries) ≡ some l → length r.1.entries ≤ l
    last-is l z = let y : length r.1.entries ≡ l = cc in omega arith

    attach-placed : (n : ℕ) → length base.nodes ≤ n → n < length r.1.nodes → (b : Bool) → ltb n (length c.st.nodes) ≡ b → Placed s R base (attach c r.0 r.1) n
    unfolding attach
    attach-placed n l h true e =
        let q = ltb-true n (length c.st.nodes) e in
        let p = u.placed n l q in
        let i = p.inside in
        let w = value-stands s R small i.st i.end c.st r i.stands m in
        record {
          inside =
              rebased s R base (attach c r.0 r.1).st i (omega arith) (omega arith)
              (attach-stands s R small c r.0 i.st i.end r.1 w (attach_on small u.chained m.valued).links (λ j lo hi z. omega (arith, p.before j z)))
              (record {
                earlier = λ j y. rw (m.slots.kept j (omega (arith, i.grew, i.stands.more_slots))) (i.order.earlier j y);
                later = λ j lo hi. filled_on s R small m n (omega arith) j hi (λ y. i.order.later j lo y) (ltb j (length c.st.slots)) refl;
              })
              (attach-flagged n (length i.st.slots) (omega arith) i.flagged);
          before = λ k z. omega (arith, w.more_entries, last-is k z);
        }
    attach-placed n l h false e =
        let i = m.inside n (ltb-false n (length c.st.nodes) e) h in
        record {
          inside =
              rebased s R base (attach c r.0 r.1).st i (omega (arith, u.chained.since.entries.longer)) (omega (arith, u.slots.more))
              (attach-stands s R small c r.0 i.st i.end r.1 i.stands (attach_on small u.chained m.valued).links
              (λ j lo hi z. omega (arith, i.from_entries, last-in u.chained.built j z)))
              i.order (child-flagged n (length i.st.slots) i.flagged);
          before = λ k z. omega (arith, i.stands.more_entries, last-is k z);
        }

    attach-run : Run s R base (attach c r.0 r.1)
    unfolding attach
    attach-run =
        record {
          need = raise entry (length r.1.entries + 1) m.need;
          chained = attached small u.chained m.valued;
          on = onward_trans u.on (onward_trans m.on.1 (onward_same r.1 (attach c r.0 r.1).st (omega arith) refl));
          slots = record { more = omega (arith, u.slots.more, m.slots.more); kept = λ i l. m.slots.kept i (omega (arith, u.slots.more)) ∙ u.slots.kept i l };
          filled = λ j lo hi. filled_on s R small m (length base.nodes) u.chained.since.more_nodes j hi (λ q. u.filled j lo q) (ltb j (length c.st.slots)) refl;
          line-behind = λ z. omega (arith, u.line-behind z, m.on.0);
          line_clear = λ z x q. line_on z x (m.on.1.fresh x q);
          kin = attach_kin;
          placed = λ n l h. attach-placed n l h (ltb n (length c.st.nodes)) refl;
        }

  -- Bytes passed.
  abbrev after : Chain → (size line : ℕ) → Chain
  after c size line = record { kids = c.kids; first = c.first; last = c.last; line = line; st = moved_to (c.st.at + size) c.st }

  moved-run : (base : State) (c : Chain) (size line : ℕ) → c.st.at + size ≤ length s → (0 < line → line + 4 ≤ c.st.at + size) → LineClear line c.st → Run s R base c
      → Run s R base (after c size line)
  moved-run base c size line l lb lc u =
      record {
        need = u.need;
        chained = moved s small size line l u.chained;
        on = onward_trans u.on (onward_same c.st (moved_to (c.st.at + size) c.st) (omega arith) refl);
        slots = record { more = u.slots.more; kept = u.slots.kept };
        filled = u.filled;
        line-behind = lb;
        line_clear = lc;
        kin = kin_moved s (c.st.at + size) (omega arith) u.kin;
        placed = λ n lo hi. go n (u.placed n lo hi);
      }
    where
      go : (n : ℕ) → Placed s R base c n → Placed s R base (after c size line) n
      go n p =
          let i = p.inside in
          let w = i.stands in
          record {
            inside =
                rebased s R base (moved_to (c.st.at + size) c.st) i (omega arith) (omega arith)
                (record {
                  more_nodes = w.more_nodes;
                  nodes = w.nodes;
                  more_entries = w.more_entries;
                  entries = w.entries;
                  more_slots = w.more_slots;
                  slots = w.slots;
                  onward = onward_trans w.onward (onward_same c.st (moved_to (c.st.at + size) c.st) (omega arith) refl);
                  later = w.later;
                  filled = w.filled;
                  links = w.links;
                })
                i.order
                (record { nodes = i.flagged.nodes; many = i.flagged.many; flags = i.flagged.flags });
            before = p.before;
          }

  -- No child yet.
  pub started-run : (base : State) (t : Need) → Spaced base.at base.met → Holds s t base → Run s R base (fresh base)
  started-run base t sp h =
      record {
        need = t;
        chained = started h;
        on = onward_same base base (omega arith) refl;
        slots = record { more = omega arith; kept = λ i l. refl };
        filled = λ j lo hi. absurd (omega arith);
        line-behind = λ z. absurd (omega arith);
        line_clear = λ z. absurd (omega arith);
        kin = kin_none s base (λ x m l. omega (arith, spaced_behind base.at base.met sp x m));
        placed = λ n l k. absurd (omega arith);
      }

  same_run : (base : State) (c d : Chain) → c ≡ d → Run s R base c → Run s R base d
  same_run base c d e u = rw (← e) u

  module _ (f : Reader) (least : ℕ) (makes : Makes s R f least) (base : State) (spaced : Spaced base.at base.met) (start_at_here : least ≤ base.at) where
    child-run : (rule : Rule) (c d : Chain) → Run s R base c → run R (child rule f c) ≡ gives d → Run s R base d
    unfolding child run
    child-run rule c d u e =
        let q = split R (f c.st) _ d e in
        let r = q.between in
        let z = split_cond R (suits rule r.1.nodes r.1.entries r.0) (claim entry (length r.1.entries + 1) c.st.at (done (attach c r.0 r.1))) bad_type c.st.at d q.rest in
        same_run base (attach c r.0 r.1) d (same_gives _ _ (fits (leb (length r.1.entries + 1) R.entries) _ no_entry c.st.at d z.1).1)
        (attach-run base c r u (makes u.need c.st r u.chained.holds (u.on.spaced spaced) (omega (arith, u.on.on)) q.first))

    kids-run : (n : ℕ) (c d : Chain) → Run s R base c → run R (kids f n c) ≡ gives d → Run s R base d
    unfolding kids run
    kids-run zero c d u e = same_run base c d (same_gives c d e) u
    kids-run (suc n) c d u e =
        let q = split R (child whatever f c) (kids f n) d e in
        kids-run n q.between d (child-run whatever c q.between u q.first) q.rest

    couples-run : (fuel : ℕ) (c d : Chain) → Run s R base c → run R (couples f s fuel c) ≡ gives d → Run s R base d
    unfolding couples run
    couples-run zero c d u e = stops-gives e
    couples-run (suc fuel) c d u e =
        let z = split_cond R (ltb c.st.at (length s)) _ eof_object (length s) d e in
        inner (ltb-true c.st.at (length s) z.0) (λ c u e. couples-run fuel c d u e) (ends_dict (get_or s c.st.at 0)) z.1
      where
        inner : c.st.at < length s → ((c : Chain) → Run s R base c → run R (couples f s fuel c) ≡ gives d → Run s R base d) → (b : Bool)
            → run R (cond b (done (passed 1 c)) (bind (child whatever f c) (λ d. bind (child whatever f d) (couples f s fuel)))) ≡ gives d → Run s R base d
        inner l again true e = same_run base (passed 1 c) d (same_gives _ _ e) (moved-run base c 1 c.line (omega arith) (λ z. omega (arith, u.line-behind z)) u.line_clear u)
        inner l again false e =
            let q = split R (child whatever f c) _ d e in
            let q' = split R (child whatever f q.between) (couples f s fuel) d q.rest in
            again q'.between (child-run whatever q.between q'.between (child-run whatever c q.between u q.first) q'.first) q'.rest

    first_line-run : (i : ℕ) (c d : Chain) → Run s R base c → run R (first_line_of s i c) ≡ gives d → Run s R base d
    unfolding first_line_of run
    first_line-run i c d u e = inner (eqb i line_part) (leb (c.st.at + 4) (length s)) refl e
      where
        inner : (b l : Bool) → leb (c.st.at + 4) (length s) ≡ l → run R (cond b (reads (cond l (gives (lined c)) (stops data_too_short c.st.at))) (done c)) ≡ gives d → Run s R base d
        inner true true l e = same_run base (lined c) d (same_gives _ _ e) (moved-run base c 4 c.st.at (leb-true (c.st.at + 4) (length s) l) (λ z. omega arith)
            (λ z r m. this (spaced_behind c.st.at c.st.met (u.on.spaced spaced) r m)) u)
        inner true false l e = stops-gives e
        inner false l q e = same_run base c d (same_gives c d e) u

    parts_from-run : (n i : ℕ) (c d : Chain) → Run s R base c → run R (parts_from f s n i c) ≡ gives d → Run s R base d
    unfolding parts_from run
    parts_from-run zero i c d u e = same_run base c d (same_gives c d e) u
    parts_from-run (suc n) i c d u e =
        let q = split R (first_line_of s i c) _ d e in
        let q' = split R (child (get_or rules i whatever) f q.between) (parts_from f s n (i + 1)) d q.rest in
        parts_from-run n (i + 1) q'.between d (child-run (get_or rules i whatever) q.between q'.between (first_line-run i c q.between u q.first) q'.first) q'.rest

    ended-run : (at : ℕ) (c d : Chain) → Run s R base c → run R (ended s at c) ≡ gives d → Run s R base d
    unfolding ended run
    ended-run at c d u e =
        let z = split_cond R (eqb (fault_of s at c) accepted) (done c) (fault_of s at c) at d e in
        same_run base c d (same_gives c d z.1) u

  pub body_run : (g : ℕ → Reader) (least : ℕ) → ((d : ℕ) → Makes s R (g d) least) → (base : State) → Spaced base.at base.met → least ≤ base.at
      → (fuel depth at : ℕ) (ch : Children) (c d : Chain) → Run s R base c → run R (body g s fuel depth at ch c) ≡ gives d → Run s R base d
  unfolding body
  body_run g least makes base sp l fuel depth at (items n) c d u e = kids-run (g (depth + 1)) least (makes (depth + 1)) base sp l n c d u e
  body_run g least makes base sp l fuel depth at pairs c d u e = couples-run (g (depth + 1)) least (makes (depth + 1)) base sp l fuel c d u e
  body_run g least makes base sp l fuel depth at parts c d u e =
      let q = split R (parts_from (g (depth + 2)) s code_parts 0 c) (ended s at) d e in
      ended-run (g (depth + 2)) least (makes (depth + 2)) base sp l at q.between d (parts_from-run (g (depth + 2)) least (makes (depth + 2)) base sp l code_parts 0 c q.between u q.first)
      q.rest
