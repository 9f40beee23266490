-- Every node of an accepted reading has a reading of its own, from its header to its end, and what that made still stands in the end: a node
-- closed over its children, and the value whole. Assumes that the input is bytes, 16 MiB of them at most.
use mathlib.Core.Path.{◌≡◌, refl, sym, ap, ◌∙◌}
use Prim.Native.Nat.{ℕ, zero, suc, ◌+◌, ◌≤◌, ◌<◌}
use native.Mathlib.Omega.{arith}
use mathlib.Core.Bool.{Bool, true, false}
use mathlib.Core.List.{List, [], ◌∷◌, ◌++◌}
use lib.ListN.{length, get_or, length-append, length-set}
use lib.Seq.{get_or-set_same, get_or-set_other}
use lib.Dec.{ltb}
use borrow.Author.Tests.{ltb-true, ltb-false}
use Rattle.refusals.specs.Limits.{most_bytes}
use Rattle.grammar.specs.Reading.{gives}
use Rattle.grammar.specs.Room.{Rooms, run, plainly}
use Rattle.grammar.specs.Letters.{Class, refers, keeps, contains, codes, refuses, flag_of, class_of}
use Rattle.grammar.specs.Fields.{Fields, parts}
use Rattle.grammar.specs.State.{State, start, blank, referred}
use Rattle.grammar.specs.Steps.{Front, known, opens, front, Chain, fresh, body, reserve, enter, close, after, one, value}
use Rattle.grammar.specs.Answer.{plain}
use Rattle.grammar.specs.Input.{Bytes}
use Rattle.grammar.proofs.Following.{Need, follows_gives}
use Rattle.grammar.proofs.Links.{built-linked}
use Rattle.grammar.proofs.Standing.{Holds, Valued, entered, started, closing, few}
use Rattle.grammar.proofs.Fielding.{Own, Said, Filled, plain_size, said-ahead, said-within}
use Rattle.grammar.proofs.Keeping.{Fronted, front-keeps, body-keeps, said-behind, Filling, value_keeps}
use Rattle.grammar.proofs.Bounded.{at_start, none_claimed}
use Rattle.nodespan.specs.Header.{header_of, lead}
use Rattle.shifts.proofs.Onward.{New, old, new, onward_same, onward_trans, OnValue, Spaced, value-ends}
use Rattle.shifts.proofs.Span.{plainly-ends}
use Rattle.shifts.proofs.Agreeing.{Either, this, that}
use Rattle.shifts.proofs.Lowered.{spaced_behind}
use Rattle.shifts.proofs.Shifting.{kept-letter}
use Rattle.alone.proofs.Leading.{fields_end, Opening, Leads, front_leads}
use Rattle.alone.proofs.Totals.{total, total-one, total_none}
use Rattle.alone.proofs.Kin.{flag, Kin, Grown, totals_on}
use Rattle.alone.proofs.KinSteps.{Closing, kin_closed, kin_known}
use Rattle.alone.proofs.Made.{SlotsKept, FilledFrom, Stands, stands_itself, Clears, Flagged, Inside, rebased, Made, Makes, Run, grows_same}
use Rattle.alone.proofs.Runs.{same_gives, stops-gives, run-plainly, split, started-run, body_run}
use Rattle.alone.proofs.Slots.{reserve-kept, fill-length, fill-other, fill-behind, fill_le, fill_filled, reserve-length, fill-kept}

module _ (s : List ℕ) (R : Rooms) (small : length s ≤ most_bytes) (bytes : Bytes s) where
  module _ (st : State) (l g : ℕ) (f : Fields) (c : Chain) (u : Run s R (enter st (f.place + f.size) g) c) (sp : Spaced st.at st.met) (ahead : st.at < f.place + f.size)
      (header : header_of (closing l f c) ≡ st.at) (flagged : g ≡ flag_of (get_or s st.at 0)) where
    own_flag : flag s (closing l f c) ≡ g
    own_flag = ap (λ z. flag_of (get_or s z 0)) header ∙ sym flagged

    one_slot : length (reserve g st.slots) ≡ length st.slots + g
    one_slot = reserve-length g st.slots (omega (arith, flagged, bytes st.at))

    own_at : get_or (close st l g f c).nodes (length st.nodes) blank ≡ closing l f c
    unfolding close enter
    own_at = get_or-set_same c.st.nodes (length st.nodes) (closing l f c) blank (omega (arith, u.chained.since.more_nodes, length-append st.nodes (blank ∷ [])))

    closed-slots : SlotsKept st (close st l g f c)
    unfolding close enter
    closed-slots =
        record {
          more = omega (arith, fill-length g (length st.slots) (length st.nodes) c.st.slots, u.slots.more, (reserve-kept g st.slots).0);
          kept = λ i h.
              fill-other g (length st.slots) (length st.nodes) c.st.slots i (λ q. omega arith)
              ∙ u.slots.kept i (omega (arith, (reserve-kept g st.slots).0)) ∙ (reserve-kept g st.slots).1 i h;
        }

    closed_filled : FilledFrom (length st.nodes) (length st.slots) (close st l g f c).slots
    unfolding close enter
    closed_filled j lo hi =
        fill_filled g st.nodes st.slots c.st.slots u.slots.more (λ j lo hi. omega (arith, u.filled j lo hi, length-append st.nodes (blank ∷ []))) j lo hi

    closed-grown : Grown s (length st.nodes + 1) c.st (close st l g f c)
    unfolding close enter
    closed-grown =
        record {
          on = omega arith;
          longer = omega (arith, length-set c.st.nodes (length st.nodes) (closing l f c));
          same = λ i lo hi. get_or-set_other c.st.nodes (length st.nodes) i (closing l f c) blank (λ q. omega arith);
          links = grows_same c.st.entries;
          few = few small u.chained.holds;
          still = λ x m. m;
          slots = fill-kept g (length st.nodes) st.slots c.st.slots u.slots.kept;
        }

    closes : Closing s st (enter st (f.place + f.size) g) c.st (close st l g f c) (closing l f c) c.kids
    unfolding close enter
    closes =
        record {
          past = ahead;
          begun = length-append st.nodes (blank ∷ []);
          no_entry_lem = refl;
          slot = omega (arith, one_slot, own_flag);
          onward = u.on;
          grown = closed-grown;
          nodes = length-set c.st.nodes (length st.nodes) (closing l f c);
          place = refl;
          entries = refl;
          slots = fill-length g (length st.slots) (length st.nodes) c.st.slots;
          met = λ x m. m;
          behind = λ x m. spaced_behind st.at st.met sp x m;
          own = own_at;
          header = header;
          linked = built-linked u.chained.built;
          count = refl;
        }

    closed-stands : (a b : State) → length st.nodes < length a.nodes → length st.nodes < length b.nodes → length (enter st (f.place + f.size) g).slots ≤ length a.slots
        → length a.slots ≤ length b.slots → Stands a b c.st → Stands a b (close st l g f c)
    unfolding close enter
    closed-stands a b n m k h w =
        let z = length-set c.st.nodes (length st.nodes) (closing l f c) in
        record {
          more_nodes = omega (arith, w.more_nodes);
          nodes = λ i lo hi. get_or-set_other c.st.nodes (length st.nodes) i _ blank (λ q. omega arith) ∙ w.nodes i lo hi;
          more_entries = w.more_entries;
          entries = w.entries;
          more_slots = omega (arith, w.more_slots, fill-length g (length st.slots) (length st.nodes) c.st.slots);
          slots = λ i lo hi. fill-behind g (length st.slots) (length st.nodes) st.slots c.st.slots refl i (omega arith) ∙ w.slots i lo hi;
          onward = onward_trans w.onward (onward_same c.st (close st l g f c) (omega arith) refl);
          later = λ v lo hi. omega (arith, w.later v lo (omega arith), ap header_of (get_or-set_other c.st.nodes (length st.nodes) v (closing l f c) blank (λ q. omega arith)));
          filled = λ j lo hi.
              rw (fill-behind g (length st.slots) (length st.nodes) st.slots c.st.slots refl j (omega arith))
              (w.filled j lo (omega (arith, fill-length g (length st.slots) (length st.nodes) c.st.slots)));
          links = w.links;
        }

    closed-flagged : (n slots : ℕ) → n < length c.st.nodes → Flagged s (enter st (f.place + f.size) g) n c.st slots → Flagged s st n (close st l g f c) slots
    unfolding enter
    closed-flagged n slots h k =
        let z = length-append st.nodes (blank ∷ []) in
        record {
          nodes = suc k.nodes;
          many = omega (arith, k.many);
          flags = omega (
            arith,
            k.flags,
            one_slot,
            own_flag,
            total-one (flag s) (close st l g f c).nodes k.nodes (length st.nodes),
            ap (flag s) own_at,
            total_at (length st.nodes + 1) z,
            totals_on s (flag s) closed-grown k.nodes (length st.nodes + 1) (omega arith) (omega (arith, k.many)),
          );
        }
      where
        total_at : (i : ℕ) → length (st.nodes ++ blank ∷ []) ≡ i → total (flag s) c.st.nodes k.nodes (length (st.nodes ++ blank ∷ [])) ≡ total (flag s) c.st.nodes k.nodes i
        total_at i e = ap (total (flag s) c.st.nodes k.nodes) e

    closed-inside : (n : ℕ) → length st.nodes < n → n < length (close st l g f c).nodes → Inside s R st n (close st l g f c)
    unfolding close enter
    closed-inside n lo hi =
        let z = length-set c.st.nodes (length st.nodes) (closing l f c) in
        let p = u.placed n (omega (arith, length-append st.nodes (blank ∷ []))) (omega arith) in
        let i = p.inside in
        rebased s R st (close st l g f c) i (omega arith) (reserve-kept g st.slots).0
        (closed-stands i.st i.end (omega (arith, i.first)) (omega (arith, i.named)) i.from-slots i.grew i.stands)
        (record {
          earlier = λ j q. fill_le g (length st.slots) (length st.nodes) c.st.slots j n lo (i.order.earlier j q);
          later = λ j q r.
              rw (fill-behind g (length st.slots) (length st.nodes) st.slots c.st.slots refl j (omega (arith, i.from-slots)))
              (i.order.later j q (omega (arith, fill-length g (length st.slots) (length st.nodes) c.st.slots)));
        })
        (closed-flagged n (length i.st.slots) (omega arith) i.flagged)

  abbrev C : ℕ → Type 0
  C p = p ≤ length s

  abbrev Qs : ℕ → ℕ → Type 0
  Qs n p = Own s n p

  -- the record that is written
  fields_end_is : (cl : Class) (l at : ℕ) (f : Fields) (c : Chain) → class_of l ≡ cl → Said s cl at f → fields_end (closing l f c) ≡ f.place + f.size
  unfolding fields_end
  fields_end_is refers l at f c e h = absurd h
  fields_end_is (refuses n) l at f c e h = absurd h
  fields_end_is (keeps form) l at f c e h = rw (e, plain_size f.children f.place f.size c.line h.children) refl
  fields_end_is (contains sort) l at f c e h = rw (e, h.children) refl
  fields_end_is codes l at f c e h = rw (e, h.is) refl

  line-is : (cl : Class) (l at : ℕ) (f : Fields) (c : Chain) → class_of l ≡ cl → Said s cl at f → Filled s at f.children c → class_of l ≡ codes
      → (f.place + (closing l f c).size ≡ c.line) × (0 < c.line)
  line-is refers l at f c e h k q = absurd h
  line-is (refuses n) l at f c e h k q = absurd h
  line-is (keeps form) l at f c e h k q = let z : keeps form ≡ codes = sym e ∙ q in let y : ◌≡◌ {A = ℕ} 0 1 = cc in absurd (omega arith)
  line-is (contains sort) l at f c e h k q = let z : contains sort ≡ codes = sym e ∙ q in let y : ◌≡◌ {A = ℕ} 0 1 = cc in absurd (omega arith)
  line-is codes l at f c e h k q = coded (rw h.is at k)
    where
      coded : Filled s at parts c → (f.place + (closing l f c).size ≡ c.line) × (0 < c.line)
      coded k = rw h.is (omega (arith, k.line), omega (arith, k.line))

  closing_clears : (st : State) (l g at : ℕ) (f : Fields) (c : Chain) (cl : Class) → class_of l ≡ cl → Said s cl (st.at + 1) f → Filled s (st.at + 1) f.children c → Spaced st.at st.met
      → Run s R (enter st (f.place + f.size) g) c → Clears st (close st l g f c) (closing l f c)
  unfolding close enter
  closing_clears st l g at f c cl e said filled sp u =
      let fe = fields_end_is cl l (st.at + 1) f c e said in
      record {
        kept = kept-letter s l (st.at + 1) cl f e said;
        inside = omega (arith, fe, u.on.on);
        own = λ r m. go fe r (u.on.fresh r m);
        line-inside = λ q. let w = line-is cl l (st.at + 1) f c e said filled q in omega (arith, u.line-behind w.1, w.0);
        line = λ q r m. let w = line-is cl l (st.at + 1) f c e said filled q in rw w.0 (u.line_clear w.1 r m);
      }
    where
      go : fields_end (closing l f c) ≡ f.place + f.size → (r : ℕ) → New (enter st (f.place + f.size) g) c.st r → Either (r + 4 ≤ st.at) (fields_end (closing l f c) ≤ r)
      go fe r (old m) = this (spaced_behind st.at st.met sp r m)
      go fe r (new lo h) = that (omega arith)

  -- what is said of a value's reading besides what is known of every value
  pub record Whole (st : State) (r : ℕ × State) : Type 0 where
    pub slots : SlotsKept st r.1
    pub filled : FilledFrom (length st.nodes) (length st.slots) r.1.slots
    pub kin : Kin s st r.1 (r.0 ∷ []) 0
    pub inside : (n : ℕ) → length st.nodes ≤ n → n < length r.1.nodes → Inside s R st n r.1

  -- the node itself
  own_inside : (fuel depth : ℕ) (t : Need) (st : State) (l g : ℕ) (f : Fields) (c : Chain) → Holds s t st → Spaced st.at st.met → length s ≤ st.at + fuel
      → run R (value fuel s depth st) ≡ gives (length st.nodes, close st l g f c) → SlotsKept st (close st l g f c)
      → FilledFrom (length st.nodes) (length st.slots) (close st l g f c).slots → get_or (close st l g f c).nodes (length st.nodes) blank ≡ closing l f c
      → length st.nodes < length (close st l g f c).nodes → header_of (closing l f c) ≡ st.at → Opening s st.at l g f
      → Clears st (close st l g f c) (closing l f c) → Inside s R st (length st.nodes) (close st l g f c)
  unfolding close
  own_inside fuel depth t st l g f c h sp enough e slots filled own there header opening clears =
      record {
        fuel = fuel;
        depth = depth;
        need = t;
        st = st;
        end = close st l g f c;
        holds = h;
        spaced = sp;
        enough = enough;
        first = refl;
        gave = e;
        named = there;
        ended = ap (λ z. z.end) own;
        clears = rw own clears;
        header = ap header_of own ∙ header;
        led = rw own opening.place;
        lettered = ap (λ z. z.letter) own ∙ opening.letter;
        stands = stands_itself st (close st l g f c);
        from_entries = omega arith;
        from-slots = omega arith;
        grew = slots.more;
        order = record { earlier = λ j q. omega (arith, slots.kept j q, h.slots_in j); later = filled };
        flagged = record { nodes = 0; many = omega arith; flags = omega (arith, total_none (flag s) (close st l g f c).nodes (length st.nodes)) };
      }

  opened-whole : (fuel depth : ℕ) (t t' : Need) (st : State) (l g : ℕ) (f : Fields) (c : Chain) → Holds s t st → Spaced st.at st.met → length s ≤ st.at + fuel
      → run R (value fuel s depth st) ≡ gives (length st.nodes, close st l g f c) → Fronted s st t' (opens l g f) → Opening s st.at l g f
      → Filled s (st.at + 1) f.children c → Run s R (enter st (f.place + f.size) g) c → Whole st (length st.nodes, close st l g f c)
  unfolding header_of
  opened-whole fuel depth t t' st l g f c h sp enough e o lead filled u =
      let ahead : st.at < f.place + f.size = omega (arith, said-ahead s o.class (st.at + 1) f o.said) in
      let header : header_of (closing l f c) ≡ st.at = omega (arith, lead.place) in
      let clears = closing_clears st l g 0 f c o.class o.is o.said filled sp u in
      record {
        slots = closed-slots st l g f c u sp ahead header lead.flag;
        filled = closed_filled st l g f c u sp ahead header lead.flag;
        kin = kin_closed s (closes st l g f c u sp ahead header lead.flag) u.kin;
        inside = λ n lo hi. each ahead header clears n lo hi (ltb (length st.nodes) n) refl;
      }
    where
      each : st.at < f.place + f.size → header_of (closing l f c) ≡ st.at → Clears st (close st l g f c) (closing l f c)
          → (n : ℕ) → length st.nodes ≤ n → n < length (close st l g f c).nodes → (b : Bool) → ltb (length st.nodes) n ≡ b → Inside s R st n (close st l g f c)
      each ahead header clears n lo hi true y = closed-inside st l g f c u sp ahead header lead.flag n (ltb-true (length st.nodes) n y) hi
      each ahead header clears n lo hi false y =
          let m : n ≡ length st.nodes = omega (arith, ltb-false (length st.nodes) n y) in
          rw m (own_inside fuel depth t st l g f c h sp enough e (closed-slots st l g f c u sp ahead header lead.flag) (closed_filled st l g f c u sp ahead header lead.flag)
          (own_at st l g f c u sp ahead header lead.flag) (omega arith) header lead clears)

  after-whole : (fuel depth : ℕ) (t : Need) (st : State) (r : ℕ × State) → ((d : ℕ) → Makes s R (value fuel s d) (st.at + 1)) → Holds s t st → Spaced st.at st.met → length s ≤ st.at + suc fuel
      → run R (value (suc fuel) s depth st) ≡ gives r → (x : Front) (t' : Need) → Fronted s st t' x → Leads s st.slots st.at x
      → run R (after (value fuel s) s fuel depth st x) ≡ gives r → Whole st r
  unfolding after run enter
  after-whole fuel depth t st r makes h sp enough e (known v at) t' k lead q =
      let z : (v, referred at st) ≡ r = same_gives _ _ q in
      rw (← z) (record {
        slots = record { more = omega arith; kept = λ i l. refl };
        filled = λ j lo hi. absurd (omega arith);
        kin = kin_known s st v at sp k.past lead;
        inside = λ n lo hi. absurd (omega arith);
      })
  after-whole fuel depth t st r makes h sp enough e (opens l g f) t' o lead q =
      let w = split R (body (value fuel s) s fuel depth st.at f.children (fresh (enter st (f.place + f.size) g))) _ r q in
      let c = w.between in
      let ahead = said-ahead s o.class (st.at + 1) f o.said in
      let inside = said-within s o.class (st.at + 1) f o.said in
      let b = entered g (f.place + f.size) h o.claimed (omega arith) inside in
      let sp' = (onward_same st (enter st (f.place + f.size) g) (omega arith) refl).spaced sp in
      let u = body_run s R small (value fuel s) (st.at + 1) makes (enter st (f.place + f.size) g) sp' (omega arith) fuel depth st.at f.children (fresh (enter st (f.place + f.size) g)) c
      (started-run s R small (enter st (f.place + f.size) g) t' sp' b) w.first in
      let z : (length st.nodes, close st l g f c) ≡ r = same_gives _ _ w.rest in
      let fl = follows_gives Qs C (Filling s small (enter st (f.place + f.size) g) st.at f.children) t'
      (body (value fuel s) s fuel depth st.at f.children (fresh (enter st (f.place + f.size) g))) c
      (body-keeps s small (value fuel s) (λ d. value_keeps s small fuel d) (enter st (f.place + f.size) g) fuel depth st.at f.children t' h.within
      (said-behind s small o.class st.at f o.said) (started b)) (run-plainly R _ c w.first) in
      rw (← z) (opened-whole (suc fuel) depth t t' st l g f c h sp enough (e ∙ ap gives (sym z)) o lead fl.holds.1 u)

  value_facts : (fuel depth : ℕ) (t : Need) (st : State) (r : ℕ × State) → Holds s t st → run R (value fuel s depth st) ≡ gives r → Whole st r → Made s R st r
  value_facts fuel depth t st r h e w =
      let v = follows_gives Qs C (Valued s st) t (value fuel s depth st) r (value_keeps s small fuel depth t st h) (run-plainly R (value fuel s depth st) r e) in
      record {
        need = v.need;
        valued = v.holds;
        on = plainly-ends (OnValue st) (value fuel s depth st) r (run-plainly R (value fuel s depth st) r e) (value-ends fuel s depth st);
        slots = w.slots;
        filled = w.filled;
        kin = w.kin;
        inside = w.inside;
      }

  pub value_made : (fuel depth least : ℕ) → length s ≤ least + fuel → Makes s R (value fuel s depth) least
  unfolding value one run plainly
  value_made zero depth least enough t st r h sp l e = stops-gives (run-plainly R (value zero s depth st) r e)
  value_made (suc fuel) depth least enough t st r h sp l e =
      let F = front s depth st.at (length st.nodes) (length st.slots) st.slots in
      let w = split R F (after (value fuel s) s fuel depth st) r e in
      let k = follows_gives Qs C (Fronted s st) t F w.between (front-keeps s small st t depth h) (run-plainly R F w.between w.first) in
      let led = plainly-ends (Leads s st.slots st.at) F w.between (run-plainly R F w.between w.first)
      (front_leads s depth st.at (length st.nodes) (length st.slots) st.slots) in
      value_facts (suc fuel) depth t st r h e
      (after-whole fuel depth t st r (λ d. value_made fuel d (st.at + 1) (omega arith)) h sp (omega arith) e w.between k.need k.holds led w.rest)

  -- What the whole reading of an accepted input made.
  pub all_made : (v : ℕ) (fin : State) → run R (plain s) ≡ gives (v, fin) → Made s R start (v, fin)
  unfolding plain
  all_made v fin e = value_made (length s) 0 0 (omega arith) none_claimed start (v, fin) (at_start s small) tt (omega arith) e

  -- Every node of an accepted input has its own reading.
  pub node-inside : (v : ℕ) (fin : State) → run R (plain s) ≡ gives (v, fin) → (n : ℕ) → n < length fin.nodes → Inside s R start n fin
  node-inside v fin e n l = (all_made v fin e).inside n (omega arith) l
