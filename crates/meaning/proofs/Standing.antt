-- What is complete keeps its meaning while the rest is read: the stores of a state only grow, a blank node is filled and an open link set.
-- One law for each change of the state. Assumes nothing.
use mathlib.Core.Path.{◌≡◌, refl, sym, ap, ◌∙◌}
use Prim.Native.Nat.{ℕ, ◌≤◌, ◌<◌}
use native.Mathlib.Omega.{arith}
use mathlib.Core.Bool.{Bool, true, false, ◌&&◌}
use mathlib.Core.Option.{Option}
use mathlib.Core.List.{List, [], ◌∷◌, ◌++◌}
use lib.ListN.{length, get_or, set, length-append, length-set, get_or-append}
use lib.Seq.{get_or-set_same, get_or-set_other, get_or-append_seam}
use lib.Dec.{leb, eqb}
use borrow.Author.Tests.{eqb-true, eqb-false}
use Rattle.refusals.specs.Limits.{most_bytes, nothing}
use Rattle.grammar.specs.Letters.{letters, found, class_of}
use Rattle.grammar.specs.Fields.{Fields}
use Rattle.grammar.specs.State.{Node, Entry, State, blank}
use Rattle.grammar.specs.Steps.{Chain, follow, attach, enter, close}
use Rattle.grammar.specs.Record.{sound}
use Rattle.grammar.proofs.Following.{Need}
use Rattle.grammar.proofs.Links.{Linked, Grows, grows_linked, kept_grows, stays, Built, no_child, children, built-kept, Added, added_first, added_next, added_grows}
use Rattle.grammar.proofs.Standing.{Holds, Since, Valued, Chained, closing}
use Rattle.writing.specs.Shape.{Shape, classed}
use Rattle.meaning.specs.Value.{Value, Values}
use Rattle.meaning.proofs.Means.{Sees, Means, MeanAll, means-map, mean_all_map, snoc, mean_all_snoc}

-- A node that is finished in the stores of a state: its children are linked and counted, its record is sound, and this is its shape.
pub record Stands (s : List ℕ) (ns : List Node) (es : List Entry) (n : ℕ) (kids : List ℕ) (sh : Shape) : Type 0 where
  pub within : n < length ns
  pub linked : Linked es (get_or ns n blank).first kids
  pub counted : (get_or ns n blank).count ≡ length kids
  pub own : sound s (get_or ns n blank) ≡ true
  pub is : classed s (get_or ns n blank) kids (class_of (get_or ns n blank).letter) ≡ sh

abbrev pub InState : List ℕ → State → Sees
InState s st = Stands s st.nodes st.entries

-- One state after another.
pub record Onward (s : List ℕ) (a b : State) : Type 0 where
  pub longer : length a.nodes ≤ length b.nodes
  pub node : (n : ℕ) → n < length a.nodes → sound s (get_or a.nodes n blank) ≡ true → get_or b.nodes n blank ≡ get_or a.nodes n blank
  pub links : Grows a.entries b.entries
  pub few : length a.entries ≤ nothing

pub stands_on : {s : List ℕ} {a b : State} → Onward s a b → (n : ℕ) (kids : List ℕ) (sh : Shape) → InState s a n kids sh → InState s b n kids sh
stands_on {s} {a} {b} o n kids sh h =
    let e = o.node n h.within h.own in
    record {
      within = omega (arith, h.within, o.longer);
      linked = rw e (grows_linked a.entries b.entries o.links o.few (get_or a.nodes n blank).first kids h.linked);
      counted = ap (λ z. z.count) e ∙ h.counted;
      own = ap (sound s) e ∙ h.own;
      is = rw e h.is;
    }

pub means_on : {s : List ℕ} {a b : State} → Onward s a b → (v : Value) (n : ℕ) → Means (InState s a) n v → Means (InState s b) n v
means_on {s} {a} {b} o v n m = means-map (InState s a) (InState s b) (stands_on o) v n m

pub mean_all_on : {s : List ℕ} {a b : State} → Onward s a b → (vs : Values) (kids : List ℕ) → MeanAll (InState s a) kids vs → MeanAll (InState s b) kids vs
mean_all_on {s} {a} {b} o vs kids m = mean_all_map (InState s a) (InState s b) (stands_on o) vs kids m

-- the entries stay few enough that none has the number that stands for none
pub few : {s : List ℕ} {t : Need} {st : State} → length s ≤ most_bytes → Holds s t st → length st.entries ≤ nothing
few small h = omega (arith, h.within, h.few-entries)

-- A value is read.
pub since_on : {s : List ℕ} {t : Need} {a b : State} → length s ≤ most_bytes → Holds s t a → Since a b → Onward s a b
since_on {s} {t} {a} {b} small h k =
    record { longer = k.more_nodes; node = λ n l q. k.same_nodes n l; links = kept_grows a.entries b.entries k.entries; few = few small h }

-- A child is attached.
added : {base : ℕ} (es : List Entry) (v : ℕ) {kids : List ℕ} {first : ℕ} {last : Option ℕ} → Built base es kids first last
    → Added es (follow last (length es) (es ++ record { child = v; next = nothing } ∷ [])) last v
added es v no_child = added_first es v
added es v (children x xs e last be l c w lb ll o) = added_next es v last ll

pub attach_on : {s : List ℕ} {b : State} {t t' : Need} {c : Chain} {v : ℕ} {st : State} → length s ≤ most_bytes → Chained s b t c → Valued s c.st t' (v, st)
    → Onward s st (attach c v st).st
unfolding attach
attach_on {s} {b} {t} {t'} {c} {v} {st} small k r =
    let bt = built-kept r.since.entries k.built in
    record { longer = omega arith; node = λ n l q. refl; links = added_grows (added st.entries v bt) bt; few = few small r.holds }

-- the children so far with the child that was read
pub attach-means : {s : List ℕ} {b : State} {t t' : Need} {c : Chain} {n : ℕ} {st : State} → length s ≤ most_bytes → Chained s b t c → Valued s c.st t' (n, st)
    → (us : Values) (v : Value) → MeanAll (InState s c.st) c.kids us → Means (InState s st) n v
    → MeanAll (InState s (attach c n st).st) (attach c n st).kids (snoc us v)
unfolding attach
attach-means {s} {b} {t} {t'} {c} {n} {st} small k r us v ms m =
    let o = attach_on small k r in
    mean_all_snoc (InState s (attach c n st).st) us c.kids n v
    (mean_all_on o us c.kids (mean_all_on (since_on small k.holds r.since) us c.kids ms))
    (means_on o v n m)

-- A node is entered: a blank one, which is not sound.
pub enter_on : {s : List ℕ} {t : Need} {st : State} (at g : ℕ) → length s ≤ most_bytes → Holds s t st → Onward s st (enter st at g)
unfolding enter
enter_on {s} {t} {st} at g small h =
    record {
      longer = omega (arith, length-append st.nodes (blank ∷ []));
      node = λ n l q. get_or-append st.nodes (blank ∷ []) blank n l;
      links = record { longer = omega arith; child = λ i l. refl; link = λ i l. stays refl };
      few = few small h;
    }

blank_unsound : {X : Type 0} (s : List ℕ) → sound s blank ≡ true → X
unfolding sound class_of letters found
blank_unsound s e = go (leb 0 (length s)) e
  where
    go : {X : Type 0} (b : Bool) → b && false ≡ true → X
    go true q = let z : ◌≡◌ {A = ℕ} 0 1 = cc in absurd (omega arith)
    go false q = let z : ◌≡◌ {A = ℕ} 0 1 = cc in absurd (omega arith)

-- And closed.
module _ {s : List ℕ} {t : Need} (st : State) {c : Chain} (g at : ℕ) (k : Chained s (enter st at g) t c) where
  pub inside : length st.nodes < length c.st.nodes
  unfolding enter
  inside = omega (arith, length-append st.nodes (blank ∷ []), k.since.more_nodes)

  was_blank : get_or c.st.nodes (length st.nodes) blank ≡ blank
  unfolding enter
  was_blank = k.since.same_nodes (length st.nodes) (omega (arith, length-append st.nodes (blank ∷ []))) ∙ get_or-append_seam st.nodes blank [] blank

  pub close_on : (l : ℕ) (f : Fields) → length s ≤ most_bytes → Onward s c.st (close st l g f c)
  unfolding close
  close_on l f small =
      record {
        longer = omega (arith, length-set c.st.nodes (length st.nodes) (closing l f c));
        node = λ n h q. go n q (eqb n (length st.nodes)) refl;
        links = record { longer = omega arith; child = λ i h. refl; link = λ i h. stays refl };
        few = few small k.holds;
      }
    where
      go : (n : ℕ) → sound s (get_or c.st.nodes n blank) ≡ true → (b : Bool) → eqb n (length st.nodes) ≡ b
          → get_or (set c.st.nodes (length st.nodes) (closing l f c)) n blank ≡ get_or c.st.nodes n blank
      go n q true e =
          let z : n ≡ length st.nodes = eqb-true n (length st.nodes) e in
          blank_unsound s (sym (ap (sound s) (ap (λ i. get_or c.st.nodes i blank) z ∙ was_blank)) ∙ q)
      go n q false e = get_or-set_other c.st.nodes (length st.nodes) n (closing l f c) blank (eqb-false n (length st.nodes) e)

  pub closed-node : (l : ℕ) (f : Fields) → get_or (close st l g f c).nodes (length st.nodes) blank ≡ closing l f c
  unfolding close
  closed-node l f = get_or-set_same c.st.nodes (length st.nodes) (closing l f c) blank inside
