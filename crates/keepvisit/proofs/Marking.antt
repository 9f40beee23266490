-- The walk of a chain that marks its entries. Assumes nothing.
use mathlib.Core.Path.{◌≡◌, refl, sym, ap, subst, ◌∙◌}
use Prim.Native.Nat.{ℕ, zero, suc, ◌+◌, ◌-◌, ◌≤◌, ◌<◌}
use native.Mathlib.Omega.{arith}
use mathlib.Core.Bool.{Bool, true, false, cond, not, ◌&&◌}
use mathlib.Core.List.{List, ◌∷◌, append-nil}
use lib.ListN.{length, get_or, set, take, drop, length-set}
use lib.Seq.{get_or-set_same, get_or-set_other, take-set-le, drop-set-lt}
use lib.Dec.{ltb, eqb}
use borrow.Author.Tests.{ltb-true, ltb-false, lt-ltb, le-ltb, eqb-true, eqb-false, eq-eqb, ne_eqb}
use Rattle.grammar.specs.State.{entry_at}
use Rattle.keepvisit.specs.Visit.{member, linked, fresh}
use Rattle.keepvisit.specs.Found.{flag, Marked, Marks}
use Rattle.keepvisit.proofs.Members.{member_move, member-cons-other, member-cons_same, never}

-- What the code does: whether the chain is whole and fresh, and the scratch then.
pub record Walk : Type 0 where
  pub whole : Bool
  pub left : List ℕ

unfoldable pub walk : (entries : List ℕ) → (base limit count e : ℕ) → (s : List ℕ) → Walk
walk entries base limit zero e s = record { whole = true; left = s }
walk entries base limit (suc more) e s =
    cond (ltb e limit)
    (cond (eqb (get_or s (base + e) 0) 0)
    (walk entries base limit more (entry_at entries e).next (set s (base + e) 1))
    (record { whole = false; left = s }))
    (record { whole = false; left = s })

-- Its three cases.
pub walk_out : (entries : List ℕ) (base limit more e : ℕ) (s : List ℕ) → limit ≤ e → walk entries base limit (suc more) e s ≡ record { whole = false; left = s }
unfolding walk
walk_out entries base limit more e s h = rw (le-ltb e limit h)

pub walk-met : (entries : List ℕ) (base limit more e : ℕ) (s : List ℕ) → (get_or s (base + e) 0 ≡ 0 → ⊥)
    → walk entries base limit (suc more) e s ≡ record { whole = false; left = s }
unfolding walk
walk-met entries base limit more e s h =
    ap (λ t. cond (ltb e limit) (cond t (walk entries base limit more (entry_at entries e).next (set s (base + e) 1)) stop) stop) (ne_eqb (get_or s (base + e) 0) 0 h)
    ∙ both (ltb e limit)
  where
    stop : Walk
    stop = record { whole = false; left = s }

    both : (t : Bool) → cond t stop stop ≡ stop
    both true = refl
    both false = refl

pub walk_on : (entries : List ℕ) (base limit more e : ℕ) (s : List ℕ) → e < limit → get_or s (base + e) 0 ≡ 0
    → walk entries base limit (suc more) e s ≡ walk entries base limit more (entry_at entries e).next (set s (base + e) 1)
unfolding walk
walk_on entries base limit more e s h p = rw (lt-ltb e limit h, eq-eqb (get_or s (base + e) 0) 0 p)

-- One mark more.
marked_more : {base limit e : ℕ} {met s : List ℕ} → Marked base limit met s → e < limit → base + limit ≤ length s → Marked base limit (e ∷ met) (set s (base + e) 1)
marked_more {base} {limit} {e} {met} {s} m h l = record { at = λ a b. go a b (eqb a e) refl }
  where
    go : (a : ℕ) → a < limit → (t : Bool) → eqb a e ≡ t → get_or (set s (base + e) 1) (base + a) 0 ≡ flag (member a (e ∷ met))
    go a b true q =
        let same : a ≡ e = eqb-true a e q in
        rw same (get_or-set_same s (base + e) 1 0 (omega arith) ∙ sym (ap flag (member-cons_same e met)))
    go a b false q =
        let other : a ≡ e → ⊥ = eqb-false a e q in
        get_or-set_other s (base + e) (base + a) 1 0 (λ p. other (omega arith)) ∙ m.at a b ∙ sym (ap flag (member-cons-other a e met other))

-- what is marked depends on what was met as a set
pub marked_same : {base limit : ℕ} {met met' s : List ℕ} → ((a : ℕ) → member a met ≡ member a met') → Marked base limit met s → Marked base limit met' s
marked_same h m = record { at = λ a b. m.at a b ∙ ap flag (h a) }

-- a mark of 0 is an entry not met
not_met : (t : Bool) (x : ℕ) → x ≡ flag t → x ≡ 0 → t ≡ false
not_met true x p q = absurd (omega arith)
not_met false x p q = refl

was_met : (t : Bool) (x : ℕ) → x ≡ flag t → (x ≡ 0 → ⊥) → t ≡ true
was_met true x p q = refl
was_met false x p q = absurd (q p)

fresh_out : (limit e : ℕ) (met es : List ℕ) → limit ≤ e → fresh limit met (e ∷ es) ≡ false
unfolding fresh
fresh_out limit e met es h = rw (le-ltb e limit h)

fresh-met : (limit e : ℕ) (met es : List ℕ) → member e met ≡ true → fresh limit met (e ∷ es) ≡ false
unfolding fresh
fresh-met limit e met es h = ap (λ t. ltb e limit && (not t && fresh limit (e ∷ met) es)) h ∙ both (ltb e limit)
  where
    both : (t : Bool) → (t && false) ≡ false
    both true = refl
    both false = refl

fresh_on : (limit e : ℕ) (met es : List ℕ) → e < limit → member e met ≡ false → fresh limit met (e ∷ es) ≡ fresh limit (e ∷ met) es
unfolding fresh
fresh_on limit e met es h p = rw (lt-ltb e limit h, p)

-- The walk is the marking.

stopped : {entries : List ℕ} {base limit more e : ℕ} {s : List ℕ} (w : Walk) → w ≡ record { whole = false; left = s }
    → ((met : List ℕ) → Marked base limit met s → fresh limit met (linked entries (suc more) e) ≡ false) → Marks entries base limit (suc more) e s w.left w.whole
stopped {base = base} {limit = limit} w p f =
    record {
      exact = λ met m. ap (λ x. x.whole) p ∙ sym (f met m);
      marked = λ met m q. never (sym (ap (λ x. x.whole) p) ∙ q);
      front = ap (λ x. take base x.left) p;
      back = ap (λ x. drop (base + limit) x.left) p;
      same = ap (λ x. length x.left) p;
    }

gone : {entries : List ℕ} {base limit more e : ℕ} {s : List ℕ} (w : Walk) → e < limit → get_or s (base + e) 0 ≡ 0 → base + limit ≤ length s
    → Marks entries base limit more (entry_at entries e).next (set s (base + e) 1) w.left w.whole
    → Marks entries base limit (suc more) e s w.left w.whole
unfolding linked
gone {entries} {base} {limit} {more} {e} {s} w h p l k =
    record {
      exact = λ met m. k.exact (e ∷ met) (marked_more m h l) ∙ sym (fresh_on limit e met _ h (not_met (member e met) (get_or s (base + e) 0) (m.at e h) p));
      marked = λ met m q. marked_same (λ a. member_move a e met _) (k.marked (e ∷ met) (marked_more m h l) q);
      front = k.front ∙ take-set-le base s (base + e) 1 (omega arith);
      back = k.back ∙ drop-set-lt (base + limit) s (base + e) 1 (omega arith);
      same = k.same ∙ length-set s (base + e) 1;
    }

cases : {entries : List ℕ} {base limit more e : ℕ} {s : List ℕ} → base + limit ≤ length s
    → (Marks entries base limit more (entry_at entries e).next (set s (base + e) 1)
    (walk entries base limit more (entry_at entries e).next (set s (base + e) 1)).left (walk entries base limit more (entry_at entries e).next (set s (base + e) 1)).whole)
    → (t u : Bool) → ltb e limit ≡ t → eqb (get_or s (base + e) 0) 0 ≡ u
    → Marks entries base limit (suc more) e s (walk entries base limit (suc more) e s).left (walk entries base limit (suc more) e s).whole
unfolding linked
cases {entries} {base} {limit} {more} {e} {s} l k true true p q =
    let on = walk_on entries base limit more e s (ltb-true e limit p) (eqb-true (get_or s (base + e) 0) 0 q) in
    rw on (gone _ (ltb-true e limit p) (eqb-true (get_or s (base + e) 0) 0 q) l k)
cases {entries} {base} {limit} {more} {e} {s} l k true false p q =
    stopped _ (walk-met entries base limit more e s (eqb-false (get_or s (base + e) 0) 0 q))
    (λ met m. fresh-met limit e met _ (was_met (member e met) (get_or s (base + e) 0) (m.at e (ltb-true e limit p)) (eqb-false (get_or s (base + e) 0) 0 q)))
cases {entries} {base} {limit} {more} {e} {s} l k false u p q =
    stopped _ (walk_out entries base limit more e s (ltb-false e limit p)) (λ met m. fresh_out limit e met _ (ltb-false e limit p))

pub walk-marks : (entries : List ℕ) (base limit count e : ℕ) (s : List ℕ) → base + limit ≤ length s
    → Marks entries base limit count e s (walk entries base limit count e s).left (walk entries base limit count e s).whole
unfolding walk linked fresh
walk-marks entries base limit zero e s l =
    record {
      exact = λ met m. refl;
      marked = λ met m q. marked_same (λ a. ap (member a) (sym (append-nil met))) m;
      front = refl;
      back = refl;
      same = refl;
    }
walk-marks entries base limit (suc more) e s l =
    cases l (walk-marks entries base limit more (entry_at entries e).next (set s (base + e) 1) (rw length-set l)) (ltb e limit) (eqb (get_or s (base + e) 0) 0) refl refl

-- The loop: what is left of the chain still comes to the same.
pub record Walking (entries : List ℕ) (base limit count first : ℕ) (s₀ : List ℕ) (left e : ℕ) (s : List ℕ) : Type 0 where
  pub comes : walk entries base limit left e s ≡ walk entries base limit count first s₀
  pub same : length s ≡ length s₀

ended : {entries : List ℕ} {base limit count first : ℕ} {s₀ s : List ℕ} (r : Bool) → base + limit ≤ length s₀
    → walk entries base limit count first s₀ ≡ record { whole = r; left = s } → Marks entries base limit count first s₀ s r
ended {entries} {base} {limit} {count} {first} {s₀} r l p =
    subst (λ w. Marks entries base limit count first s₀ w.left w.whole) p (walk-marks entries base limit count first s₀ l)

turned : (left : ℕ) → 0 < left → left ≡ suc (left - 1)
turned left h = omega arith

module _ {entries : List ℕ} {base limit count first : ℕ} {s₀ : List ℕ} {left e : ℕ} {s : List ℕ} where
  pub walking_out : Walking entries base limit count first s₀ left e s → base + limit ≤ length s₀ → 0 < left → limit ≤ e → Marks entries base limit count first s₀ s false
  walking_out w l h o =
      ended false l (sym w.comes ∙ ap (λ m. walk entries base limit m e s) (turned left h) ∙ walk_out entries base limit (left - 1) e s o)

  pub walking_met : Walking entries base limit count first s₀ left e s → base + limit ≤ length s₀ → 0 < left → (get_or s (base + e) 0 ≡ 0 → ⊥) → Marks entries base limit count first s₀ s false
  walking_met w l h o =
      ended false l (sym w.comes ∙ ap (λ m. walk entries base limit m e s) (turned left h) ∙ walk-met entries base limit (left - 1) e s o)

  pub walking_on : (next : ℕ) → Walking entries base limit count first s₀ left e s → 0 < left → e < limit → get_or s (base + e) 0 ≡ 0 → next ≡ (entry_at entries e).next
      → Walking entries base limit count first s₀ (left - 1) next (set s (base + e) 1)
  walking_on next w h o z n =
      record {
        comes =
            ap (λ m. walk entries base limit (left - 1) m (set s (base + e) 1)) n
            ∙ sym (walk_on entries base limit (left - 1) e s o z)
            ∙ ap (λ m. walk entries base limit m e s) (sym (turned left h))
            ∙ w.comes;
        same = length-set s (base + e) 1 ∙ w.same;
      }

  pub walking_done : Walking entries base limit count first s₀ left e s → base + limit ≤ length s₀ → left ≤ 0 → Marks entries base limit count first s₀ s true
  unfolding walk
  walking_done w l h =
      let none : left ≡ 0 = omega arith in
      ended true l (sym w.comes ∙ ap (λ m. walk entries base limit m e s) none)
