-- The turns over a code's parts, with the first line before the ninth, and the checks at the code's end.
-- Assumes nothing.
use mathlib.Core.Path.{◌≡◌, refl, sym, ap, ap₂, subst, ◌∙◌}
use Prim.Native.Nat.{ℕ, suc, ◌+◌, ◌-◌, ◌≤◌, ◌<◌}
use native.Mathlib.Omega.{arith}
use mathlib.Core.Bool.{Bool, true, false, cond}
use mathlib.Core.List.{List}
use lib.ListN.{length, get_or}
use lib.Dec.{leb, eqb}
use borrow.Author.Tests.{eq-eqb, ne_eqb, leb-true}
use Rattle.std.specs.Prelude.{Result, Ok, Err}
use Rattle.refusals.specs.Faults.{number_of, fault}
use Rattle.refusals.specs.declared.Refusal.TheVariants.{DataTooShort}
use Rattle.refusals.specs.declared.Fault.{Fault}
use Rattle.refusals.specs.Numbers.{accepted, data_too_short}
use Rattle.grammar.specs.Reading.{done, reads, gives, stops, bind}
use Rattle.grammar.specs.Room.{run}
use Rattle.grammar.specs.Fields.{field}
use Rattle.grammar.specs.Steps.{Chain, whatever, rules, code_parts, line_part, lined, first_line_of, parts_from, fault_of, ended}
use Rattle.readsteps.specs.declared.Room.{Room}
use Rattle.readsteps.specs.declared.Line.{Line}
use Rattle.readsteps.specs.Held.{rooms, Safe, LineIn}
use Rattle.readsteps.specs.Linking.{rule_of, line_lined, first_lined, fault_in}
use Rattle.readsteps.proofs.Runs.{bind_assoc}
use Rattle.readsteps.proofs.States.{holds-lined, fault_held}
use Rattle.readleaves.specs.Readings.{ChainReader, Lists, child_of, line_of, parts_of, code_of}
use Rattle.readleaves.specs.Turns.{Stands, Inv, Then, InvCode}
use Rattle.readleaves.proofs.Chains.{inv_start, inv_as, inv_end, inv-refused, inv-cut, inv_more, lists-inside}

-- `first_line` is the reading of its name
pub line-lists : {s : List ℕ} {room : Room} (allowance i : ℕ) {line₀ line : Line} {ns₀ es₀ ss₀ ns es ss : List ℕ} {r : Result Line Fault} → Stands s room line₀ ns₀ es₀ ss₀ ns es ss line → r ≡ first_lined s i line
    → Lists (line_of s i) 0 s room allowance line ns es ss r ns es ss
unfolding first_line_of run
line-lists {s} {room} allowance i {line₀} {line} {ns₀} {es₀} {ss₀} {ns} {es} {ss} {r} st e =
    subst (λ q. Lists (line_of s i) 0 s room allowance line ns es ss q ns es ss) (sym e) (go (eqb i line_part) refl (leb (line.walk.at + 4) (length s)) refl)
  where
    go : (b : Bool) → eqb i line_part ≡ b → (d : Bool) → leb (line.walk.at + 4) (length s) ≡ d
        → Lists (line_of s i) 0 s room allowance line ns es ss (cond b (cond d (Ok (line_lined line)) (Err (fault DataTooShort line.walk.at))) (Ok line)) ns es ss
    go true eb true ed =
        let le : line.walk.at + 4 ≤ length s = leb-true (line.walk.at + 4) (length s) ed in
        record {
          moved = (omega (arith, st.moved, le), record { last_in = st.line_in.last_in; count = st.line_in.count });
          exact = λ fuel depth c h l. (
            lined c,
            ap₂ (λ x y. run (rooms room (depth + allowance)) (cond x (reads (cond y (gives (lined c)) (stops data_too_short c.st.at))) (done c))) eb (ap (λ a. leb (a + 4) (length s)) (sym h.walk.at) ∙ ed),
            holds-lined h,
          );
        }
    go true eb false ed =
        record {
          moved = tt;
          exact = λ fuel depth c h l.
              ap₂ (λ x y. run (rooms room (depth + allowance)) (cond x (reads (cond y (gives (lined c)) (stops data_too_short c.st.at))) (done c))) eb (ap (λ a. leb (a + 4) (length s)) (sym h.walk.at) ∙ ed)
              ∙ ap (λ a. stops data_too_short a) (sym h.walk.at);
        }
    go false eb d ed =
        record {
          moved = (omega (arith, st.moved), st.line_in);
          exact = λ fuel depth c h l. (c, ap (λ x. run (rooms room (depth + allowance)) (cond x (reads (field s c.st.at 4 (gives (lined c)))) (done c))) eb, h);
        }

-- `code`: its body has the allowance, and its parts one less.
pub code_start : {s : List ℕ} {room : Room} {allowance at : ℕ} {line : Line} {ns es ss : List ℕ} → Safe s room line.walk ns es ss → LineIn line → InvCode s room allowance at line ns es ss ns es ss line 0
code_start {s} {room} {allowance} {at} safe li =
    record { bound = omega arith; inv = inv_start (Then (parts_of s code_parts 0) (λ fuel depth. ended s at)) (allowance - 1) safe li }

-- one level for the body
code-lists : {s : List ℕ} {room : Room} {allowance : ℕ} (at : ℕ) {line : Line} {ns es ss ns' es' ss' : List ℕ} {r : Result Line Fault} → 0 < allowance
    → Lists (Then (parts_of s code_parts 0) (λ fuel depth. ended s at)) 0 s room (allowance - 1) line ns es ss r ns' es' ss' → Lists (code_of s at) 0 s room allowance line ns es ss r ns' es' ss'
code-lists {s} {room} {allowance} at some f = lists-inside allowance 1 f (omega arith) (code_of s at) (λ fuel depth c. refl)

module _ {s : List ℕ} {room : Room} {allowance at : ℕ} {line₀ : Line} {ns₀ es₀ ss₀ ns es ss : List ℕ} {line : Line} {i : ℕ} (some : 0 < allowance) (v : InvCode s room allowance at line₀ ns₀ es₀ ss₀ ns es ss line i) where
  -- after the last part: the checks at the end
  module _ (le : code_parts ≤ i) {number : ℕ} (is : number ≡ fault_in s ns (at + 1) line) where
    at-end : Inv (Then (parts_of s code_parts 0) (λ fuel depth. ended s at)) (λ fuel depth. ended s at) s room (allowance - 1) line₀ ns₀ es₀ ss₀ ns es ss line
    unfolding parts_from bind
    at-end =
        let e : code_parts - i ≡ 0 = omega arith in
        inv_as v.inv (λ fuel depth. ended s at) (λ fuel depth c h. ap (λ n. bind (parts_of s n i fuel depth c) (ended s at)) e)

    pub code_fault_lem : (number ≡ accepted → ⊥) → {failed : Fault} → number_of failed.refusal ≡ number → failed.place ≡ at
        → Lists (code_of s at) 0 s room allowance line₀ ns₀ es₀ ss₀ (Err failed) ns es ss
    unfolding ended
    code_fault_lem bad {failed} same there =
        code-lists at some
        (inv-refused at-end failed ns es ss
        (λ fuel depth c h.
        let q : number ≡ fault_of s at c = is ∙ fault_held s at h in
        rw (same, there) (rw (← q, ne_eqb number accepted bad) refl)))

    pub code_end : number ≡ accepted → Lists (code_of s at) 0 s room allowance line₀ ns₀ es₀ ss₀ (Ok line) ns es ss
    unfolding ended
    code_end good =
        code-lists at some
        (inv_end at-end
        (λ fuel depth c h.
        let q : number ≡ fault_of s at c = is ∙ fault_held s at h in
        rw (← q, eq-eqb number accepted good) refl))

  module _ (lt : i < code_parts) where
    abbrev later : ChainReader
    later = Then (parts_of s (code_parts - (i + 1)) (i + 1)) (λ fuel depth. ended s at)

    abbrev part : ChainReader
    part = child_of s (get_or rules i whatever)

    open_code : Inv (Then (parts_of s code_parts 0) (λ fuel depth. ended s at)) (Then (line_of s i) (Then part later)) s room (allowance - 1) line₀ ns₀ es₀ ss₀ ns es ss line
    unfolding parts_from
    open_code =
        let e : code_parts - i ≡ suc (code_parts - (i + 1)) = omega arith in
        inv_as v.inv (Then (line_of s i) (Then part later))
        (λ fuel depth c h. ap (λ n. bind (parts_of s n i fuel depth c) (ended s at)) e ∙ assoc fuel depth c)
      where
        assoc : (fuel depth : ℕ) (c : Chain)
            → bind (bind (first_line_of s i c) (λ d. bind (part fuel depth d) (parts_of s (code_parts - (i + 1)) (i + 1) fuel depth))) (ended s at)
            ≡ bind (first_line_of s i c) (λ d. bind (part fuel depth d) (later fuel depth))
        assoc fuel depth c =
            bind_assoc (first_line_of s i c) _ (ended s at)
            ∙ ap (bind (first_line_of s i c)) (λ j d. bind_assoc (part fuel depth d) (parts_of s (code_parts - (i + 1)) (i + 1) fuel depth) (ended s at) j)

    module _ {g : Result Line Fault} (f : g ≡ first_lined s i line) where
      lines : Lists (line_of s i) 0 s room (allowance - 1) line ns es ss g ns es ss
      lines = line-lists (allowance - 1) i v.inv.stands f

      pub line-cut : {failed : Fault} → g ≡ Err failed → Lists (code_of s at) 0 s room allowance line₀ ns₀ es₀ ss₀ (Err failed) ns es ss
      line-cut is = code-lists at some (inv-cut (line_of s i) (Then part later) open_code lines is)

      module _ {m : Line} (is : g ≡ Ok m) where
        after_line : Inv (Then (parts_of s code_parts 0) (λ fuel depth. ended s at)) (Then part later) s room (allowance - 1) line₀ ns₀ es₀ ss₀ ns es ss m
        after_line = inv_more (line_of s i) (Then part later) open_code lines is refl refl refl

        module _ (rule : ℕ) (ruled : rule_of rule ≡ get_or rules i whatever) {r : Result Line Fault} {ns' es' ss' : List ℕ} (k : Lists (child_of s (rule_of rule)) 1 s room (allowance - 1) m ns es ss r ns' es' ss') where
          part-lists : Lists part 1 s room (allowance - 1) m ns es ss r ns' es' ss'
          part-lists = subst (λ q. Lists (child_of s q) 1 s room (allowance - 1) m ns es ss r ns' es' ss') ruled k

          pub part_cut : {failed : Fault} → r ≡ Err failed → Lists (code_of s at) 0 s room allowance line₀ ns₀ es₀ ss₀ (Err failed) ns' es' ss'
          part_cut it = code-lists at some (inv-cut part later after_line part-lists it)

          pub code_next : {l : Line} → r ≡ Ok l → length ns' ≡ length ns → length es' ≡ length es → length ss' ≡ length ss → InvCode s room allowance at line₀ ns₀ es₀ ss₀ ns' es' ss' l (i + 1)
          code_next it a b c = record { bound = omega arith; inv = inv_more part later after_line part-lists it a b c }
