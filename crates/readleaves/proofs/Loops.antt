-- The turns over so many children and over a dict's pairs: each is one of the laws of `Chains` at the definition's own unrolling.
-- Assumes nothing.
use mathlib.Core.Path.{◌≡◌, refl, sym, ap, ap₂, subst, ◌∙◌}
use Prim.Native.Nat.{ℕ, zero, suc, ◌+◌, ◌-◌, ◌%◌, ◌≤◌, ◌<◌}
use native.Mathlib.Omega.{arith}
use mathlib.Core.Bool.{true, false, cond}
use mathlib.Core.List.{List}
use lib.ListN.{length, get_or}
use lib.Dec.{ltb, eqb}
use borrow.Author.Tests.{eq-eqb, ne_eqb, lt-ltb, le-ltb}
use Rattle.std.specs.Prelude.{Result, Ok, Err}
use Rattle.refusals.specs.Faults.{number_of}
use Rattle.refusals.specs.declared.Fault.{Fault}
use Rattle.refusals.specs.Numbers.{eof_object}
use Rattle.grammar.specs.Reading.{done, refused, bind}
use Rattle.grammar.specs.Steps.{Chain, Reader, whatever, child, kids, passed, key_or, couples, value}
use Rattle.readsteps.specs.declared.Room.{Room}
use Rattle.readsteps.specs.declared.Line.{Line}
use Rattle.readsteps.specs.Held.{Safe, LineIn}
use Rattle.readsteps.specs.Linking.{line_on}
use Rattle.readsteps.proofs.States.{holds-passed}
use Rattle.readleaves.specs.Readings.{ChainReader, Lists, LinkedMoved, child_of, kids_of, couples_of}
use Rattle.readleaves.specs.Turns.{Inv, Then, InvKids, InvPairs, InvValue}
use Rattle.readleaves.proofs.Chains.{inv_start, inv_as, inv-done, inv_end, inv-refused, inv-cut, inv_more}

-- so many children
pub kids_start : {s : List ℕ} {room : Room} {allowance count : ℕ} {line : Line} {ns es ss : List ℕ} → Safe s room line.walk ns es ss → LineIn line → InvKids s room allowance count line ns es ss ns es ss line 0
kids_start {s} {room} {allowance} {count} safe li =
    let e : count ≡ count - 0 = omega arith in
    record { bound = omega arith; inv = inv_as (inv_start (kids_of s count) allowance safe li) (kids_of s (count - 0)) (λ fuel depth c h. ap (λ n. kids_of s n fuel depth c) e) }

module _ {s : List ℕ} {room : Room} {allowance count : ℕ} {line₀ : Line} {ns₀ es₀ ss₀ ns es ss : List ℕ} {line : Line} {i : ℕ} (v : InvKids s room allowance count line₀ ns₀ es₀ ss₀ ns es ss line i) where
  pub kids_end : count ≤ i → Lists (kids_of s count) 0 s room allowance line₀ ns₀ es₀ ss₀ (Ok line) ns es ss
  unfolding kids
  kids_end le = let e : count - i ≡ 0 = omega arith in inv_end v.inv (λ fuel depth c h. ap (λ n. kids_of s n fuel depth c) e)

  module _ (lt : i < count) where
    open_kids : Inv (kids_of s count) (Then (child_of s whatever) (kids_of s (count - (i + 1)))) s room allowance line₀ ns₀ es₀ ss₀ ns es ss line
    unfolding kids
    open_kids =
        let e : count - i ≡ suc (count - (i + 1)) = omega arith in
        inv_as v.inv (Then (child_of s whatever) (kids_of s (count - (i + 1)))) (λ fuel depth c h. ap (λ n. kids_of s n fuel depth c) e)

    module _ {r : Result Line Fault} {ns' es' ss' : List ℕ} (f : Lists (child_of s whatever) 1 s room allowance line ns es ss r ns' es' ss') where
      pub kids-cut : {failed : Fault} → r ≡ Err failed → Lists (kids_of s count) 0 s room allowance line₀ ns₀ es₀ ss₀ (Err failed) ns' es' ss'
      kids-cut is = inv-cut (child_of s whatever) (kids_of s (count - (i + 1))) open_kids f is

      pub kids_next : {m : Line} → r ≡ Ok m → length ns' ≡ length ns → length es' ≡ length es → length ss' ≡ length ss → InvKids s room allowance count line₀ ns₀ es₀ ss₀ ns' es' ss' m (i + 1)
      kids_next is a b c = record { bound = omega arith; inv = inv_more (child_of s whatever) (kids_of s (count - (i + 1))) open_kids f is a b c }

-- a dict's pairs: for whatever fuel outlasts the bytes from the first line on
pub couples_unroll : (s : List ℕ) (extra : ℕ) → (k : ℕ) × (extra ≤ k + 1)
    × ((f : Reader) (c : Chain) → length s ≤ c.st.at + extra → couples f s extra c ≡ key_or s c (bind (child whatever f c) (λ d. bind (child whatever f d) (couples f s k))))
unfolding couples
couples_unroll s zero = (0, omega arith, λ f c h. rw (le-ltb c.st.at (length s) (omega arith)) refl)
couples_unroll s (suc k) = (k, omega arith, λ f c h. refl)

abbrev PairLists : List ℕ → Room → ℕ → Line → (ns es ss : List ℕ) → Result Line Fault → (ns' es' ss' : List ℕ) → Type 0
PairLists s room allowance line ns es ss r ns' es' ss' = (extra : ℕ) → length s ≤ line.walk.at + extra → Lists (couples_of s extra) 0 s room allowance line ns es ss r ns' es' ss'

pub pairs_start : {s : List ℕ} {room : Room} {allowance : ℕ} {line : Line} {ns es ss : List ℕ} → Safe s room line.walk ns es ss → LineIn line → InvPairs s room allowance line ns es ss ns es ss line
pairs_start {s} {room} {allowance} safe li =
    record {
      stands = (inv_start (couples_of s 0) allowance safe li).stands;
      inv = λ extra h. (extra, h, inv_start (couples_of s extra) allowance safe li);
    }

abbrev turn_of : List ℕ → ℕ → ChainReader
turn_of s k = Then (child_of s whatever) (Then (child_of s whatever) (couples_of s k))

module _ {s : List ℕ} {room : Room} {allowance : ℕ} {line₀ : Line} {ns₀ es₀ ss₀ ns es ss : List ℕ} {line : Line} (v : InvPairs s room allowance line₀ ns₀ es₀ ss₀ ns es ss line) where
  -- a turn, as the loop makes it
  pairs-turn : (extra₀ : ℕ) → length s ≤ line₀.walk.at + extra₀
      → (k : ℕ) × (length s ≤ line.walk.at + k + 1) × Inv (couples_of s extra₀) (λ fuel depth c. key_or s c (turn_of s k fuel depth c)) s room allowance line₀ ns₀ es₀ ss₀ ns es ss line
  pairs-turn extra₀ h =
      let x = v.inv extra₀ h in
      let u = couples_unroll s x.0 in (
        u.0,
        omega (arith, x.1, u.1),
        inv_as x.2 (λ fuel depth c. key_or s c (turn_of s u.0 fuel depth c)) (λ fuel depth c hc. u.2 (value fuel s depth) c (omega (arith, x.1, hc.walk.at))),
      )

  -- no byte is left where a key stands
  pub pairs_out : {failed : Fault} → number_of failed.refusal ≡ eof_object → failed.place ≡ line.walk.at → length s ≤ line.walk.at
      → PairLists s room allowance line₀ ns₀ es₀ ss₀ (Err failed) ns es ss
  pairs_out {failed} number place out extra₀ h =
      let x = pairs-turn extra₀ h in
      inv-refused x.2 failed ns es ss
      (λ fuel depth c hc.
      let e : length s ≡ line.walk.at = omega (arith, v.stands.moved) in
      let t : ltb c.st.at (length s) ≡ false = le-ltb c.st.at (length s) (omega (arith, hc.walk.at)) in
      ap (λ b. cond b (cond (eqb (get_or s c.st.at 0 % 128) 0x30) (done (passed 1 c)) (turn_of s x.0 fuel depth c)) (refused eof_object (length s))) t ∙ ap (λ n. refused eof_object n) e ∙ ap₂ (λ n p. refused n p) (sym number) (sym place))

  module _ (there : line.walk.at < length s) where
    -- the null ends the dict
    pub pairs_null : get_or s line.walk.at 0 % 128 ≡ 0x30 → PairLists s room allowance line₀ ns₀ es₀ ss₀ (Ok (line_on 1 line)) ns es ss
    pairs_null null extra₀ h =
        let x = pairs-turn extra₀ h in
        inv-done x.2 (line_on 1 line) (omega (arith, v.stands.moved)) (record { last_in = v.stands.line_in.last_in; count = v.stands.line_in.count }) (passed 1)
        (λ fuel depth c hc.
        let t : ltb c.st.at (length s) ≡ true = lt-ltb c.st.at (length s) (omega (arith, hc.walk.at)) in
        let n : eqb (get_or s c.st.at 0 % 128) 0x30 ≡ true = eq-eqb _ 0x30 (ap (λ a. get_or s a 0 % 128) (sym hc.walk.at) ∙ null) in
        (ap₂ (λ b d. cond b (cond d (done (passed 1 c)) (turn_of s x.0 fuel depth c)) (refused eof_object (length s))) t n, holds-passed 1 hc))

    module _ (key : get_or s line.walk.at 0 % 128 ≡ 0x30 → ⊥) where
      pairs_open : (extra₀ : ℕ) → length s ≤ line₀.walk.at + extra₀
          → (k : ℕ) × (length s ≤ line.walk.at + k + 1) × Inv (couples_of s extra₀) (turn_of s k) s room allowance line₀ ns₀ es₀ ss₀ ns es ss line
      pairs_open extra₀ h =
          let x = pairs-turn extra₀ h in (
            x.0,
            x.1,
            inv_as x.2 (turn_of s x.0)
                (λ fuel depth c hc.
                let t : ltb c.st.at (length s) ≡ true = lt-ltb c.st.at (length s) (omega (arith, hc.walk.at)) in
                let n : eqb (get_or s c.st.at 0 % 128) 0x30 ≡ false = ne_eqb _ 0x30 (λ q. key (ap (λ a. get_or s a 0 % 128) hc.walk.at ∙ q)) in
                ap₂ (λ b d. cond b (cond d (done (passed 1 c)) (turn_of s x.0 fuel depth c)) (refused eof_object (length s))) t n),
          )

      module _ {r : Result Line Fault} {ns' es' ss' : List ℕ} (f : Lists (child_of s whatever) 1 s room allowance line ns es ss r ns' es' ss') where
        pub key-cut : {failed : Fault} → r ≡ Err failed → PairLists s room allowance line₀ ns₀ es₀ ss₀ (Err failed) ns' es' ss'
        key-cut is extra₀ h = let x = pairs_open extra₀ h in inv-cut (child_of s whatever) (Then (child_of s whatever) (couples_of s x.0)) x.2 f is

        pub key_next : {m : Line} → r ≡ Ok m → length ns' ≡ length ns → length es' ≡ length es → length ss' ≡ length ss → InvValue s room allowance line₀ ns₀ es₀ ss₀ ns' es' ss' m
        key_next {m} is a b c = record { stands = (on (length s) (omega arith)).2.stands; inv = on }
          where
            moved : LinkedMoved 1 s room line.walk (Ok m)
            moved = subst (LinkedMoved 1 s room line.walk) is f.moved

            on : (extra₀ : ℕ) → length s ≤ line₀.walk.at + extra₀
                → (k : ℕ) × (length s ≤ m.walk.at + k) × Inv (couples_of s extra₀) (Then (child_of s whatever) (couples_of s k)) s room allowance line₀ ns₀ es₀ ss₀ ns' es' ss' m
            on extra₀ h =
                let x = pairs_open extra₀ h in
                (x.0, omega (arith, x.1, moved.0), inv_more (child_of s whatever) (Then (child_of s whatever) (couples_of s x.0)) x.2 f is a b c)

module _ {s : List ℕ} {room : Room} {allowance : ℕ} {line₀ : Line} {ns₀ es₀ ss₀ ns es ss : List ℕ} {line : Line} (v : InvValue s room allowance line₀ ns₀ es₀ ss₀ ns es ss line) {r : Result Line Fault} {ns' es' ss' : List ℕ} (f : Lists (child_of s whatever) 1 s room allowance line ns es ss r ns' es' ss') where
  pub item-cut : {failed : Fault} → r ≡ Err failed → PairLists s room allowance line₀ ns₀ es₀ ss₀ (Err failed) ns' es' ss'
  item-cut is extra₀ h = let x = v.inv extra₀ h in inv-cut (child_of s whatever) (couples_of s x.0) x.2 f is

  pub item_next : {m : Line} → r ≡ Ok m → length ns' ≡ length ns → length es' ≡ length es → length ss' ≡ length ss → InvPairs s room allowance line₀ ns₀ es₀ ss₀ ns' es' ss' m
  item_next {m} is a b c = record { stands = (on (length s) (omega arith)).2.stands; inv = on }
    where
      moved : LinkedMoved 1 s room line.walk (Ok m)
      moved = subst (LinkedMoved 1 s room line.walk) is f.moved

      on : (extra₀ : ℕ) → length s ≤ line₀.walk.at + extra₀
          → (k : ℕ) × (length s ≤ m.walk.at + k) × Inv (couples_of s extra₀) (couples_of s k) s room allowance line₀ ns₀ es₀ ss₀ ns' es' ss' m
      on extra₀ h =
          let x = v.inv extra₀ h in
          (x.0, omega (arith, x.1, moved.0), inv_more (child_of s whatever) (couples_of s x.0) x.2 f is a b c)
