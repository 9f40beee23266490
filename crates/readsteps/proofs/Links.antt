-- What `resolve_ref` and `attach` answer, one law for each way out.
-- Assumes nothing.
use mathlib.Core.Path.{◌≡◌, refl, sym, ap, ◌∙◌}
use Prim.Native.Nat.{ℕ, zero, suc, ◌+◌, ◌-◌, ◌≤◌, ◌<◌}
use native.Mathlib.Omega.{arith}
use mathlib.Core.Bool.{cond}
use mathlib.Core.List.{List}
use lib.ListN.{length, get_or}
use borrow.Author.Tests.{le-leb, lt-leb, lt-ltb, le-ltb, eq-eqb, ne_eqb}
use Rattle.std.specs.Prelude.{Result, Ok, Err}
use Rattle.refusals.specs.Numbers.{data_too_short, invalid_ref}
use Rattle.refusals.specs.Faults.{fault}
use Rattle.refusals.specs.declared.Refusal.TheVariants.{DataTooShort, InvalidRef, NoEntry}
use Rattle.refusals.specs.declared.Fault.{Fault}
use Rattle.refusals.specs.Limits.{nothing}
use Rattle.grammar.specs.Reading.{gives, stops}
use Rattle.grammar.specs.Fields.{le32}
use Rattle.grammar.specs.Steps.{known, stored, reference, code_part, locals_part, kinds_part}
use Rattle.stores.specs.Written.{entry_written, entry_linked}
use Rattle.readsteps.specs.Opening.{References}
use Rattle.readsteps.specs.Linking.{kept, entries_next, Attaches}
use Rattle.readsteps.specs.declared.Walk.{Walk}
use Rattle.readsteps.specs.declared.Line.{Line}
use Rattle.readsteps.specs.declared.Opened.TheVariants as opened

-- `resolve_ref`
stored_open : (at v : ℕ) → v ≡ 0 → stops invalid_ref at ≡ stored at v
stored_open at v e = rw e refl

stored-known : (at v : ℕ) → (v ≡ 0 → ⊥) → gives (known (v - 1) (at + 4)) ≡ stored at v
stored-known at zero h = absurd (h refl)
stored-known at (suc v) h = let e : suc v - 1 ≡ v = omega arith in rw e refl

looked : (s slots : List ℕ) (at : ℕ) {i v : ℕ} → at + 4 ≤ length s → i ≡ le32 s at → v ≡ get_or slots i 0 → reference s slots at ≡ stored at v
unfolding reference
looked s slots at there index slot =
    ap (λ b. cond b (stored at (get_or slots (le32 s at) 0)) (stops data_too_short at)) (le-leb (at + 4) (length s) there)
    ∙ ap (stored at) (ap (λ k. get_or slots k 0) (sym index) ∙ sym slot)

module _ {s slots : List ℕ} {at : ℕ} where
  pub ref_cut : length s < at + 4 → {f : Fault} → f ≡ fault DataTooShort at → References s slots at (Err f)
  unfolding reference
  ref_cut h told = rw told (record { ahead = tt; exact = rw (lt-leb (at + 4) (length s) h) refl })

  module _ {i v : ℕ} (there : at + 4 ≤ length s) (index : i ≡ le32 s at) (slot : v ≡ get_or slots i 0) where
    pub ref_open : v ≡ 0 → {f : Fault} → f ≡ fault InvalidRef at → References s slots at (Err f)
    ref_open e told = rw told (record { ahead = tt; exact = stored_open at v e ∙ sym (looked s slots at there index slot) })

    pub ref_known : (v ≡ 0 → ⊥) → References s slots at (Ok (opened.Known (v - 1) (at + 4)))
    ref_known h = record { ahead = (omega arith, there); exact = stored-known at v h ∙ sym (looked s slots at there index slot) }

-- `attach`
module _ {room : ℕ} {l : Line} {place v : ℕ} {a : Walk} {es es' : List ℕ} where
  pub attach_none : room ≤ a.entries → es' ≡ es → {f : Fault} → f ≡ fault NoEntry place → Attaches room l place v a es (Err f) es'
  attach_none h same told = record { answer = rw (told, le-ltb a.entries room h) refl; entries = same ∙ rw (le-ltb a.entries room h) refl }

  pub attach-entries : {r : Result Line Fault} → Attaches room l place v a es r es' → a.entries < room → es' ≡ entries_next es l v a
  attach-entries k fits = k.entries ∙ rw (lt-ltb a.entries room fits) refl

  module _ (fits : a.entries < room) {code locals kinds : ℕ} (is_code : code ≡ kept code_part l.count v l.code) (is_locals : locals ≡ kept locals_part l.count v l.locals) (is_kinds : kinds ≡ kept kinds_part l.count v l.kinds) {es'' : List ℕ} (written : es'' ≡ entry_written es a.entries (record { child = v; next = nothing })) where
    pub attach_first : l.last ≡ nothing → es' ≡ es''
        → Attaches room l place v a es
        (Ok
        (record {
          first = a.entries;
          last = a.entries;
          count = l.count + 1;
          line = l.line;
          code = code;
          locals = locals;
          kinds = kinds;
          walk = record { at = a.at; nodes = a.nodes; entries = a.entries + 1; slots = a.slots };
        }))
        es'
    attach_first none now =
        record {
          answer = rw (is_code, is_locals, is_kinds, lt-ltb a.entries room fits, eq-eqb l.last nothing none) refl;
          entries = now ∙ written ∙ rw (lt-ltb a.entries room fits, eq-eqb l.last nothing none) refl;
        }

    pub attach_next : (l.last ≡ nothing → ⊥) → es' ≡ entry_linked es'' l.last a.entries
        → Attaches room l place v a es
        (Ok
        (record {
          first = l.first;
          last = a.entries;
          count = l.count + 1;
          line = l.line;
          code = code;
          locals = locals;
          kinds = kinds;
          walk = record { at = a.at; nodes = a.nodes; entries = a.entries + 1; slots = a.slots };
        }))
        es'
    attach_next some linked =
        record {
          answer = rw (is_code, is_locals, is_kinds, lt-ltb a.entries room fits, ne_eqb l.last nothing some) refl;
          entries = linked ∙ ap (λ t. entry_linked t l.last a.entries) written ∙ rw (lt-ltb a.entries room fits, ne_eqb l.last nothing some) refl;
        }
