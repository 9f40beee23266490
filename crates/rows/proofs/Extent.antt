-- An entry: where its bytes end, and that a complete one is a matter of its own bytes only. A relation by clauses on the entry, with a law each
-- for a number, a line and a test, of which each form of entry is composed.
use mathlib.Core.Path.{◌≡◌, refl, sym, subst, ◌∙◌}
use mathlib.Core.Bool.{Bool, true, false, cond}
use mathlib.Core.List.{List}
use Prim.Native.Nat.{ℕ, ◌+◌, ◌-◌, ◌/◌, ◌%◌, ◌≤◌, ◌<◌}
use native.Mathlib.Omega.{arith}
use lib.ListN.{length, drop, get_or, length-drop}
use lib.Dec.{ltb, eqb}
use borrow.Author.Tests.{lt-ltb, ltb-true, ltb-false}
use Rattle.std.specs.Prelude.{Option, Some, None}
use Rattle.lineentry.specs.declared.Varint.{Varint}
use Rattle.lineentry.specs.declared.Span.{Span}
use Rattle.lineentry.specs.declared.Entry.{Entry}
use Rattle.lineentry.specs.declared.Entry.TheVariants.{Covers, Stop, OutOfRange}
use Rattle.lineentry.specs.Varint.{read_as, byte_at, varint_at, signed, signed_of, signed_at}
use Rattle.lineentry.specs.Line.{origin, moved, as_signed}
use Rattle.lineentry.specs.Entry.{with_number, with_line, short_form, one_line, no_columns, long_columns, long_form, by_code, entry_of, entry_at}
use Rattle.lineentry.proofs.Entries.{covers-inside}
use Rattle.lineentry.proofs.Varints.{varint_end}
use Rattle.rows.proofs.Local.{never, digits_le, cut-end, parsed, Same, narrow, varint_local}

-- ---- where an entry ends, its bytes beginning at p
pub record Runs (s : List ℕ) (p : ℕ) (e : Span) : Type 0 where
  pub from : p ≤ e.next
  pub upto : e.next ≤ length s
  pub late : e.missing ≡ true → e.next ≡ length s

abbrev pub Reads : List ℕ → ℕ → Entry → Type 0
Reads s p (Covers e) = Runs s p e
Reads s p Stop = ⊥
Reads s p OutOfRange = Unit {0}

-- A byte is missing: so it is where nothing is left to read.
abbrev pub Late : Entry → Type 0
Late (Covers e) = e.missing ≡ true
Late Stop = Unit {0}
Late OutOfRange = Unit {0}

-- t has the same entry where it has the same bytes
abbrev pub Loc : List ℕ → List ℕ → ℕ → Entry → Entry → Type 0
Loc s t p (Covers e) b = e.missing ≡ false → Same s t p e.next → b ≡ Covers e
Loc s t p Stop b = Unit {0}
Loc s t p OutOfRange b = Unit {0}

late_loc : (s t : List ℕ) (p : ℕ) (a b : Entry) → Late a → Loc s t p a b
late_loc s t p (Covers e) b h = λ m k. never (sym h ∙ m)
late_loc s t p Stop b h = tt
late_loc s t p OutOfRange b h = tt

wider : (s : List ℕ) (o p : ℕ) (a : Entry) → o ≤ p → Reads s p a → Reads s o a
wider s o p (Covers e) h r = record { from = omega (arith, r.from); upto = r.upto; late = r.late }
wider s o p Stop h r = r
wider s o p OutOfRange h r = tt

-- ---- a number at p
pub record Ran (s : List ℕ) (p q : ℕ) (m : Bool) : Type 0 where
  pub from : p ≤ q
  pub upto : q ≤ length s
  pub late : m ≡ true → q ≡ length s

pub ran : (s : List ℕ) (p x q : ℕ) (m : Bool) → p ≤ length s → varint_at s p ≡ read_as x q m → Ran s p q m
ran s p x q m h e =
    let a = parsed s p x q m e in
    let n = digits_le (drop p s) in
    let l = length-drop p s in
    record { from = omega (arith, a.wide); upto = omega (arith, a.wide); late = λ t. let k = cut-end (drop p s) (a.cuts ∙ t) in omega (arith, a.wide) }

number-reads : (s : List ℕ) (p : ℕ) (go : ℕ → ℕ → Bool → Entry) → p ≤ length s → ((x q : ℕ) (m : Bool) → Ran s p q m → Reads s q (go x q m))
    → Reads s p (with_number (varint_at s p) go)
number-reads s p go h f = on (varint_at s p) refl where
  on : (v : Option Varint) → varint_at s p ≡ v → Reads s p (with_number v go)
  on (Some v) e = let r = ran s p v.value v.next v.missing h e in wider s p v.next (go v.value v.next v.missing) r.from (f v.value v.next v.missing r)
  on None e = tt

number_late : (s : List ℕ) (p : ℕ) (go : ℕ → ℕ → Bool → Entry) → p ≡ length s → ((x q : ℕ) → q ≡ length s → Late (go x q true)) → Late (with_number (varint_at s p) go)
number_late s p go h f = rw (varint_end 6 s p (omega arith)) (f 0 p h)

number_loc : (s t : List ℕ) (p : ℕ) (go go' : ℕ → ℕ → Bool → Entry) → p ≤ length s
    → ((x q : ℕ) → q ≡ length s → Late (go x q true))
    → ((x q : ℕ) → q ≤ length s → Reads s q (go x q false))
    → ((x q : ℕ) → q ≤ length s → Loc s t q (go x q false) (go' x q false))
    → Loc s t p (with_number (varint_at s p) go) (with_number (varint_at t p) go')
number_loc s t p go go' h late reads loc = on (varint_at s p) refl where
  at : (x q : ℕ) (a : Entry) → varint_at s p ≡ read_as x q false → p ≤ q → Reads s q a → Loc s t q a (go' x q false) → Loc s t p a (with_number (varint_at t p) go')
  at x q (Covers e) v l r f = λ m k. rw (varint_local s t p x q v (narrow p q (omega arith) r.from k)) (f m (narrow q e.next l (omega arith) k))
  at x q Stop v l r f = tt
  at x q OutOfRange v l r f = tt

  of : (x q : ℕ) (m : Bool) → varint_at s p ≡ read_as x q m → Loc s t p (go x q m) (with_number (varint_at t p) go')
  of x q true e = late_loc s t p (go x q true) _ (late x q ((ran s p x q true h e).late refl))
  of x q false e = let r = ran s p x q false h e in at x q (go x q false) e r.from (reads x q r.upto) (loc x q r.upto)

  on : (v : Option Varint) → varint_at s p ≡ v → Loc s t p (with_number v go) (with_number (varint_at t p) go')
  on (Some v) e = of v.value v.next v.missing e
  on None e = tt

-- ---- a line
line_reads : (s : List ℕ) (p : ℕ) (l : Option ℕ) (go : ℕ → Entry) → ((x : ℕ) → Reads s p (go x)) → Reads s p (with_line l go)
line_reads s p (Some x) go f = f x
line_reads s p None go f = tt

line_late : (l : Option ℕ) (go : ℕ → Entry) → ((x : ℕ) → Late (go x)) → Late (with_line l go)
line_late (Some x) go f = f x
line_late None go f = tt

line_loc : (s t : List ℕ) (p : ℕ) (l : Option ℕ) (go go' : ℕ → Entry) → ((x : ℕ) → Loc s t p (go x) (go' x)) → Loc s t p (with_line l go) (with_line l go')
line_loc s t p (Some x) go go' f = f x
line_loc s t p None go go' f = tt

-- ---- a byte
byte_ran : (s : List ℕ) (p : ℕ) → p ≤ length s → Ran s p (byte_at s p).next (byte_at s p).missing
byte_ran s p h = on (ltb p (length s)) refl where
  on : (t : Bool) → ltb p (length s) ≡ t → Ran s p (byte_at s p).next (byte_at s p).missing
  on true e = rw e (record { from = omega arith; upto = omega (arith, ltb-true p (length s) e); late = λ z. never (sym z) })
  on false e = rw e (record { from = omega arith; upto = h; late = λ z. omega (arith, ltb-false p (length s) e) })

byte-there : (s : List ℕ) (p : ℕ) → (byte_at s p).missing ≡ false → p < length s
byte-there s p m = on (ltb p (length s)) refl where
  on : (t : Bool) → ltb p (length s) ≡ t → p < length s
  on true e = ltb-true p (length s) e
  on false e = never (rw e at m)

byte_next : (s : List ℕ) (p : ℕ) → p < length s → (byte_at s p).next ≡ p + 1
byte_next s p h = rw (lt-ltb p (length s) h)

byte_local : (s t : List ℕ) (p k : ℕ) → p < k → Same s t p k → byte_at t p ≡ byte_at s p
byte_local s t p k h m =
    let a : p < length s = omega (arith, m.inside) in
    let b : p < length t = omega (arith, m.within) in
    rw (lt-ltb p (length s) a, lt-ltb p (length t) b, m.bytes p (omega arith) h)

-- ---- the forms
signed-number : (v : Option Varint) (go : ℕ → ℕ → Bool → Entry) → with_number (signed v) go ≡ with_number v (λ x. go (signed_of x))
signed-number (Some v) go = refl
signed-number None go = refl

pub signed_at_lem : (s : List ℕ) (p : ℕ) (go : ℕ → ℕ → Bool → Entry) → with_number (signed_at s p) go ≡ with_number (varint_at s p) (λ x. go (signed_of x))
unfolding signed_at
signed_at_lem s p go = signed-number (varint_at s p) go

columns-reads : (s : List ℕ) (to end n p : ℕ) → p ≤ length s → Reads s p (long_columns s to end n p)
unfolding long_columns
columns-reads s to end n p h =
    number-reads s p _ h λ x q m r. number-reads s q _ r.upto λ y q₁ m₁ r₁. record { from = omega arith; upto = r₁.upto; late = r₁.late }

columns_late : (s : List ℕ) (to end n p : ℕ) → p ≡ length s → Late (long_columns s to end n p)
unfolding long_columns
columns_late s to end n p h = number_late s p _ h λ x q e. number_late s q _ e λ y q₁ e₁. refl

columns_loc : (s t : List ℕ) (to end n p : ℕ) → p ≤ length s → Loc s t p (long_columns s to end n p) (long_columns t to end n p)
unfolding long_columns
columns_loc s t to end n p h =
    number_loc s t p _ _ h (λ x q e. number_late s q _ e λ y q₁ e₁. refl)
    (λ x q l. number-reads s q _ l λ y q₁ m₁ r₁. record { from = omega arith; upto = r₁.upto; late = r₁.late })
    (λ x q l. number_loc s t q _ _ l (λ y q₁ e₁. refl) (λ y q₁ l₁. record { from = omega arith; upto = l₁; late = λ z. never (sym z) }) (λ y q₁ l₁ _ _. refl))

long-reads : (s : List ℕ) (line n p : ℕ) → p ≤ length s → Reads s p (long_form s line n p)
unfolding long_form
long-reads s line n p h =
    rw (signed_at_lem s p)
    (number-reads s p _ h λ x q m r. number-reads s q _ r.upto λ y q₁ m₁ r₁.
    line_reads s q₁ (moved line (signed_of x)) _ λ to. line_reads s q₁ (moved to (as_signed y)) _ λ end. columns-reads s to end n q₁ r₁.upto)

long_loc : (s t : List ℕ) (line n p : ℕ) → p ≤ length s → Loc s t p (long_form s line n p) (long_form t line n p)
unfolding long_form
long_loc s t line n p h =
    rw (signed_at_lem s p, signed_at_lem t p)
    (number_loc s t p _ _ h
    (λ x q e. number_late s q _ e λ y q₁ e₁. line_late (moved line (signed_of x)) _ λ to. line_late (moved to (as_signed y)) _ λ end. columns_late s to end n q₁ e₁)
    (λ x q l. number-reads s q _ l λ y q₁ m₁ r₁. line_reads s q₁ (moved line (signed_of x)) _ λ to. line_reads s q₁ (moved to (as_signed y)) _ λ end. columns-reads s to end n q₁ r₁.upto)
    (λ x q l. number_loc s t q _ _ l
    (λ y q₁ e₁. line_late (moved line (signed_of x)) _ λ to. line_late (moved to (as_signed y)) _ λ end. columns_late s to end n q₁ e₁)
    (λ y q₁ l₁. line_reads s q₁ (moved line (signed_of x)) _ λ to. line_reads s q₁ (moved to (as_signed y)) _ λ end. columns-reads s to end n q₁ l₁)
    (λ y q₁ l₁. line_loc s t q₁ (moved line (signed_of x)) _ _ λ to. line_loc s t q₁ (moved to (as_signed y)) _ _ λ end. columns_loc s t to end n q₁ l₁)))

step_reads : (s : List ℕ) (line n p : ℕ) → p ≤ length s → Reads s p (no_columns s line n p)
unfolding no_columns
step_reads s line n p h =
    rw (signed_at_lem s p)
    (number-reads s p _ h λ x q m r. line_reads s q (moved line (signed_of x)) _ λ to. record { from = omega arith; upto = r.upto; late = r.late })

step_loc : (s t : List ℕ) (line n p : ℕ) → p ≤ length s → Loc s t p (no_columns s line n p) (no_columns t line n p)
unfolding no_columns
step_loc s t line n p h =
    rw (signed_at_lem s p, signed_at_lem t p)
    (number_loc s t p _ _ h (λ x q e. line_late (moved line (signed_of x)) _ λ to. refl)
    (λ x q l. line_reads s q (moved line (signed_of x)) _ λ to. record { from = omega arith; upto = l; late = λ z. never (sym z) })
    (λ x q l. line_loc s t q (moved line (signed_of x)) _ _ λ to _ _. refl))

short-reads : (s : List ℕ) (line code n p : ℕ) → p ≤ length s → Reads s p (short_form s line code n p)
unfolding short_form
short-reads s line code n p h = let r = byte_ran s p h in record { from = r.from; upto = r.upto; late = r.late }

short_loc : (s t : List ℕ) (line code n p : ℕ) → Loc s t p (short_form s line code n p) (short_form t line code n p)
unfolding short_form
short_loc s t line code n p =
    λ m k. rw (byte_local s t p (byte_at s p).next (rw (byte_next s p (byte-there s p m)) (omega arith)) k)

one_reads : (s : List ℕ) (line code n p : ℕ) → p ≤ length s → Reads s p (one_line s line code n p)
unfolding one_line
one_reads s line code n p h =
    let r = byte_ran s p h in
    let r₁ = byte_ran s (byte_at s p).next r.upto in
    line_reads s p (moved line (origin + (code - 10))) _ λ to. record { from = omega (arith, r.from, r₁.from); upto = r₁.upto; late = r₁.late }

one_loc : (s t : List ℕ) (line code n p : ℕ) → p ≤ length s → Loc s t p (one_line s line code n p) (one_line t line code n p)
unfolding one_line
one_loc s t line code n p h =
    let r = byte_ran s p h in
    line_loc s t p (moved line (origin + (code - 10))) _ _ λ to m k.
    let q = (byte_at s p).next in
    let b : q < length s = byte-there s q m in
    let n₁ : (byte_at s q).next ≡ q + 1 = byte_next s q b in
    let a : p < length s = omega (arith, r.from) in
    let n₀ : q ≡ p + 1 = byte_next s p a in
    rw (byte_local s t p (byte_at s q).next (omega arith) k, byte_local s t q (byte_at s q).next (omega arith) (narrow q (byte_at s q).next (omega arith) (omega arith) k))

reads-cond : (s : List ℕ) (p : ℕ) (t : Bool) (a b : Entry) → Reads s p a → Reads s p b → Reads s p (cond t a b)
reads-cond s p true a b x y = x
reads-cond s p false a b x y = y

loc_cond : (s t : List ℕ) (p : ℕ) (w : Bool) (a b a' b' : Entry) → Loc s t p a a' → Loc s t p b b' → Loc s t p (cond w a b) (cond w a' b')
loc_cond s t p true a b a' b' x y = x
loc_cond s t p false a b a' b' x y = y

pub code_reads : (s : List ℕ) (line code n p : ℕ) → p ≤ length s → Reads s p (by_code s line code n p)
unfolding by_code
code_reads s line code n p h =
    reads-cond s p (ltb code 10) _ _ (short-reads s line code n p h)
    (reads-cond s p (ltb code 13) _ _ (one_reads s line code n p h)
    (reads-cond s p (eqb code 13) _ _ (step_reads s line n p h)
    (reads-cond s p (eqb code 14) _ _ (long-reads s line n p h)
    (record { from = omega arith; upto = h; late = λ z. never (sym z) }))))

pub code_loc : (s t : List ℕ) (line code n p : ℕ) → p ≤ length s → Loc s t p (by_code s line code n p) (by_code t line code n p)
unfolding by_code
code_loc s t line code n p h =
    loc_cond s t p (ltb code 10) _ _ _ _ (short_loc s t line code n p)
    (loc_cond s t p (ltb code 13) _ _ _ _ (one_loc s t line code n p h)
    (loc_cond s t p (eqb code 13) _ _ _ _ (step_loc s t line n p h)
    (loc_cond s t p (eqb code 14) _ _ _ _ (long_loc s t line n p h)
    (λ _ _. refl))))

-- ---- an entry
pub entry-code : (s : List ℕ) (line p : ℕ) → p < length s → entry_at s line p ≡ cond (ltb (get_or s p 0) 128) Stop (by_code s line (get_or s p 0 / 8 % 16) (get_or s p 0 % 8 + 1) (p + 1))
unfolding entry_of
entry-code s line p h = rw (lt-ltb p (length s) h)

-- an entry ends behind its first byte and inside the table, at its end where a byte is missing
pub entry_runs : (s : List ℕ) (line p : ℕ) (e : Span) → entry_at s line p ≡ Covers e → Runs s (p + 1) e
entry_runs s line p e q = on (ltb (get_or s p 0) 128) (sym (entry-code s line p h) ∙ q) where
  h : p < length s
  h = covers-inside s line p e q

  on : (t : Bool) → cond t Stop (by_code s line (get_or s p 0 / 8 % 16) (get_or s p 0 % 8 + 1) (p + 1)) ≡ Covers e → Runs s (p + 1) e
  on true k = let z : ◌≡◌ {A = ℕ} 0 1 = cc in absurd (omega arith)
  on false k = let l = h in subst (Reads s (p + 1)) k (code_reads s line (get_or s p 0 / 8 % 16) (get_or s p 0 % 8 + 1) (p + 1) (omega arith))

-- a stop inside the table is a first byte without 0x80
pub stop_byte_lem : (s : List ℕ) (line p : ℕ) → p < length s → entry_at s line p ≡ Stop → get_or s p 0 < 128
stop_byte_lem s line p h q = on (ltb (get_or s p 0) 128) refl (sym (entry-code s line p h) ∙ q) where
  on : (t : Bool) → ltb (get_or s p 0) 128 ≡ t → cond t Stop (by_code s line (get_or s p 0 / 8 % 16) (get_or s p 0 % 8 + 1) (p + 1)) ≡ Stop → get_or s p 0 < 128
  on true e k = ltb-true (get_or s p 0) 128 e
  on false e k = absurd (subst (Reads s (p + 1)) k (code_reads s line (get_or s p 0 / 8 % 16) (get_or s p 0 % 8 + 1) (p + 1) (omega arith)))

pub stop_at : (s : List ℕ) (line p : ℕ) → p < length s → get_or s p 0 < 128 → entry_at s line p ≡ Stop
stop_at s line p h b = entry-code s line p h ∙ rw (lt-ltb (get_or s p 0) 128 b)

-- A complete entry is a matter of its own bytes.
pub entry_local : (s t : List ℕ) (line p : ℕ) (e : Span) → entry_at s line p ≡ Covers e → e.missing ≡ false → Same s t p e.next → entry_at t line p ≡ Covers e
entry_local s t line p e q m k =
    let h = covers-inside s line p e q in
    let r = entry_runs s line p e q in
    let b : p < length t = omega (arith, r.from, k.within) in
    let i : get_or s p 0 ≡ get_or t p 0 = k.bytes p (omega arith) (omega (arith, r.from)) in
    let l = loc_cond s t (p + 1) (ltb (get_or s p 0) 128) Stop _ Stop _ tt (code_loc s t line (get_or s p 0 / 8 % 16) (get_or s p 0 % 8 + 1) (p + 1) (omega arith)) in
    entry-code t line p b ∙ rw (← i) (subst (λ a. Loc s t (p + 1) a (cond (ltb (get_or s p 0) 128) Stop (by_code t line (get_or s p 0 / 8 % 16) (get_or s p 0 % 8 + 1) (p + 1)))) (sym (entry-code s line p h) ∙ q) l m (narrow (p + 1) e.next (omega arith) (omega arith) k))
