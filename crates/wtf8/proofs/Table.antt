-- The rule of the table of first bytes, over the whole table: the group of a byte tells what the byte leads to, and the group's row
-- has, at each stage, the stage that follows the byte. One test of all 256 entries, which is computed. Assumes nothing.
use mathlib.Core.Path.{◌≡◌, refl}
use mathlib.Core.Bool.{Bool, true, false, cond}
use Prim.Native.Nat.{ℕ, ◌/◌, ◌%◌, ◌^◌, ◌<◌}
use lib.Dec.{leb, ltb, eqb}
use lib.ListN.{get_or}
use borrow.Author.Tests.{ltb-true, eqb-true}
use Rattle.wtf8.specs.Forms.{Expected, point, trail, wrong, after_lead, after}
use Rattle.wtf8.specs.Leads.{lead_table, led_by, lead_of, row_table, Stage, fresh, one, two, three, after_e0, after_f0, after_f4, spoilt, expected, shift}
use Rattle.wtf8.proofs.Tested.{apart, both, left, right, tested, entry}

-- Two expectations are the same.
unfoldable same : Expected → Expected → Bool
same point point = true
same point (trail l h m) = false
same point wrong = false
same (trail l h m) point = false
same (trail l h m) (trail l' h' m') = both (eqb l l') (both (eqb h h') (eqb m m'))
same (trail l h m) wrong = false
same wrong point = false
same wrong (trail l h m) = false
same wrong wrong = true

same_eq : (a b : Expected) → same a b ≡ true → a ≡ b
unfolding same
same_eq point point t = refl
same_eq point (trail l h m) t = absurd (apart t)
same_eq point wrong t = absurd (apart t)
same_eq (trail l h m) point t = absurd (apart t)
same_eq (trail l h m) (trail l' h' m') t =
    let lows = eqb l l' in
    let highs = eqb h h' in
    let mores = eqb m m' in
    let rest = right lows (both highs mores) t in
    rw (eqb-true l l' (left lows (both highs mores) t), eqb-true h h' (left highs mores rest), eqb-true m m' (right highs mores rest))
same_eq (trail l h m) wrong t = absurd (apart t)
same_eq wrong point t = absurd (apart t)
same_eq wrong (trail l h m) t = absurd (apart t)
same_eq wrong wrong t = refl

-- The stage after one more byte.
abbrev inside : (low high : ℕ) → Stage → ℕ → Stage
inside low high q b = cond (leb low b) (cond (leb b high) q spoilt) spoilt

unfoldable pub next : Stage → ℕ → Stage
next fresh b =
    cond (ltb b 0x80) fresh
    (cond (ltb b 0xC2) spoilt
    (cond (ltb b 0xE0) one
    (cond (eqb b 0xE0) after_e0
    (cond (ltb b 0xF0) two
    (cond (eqb b 0xF0) after_f0
    (cond (ltb b 0xF4) three
    (cond (eqb b 0xF4) after_f4 spoilt)))))))
next one b = inside 0x80 0xBF fresh b
next two b = inside 0x80 0xBF one b
next three b = inside 0x80 0xBF two b
next after_e0 b = inside 0xA0 0xBF one b
next after_f0 b = inside 0x90 0xBF two b
next after_f4 b = inside 0x80 0x8F two b
next spoilt b = spoilt

either : (t : Bool) (p q : Stage) → expected (cond t p q) ≡ cond t (expected p) (expected q)
either true p q = refl
either false p q = refl

-- it is what is expected after that byte
pub next_expected : (q : Stage) (b : ℕ) → expected (next q b) ≡ after (expected q) b
unfolding next after after_lead
next_expected fresh b =
    simp either refl
next_expected one b = simp either refl
next_expected two b = simp either refl
next_expected three b = simp either refl
next_expected after_e0 b = simp either refl
next_expected after_f0 b = simp either refl
next_expected after_f4 b = simp either refl
next_expected spoilt b = refl

-- The tests of an entry, a byte and its group: there are eleven groups; the group tells what the byte leads to; and the group's row
-- has, at the place of a stage, the place of the stage that follows the byte.
abbrev counted : (byte group : ℕ) → Bool
counted byte group = ltb group 11

abbrev leads : (byte group : ℕ) → Bool
leads byte group = same (after_lead byte) (lead_of group)

abbrev follows : Stage → (byte group : ℕ) → Bool
follows q byte group = eqb (get_or row_table group 0 / 2 ^ shift q % 64) (shift (next q byte))

-- The rule of the table, at every byte: its group tells what it leads to.
pub leads_right : (byte : ℕ) → byte < 256 → after_lead byte ≡ lead_of (get_or lead_table byte 0)
unfolding lead_table led_by after_lead same
leads_right byte h = same_eq (after_lead byte) (lead_of (get_or lead_table byte 0)) (entry leads lead_table refl byte h)

pub group_in_lem : (byte : ℕ) → byte < 256 → get_or lead_table byte 0 < 11
unfolding lead_table
group_in_lem byte h = ltb-true (get_or lead_table byte 0) 11 (entry counted lead_table refl byte h)

-- And the rule of the rows, at every stage and byte.
rows_tested : (q : Stage) → tested (follows q) 0 lead_table ≡ true
unfolding lead_table row_table next
rows_tested fresh = refl
rows_tested one = refl
rows_tested two = refl
rows_tested three = refl
rows_tested after_e0 = refl
rows_tested after_f0 = refl
rows_tested after_f4 = refl
rows_tested spoilt = refl

pub row_right : (q : Stage) (byte : ℕ) → byte < 256 → get_or row_table (get_or lead_table byte 0) 0 / 2 ^ shift q % 64 ≡ shift (next q byte)
unfolding lead_table
row_right q byte h =
    eqb-true (get_or row_table (get_or lead_table byte 0) 0 / 2 ^ shift q % 64) (shift (next q byte)) (entry (follows q) lead_table (rows_tested q) byte h)
