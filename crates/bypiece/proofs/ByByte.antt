-- A piece of one byte: where an entry of the held bytes and of it ends behind the held ones, or lacks bytes, these are ones that a call leaves, and
-- the entry says what the call comes to.
use mathlib.Core.Path.{◌≡◌, refl, sym, ap, subst, ◌∙◌}
use mathlib.Core.Bool.{Bool, true, false, cond, not}
use mathlib.Core.List.{List, [], ◌∷◌, ◌++◌, map, append-nil}
use Prim.Native.Nat.{ℕ, ◌+◌, ◌-◌, ◌*◌, ◌/◌, ◌≤◌, ◌<◌}
use native.Mathlib.Omega.{arith}
use lib.ListN.{length, replicate, take, drop, get_or, length-append, drop_of_length-le, get_or-append}
use lib.Seq.{sets}
use lib.Dec.{eqb}
use borrow.Author.Tests.{le-ltb, le-leb, eq-eqb, ne_eqb, eqb-true, eqb-false}
use Rattle.refusals.specs.Limits.{most_bytes}
use Rattle.lineentry.specs.declared.Span.{Span}
use Rattle.lineentry.specs.declared.Entry.{Entry}
use Rattle.lineentry.specs.declared.Entry.TheVariants.{Covers, Stop, OutOfRange}
use Rattle.lineentry.specs.Entry.{entry_at}
use Rattle.linetable.specs.Answer.{numbers}
use Rattle.linetable.proofs.Stores.{sets-append}
use Rattle.rows.specs.Row.{placed_all, table_end, cut_short}
use Rattle.rows.proofs.Chains.{row_ends}
use Rattle.rows.proofs.Extent.{entry_runs, entry_local, stop_byte_lem, stop_at}
use Rattle.rows.proofs.Joins.{same_append}
use Rattle.lostentry.specs.Lost.{lost}
use Rattle.lostentry.proofs.Losing.{covered, lost-refuses}
use Rattle.piecestate.specs.declared.Kept.{Kept}
use Rattle.piecestate.specs.State.{going, kept_at, low, held_in, held_at, open_as, open_entry, counted, sound_going, sound_by, advanced}
use Rattle.std.specs.Prelude.{Ok}
use Rattle.piecestate.specs.declared.Pieced.{Pieced}
use Rattle.piecestate.specs.Answers.{Answer, Left, left, pieced, told, Leaves}
use Rattle.piecestate.proofs.Stores.{length_held, front-sets, length-map, part_held}
use Rattle.pieces.specs.Piece.{shown_of, after, walked, piece_by}
use Rattle.pieces.specs.Calls.{piece}
use Rattle.pieces.proofs.Gates.{open_gate}
use Rattle.pieces.proofs.Fronts.{walked_feed}
use Rattle.bypiece.specs.declared.onebyte.Step.{Step}
use Rattle.bypiece.specs.declared.onebyte.Step.TheVariants.{Held, Whole}
use Rattle.bypiece.specs.Byte.{Cut, Ended, Tells, Easy, entry_on, Holds, Places, Steps, held_on, Fits, placed_on}
use Rattle.bypiece.proofs.Entering.{leaves_same, piece_open}

-- ---- the tests
-- an entry is complete as another is
pub ends_as : {x : Entry} {n : ℕ} {e y : Span} → e ≡ y → Ended x n y → Ended x n e
ends_as {x} {n} z g = subst (Ended x n) (sym z) g

-- ---- the held bytes and one more
pub single : (v : List ℕ) → length v ≡ 1 → v ≡ get_or v 0 0 ∷ []
single [] e = absurd (omega (arith, e))
single (x ∷ []) e = refl
single (x ∷ y ∷ v) e = absurd (omega (arith, e))

-- at the front of a store
pub fetched : (h out : List ℕ) (b : ℕ) {out₁ out₂ : List ℕ} → out₁ ≡ sets out 0 (map low h) → out₂ ≡ sets out₁ (length h) (b ∷ []) → out₂ ≡ sets out 0 (map low h ++ b ∷ [])
fetched h out b e f =
    let l : length h ≡ 0 + length (map low h) = omega (arith, length-map low h) in
    f ∙ ap (λ t. sets t (length h) (b ∷ [])) e ∙ ap (λ i. sets (sets out 0 (map low h)) i (b ∷ [])) l ∙ sym (sets-append out 0 (map low h) (b ∷ []))

pub front_with : (u out : List ℕ) (n b : ℕ) {front : List ℕ} → length u ≡ n → n < 25 → length out ≡ 25 → front ≡ sets out 0 (u ++ b ∷ []) → take (n + 1) front ≡ u ++ b ∷ []
front_with u out n b z k l e = ap (take (n + 1)) e ∙ front-sets out (u ++ b ∷ []) (n + 1) (omega (arith, length-append u (b ∷ []))) (omega arith)

pub tells-any : (h out : List ℕ) (b line : ℕ) (r : Step) {front : List ℕ} {x : Entry} → length h < 25 → length out ≡ 25 → front ≡ sets out 0 (map low h ++ b ∷ [])
    → x ≡ entry_at (take (length h + 1) front) line 0 → Tells x (length h) r → Tells (entry_at (map low h ++ b ∷ []) line 0) (length h) r
tells-any h out b line r k l e a t = subst (λ y. Tells y (length h) r) (a ∙ ap (λ u. entry_at u line 0) (front_with (map low h) out (length h) b (length-map low h) k l e)) t

-- the held bytes as a part of the state
module _ (s : List ℕ) (h : 40 ≤ length s) (v : List ℕ) (k : Kept) {s' : List ℕ} where
  pub held_front : (out : List ℕ) {front : List ℕ} → length v ≡ 1 → k.size < 25 → length out ≡ 25 → front ≡ sets out 0 (map low (take (10 + k.size - 10) (drop 10 s)) ++ get_or v 0 0 ∷ [])
      → s' ≡ advanced s k.line k.placed k.start (k.bytes + 1) going (take (k.size + 1) front) → s' ≡ held_on v k s
  held_front out n l o f e =
      e ∙ ap (advanced s k.line k.placed k.start (k.bytes + 1) going)
      (front_with (held_in s k.size) out k.size (get_or v 0 0) (length_held s k.size (omega arith) h) l o (f ∙ ap (λ u. sets out 0 (u ++ get_or v 0 0 ∷ [])) (part_held s k.size))
      ∙ ap (λ u. held_in s k.size ++ u) (sym (single v n)))

-- ---- which step it is
module _ (v s : List ℕ) (k : Kept) (room : ℕ) (r : Step) (t : Steps v k s room r) where
  pub is_held : r ≡ Held → Holds v k s room
  is_held o = subst (Steps v k s room) o t

  pub is_whole : (e : Span) → r ≡ Whole e → Places v k s room e
  is_whole e o = subst (Steps v k s room) o t

-- ---- the state is one that a call leaves
-- An entry that ends behind the held bytes: they are not complete without the others, and not lost.
pub opens-behind : (u w : List ℕ) (line : ℕ) (e : Span) → line < 4294967296 → 0 < length u → entry_at (u ++ w) line 0 ≡ Covers e → length u < e.next → open_entry u line ≡ true
unfolding open_entry
opens-behind u w line e b n c l = on (entry_at u line 0) refl where
  lone : (t : Bool) → lost u line ≡ t → not t ≡ true
  lone false q = refl
  lone true q = covered (sym c ∙ lost-refuses u line b q w)

  there : (y : Span) → entry_at u line 0 ≡ Covers y → (t : Bool) → y.missing ≡ t → t ≡ true
  there y q true m = refl
  there y q false m =
      let r = entry_runs u line 0 y q in
      let z : entry_at (u ++ w) line 0 ≡ Covers y = entry_local u (u ++ w) line 0 y q m (same_append u w y.next r.upto) in
      let i : e.next ≡ y.next = let j : e ≡ y = let x : Covers e ≡ Covers y = sym c ∙ z in cc in ap (λ t. t.next) j in
      absurd (omega (arith, r.upto))

  on : (x : Entry) → entry_at u line 0 ≡ x → open_as u line x ≡ true
  on (Covers y) q = there y q y.missing refl
  on Stop q =
      let k = stop_byte_lem u line 0 n q in
      let z : entry_at (u ++ w) line 0 ≡ Stop = stop_at (u ++ w) line 0 (omega (arith, length-append u w)) (rw (get_or-append u w 0 0 n) k) in
      let y : ◌≡◌ {A = ℕ} 0 1 = let x : Covers e ≡ Stop = sym c ∙ z in cc in
      absurd (omega arith)
  on OutOfRange q = lone (lost u line) refl

sound-easy : (s : List ℕ) (k : Kept) (room : ℕ) → Easy k room → (0 < k.size → open_entry (held_in s k.size) k.line ≡ true) → sound_by s k ≡ true
unfolding sound_by sound_going counted
sound-easy s k room g o =
    let a = g.few in
    let b = g.small in
    let c = g.short in
    rw (eq-eqb k.status 1 g.stands, le-ltb k.count k.placed (omega arith), le-leb k.bytes most_bytes (omega arith), le-ltb 25 k.size (omega arith), le-ltb k.bytes k.start g.from, le-ltb (k.bytes - k.start) k.size g.within)
    (on (eqb k.size 0) refl) where
      on : (t : Bool) → eqb k.size 0 ≡ t → cond t true (open_entry (held_in s k.size) k.line) ≡ true
      on true e = refl
      on false e = o (omega (arith, eqb-false k.size 0 e))

-- ---- what the bytes come to
module _ (s rs : List ℕ) (start bytes line placed count : ℕ) where
  pub cut_walks : (t : List ℕ) → placed < count → Cut (entry_at t line 0) → walked t start bytes line placed count s rs ≡ left (told placed false) (advanced s line placed start bytes going t) rs
  unfolding walked after shown_of
  cut_walks t h x =
      let z : count - (count - placed - 0) ≡ placed = omega arith in
      let y : start + 0 ≡ start = omega arith in
      rw (row_ends t line 0 (count - placed) (cut_short x.span) (omega arith, x.covers, x.lacks), z, y)

  pub none_walks : placed ≤ count → walked [] start bytes line placed count s rs ≡ left (told placed false) (advanced s line placed start bytes going []) rs
  unfolding walked after shown_of
  none_walks h = on (eqb (count - placed) 0) refl where
    z : count - (count - placed - 0) ≡ placed
    z = omega arith

    y : start + 0 ≡ start
    y = omega arith

    on : (t : Bool) → eqb (count - placed) 0 ≡ t → walked [] start bytes line placed count s rs ≡ left (told placed false) (advanced s line placed start bytes going []) rs
    on true e = rw (row_ends [] line 0 (count - placed) placed_all (eqb-true (count - placed) 0 e), z, y)
    on false e = rw (row_ends [] line 0 (count - placed) table_end (omega (arith, eqb-false (count - placed) 0 e), omega arith), z, y)

pub ended_walks : (s rs : List ℕ) (start bytes line placed count : ℕ) (t : List ℕ) (e : Span) → entry_at t line 0 ≡ Covers e → e.missing ≡ false → e.next ≡ length t → placed + e.instructions ≤ count
    → walked t start bytes line placed count s rs
    ≡ left (told (placed + e.instructions) false) (advanced s e.line (placed + e.instructions) (start + e.next) bytes going []) (sets rs (4 * placed) (numbers (replicate e.instructions e.location)))
ended_walks s rs start bytes line placed count t e c m n f =
    let z : e.instructions + 0 ≡ e.instructions = omega arith in
    let d : drop e.next t ≡ [] = drop_of_length-le t {i = e.next} (omega arith) in
    let w = walked_feed t [] start bytes line placed count s rs (e ∷ []) (c, m, tt) (omega arith) in
    let y = rw (z, d, append-nil t, append-nil (replicate e.instructions e.location)) at w in
    y ∙ none_walks s (sets rs (4 * placed) (numbers (replicate e.instructions e.location))) (start + e.next) bytes e.line (placed + e.instructions) count f

-- ---- the call
module _ (v s rs : List ℕ) {k : Kept} (h : 40 ≤ length s) (e : k ≡ kept_at s) where
  held_is : held_in s k.size ≡ held_at s
  unfolding held_at
  held_is = ap (held_in s) (ap (λ y. y.size) e)

  size_is : k.size < 25 → length (held_in s k.size) ≡ k.size
  size_is l = length_held s k.size (omega arith) h

  walks : Easy k (length rs / 4) → length v ≡ 1 → piece_by v s rs k ≡ walked (held_in s k.size ++ v) k.start (k.bytes + 1) k.line k.placed k.count s rs
  unfolding piece_by
  walks g n =
      let a = g.small in
      let c = g.stands in
      rw (n, le-ltb most_bytes (k.bytes + 1) (omega arith), ne_eqb k.status 2 (λ y. omega arith), held_is)

  enters : {y : Answer} {s' rs' : List ℕ} → Easy k (length rs / 4) → length v ≡ 1 → (x : Span) → entry_on v k s ≡ Covers x → k.size < x.next → {z : Left}
      → walked (held_in s k.size ++ v) k.start (k.bytes + 1) k.line k.placed k.count s rs ≡ z → Leaves z y s' rs' → Leaves (piece v s rs) y s' rs'
  enters g n x c l w m =
      let i = size_is g.short in
      let o = sound-easy s k (length rs / 4) g (λ p. opens-behind (held_in s k.size) v k.line x g.bits (omega arith) c (omega arith)) in
      let q = g.stands in
      piece_open v s rs h e refl (open_gate s k (length rs / 4) o (λ p. omega arith) (λ p. omega arith) g.enough) (leaves_same (walks g n ∙ w) m)

  pub holds-piece : Holds v k s (length rs / 4) → {y : Pieced} {s' : List ℕ} → (y ≡ pieced k.placed false) × (s' ≡ held_on v k s) → Leaves (piece v s rs) (Ok y) s' rs
  holds-piece g l =
      let x = g.cut in
      let r = (entry_runs (held_in s k.size ++ v) k.line 0 x.span x.covers).late x.lacks in
      let i = size_is g.easy.short in
      enters g.easy g.one x.span x.covers (omega (arith, length-append (held_in s k.size) v, g.one))
      (cut_walks s rs k.start (k.bytes + 1) k.line k.placed k.count (held_in s k.size ++ v) g.easy.few x)
      (record { answers = ap Ok l.0; states = l.1; fills = refl })

  module _ (x : Span) (g : Places v k s (length rs / 4) x) where
    upto : x.next ≡ length (held_in s k.size ++ v)
    upto =
        let r = (entry_runs (held_in s k.size ++ v) k.line 0 x g.ends.covers).upto in
        let i = size_is g.easy.short in
        omega (arith, length-append (held_in s k.size) v, g.one, g.ends.last)

    pub places-fits : Fits x k s rs
    places-fits =
        let i = size_is g.easy.short in
        record {
          numbers = h;
          room = omega (arith, g.easy.enough);
          few = omega (arith, g.fits, g.easy.few);
          small = g.easy.small;
          upto = omega (arith, upto, length-append (held_in s k.size) v, g.one, g.easy.from, g.easy.within, g.easy.small);
        }

    pub places-piece : {y : Answer} {s' rs' : List ℕ} → Leaves (placed_on x k s rs) y s' rs' → Leaves (piece v s rs) y s' rs'
    places-piece l =
        enters g.easy g.one x g.ends.covers g.ends.last
        (ended_walks s rs k.start (k.bytes + 1) k.line k.placed k.count (held_in s k.size ++ v) x g.ends.covers g.ends.there upto places-fits.few) l
