-- Parts of a store that are lent and come back, in the words of the definitions: the tail cleared, the plain reading laid behind what stays, and
-- what was laid there raised. Over lists of numbers, for nodes and entries alike. Assumes nothing.
use mathlib.Core.Path.{◌≡◌, sym, ap, ◌∙◌}
use Prim.Native.Nat.{ℕ, ◌+◌, ◌-◌, ◌≤◌}
use native.Mathlib.Omega.{arith}
use mathlib.Core.List.{List, ◌++◌, append-nil, append_assoc}
use lib.ListN.{length, take, drop, length-append, length-replicate, replicate-append-replicate, drop_of_length-le}
use lib.Seq.{length-take-le, take_all, take-take, take-append-le, take_at, drop_at}
use borrow.Rule.Slice.PartMut.{mid_of, put_mid, mid_len, Post-is}
use Rattle.clearing.specs.Lent.{zeros, padded}
use Rattle.clearing.proofs.Laws.{length-padded}
use Rattle.stores.specs.Written.{Keeps}
use Rattle.readmore.specs.More.{behind, kept_part}

-- the tail of a store with other numbers in its place
tail_put : (a : ℕ) (xs ys : List ℕ) → a ≤ length xs → put_mid a (length xs - a) xs ys ≡ take a xs ++ ys
tail_put a xs ys h =
    ap (λ l. take a xs ++ (ys ++ l)) (Post-is a (length xs) xs h ∙ drop_of_length-le xs {i = length xs} (omega arith)) ∙ ap (λ l. take a xs ++ l) (append-nil ys)

pub cleared-behind : (a : ℕ) (xs : List ℕ) {ys : List ℕ} → a ≤ length xs → ys ≡ zeros (length (mid_of a (length xs - a) xs)) → put_mid a (length xs - a) xs ys ≡ kept_part a xs
cleared-behind a xs {ys} h e = tail_put a xs ys h ∙ ap (λ l. take a xs ++ l) (e ∙ ap zeros (mid_len a (length xs) xs (omega arith)))

pub nothing_behind_lem : (a : ℕ) (xs : List ℕ) → length xs ≤ a → xs ≡ kept_part a xs
nothing_behind_lem a xs h =
    let z : length xs - a ≡ 0 = omega arith in
    rw (take_all a xs h, z) (sym (append-nil xs))

-- zeros behind what is padded
padded_on : (n m : ℕ) (xs : List ℕ) → length xs ≤ n → padded n xs ++ zeros m ≡ padded (n + m) xs
unfolding padded
padded_on n m xs h =
    let z : n - length xs + m ≡ n + m - length xs = omega arith in
    append_assoc xs (zeros (n - length xs)) (zeros m) ∙ ap (λ t. xs ++ t) (replicate-append-replicate (n - length xs) m 0 ∙ ap zeros z)

-- The part from one place to another is lent of a store that is zero from the second on, and comes back written or zero.
module _ (xs : List ℕ) (from to : ℕ) (order : from ≤ to) (inside : to ≤ length xs) where
  abbrev cleared : List ℕ
  cleared = kept_part to xs

  before : take from cleared ≡ take from xs
  before = take-append-le from (take to xs) (zeros (length xs - to)) (omega (arith, length-take-le to xs inside)) ∙ take-take from to xs order

  after : drop to cleared ≡ zeros (length xs - to)
  after = drop_at (take to xs) (zeros (length xs - to)) to (length-take-le to xs inside)

  put : (ys : List ℕ) → put_mid from (to - from) cleared ys ≡ take from xs ++ (ys ++ zeros (length xs - to))
  put ys = ap (λ l. take from cleared ++ (ys ++ l)) (Post-is from to cleared order ∙ after) ∙ ap (λ l. l ++ (ys ++ zeros (length xs - to))) before

  pub length-cleared : length cleared ≡ length xs
  length-cleared = length-append (take to xs) (zeros (length xs - to)) ∙ omega (arith, length-take-le to xs inside, length-replicate {A = ℕ} (length xs - to) 0)

  pub length-lent : length (mid_of from (to - from) cleared) ≡ to - from
  length-lent = mid_len from to cleared (omega (arith, length-cleared))

  pub laid-written : {ys : List ℕ} (cells : List ℕ) → length cells ≤ to - from → ys ≡ padded (to - from) cells → put_mid from (to - from) cleared ys ≡ behind from xs cells
  laid-written {ys} cells fits e =
      let z : to - from + (length xs - to) ≡ length xs - from = omega arith in
      put ys ∙ ap (λ l. take from xs ++ l) (ap (λ l. l ++ zeros (length xs - to)) e ∙ padded_on (to - from) (length xs - to) cells fits ∙ ap (λ n. padded n cells) z)

  pub laid_zero : {ys : List ℕ} → ys ≡ zeros (to - from) → put_mid from (to - from) cleared ys ≡ kept_part from xs
  laid_zero {ys} e =
      let z : to - from + (length xs - to) ≡ length xs - from = omega arith in
      put ys ∙ ap (λ l. take from xs ++ l) (ap (λ l. l ++ zeros (length xs - to)) e ∙ replicate-append-replicate (to - from) (length xs - to) 0 ∙ ap zeros z)

pub length-behind : (stay : ℕ) (store cells : List ℕ) → stay + length cells ≤ length store → length (behind stay store cells) ≡ length store
length-behind stay store cells fits =
    length-append (take stay store) (padded (length store - stay) cells)
    ∙ omega (arith, length-take-le stay store (omega arith), length-padded (length store - stay) cells (omega arith))

-- What stands behind is lent and comes back with other numbers.
pub raised-behind : (stay : ℕ) (store : List ℕ) {xs ys : List ℕ} (cells cells' : List ℕ) → stay + length cells ≤ length store → xs ≡ behind stay store cells
    → length ys ≡ length (mid_of stay (length xs - stay) xs)
    → (Keeps (mid_of stay (length xs - stay) xs) cells → Keeps ys cells') → put_mid stay (length xs - stay) xs ys ≡ behind stay store cells'
raised-behind stay store {xs} {ys} cells cells' fits e same raises =
    tail_put stay xs ys (omega (arith, long)) ∙ ap (λ l. l ++ ys) (ap (take stay) e ∙ take_at (take stay store) _ stay front) ∙ ap (λ l. take stay store ++ l) (raises kept ∙ ap (λ n. padded n cells') (same ∙ part))
  where
    front : length (take stay store) ≡ stay
    front = length-take-le stay store (omega arith)

    tail : length (padded (length store - stay) cells) ≡ length store - stay
    tail = length-padded (length store - stay) cells (omega arith)

    long : length xs ≡ length store
    long = ap length e ∙ length-behind stay store cells fits

    part : length (mid_of stay (length xs - stay) xs) ≡ length store - stay
    part = mid_len stay (length xs) xs (omega arith) ∙ ap (λ n. n - stay) long

    rest : drop stay xs ≡ padded (length store - stay) cells
    rest = ap (drop stay) e ∙ drop_at (take stay store) _ stay front

    kept : Keeps (mid_of stay (length xs - stay) xs) cells
    kept = ap (take (length xs - stay)) rest ∙ take_all (length xs - stay) _ (omega (arith, tail, long)) ∙ ap (λ n. padded n cells) (sym part)
