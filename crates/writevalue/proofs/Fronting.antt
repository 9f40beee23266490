-- How a front is answered: a node is whole with its own bytes; or its row, or its parts, come next. Assumes nothing.
use mathlib.Core.Path.{◌≡◌, refl, sym, ap, ◌∙◌}
use Prim.Native.Nat.{ℕ, ◌+◌, ◌≤◌}
use mathlib.Core.Bool.{Bool, true, false}
use mathlib.Core.List.{List}
use lib.ListN.{length}
use Rattle.grammar.specs.Letters.{Class, codes}
use Rattle.grammar.specs.Fields.{le32}
use Rattle.grammar.specs.State.{Node}
use Rattle.writing.specs.Writing.{Writing, then, each}
use Rattle.writing.specs.Shape.{classed}
use Rattle.writing.specs.Steps.{shaped}
use Rattle.writing.proofs.Into.{then-ended}
use Rattle.output.specs.Puts.{Wrote, Puts}
use Rattle.refusals.specs.declared.Fault.{Fault}
use Rattle.writevalue.specs.declared.Opened.{Opened}
use Rattle.underway.specs.Onward.{Onward}
use Rattle.underway.specs.Rows.{closed}
use Rattle.writevalue.specs.Heads.{whole_of, row_of, parts_of, FrontAs, Fronts}
use Rattle.underway.proofs.Under.{start, left_as, refused_in, written_in, puts_equal}
use Rattle.std.specs.Prelude.{Result, Ok, Err}

-- How a front is answered: the node is whole with its own bytes; or its row, or its parts, come next.
module _ {s : List ℕ} {n : Node} {class : Class} {at : ℕ} {o o' : List ℕ} {r : Wrote} where
  pub front-whole : {w : Writing} → ((f : ℕ → Writing) (g : ℕ → List ℕ → Writing) (kids : List ℕ) → shaped f g (classed s n kids class) ≡ w)
      → Puts w at o r o' → {q : Result Opened Fault} → q ≡ whole_of r → Fronts s n class at o q o'
  front-whole {w} is put e = record { tells = λ f g kids l. rw e (go r f g kids (puts_equal put (is f g kids))) }
    where
      go : (r : Wrote) (f : ℕ → Writing) (g : ℕ → List ℕ → Writing) (kids : List ℕ) → Puts (shaped f g (classed s n kids class)) at o r o'
          → FrontAs f g s n kids class at o (whole_of r) o'
      go (Ok a) f g kids k = k
      go (Err stop) f g kids k = k

  front-closed : {w : Writing} (pairs : Bool) → at ≤ length o
      → ((f : ℕ → Writing) (g : ℕ → List ℕ → Writing) (kids : List ℕ) → length kids ≡ n.count → shaped f g (classed s n kids class) ≡ then w (then (each f kids) (closed pairs)))
      → Puts w at o r o' → {q : Result Opened Fault} → q ≡ row_of pairs r → Fronts s n class at o q o'
  front-closed {w} pairs h is put e =
      record { tells = λ f g kids l. rw e (go f g kids (left_as (start h) (is f g kids l)) r refl) }
    where
      go : (f : ℕ → Writing) (g : ℕ → List ℕ → Writing) (kids : List ℕ)
          → Onward o at (shaped f g (classed s n kids class)) o at (then w (then (each f kids) (closed pairs)))
          → (r' : Wrote) → r ≡ r' → FrontAs f g s n kids class at o (row_of pairs r') o'
      go f g kids k (Ok a) i = written_in k put i
      go f g kids k (Err stop) i = refused_in (then (each f kids) (closed pairs)) k put i

  pub front-row : {w : Writing} → at ≤ length o
      → ((f : ℕ → Writing) (g : ℕ → List ℕ → Writing) (kids : List ℕ) → length kids ≡ n.count → shaped f g (classed s n kids class) ≡ then w (each f kids))
      → Puts w at o r o' → {q : Result Opened Fault} → q ≡ row_of false r → Fronts s n class at o q o'
  front-row {w} h is = front-closed false h (λ f g kids l. is f g kids l ∙ ap (then w) (sym (then-ended (each f kids))))

  pub front-pairs : {w : Writing} → at ≤ length o
      → ((f : ℕ → Writing) (g : ℕ → List ℕ → Writing) (kids : List ℕ) → length kids ≡ n.count → shaped f g (classed s n kids class) ≡ then w (then (each f kids) (closed true)))
      → Puts w at o r o' → {q : Result Opened Fault} → q ≡ row_of true r → Fronts s n class at o q o'
  front-pairs h is = front-closed true h is

  pub front-parts : {w : Writing} → at ≤ length o → class ≡ codes
      → ((f : ℕ → Writing) (g : ℕ → List ℕ → Writing) (kids : List ℕ) → shaped f g (classed s n kids class) ≡ then w (g (le32 s (n.place + n.size)) kids))
      → Puts w at o r o' → {q : Result Opened Fault} → q ≡ parts_of r → Fronts s n class at o q o'
  front-parts {w} h code is put e =
      record { tells = λ f g kids l. rw e (go f g kids (left_as (start h) (is f g kids)) r refl) }
    where
      go : (f : ℕ → Writing) (g : ℕ → List ℕ → Writing) (kids : List ℕ)
          → Onward o at (shaped f g (classed s n kids class)) o at (then w (g (le32 s (n.place + n.size)) kids))
          → (r' : Wrote) → r ≡ r' → FrontAs f g s n kids class at o (parts_of r') o'
      go f g kids k (Ok a) i = (written_in k put i, code)
      go f g kids k (Err stop) i = refused_in (g (le32 s (n.place + n.size)) kids) k put i
