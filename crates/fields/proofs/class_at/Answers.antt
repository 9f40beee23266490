-- `fields::class_at` meets its contract: the rule of the table of header bytes, at the byte that is asked.
-- Assumes nothing.
use mathlib.Core.Path.{◌≡◌, sym, ap, subst, ◌∙◌}
use mathlib.Core.List.{List}
use Prim.Native.Nat.{ℕ, ◌%◌}
use lib.ListN.{get_or}
use Rattle.grammar.specs.Letters.{class_of}
use Rattle.fields.specs.Classes.{class_at}
use Rattle.fields.proofs.Headers.{headers_right}
use Rattle.fields.proofs.class_at.Goals as goal

pub returns : goal.returns
returns c =
    let start = c in
    let header = c.args.header in
    let entry = c.word.ensures.0 ∙ ap (λ (t : List ℕ). get_or t header 0) c.args.table.now.right in
    subst (λ (n : ℕ). class_at n ≡ class_of (header % 128)) (sym entry) (headers_right header c.requires)
