-- A float as it stands, or a whole number. Assumes nothing.
use Rattle.output.proofs.Laws.{slice_puts, puts_as}
use Rattle.underway.proofs.Forms.{float-eight}
use Rattle.underway.proofs.Under.{puts_equal}
use Rattle.writing.specs.Canonical.{bytes64, integer_bytes, of_bits}
use Rattle.writing.specs.Writing.{emit, ended}
use Rattle.grammar.specs.Fields.{le64}
use borrow.Author.Tests.{ne_eqb}
use native.Mathlib.Omega.{arith}
use mathlib.Core.List.{◌∷◌}
use mathlib.Core.Bool.{cond}
use mathlib.Core.Path.{ap, sym}
use Rattle.writevalue.proofs.write_eight.Goals as goal

pub returns-then-letter-eq-FLOAT_LETTER : goal.returns-then-letter-eq-FLOAT_LETTER
returns-then-letter-eq-FLOAT_LETTER c =
    puts_equal (slice_puts c.write_slice.ensures c.contents.ensures) (ap (λ b. emit b ended) (float-eight c.args.s.now (λ i. omega (arith, c.type_inv.s i)) (record { letter = 0; place = c.args.place; size = 0; first = 0; count = 0; end = 0; input = 0 }) c.args.letter (omega arith) c.requires.1))

pub returns : goal.returns
returns c =
    puts_equal (puts_as c.write_int64.ensures (ap (λ bits. integer_bytes (of_bits 9223372036854775808 bits)) (sym c.le64.ensures))) (ap (λ t. emit (cond t (0x67 ∷ bytes64 (le64 c.args.s.now c.args.place)) (integer_bytes (of_bits 9223372036854775808 (le64 c.args.s.now c.args.place)))) ended) (ne_eqb c.args.letter 0x67 (λ e. omega arith)))
