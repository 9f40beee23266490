-- By the class of the letter. Assumes nothing.
use Rattle.output.proofs.Laws.{slice_puts, vec_puts}
use Rattle.writevalue.proofs.Fronting.{front-whole, front-row, front-pairs, front-parts}
use Rattle.underway.proofs.Forms.{letter-small, sound-within, long-read, code_numbers_lem, code_else, as_single, as_four, as_eight, as_double, as_long, as_bytes, as_text, as_short, as_sequence, as_few, as_slice, as_dict, as_code}
use Rattle.soundness.proofs.Soundness.{fixed_held, double_held}
use Rattle.stores.specs.Written.{node_of}
use Rattle.fields.specs.Classes.{classes, class_at}
use Rattle.grammar.specs.Letters as letter
use native.Mathlib.Omega.{arith}
use mathlib.Core.Path.{sym, ap, ◌∙◌}
use Rattle.writevalue.proofs.write_front.Goals as goal

pub overflow_cast-n : goal.overflow_cast-n
unfolding class_at classes
overflow_cast-n c = omega (arith, letter-small c.args.n.letter letter.single (sym c.requires.2 ∙ ap class_at c.in-0.is))

pub contents-four-requires : goal.contents-four-requires
unfolding class_at classes
contents-four-requires c = (fixed_held c.args.values.now.lent.input.now (node_of c.args.n) c.requires.1 4 (sym c.requires.2 ∙ ap class_at c.in-1.is))

pub write_eight-requires : goal.write_eight-requires
unfolding class_at classes
write_eight-requires c = (c.requires.0, fixed_held c.args.values.now.lent.input.now (node_of c.args.n) c.requires.1 8 (sym c.requires.2 ∙ ap class_at c.in-2.is))

pub contents-both-requires : goal.contents-both-requires
unfolding class_at classes
contents-both-requires c = let h = double_held c.args.values.now.lent.input.now (node_of c.args.n) c.requires.1 (sym c.requires.2 ∙ ap class_at c.in-3.is) in omega (arith, h)

pub write_pylong-requires : goal.write_pylong-requires
unfolding class_at classes
write_pylong-requires c = (c.requires.0, long-read c.args.values.now.lent.input.now (node_of c.args.n) c.requires.1 (sym c.requires.2 ∙ ap class_at c.in-4.is), c.args.values.now.bound)

pub overflow_cast-n-in-5 : goal.overflow_cast-n-in-5
unfolding class_at classes
overflow_cast-n-in-5 c = omega (arith, letter-small c.args.n.letter letter.sequence (sym c.requires.2 ∙ ap class_at c.in-5.is))

pub contents-bytes-requires : goal.contents-bytes-requires
contents-bytes-requires c = (sound-within c.args.values.now.lent.input.now (node_of c.args.n) c.requires.1)

pub contents-text-requires : goal.contents-text-requires
contents-text-requires c = (sound-within c.args.values.now.lent.input.now (node_of c.args.n) c.requires.1)

pub contents-short-requires : goal.contents-short-requires
contents-short-requires c = (sound-within c.args.values.now.lent.input.now (node_of c.args.n) c.requires.1)

pub contents-numbers-requires : goal.contents-numbers-requires
contents-numbers-requires c =
    (code_numbers_lem c.args.values.now.lent.input.now (node_of c.args.n) c.requires.1 (code_else c.args.values.now.lent.input.now (node_of c.args.n) c.requires.1 c.args.class (omega arith) c.requires.2))

pub returns-in-0 : goal.returns-in-0
unfolding class_at classes
returns-in-0 c =
    front-whole (λ f g kids. as_single c.args.values.now.lent.input.now c.args.values.now.lent.bytes (node_of c.args.n) f g kids (sym c.requires.2 ∙ ap class_at c.in-0.is)) c.write_u8.ensures c.whole.ensures

pub returns-in-1 : goal.returns-in-1
unfolding class_at classes
returns-in-1 c =
    let a = c.args in
    let asked = c.requires in
    front-whole (λ f g kids. as_four a.values.now.lent.input.now a.values.now.lent.bytes (node_of a.n) f g kids (sym asked.2 ∙ ap class_at c.in-1.is) (fixed_held a.values.now.lent.input.now (node_of a.n) asked.1 4 (sym asked.2 ∙ ap class_at c.in-1.is))) (slice_puts c.write_slice.ensures c.contents-four.ensures) c.whole-in-1.ensures

pub returns-in-2 : goal.returns-in-2
unfolding class_at classes
returns-in-2 c =
    front-whole (λ f g kids. as_eight c.args.values.now.lent.input.now c.args.values.now.lent.bytes (node_of c.args.n) f g kids (sym c.requires.2 ∙ ap class_at c.in-2.is)) c.write_eight.ensures c.whole-in-2.ensures

pub returns-in-3 : goal.returns-in-3
unfolding class_at classes
returns-in-3 c =
    let a = c.args in
    let asked = c.requires in
    let h = double_held a.values.now.lent.input.now (node_of a.n) asked.1 (sym asked.2 ∙ ap class_at c.in-3.is) in
    front-whole (λ f g kids. as_double a.values.now.lent.input.now a.values.now.lent.bytes (node_of a.n) f g kids (sym asked.2 ∙ ap class_at c.in-3.is) (omega (arith, h))) (slice_puts c.write_slice-in-3.ensures c.contents-both.ensures) c.whole-in-3.ensures

pub returns-in-4 : goal.returns-in-4
unfolding class_at classes
returns-in-4 c =
    front-whole (λ f g kids. as_long c.args.values.now.lent.input.now c.args.values.now.lent.bytes (node_of c.args.n) f g kids (sym c.requires.2 ∙ ap class_at c.in-4.is)) c.write_pylong.ensures c.whole-in-4.ensures

pub returns-in-5 : goal.returns-in-5
unfolding class_at classes
returns-in-5 c =
    let a = c.args in
    let asked = c.requires in
    front-row asked.0.inside (λ f g kids l. as_sequence a.values.now.lent.input.now a.values.now.lent.bytes (node_of a.n) f g kids (sym asked.2 ∙ ap class_at c.in-5.is) l) c.write_len.ensures c.with_row.ensures

pub returns-in-6 : goal.returns-in-6
unfolding class_at classes
returns-in-6 c =
    let a = c.args in
    let asked = c.requires in
    front-row asked.0.inside (λ f g kids l. as_few a.values.now.lent.input.now a.values.now.lent.bytes (node_of a.n) f g kids (sym asked.2 ∙ ap class_at c.in-6.is) l) c.write_len-in-6.ensures c.with_row-in-6.ensures

pub returns-in-7 : goal.returns-in-7
unfolding class_at classes
returns-in-7 c =
    let a = c.args in
    let asked = c.requires in
    front-row asked.0.inside (λ f g kids l. as_slice a.values.now.lent.input.now a.values.now.lent.bytes (node_of a.n) f g kids (sym asked.2 ∙ ap class_at c.in-7.is)) c.write_u8-in-7.ensures c.with_row-in-7.ensures

pub returns-in-8 : goal.returns-in-8
unfolding class_at classes
returns-in-8 c =
    let a = c.args in
    let asked = c.requires in
    front-pairs asked.0.inside (λ f g kids l. as_dict a.values.now.lent.input.now a.values.now.lent.bytes (node_of a.n) f g kids (sym asked.2 ∙ ap class_at c.in-8.is)) c.write_u8-in-8.ensures c.with_row-in-8.ensures

pub returns-in-9 : goal.returns-in-9
unfolding class_at classes
returns-in-9 c =
    front-whole (λ f g kids. as_bytes c.args.values.now.lent.input.now c.args.values.now.lent.bytes (node_of c.args.n) f g kids (sym c.requires.2 ∙ ap class_at c.in-9.is)) (vec_puts c.write_vec.ensures c.contents-bytes.ensures) c.whole-in-9.ensures

pub returns-in-10 : goal.returns-in-10
unfolding class_at classes
returns-in-10 c =
    front-whole (λ f g kids. as_text c.args.values.now.lent.input.now c.args.values.now.lent.bytes (node_of c.args.n) f g kids (sym c.requires.2 ∙ ap class_at c.in-10.is)) (vec_puts c.write_vec-in-10.ensures c.contents-text.ensures) c.whole-in-10.ensures

pub returns-in-11 : goal.returns-in-11
unfolding class_at classes
returns-in-11 c =
    front-whole (λ f g kids. as_short c.args.values.now.lent.input.now c.args.values.now.lent.bytes (node_of c.args.n) f g kids (sym c.requires.2 ∙ ap class_at c.in-11.is)) (vec_puts c.write_vec-in-11.ensures c.contents-short.ensures) c.whole-in-11.ensures

pub returns-in_default : goal.returns-in_default
returns-in_default c =
    let a = c.args in
    let asked = c.requires in
    front-parts asked.0.inside (code_else a.values.now.lent.input.now (node_of a.n) asked.1 a.class (omega arith) asked.2) (λ f g kids. as_code a.values.now.lent.input.now a.values.now.lent.bytes (node_of a.n) f g kids (code_else a.values.now.lent.input.now (node_of a.n) asked.1 a.class (omega arith) asked.2) (code_numbers_lem a.values.now.lent.input.now (node_of a.n) asked.1 (code_else a.values.now.lent.input.now (node_of a.n) asked.1 a.class (omega arith) asked.2))) (slice_puts c.write_slice-in_default.ensures c.contents-numbers.ensures) c.with_parts.ensures
