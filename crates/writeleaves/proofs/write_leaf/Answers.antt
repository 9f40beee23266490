-- A leaf's bytes are its writing; what is left is not touched. Assumes nothing.
use Rattle.std.proofs.Common.{rules, ◌≡◌, ◌∙◌, ap, Some, Err}
use Rattle.output.proofs.Laws.{slice_puts, vec_puts}
use Rattle.writeleaves.proofs.Leafing.{four_in, sized_in, four_led, sized_led, left_led}
use Rattle.writeleaves.proofs.write_leaf.Goals as goal

pub contents-four-requires : goal.contents-four-requires
contents-four-requires c = four_in c.leaf_at.ensures (c.in-Some-Four.is ∙ ap Some c.in-Some-Four.field-0-is)

pub contents-bytes-requires : goal.contents-bytes-requires
contents-bytes-requires c = sized_in c.leaf_at.ensures (c.in-Some-Sized.is ∙ ap Some c.in-Some-Sized.field-0-is)

pub returns-in-None : goal.returns-in-None
returns-in-None c = left_led

pub returns-in_err-write_slice-in-Some-Four : goal.returns-in_err-write_slice-in-Some-Four
returns-in_err-write_slice-in-Some-Four c =
    let passed : c.from_residual.result ≡ Err c.in_err-write_slice-in-Some-Four.field-0.0 = search rules in
    rw passed (four_led c.leaf_at.ensures (c.in-Some-Four.is ∙ ap Some c.in-Some-Four.field-0-is) (slice_puts c.write_slice.ensures c.contents-four.ensures) c.in_err-write_slice-in-Some-Four.was)

pub returns-in_err-write_vec-in-Some-Sized : goal.returns-in_err-write_vec-in-Some-Sized
returns-in_err-write_vec-in-Some-Sized c =
    let passed : c.from_residual-in_err-write_vec-in-Some-Sized.result ≡ Err c.in_err-write_vec-in-Some-Sized.field-0.0 = search rules in
    rw passed (sized_led c.leaf_at.ensures (c.in-Some-Sized.is ∙ ap Some c.in-Some-Sized.field-0-is) (vec_puts c.write_vec.ensures c.contents-bytes.ensures) c.in_err-write_vec-in-Some-Sized.was)

pub returns-in_ok-write_slice-in-Some-Four : goal.returns-in_ok-write_slice-in-Some-Four
returns-in_ok-write_slice-in-Some-Four c = four_led c.leaf_at.ensures (c.in-Some-Four.is ∙ ap Some c.in-Some-Four.field-0-is) (slice_puts c.write_slice.ensures c.contents-four.ensures) c.in_ok-write_slice-in-Some-Four.was

pub returns-in_ok-write_vec-in-Some-Sized : goal.returns-in_ok-write_vec-in-Some-Sized
returns-in_ok-write_vec-in-Some-Sized c = sized_led c.leaf_at.ensures (c.in-Some-Sized.is ∙ ap Some c.in-Some-Sized.field-0-is) (vec_puts c.write_vec.ensures c.contents-bytes.ensures) c.in_ok-write_vec-in-Some-Sized.was
