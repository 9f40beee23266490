-- One answer for each call of the functions of `lineentry`: the answer, by an equation.
use mathlib.Core.Path.{refl}
use Rattle.lineentry.proofs as lineentry
use Rattle.lineentry.specs.contracts as lineentry_contracts
use Rattle.agreement.specs.Agreement.{Agree}
use Rattle.agreement.proofs.Same.{one}

pub lt_byte-agrees : Agree lineentry_contracts.lt_byte.ended lineentry.lt_byte.Reads.Asked lineentry.lt_byte.Reads.Learnt
lt_byte-agrees κs a asked r r' ws ws' p p' = (one p p', refl)

pub lt_read_varint-agrees : Agree lineentry_contracts.lt_read_varint.ended lineentry.lt_read_varint.Reads.Asked lineentry.lt_read_varint.Reads.Learnt
lt_read_varint-agrees κs a asked r r' ws ws' p p' = (one p p', refl)

pub lt_read-signed_varint_agrees : Agree lineentry_contracts.lt_read_signed_varint.ended lineentry.lt_read_signed_varint.Reads.Asked lineentry.lt_read_signed_varint.Reads.Learnt
lt_read-signed_varint_agrees κs a asked r r' ws ws' p p' = (one p p', refl)

pub as_signed-agrees : Agree lineentry_contracts.as_signed.ended lineentry.as_signed.Reads.Asked lineentry.as_signed.Reads.Learnt
as_signed-agrees κs a asked r r' ws ws' p p' = (one p p', refl)

pub move_line-agrees : Agree lineentry_contracts.move_line.ended lineentry.move_line.Reads.Asked lineentry.move_line.Reads.Learnt
move_line-agrees κs a asked r r' ws ws' p p' = (one p p', refl)

pub show_line-agrees : Agree lineentry_contracts.show_line.ended lineentry.show_line.Reads.Asked lineentry.show_line.Reads.Learnt
show_line-agrees κs a asked r r' ws ws' p p' = (one p p', refl)

pub at_line-agrees : Agree lineentry_contracts.at_line.ended lineentry.at_line.Reads.Asked lineentry.at_line.Reads.Learnt
at_line-agrees κs a asked r r' ws ws' p p' = (one p p', refl)

pub read-entry-agrees : Agree lineentry_contracts.read_entry.ended lineentry.read_entry.Reads.Asked lineentry.read_entry.Reads.Learnt
read-entry-agrees κs a asked r r' ws ws' p p' = (one p p', refl)

pub is_plain-agrees : Agree lineentry_contracts.quick.is_plain.ended lineentry.quick.is_plain.Reads.Asked lineentry.quick.is_plain.Reads.Learnt
is_plain-agrees κs a asked r r' ws ws' p p' = (one p p', refl)

pub plain-entry-agrees : Agree lineentry_contracts.quick.plain_entry.ended lineentry.quick.plain_entry.Reads.Asked lineentry.quick.plain_entry.Reads.Learnt
plain-entry-agrees κs a asked r r' ws ws' p p' = (one p p', refl)

pub is_long_of_four-agrees : Agree lineentry_contracts.quick.is_long_of_four.ended lineentry.quick.is_long_of_four.Reads.Asked lineentry.quick.is_long_of_four.Reads.Learnt
is_long_of_four-agrees κs a asked r r' ws ws' p p' = (one p p', refl)

pub long_of_four_agrees : Agree lineentry_contracts.quick.long_of_four.ended lineentry.quick.long_of_four.Reads.Asked lineentry.quick.long_of_four.Reads.Learnt
long_of_four_agrees κs a asked r r' ws ws' p p' = (one p p', refl)

pub next_entry-agrees : Agree lineentry_contracts.quick.next_entry.ended lineentry.quick.next_entry.Reads.Asked lineentry.quick.next_entry.Reads.Learnt
next_entry-agrees κs a asked r r' ws ws' p p' = (one p p', refl)

pub in_numbers-agrees : Agree lineentry_contracts.quick.in_numbers.ended lineentry.quick.in_numbers.Reads.Asked lineentry.quick.in_numbers.Reads.Learnt
in_numbers-agrees κs a asked r r' ws ws' p p' = (one p p', refl)

pub signed_step_agrees : Agree lineentry_contracts.quick.signed_step.ended lineentry.quick.signed_step.Reads.Asked lineentry.quick.signed_step.Reads.Learnt
signed_step_agrees κs a asked r r' ws ws' p p' = (one p p', refl)

pub one_byte-agrees : Agree lineentry_contracts.quick.one_byte.ended lineentry.quick.one_byte.Reads.Asked lineentry.quick.one_byte.Reads.Learnt
one_byte-agrees κs a asked r r' ws ws' p p' = (one p p', refl)

pub is_long-agrees : Agree lineentry_contracts.short.is_long.ended lineentry.short.is_long.Reads.Asked lineentry.short.is_long.Reads.Learnt
is_long-agrees κs a asked r r' ws ws' p p' = (one p p', refl)

pub short-numbers-agrees : Agree lineentry_contracts.short.short_numbers.ended lineentry.short.short_numbers.Reads.Asked lineentry.short.short_numbers.Reads.Learnt
short-numbers-agrees κs a asked r r' ws ws' p p' = (one p p', refl)

pub long-entry-agrees : Agree lineentry_contracts.short.long_entry.ended lineentry.short.long_entry.Reads.Asked lineentry.short.long_entry.Reads.Learnt
long-entry-agrees κs a asked r r' ws ws' p p' = (one p p', refl)
