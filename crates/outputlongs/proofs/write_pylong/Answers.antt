-- Carried by the laws of longs. Assumes nothing.
use Rattle.writing.proofs.Digits.{long-within}
use Rattle.output.proofs.Laws.{puts_as}
use Rattle.outputlongs.proofs.Integers.{long-few, long-many, long_positive, long_great, long-negative, long_less, long-above}
use native.Mathlib.Omega.{arith}
use mathlib.Core.Path.{sym, ap, ◌∙◌}
use mathlib.Core.List.{◌∷◌}
use Rattle.outputlongs.proofs.write_pylong.Goals as goal

pub contents-stored-requires : goal.contents-stored-requires
contents-stored-requires c = long-within c.args.s.now (λ i. omega (arith, c.type_inv.s i)) c.args.place c.args.size c.requires.1

pub returns-then-size-gt10 : goal.returns-then-size-gt10
returns-then-size-gt10 c = puts_as c.write_slice.ensures (long-many c.args.s.now (λ i. omega (arith, c.type_inv.s i)) c.args.place c.args.size c.requires.1 (omega arith) ∙ ap (λ bytes. 0x6C ∷ bytes) (sym c.contents-stored.ensures))

pub overflow_sub-size : goal.overflow_sub-size
overflow_sub-size c = omega (arith, long-few c.args.s.now (λ i. omega (arith, c.type_inv.s i)) c.args.place c.args.size c.requires.1 (omega arith))

pub few_digits-value-requires : goal.few_digits-value-requires
few_digits-value-requires c = omega (arith, long-few c.args.s.now (λ i. omega (arith, c.type_inv.s i)) c.args.place c.args.size c.requires.1 (omega arith))

pub le32-requires : goal.le32-requires
le32-requires c = omega (arith, long-few c.args.s.now (λ i. omega (arith, c.type_inv.s i)) c.args.place c.args.size c.requires.1 (omega arith))

pub returns-then-value-lt2147483648 : goal.returns-then-value-lt2147483648
returns-then-value-lt2147483648 c = puts_as c.write_len.ensures (long_positive c.args.s.now (λ i. omega (arith, c.type_inv.s i)) c.args.place c.args.size c.requires.1 c.few_digits-value.ensures (omega (arith, c.le32.ensures)) (omega arith))

pub returns-then-le32-lt2147483648 : goal.returns-then-le32-lt2147483648
returns-then-le32-lt2147483648 c = puts_as c.write_slice-then-le32-lt2147483648.ensures (long_great c.args.s.now (λ i. omega (arith, c.type_inv.s i)) c.args.place c.args.size c.requires.1 c.few_digits-value.ensures (omega (arith, c.le32.ensures)) (omega arith) ∙ ap (λ bytes. 0x6C ∷ bytes) (sym c.contents-stored.ensures))

pub overflow_add-value : goal.overflow_add-value
overflow_add-value c = omega (arith, long-above c.args.s.now (λ i. omega (arith, c.type_inv.s i)) c.args.place c.args.size c.requires.1 c.few_digits-value.ensures (omega (arith, c.le32.ensures)))

pub returns-then-value-le2147483648 : goal.returns-then-value-le2147483648
returns-then-value-le2147483648 c = puts_as c.write_len-then-value-le2147483648.ensures (long-negative c.args.s.now (λ i. omega (arith, c.type_inv.s i)) c.args.place c.args.size c.requires.1 c.few_digits-value.ensures (omega (arith, c.le32.ensures)) (omega arith))

pub returns : goal.returns
returns c = puts_as c.write_slice-2.ensures (long_less c.args.s.now (λ i. omega (arith, c.type_inv.s i)) c.args.place c.args.size c.requires.1 c.few_digits-value.ensures (omega (arith, c.le32.ensures)) (omega arith) ∙ ap (λ bytes. 0x6C ∷ bytes) (sym c.contents-stored.ensures))
