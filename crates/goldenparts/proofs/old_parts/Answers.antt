-- `goldenparts::old_parts` meets its contract, by the laws of this crate that it names.
use mathlib.Core.Path.{sym, ap, ◌∙◌}
use native.Mathlib.Omega.{arith}
use Rattle.std.proofs.lemmas.Result.{err_from_is_err_and}
use Rattle.clearing.specs.Lent.{zeros}
use Rattle.readalone.specs.Alone.{lent}
use Rattle.readalone.proofs.Placing.{alone-ends}
use Rattle.goldenparts.proofs.Judging.{lent_same}
use Rattle.goldenparts.proofs.Apart.{old_standing, old_refused, old_value, result_standing}
use Rattle.goldenparts.proofs.old_parts.Goals as goal

pub returns-in_err-code : goal.returns-in_err-code
returns-in_err-code c =
    let p = err_from_is_err_and c.from_residual.result c.from_residual.ensures.1 in
    let known = c.in_err-code.ensures in
    rw (p.1, p.2) (old_refused (lent _ _ _ _) c.args.file.now known.0, tt, known.1, known.2, known.3)

pub overflow_cast-parts : goal.overflow_cast-parts
overflow_cast-parts c =
    record { fits = omega (arith, (alone-ends (lent _ _ _ _) 0 c.args.file.now _ (sym c.in_ok-code.ensures.0)).small) }

pub overflow_sub-parts : goal.overflow_sub-parts
overflow_sub-parts c =
    omega (arith, (alone-ends (lent _ _ _ _) 0 c.args.file.now _ (sym c.in_ok-code.ensures.0)).inside)

pub read_result-requires : goal.read_result-requires
read_result-requires c =
    (old_standing c.args.file.now _ (alone-ends (lent _ _ _ _) 0 c.args.file.now _ (sym c.in_ok-code.ensures.0))).1

pub invariant_of-read_result : goal.invariant_of-read_result
invariant_of-read_result c =
    record { standing = (old_standing c.args.file.now _ (alone-ends (lent _ _ _ _) 0 c.args.file.now _ (sym c.in_ok-code.ensures.0))).0 }

pub returns : goal.returns
returns c =
    let known = c.in_ok-code.ensures in
    let stands = (old_standing c.args.file.now _ (alone-ends (lent _ _ _ _) 0 c.args.file.now _ (sym known.0))).0 in (
      old_value (lent _ _ _ _) c.args.file.now known.0
          (lent_same c.args.nesting c.read_alone.auto.nodes c.read_alone.auto.entries c.read_alone.auto.slots) c.read_result.ensures.0,
      result_standing (lent _ _ _ _) c.args.file.now _ stands _ c.read_result.ensures.0,
      c.read_result.ensures.1 ∙ ap zeros c.read_alone.auto.nodes,
      c.read_result.ensures.2 ∙ ap zeros c.read_alone.auto.entries,
      c.read_result.ensures.3 ∙ ap zeros c.read_alone.auto.slots,
    )
