-- `goldenparts::read_both` meets its contract, by the laws of this crate that it names.
use mathlib.Core.Path.{ap, ◌∙◌}
use Rattle.std.proofs.lemmas.Result.{err_from_is_err_and}
use Rattle.clearing.specs.Lent.{zeros}
use Rattle.readalone.specs.Alone.{lent}
use Rattle.goldenparts.proofs.Judging.{lent_same}
use Rattle.goldenparts.proofs.Apart.{code-some, both-refused, both-value}
use Rattle.goldenparts.proofs.read_both.Goals as goal

pub returns-in_err-code : goal.returns-in_err-code
returns-in_err-code c =
    let p = err_from_is_err_and c.from_residual.result c.from_residual.ensures.1 in
    let known = c.in_err-code.ensures in
    rw (p.1, p.2) (both-refused (lent _ _ _ _) c.args.golden.file.now c.args.golden.parts c.of.ensures known.0, known.1, known.2, known.3)

pub read_result-requires : goal.read_result-requires
read_result-requires c =
    code-some (lent _ _ _ _) c.args.golden.file.now c.args.golden.parts c.of.ensures c.args.golden.standing.code_in c.in_ok-code.ensures.0

pub returns : goal.returns
returns c = (
  both-value (lent _ _ _ _) c.args.golden.file.now c.args.golden.parts c.of.ensures c.in_ok-code.ensures.0
      (lent_same c.args.nesting c.read_alone.auto.nodes c.read_alone.auto.entries c.read_alone.auto.slots) c.read_result.ensures.0,
  c.read_result.ensures.1 ∙ ap zeros c.read_alone.auto.nodes,
  c.read_result.ensures.2 ∙ ap zeros c.read_alone.auto.entries,
  c.read_result.ensures.3 ∙ ap zeros c.read_alone.auto.slots,
)
