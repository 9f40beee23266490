-- `goldenparts::read_result` meets its contract, by the laws of this crate that it names.
use Rattle.std.proofs.lemmas.Result.{err_from_is_err_and}
use Rattle.readalone.specs.Alone.{lent}
use Rattle.goldenparts.proofs.Apart.{result-refused, result_value}
use Rattle.goldenparts.proofs.read_result.Goals as goal

pub returns-in_err-result : goal.returns-in_err-result
returns-in_err-result c =
    let p = err_from_is_err_and c.from_residual.result c.from_residual.ensures.1 in
    let known = c.in_err-result.ensures in
    rw (p.1, p.2) (result-refused (lent _ _ _ _) c.args.golden.file.now c.args.golden.parts c.args.code c.of.ensures known.0, known.1, known.2, known.3)

pub returns : goal.returns
returns c =
    let known = c.in_ok-result.ensures in
    (result_value (lent _ _ _ _) c.args.golden.file.now c.args.golden.parts c.args.code c.of.ensures known.0 c.judge.ensures, known.1, known.2, known.3)
