-- `goldenparts::new_parts` meets its contract, by the laws of this crate that it names.
use mathlib.Core.Path.{ap, ◌∙◌}
use Rattle.std.proofs.lemmas.Result.{err_from_is_err_and}
use Rattle.clearing.specs.Lent.{zeros}
use Rattle.readalone.specs.Alone.{lent}
use Rattle.goldenparts.proofs.Judging.{lent_same}
use Rattle.goldenparts.proofs.Apart.{both_standing}
use Rattle.goldenparts.proofs.Fielded.{new_refused, new_value}
use Rattle.goldenparts.proofs.new_parts.Goals as goal

pub returns-in_err-parts : goal.returns-in_err-parts
returns-in_err-parts c =
    let p = err_from_is_err_and c.from_residual.result c.from_residual.ensures.1 in
    rw (p.1, p.2) (new_refused (lent _ _ _ _) c.args.file.now c.in_err-parts.ensures.0, tt, c.clear_words.ensures, c.clear_words-2.ensures, c.clear_words-3.ensures)

pub invariant_of-read_both : goal.invariant_of-read_both
invariant_of-read_both c = record { standing = c.in_ok-parts.ensures.1 }

pub returns : goal.returns
returns c = (
  new_value (lent _ _ _ _) c.args.file.now c.in_ok-parts.ensures.0
      (lent_same c.args.nesting c.clear_words.auto.words c.clear_words-2.auto.words c.clear_words-3.auto.words) c.read_both.ensures.0,
  both_standing (lent _ _ _ _) c.args.file.now _ c.in_ok-parts.ensures.1 c.read_both.ensures.0,
  c.read_both.ensures.1 ∙ ap zeros c.clear_words.auto.words,
  c.read_both.ensures.2 ∙ ap zeros c.clear_words-2.auto.words,
  c.read_both.ensures.3 ∙ ap zeros c.clear_words-3.auto.words,
)
