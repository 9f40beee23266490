-- `goldenparts::behind` meets its contract, by the laws of this crate that it names.
use mathlib.Core.Path.{sym, ◌∙◌}
use native.Mathlib.Omega.{arith}
use Rattle.goldenparts.proofs.Exact.{behind_none, behind-other, behind-here, behind_within}
use Rattle.goldenparts.proofs.behind.Goals as goal

pub returns-then-file-at : goal.returns-then-file-at
returns-then-file-at c = (behind_none c.args.file.now c.args.at c.args.tag c.if-file-at.true, λ end e. absurd (cc))

pub returns-then-file-at-2 : goal.returns-then-file-at-2
returns-then-file-at-2 c = (behind-other c.args.file.now c.args.at c.args.tag c.if-file-at.false c.if-file-at-2.true, λ end e. absurd (cc))

pub size_at-requires : goal.size_at-requires
size_at-requires c =
    let w = c.requires c.if-file-at.false in omega (arith, w)

pub overflow_add-result-2 : goal.overflow_add-result-2
overflow_add-result-2 c =
    let w = c.requires c.if-file-at.false in record { fits = omega (arith, w, c.size_at.ensures) }

pub returns : goal.returns
returns c =
    let w = c.requires c.if-file-at.false in (
      behind-here c.args.file.now c.args.at c.args.tag c.if-file-at.false c.if-file-at-2.false c.size_at.ensures.0,
      λ end e. behind_within c.args.file.now c.args.at w c.size_at.ensures.0 c.size_at.ensures.1 e,
    )
