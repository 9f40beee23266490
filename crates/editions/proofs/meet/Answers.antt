-- `editions::meet` meets its contract, by the laws of this crate that it names.
-- Assumes nothing.
use mathlib.Core.Path.{◌∙◌, ap, sym}
use native.Mathlib.Omega.{arith}
use Rattle.std.specs.Prelude.{Ok}
use Rattle.std.proofs.lemmas.Result.{err_from_is_err_and}
use Rattle.editions.proofs.Same.{equals_same}
use Rattle.editions.proofs.Searching.{met-fault, met_none, found_within, met-found}
use mathlib.Core.List.{List}
use Prim.Native.Nat.{ℕ}
use Rattle.editions.specs.Archive.{same}
use Rattle.editions.proofs.meet.Goals as goal

pub returns-in_err-look : goal.returns-in_err-look
returns-in_err-look c = let p = err_from_is_err_and c.from_residual.result c.from_residual.ensures.1 in rw (p.1, p.2) (met-fault c.args.file.now c.args.edition.now c.in_err-look.ensures)

pub of-requires : goal.of-requires
of-requires c = let w = found_within c.args.file.now c.args.edition.now (ap Ok (sym c.in-Some.is) ∙ c.in_ok-look.ensures) in omega (arith, w)

pub returns-in-None : goal.returns-in-None
returns-in-None c = met_none c.args.file.now c.args.edition.now (ap Ok (sym c.in-None.is) ∙ c.in_ok-look.ensures)

pub returns-in-Some : goal.returns-in-Some
returns-in-Some c = ap Ok (c.eq.ensures ∙ equals_same _ _ ∙ ap (λ (l : List ℕ). same l c.args.edition.now) c.of.ensures) ∙ met-found c.args.file.now c.args.edition.now (ap Ok (sym c.in-Some.is) ∙ c.in_ok-look.ensures)
