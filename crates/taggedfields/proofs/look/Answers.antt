-- `taggedfields::look` meets its contract, by the laws of this crate that it names.
-- Assumes nothing.
use mathlib.Core.Path.{◌∙◌, refl, sym, ap}
use Rattle.std.proofs.lemmas.Result.{err_from_is_err_and}
use native.Mathlib.Omega.{arith}
use Rattle.std.specs.Prelude.{Ok, Err}
use Rattle.taggedfields.proofs.Looks.{look-beyond, not_placed, noted_within, found_there, look-fault, look-field}
use Rattle.taggedfields.proofs.look.Goals as goal

pub returns-in_err-index_fields : goal.returns-in_err-index_fields
returns-in_err-index_fields c = let p = err_from_is_err_and c.from_residual.result c.from_residual.ensures.1 in rw (p.1, p.2) (look-fault _ c.args.tag (sym (c.in_err-index_fields.was) ∙ c.index_fields.ensures.0))

pub returns-then-tag-gt255 : goal.returns-then-tag-gt255
returns-then-tag-gt255 c = look-field c.args.file.now c.args.tag (sym (c.in_ok-index_fields.was) ∙ c.index_fields.ensures.0)
    (rw (look-beyond c.args.file.now c.args.tag (λ i. omega (arith, c.type_inv.file i)) c.if-tag-gt255.true) refl)

pub returns-then-place-eq0 : goal.returns-then-place-eq0
returns-then-place-eq0 c = look-field c.args.file.now c.args.tag (sym (c.in_ok-index_fields.was) ∙ c.index_fields.ensures.0)
    (rw (not_placed c.args.file.now c.args.tag (c.index_fields.ensures.1 _ (omega arith)) c.if-place-eq0.true) refl)

pub size_at-size-requires : goal.size_at-size-requires
size_at-size-requires c = let w = noted_within _ _ (c.index_fields.ensures.1 _ (omega arith)) c.if-place-eq0.false in omega (arith, w.0, w.1)

pub returns : goal.returns
returns c = look-field _ _ (sym (c.in_ok-index_fields.was) ∙ c.index_fields.ensures.0)
    (found_there _ _ (c.index_fields.ensures.1 _ (omega arith)) c.if-place-eq0.false c.size_at-size.ensures.0)
