-- `goldenparts::exact_fields` meets its contract, by the laws of this crate that it names.
use mathlib.Core.Path.{refl, sym, ◌∙◌}
use native.Mathlib.Omega.{arith}
use Rattle.goldenparts.proofs.Exact.{whole_first, first_field, no_first, wrong_edition, whole-second, no_second, second-field, whole-third, not_third, third-field, third-after, third_standing}
use Rattle.goldenparts.proofs.exact_fields.Goals as goal

pub behind-requires : goal.behind-requires
behind-requires c = whole_first c.args.file.now c.requires

pub returns-in_err-code : goal.returns-in_err-code
returns-in_err-code c =
    let file = c.args.file.now in
    rw c.from_residual.ensures (no_first file c.requires c.in_err-code.ensures.0 (λ e. absurd (cc)), tt)

pub returns-then-code-ne4 : goal.returns-then-code-ne4
returns-then-code-ne4 c =
    let file = c.args.file.now in
    (no_first file c.requires c.in_ok-code.ensures.0 (λ e. c.if-code-ne4.true (cc)), tt)

pub bounds-file-3 : goal.bounds-file-3
bounds-file-3 c =
    let file = c.args.file.now in
    let one = first_field file c.requires c.in_ok-code.ensures.0 c.if-code-ne4.false in
    omega (arith, one.long)

pub returns-then-file-ne1 : goal.returns-then-file-ne1
returns-then-file-ne1 c =
    let file = c.args.file.now in
    let one = first_field file c.requires c.in_ok-code.ensures.0 c.if-code-ne4.false in
    (wrong_edition file c.requires one c.if-file-ne1.true, tt)

pub behind-requires-2 : goal.behind-requires-2
behind-requires-2 c =
    let file = c.args.file.now in
    let one = first_field file c.requires c.in_ok-code.ensures.0 c.if-code-ne4.false in
    whole-second file c.requires one

pub returns-in_err-result : goal.returns-in_err-result
returns-in_err-result c =
    let file = c.args.file.now in
    let one = first_field file c.requires c.in_ok-code.ensures.0 c.if-code-ne4.false in
    rw c.from_residual-in_err-result.ensures (no_second file c.requires one c.in_err-result.ensures.0, tt)

pub behind-requires-3 : goal.behind-requires-3
behind-requires-3 c =
    let file = c.args.file.now in
    let one = first_field file c.requires c.in_ok-code.ensures.0 c.if-code-ne4.false in
    let two = second-field file c.requires one c.in_ok-result.ensures.0 in
    whole-third file c.requires one two

pub returns-in_err-end : goal.returns-in_err-end
returns-in_err-end c =
    let file = c.args.file.now in
    let one = first_field file c.requires c.in_ok-code.ensures.0 c.if-code-ne4.false in
    let two = second-field file c.requires one c.in_ok-result.ensures.0 in
    rw c.from_residual-in_err-end.ensures (not_third file c.requires one two c.in_err-end.ensures.0 (λ e. absurd (cc)), tt)

pub returns-then-end-file : goal.returns-then-end-file
returns-then-end-file c =
    let file = c.args.file.now in
    let one = first_field file c.requires c.in_ok-code.ensures.0 c.if-code-ne4.false in
    let two = second-field file c.requires one c.in_ok-result.ensures.0 in
    (not_third file c.requires one two c.in_ok-end.ensures.0 (λ e. c.if-end-file.true (cc)), tt)

pub overflow_sub-result : goal.overflow_sub-result
overflow_sub-result c =
    let file = c.args.file.now in
    let one = first_field file c.requires c.in_ok-code.ensures.0 c.if-code-ne4.false in
    let two = second-field file c.requires one c.in_ok-result.ensures.0 in
    omega (arith, two.size)

pub overflow_sub-result-2 : goal.overflow_sub-result-2
overflow_sub-result-2 c =
    let file = c.args.file.now in
    let one = first_field file c.requires c.in_ok-code.ensures.0 c.if-code-ne4.false in
    let two = second-field file c.requires one c.in_ok-result.ensures.0 in
    omega (arith, third-after file c.requires one two c.in_ok-end.ensures.0 c.if-end-file.false)

pub overflow_sub-result-3 : goal.overflow_sub-result-3
overflow_sub-result-3 c =
    let file = c.args.file.now in
    let one = first_field file c.requires c.in_ok-code.ensures.0 c.if-code-ne4.false in
    let two = second-field file c.requires one c.in_ok-result.ensures.0 in
    omega (arith, third-after file c.requires one two c.in_ok-end.ensures.0 c.if-end-file.false)

pub returns : goal.returns
returns c =
    let file = c.args.file.now in
    let one = first_field file c.requires c.in_ok-code.ensures.0 c.if-code-ne4.false in
    let two = second-field file c.requires one c.in_ok-result.ensures.0 in
    let end = c.in_ok-end.ensures.0 in (
      third-field file c.requires one two end c.if-end-file.false c.if-file-ne1.false,
      third_standing file c.requires one two end c.if-end-file.false
          (omega (arith, (c.in_ok-result.ensures.1 c.in_ok-result.result refl).0)) (c.in_ok-end.ensures.1 c.in_ok-end.end refl).0,
    )
