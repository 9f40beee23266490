-- `goldenparts::judge` meets its contract, by the laws of this crate that it names.
use mathlib.Core.Path.{refl, ◌∙◌}
use Rattle.goldenparts.proofs.Judging.{code-told, judged-no_code, judged-behind-code, judged-behind-result, judged-fine}
use Rattle.goldenparts.proofs.judge.Goals as goal

pub returns-then-not-is_code : goal.returns-then-not-is_code
returns-then-not-is_code c =
    let file = c.args.golden.file.now in
    let parts = c.args.golden.parts in
    let code = code-told file parts c.args.golden.standing 0 0 c.requires refl c.is_code.ensures ∙ c.if-not-is_code.true in
    rw c.at.ensures (judged-no_code file parts c.args.golden.standing _ _ code)

pub returns-then-code-first : goal.returns-then-code-first
returns-then-code-first c =
    let file = c.args.golden.file.now in
    let parts = c.args.golden.parts in
    let code = code-told file parts c.args.golden.standing 0 0 c.requires refl c.is_code.ensures ∙ c.if-not-is_code.false in
    rw c.at-then-code-first.ensures (judged-behind-code file parts c.args.golden.standing _ _ code c.if-code-first.true)

pub returns-then-res-second : goal.returns-then-res-second
returns-then-res-second c =
    let file = c.args.golden.file.now in
    let parts = c.args.golden.parts in
    let code = code-told file parts c.args.golden.standing 0 0 c.requires refl c.is_code.ensures ∙ c.if-not-is_code.false in
    rw c.at-then-res-second.ensures (judged-behind-result file parts c.args.golden.standing _ _ code c.if-code-first.false c.if-res-second.true)

pub returns : goal.returns
returns c =
    let file = c.args.golden.file.now in
    let parts = c.args.golden.parts in
    let code = code-told file parts c.args.golden.standing 0 0 c.requires refl c.is_code.ensures ∙ c.if-not-is_code.false in
    judged-fine file parts c.args.golden.standing _ _ code c.if-code-first.false c.if-res-second.false
