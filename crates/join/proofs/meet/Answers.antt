-- `join::meet` meets its contract: what is told of both tables decides it (proofs/Told). Assumes nothing.
use mathlib.Core.Path.{◌≡◌, ◌∙◌}
use mathlib.Core.Bool.{false}
use Rattle.std.specs.Prelude.{None}
use Rattle.join.proofs.Told.{is_whole, line_in, meet-former, meet-lines, meet-latter, meet_all}
use borrow.Author.Tests.{not-true, not-false}
use borrow.Author.Rules.{rules}
use Rattle.join.proofs.meet.Goals as goal

pub returns-in_err-former : goal.returns-in_err-former
returns-in_err-former c =
    let none : c.from_residual.result ≡ None = search rules in
    let broken : is_whole c.line_told.result ≡ false = search rules in
    none ∙ meet-former _ _ _ _ _ _ c.requires.0 c.line_told.ensures broken

pub returns-then-not-former : goal.returns-then-not-former
returns-then-not-former c =
    let same : is_whole c.line_told.result ≡ c.in_ok-former.former.whole = search rules in
    meet-former _ _ _ _ _ _ c.requires.0 c.line_told.ensures (same ∙ not-true _ c.if-not-former.true)

pub returns-then-former-b : goal.returns-then-former-b
returns-then-former-b c =
    let same : is_whole c.line_told.result ≡ c.in_ok-former.former.whole = search rules in
    let line : line_in c.line_told.result ≡ c.in_ok-former.former.line = search rules in
    meet-lines _ _ _ _ _ _ c.requires.0 c.line_told.ensures (same ∙ not-false _ c.if-not-former.false) (rw line c.if-former-b.true)

pub returns-in_err-latter : goal.returns-in_err-latter
returns-in_err-latter c =
    let none : c.from_residual-in_err-latter.result ≡ None = search rules in
    let same : is_whole c.line_told.result ≡ c.in_ok-former.former.whole = search rules in
    let line : line_in c.line_told.result ≡ c.in_ok-former.former.line = search rules in
    let broken : is_whole c.line_told-2.result ≡ false = search rules in
    none ∙ meet-latter _ _ _ _ _ _ c.requires.0 c.requires.1 c.line_told.ensures (same ∙ not-false _ c.if-not-former.false) (line ∙ c.if-former-b.false) c.line_told-2.ensures broken

pub returns-then-not-latter : goal.returns-then-not-latter
returns-then-not-latter c =
    let same : is_whole c.line_told.result ≡ c.in_ok-former.former.whole = search rules in
    let line : line_in c.line_told.result ≡ c.in_ok-former.former.line = search rules in
    let after : is_whole c.line_told-2.result ≡ c.in_ok-latter.latter.whole = search rules in
    meet-latter _ _ _ _ _ _ c.requires.0 c.requires.1 c.line_told.ensures (same ∙ not-false _ c.if-not-former.false) (line ∙ c.if-former-b.false) c.line_told-2.ensures (after ∙ not-true _ c.if-not-latter.true)

pub returns : goal.returns
returns c =
    let same : is_whole c.line_told.result ≡ c.in_ok-former.former.whole = search rules in
    let line : line_in c.line_told.result ≡ c.in_ok-former.former.line = search rules in
    let after : is_whole c.line_told-2.result ≡ c.in_ok-latter.latter.whole = search rules in
    let left : line_in c.line_told-2.result ≡ c.in_ok-latter.latter.line = search rules in
    rw left at (meet_all _ _ _ _ _ _ c.requires.0 c.requires.1 c.line_told.ensures (same ∙ not-false _ c.if-not-former.false) (line ∙ c.if-former-b.false) c.line_told-2.ensures (after ∙ not-false _ c.if-not-latter.false))
