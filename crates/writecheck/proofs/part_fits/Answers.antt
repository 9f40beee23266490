-- By the part's number. Assumes nothing.
use Rattle.writecheck.proofs.Suited.{bytes-part, string_part_lem, rule_else, by_rule}
use Rattle.writecheck.specs.Looking.{lent_of}
use Rattle.grammar.specs.Steps.{rules, whatever}
use lib.ListN.{get_or}
use mathlib.Core.Path.{ap, ◌∙◌}
use native.Mathlib.Omega.{arith}
use Rattle.writecheck.proofs.part_fits.Goals as goal

pub returns-in-1 : goal.returns-in-1
unfolding rules
returns-in-1 c =
    let a = c.args in
    let t = lent_of a.values.now.lent in
    c.tuple_fits.ensures ∙ by_rule t a.node (ap (λ p. get_or rules p whatever) c.in-1.is)

pub returns-in-2 : goal.returns-in-2
unfolding rules
returns-in-2 c =
    let a = c.args in
    let t = lent_of a.values.now.lent in
    c.whole_names_fit.ensures ∙ by_rule t a.node (ap (λ p. get_or rules p whatever) c.in-2.is)

pub returns-in-3 : goal.returns-in-3
unfolding rules
returns-in-3 c =
    let a = c.args in
    let t = lent_of a.values.now.lent in
    c.whole_names_fit-in-3.ensures ∙ by_rule t a.node (ap (λ p. get_or rules p whatever) c.in-3.is)

pub returns-in-5 : goal.returns-in-5
unfolding rules
returns-in-5 c =
    let a = c.args in
    let t = lent_of a.values.now.lent in
    c.string_at.ensures ∙ string_part_lem t a.node ∙ by_rule t a.node (ap (λ p. get_or rules p whatever) c.in-5.is)

pub returns-in-6 : goal.returns-in-6
unfolding rules
returns-in-6 c =
    let a = c.args in
    let t = lent_of a.values.now.lent in
    c.string_at-in-6.ensures ∙ string_part_lem t a.node ∙ by_rule t a.node (ap (λ p. get_or rules p whatever) c.in-6.is)

pub returns-in-7 : goal.returns-in-7
unfolding rules
returns-in-7 c =
    let a = c.args in
    let t = lent_of a.values.now.lent in
    c.string_at-in-7.ensures ∙ string_part_lem t a.node ∙ by_rule t a.node (ap (λ p. get_or rules p whatever) c.in-7.is)

pub returns-in_default : goal.returns-in_default
returns-in_default c =
    let a = c.args in
    let t = lent_of a.values.now.lent in
    c.bytes_at.ensures ∙ bytes-part t a.node ∙ by_rule t a.node (rule_else a.part c.requires (λ e. omega arith) (λ e. omega arith) (λ e. omega arith) (λ e. omega arith) (λ e. omega arith) (λ e. omega arith))
