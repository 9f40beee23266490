-- `rule_at` is the rule of each part by its number.
-- Assumes nothing.
use mathlib.Core.Path.{sym, ap}
use lib.ListN.{get_or}
use Rattle.grammar.specs.Steps.{rules, whatever}
use Rattle.readsteps.specs.Linking.{rule_number}
use Rattle.readsteps.proofs.Letters.{no_rule}
use Rattle.readsteps.proofs.rule_at.Goals as goal

pub returns-in-0 : goal.returns-in-0
unfolding rules
returns-in-0 c = ap (λ i. rule_number (get_or rules i whatever)) (sym c.in-0.is)

pub returns-in-1 : goal.returns-in-1
unfolding rules
returns-in-1 c = ap (λ i. rule_number (get_or rules i whatever)) (sym c.in-1.is)

pub returns-in-2 : goal.returns-in-2
unfolding rules
returns-in-2 c = ap (λ i. rule_number (get_or rules i whatever)) (sym c.in-2.is)

pub returns-in-3 : goal.returns-in-3
unfolding rules
returns-in-3 c = ap (λ i. rule_number (get_or rules i whatever)) (sym c.in-3.is)

pub returns-in-4 : goal.returns-in-4
unfolding rules
returns-in-4 c = ap (λ i. rule_number (get_or rules i whatever)) (sym c.in-4.is)

pub returns-in-5 : goal.returns-in-5
unfolding rules
returns-in-5 c = ap (λ i. rule_number (get_or rules i whatever)) (sym c.in-5.is)

pub returns-in-6 : goal.returns-in-6
unfolding rules
returns-in-6 c = ap (λ i. rule_number (get_or rules i whatever)) (sym c.in-6.is)

pub returns-in-7 : goal.returns-in-7
unfolding rules
returns-in-7 c = ap (λ i. rule_number (get_or rules i whatever)) (sym c.in-7.is)

pub returns-in-8 : goal.returns-in-8
unfolding rules
returns-in-8 c = ap (λ i. rule_number (get_or rules i whatever)) (sym c.in-8.is)

pub returns-in-9 : goal.returns-in-9
unfolding rules
returns-in-9 c = ap (λ i. rule_number (get_or rules i whatever)) (sym c.in-9.is)

pub returns-in_default : goal.returns-in_default
unfolding rules
returns-in_default c = ap rule_number (no_rule _ c.in_default.in_default-own.rest.0.0.0.0.0.0.0.0.0.1 c.in_default.in_default-own.rest.0.0.0.0.0.0.0.0.1 c.in_default.in_default-own.rest.0.0.0.0.0.0.0.1 c.in_default.in_default-own.rest.0.0.0.0.0.0.1 c.in_default.in_default-own.rest.0.0.0.0.0.1 c.in_default.in_default-own.rest.0.0.0.0.1 c.in_default.in_default-own.rest.0.0.0.1 c.in_default.in_default-own.rest.0.0.1 c.in_default.in_default-own.rest.0.1 c.in_default.in_default-own.rest.1)
