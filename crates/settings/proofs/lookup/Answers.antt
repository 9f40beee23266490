-- `settings::lookup` meets its contract, by the laws of this crate that it names.
-- Assumes nothing.
use mathlib.Core.Path.{◌∙◌}
use native.Mathlib.Omega.{arith}
use Rattle.settings.specs.declared.Origin.TheVariants as origin
use Rattle.settings.proofs.Lookups.{says_refused, says_in}
use Rattle.settings.proofs.lookup.Goals as goal

pub of-requires : goal.of-requires
of-requires c = let p = says_in _ _ c.args.tag origin.Override c.in-Ok.ensures c.in-Override.is in omega (arith, p.within)

pub of-requires-in-Default : goal.of-requires-in-Default
of-requires-in-Default c = let p = says_in _ _ c.args.tag origin.Default c.in-Ok.ensures c.in-Default.is in omega (arith, p.within)

pub returns-in-Err : goal.returns-in-Err
returns-in-Err c = says_refused _ _ c.args.tag c.in-Err.ensures

pub returns-in-Override : goal.returns-in-Override
returns-in-Override c = c.of.ensures ∙ (says_in _ _ c.args.tag origin.Override c.in-Ok.ensures c.in-Override.is).same

pub returns-in-Default : goal.returns-in-Default
returns-in-Default c = c.of-in-Default.ensures ∙ (says_in _ _ c.args.tag origin.Default c.in-Ok.ensures c.in-Default.is).same
