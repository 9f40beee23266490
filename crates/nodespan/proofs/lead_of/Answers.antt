-- The class, by its number. Assumes nothing.
use Rattle.fields.specs.Classes.{classes, class_at}
use Rattle.nodespan.proofs.Leads.{lead-other}
use Rattle.nodespan.proofs.lead_of.Goals as goal

pub returns-in-9 : goal.returns-in-9
unfolding classes class_at
returns-in-9 c = rw (← c.class_of.ensures, c.in-9.is)

pub returns-in-10 : goal.returns-in-10
unfolding classes class_at
returns-in-10 c = rw (← c.class_of.ensures, c.in-10.is)

pub returns-in-11 : goal.returns-in-11
unfolding classes class_at
returns-in-11 c = rw (← c.class_of.ensures, c.in-11.is)

pub returns-in_default : goal.returns-in_default
returns-in_default c = rw (← c.class_of.ensures) (lead-other c.class_of.result c.in_default.in_default-own.rest.0.0.1 c.in_default.in_default-own.rest.0.1 c.in_default.in_default-own.rest.1)
