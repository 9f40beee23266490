-- `readalone::placed` meets its contract, by what it calls.
use mathlib.Core.Path.{refl, ap, subst}
use Rattle.reader.specs.Delivered.{answer_of}
use Rattle.readalone.specs.Alone.{Fitting}
use Rattle.readalone.proofs.placed.Goals as goal

pub overflow_add-start : goal.overflow_add-start
overflow_add-start c =
    record { fits = subst (Fitting c.args.start) (ap answer_of c.in-Err.is) c.requires }

pub returns-in-Ok : goal.returns-in-Ok
returns-in-Ok c =
    rw c.in-Ok.is refl

pub returns-in-Err : goal.returns-in-Err
returns-in-Err c =
    rw (c.at.ensures, c.in-Err.is) refl
