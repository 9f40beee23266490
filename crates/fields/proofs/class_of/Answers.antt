-- `fields::class_of` meets its contract: each letter's class by computation, and a letter that is none of them by `absent`.
-- Assumes nothing.
use mathlib.Core.Path.{sym, ap}
use Rattle.grammar.specs.Letters.{letters, found, class_of}
use Rattle.fields.specs.Classes.{classes, class_at}
use Rattle.fields.proofs.Laws.{absent}
use Rattle.fields.proofs.class_of.Goals as goal

pub returns-in-78 : goal.returns-in-78
unfolding letters found class_of classes class_at
returns-in-78 c = sym (ap class_of c.in-78.is)

pub returns-in-70 : goal.returns-in-70
unfolding letters found class_of classes class_at
returns-in-70 c = sym (ap class_of c.in-70.is)

pub returns-in-84 : goal.returns-in-84
unfolding letters found class_of classes class_at
returns-in-84 c = sym (ap class_of c.in-84.is)

pub returns-in-83 : goal.returns-in-83
unfolding letters found class_of classes class_at
returns-in-83 c = sym (ap class_of c.in-83.is)

pub returns-in-46 : goal.returns-in-46
unfolding letters found class_of classes class_at
returns-in-46 c = sym (ap class_of c.in-46.is)

pub returns-in-105 : goal.returns-in-105
unfolding letters found class_of classes class_at
returns-in-105 c = sym (ap class_of c.in-105.is)

pub returns-in-73 : goal.returns-in-73
unfolding letters found class_of classes class_at
returns-in-73 c = sym (ap class_of c.in-73.is)

pub returns-in-103 : goal.returns-in-103
unfolding letters found class_of classes class_at
returns-in-103 c = sym (ap class_of c.in-103.is)

pub returns-in-121 : goal.returns-in-121
unfolding letters found class_of classes class_at
returns-in-121 c = sym (ap class_of c.in-121.is)

pub returns-in-108 : goal.returns-in-108
unfolding letters found class_of classes class_at
returns-in-108 c = sym (ap class_of c.in-108.is)

pub returns-in-115 : goal.returns-in-115
unfolding letters found class_of classes class_at
returns-in-115 c = sym (ap class_of c.in-115.is)

pub returns-in-117 : goal.returns-in-117
unfolding letters found class_of classes class_at
returns-in-117 c = sym (ap class_of c.in-117.is)

pub returns-in-116 : goal.returns-in-116
unfolding letters found class_of classes class_at
returns-in-116 c = sym (ap class_of c.in-116.is)

pub returns-in-97 : goal.returns-in-97
unfolding letters found class_of classes class_at
returns-in-97 c = sym (ap class_of c.in-97.is)

pub returns-in-65 : goal.returns-in-65
unfolding letters found class_of classes class_at
returns-in-65 c = sym (ap class_of c.in-65.is)

pub returns-in-122 : goal.returns-in-122
unfolding letters found class_of classes class_at
returns-in-122 c = sym (ap class_of c.in-122.is)

pub returns-in-90 : goal.returns-in-90
unfolding letters found class_of classes class_at
returns-in-90 c = sym (ap class_of c.in-90.is)

pub returns-in-40 : goal.returns-in-40
unfolding letters found class_of classes class_at
returns-in-40 c = sym (ap class_of c.in-40.is)

pub returns-in-91 : goal.returns-in-91
unfolding letters found class_of classes class_at
returns-in-91 c = sym (ap class_of c.in-91.is)

pub returns-in-60 : goal.returns-in-60
unfolding letters found class_of classes class_at
returns-in-60 c = sym (ap class_of c.in-60.is)

pub returns-in-62 : goal.returns-in-62
unfolding letters found class_of classes class_at
returns-in-62 c = sym (ap class_of c.in-62.is)

pub returns-in-41 : goal.returns-in-41
unfolding letters found class_of classes class_at
returns-in-41 c = sym (ap class_of c.in-41.is)

pub returns-in-58 : goal.returns-in-58
unfolding letters found class_of classes class_at
returns-in-58 c = sym (ap class_of c.in-58.is)

pub returns-in-123 : goal.returns-in-123
unfolding letters found class_of classes class_at
returns-in-123 c = sym (ap class_of c.in-123.is)

pub returns-in-99 : goal.returns-in-99
unfolding letters found class_of classes class_at
returns-in-99 c = sym (ap class_of c.in-99.is)

pub returns-in-114 : goal.returns-in-114
unfolding letters found class_of classes class_at
returns-in-114 c = sym (ap class_of c.in-114.is)

pub returns-in-48 : goal.returns-in-48
unfolding letters found class_of classes class_at
returns-in-48 c = sym (ap class_of c.in-48.is)

pub returns-in-102 : goal.returns-in-102
unfolding letters found class_of classes class_at
returns-in-102 c = sym (ap class_of c.in-102.is)

pub returns-in-120 : goal.returns-in-120
unfolding letters found class_of classes class_at
returns-in-120 c = sym (ap class_of c.in-120.is)

pub returns-in_default : goal.returns-in_default
unfolding letters class_of classes class_at
returns-in_default c = sym (absent Unit c.args.letter letters c.in_default.in_default-own.rest)
