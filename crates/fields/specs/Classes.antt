-- No export and no promise rests on this page.
-- The classes of 01's letters ('Reading a value', as grammar's Letters has them) by number, so that a header's class can be carried as one.
-- 0 to 8 are the forms whose place is the byte after the header, 9 to 11 those whose place is their contents, 12 is the code, 13 the
-- reference, and 14 + n is refused with n.
use Rattle.std.specs.Prelude.{ℕ, ◌+◌, ◌-◌, cond, eqb, List, [], ◌∷◌, get_or}
use Rattle.refusals.specs.Numbers.{null_object, not_carried}
use Rattle.refusals.specs.declared.Refusal.{Refusal}
use Rattle.refusals.specs.declared.Refusal.TheVariants.{NullObject, NotCarried, UnknownType}
use Rattle.grammar.specs.Letters.{Class, refers, keeps, contains, codes, refuses, single, fixed, double, long, sequence, few, slice, dict, bytes, text, short}

unfoldable pub classes : List Class
classes =
    keeps single ∷ keeps (fixed 4) ∷ keeps (fixed 8) ∷ keeps double ∷ keeps long
    ∷ keeps sequence ∷ keeps few ∷ keeps slice ∷ keeps dict
    ∷ contains bytes ∷ contains text ∷ contains short
    ∷ codes ∷ refers ∷ []

-- the number of a code's class
abbrev pub code_class : ℕ
code_class = 12

-- how many classes have a form, how many are kept, and the first that is refused
abbrev pub form_classes : ℕ
form_classes = 9

abbrev pub kept_classes : ℕ
kept_classes = 13

abbrev pub refused_from : ℕ
refused_from = 14

unfoldable pub class_at : ℕ → Class
class_at class = get_or classes class (refuses (class - refused_from))

-- why a letter is refused, by its class
abbrev pub refusal_of : ℕ → Refusal
refusal_of class =
    cond (eqb class (refused_from + null_object)) NullObject
    (cond (eqb class (refused_from + not_carried)) NotCarried UnknownType)
