-- `suits` is the definition's test over the stores, rule by rule.
use mathlib.Core.Path.{refl}
use Rattle.readsteps.proofs.Letters.{bytes-is, rule_string}
use Rattle.readsteps.proofs.suits.Goals as goal

pub returns-then-rule-eq-WHATEVER : goal.returns-then-rule-eq-WHATEVER
returns-then-rule-eq-WHATEVER c = rw c.if-rule-eq-WHATEVER.true refl

pub returns-then-rule-eq-AS_BYTES : goal.returns-then-rule-eq-AS_BYTES
returns-then-rule-eq-AS_BYTES c = rw (c.if-rule-eq-AS_BYTES.true, ← c.letter_of-letter.ensures) (bytes-is c.letter_of-letter.result)

pub returns-then-rule-eq-AS_TUPLE : goal.returns-then-rule-eq-AS_TUPLE
returns-then-rule-eq-AS_TUPLE c = rw (c.if-rule-eq-AS_TUPLE.true, ← c.letter_of-letter.ensures) c.is_tuple.ensures

pub returns-then-not-is_tuple : goal.returns-then-not-is_tuple
returns-then-not-is_tuple c = rw (c.if-rule-eq-AS_NAMES.true, ← c.letter_of-letter.ensures, ← c.is_tuple-then-rule-eq-AS_NAMES.ensures, c.if-not-is_tuple.true) refl

pub returns-then-rule-eq-AS_NAMES : goal.returns-then-rule-eq-AS_NAMES
returns-then-rule-eq-AS_NAMES c =
    rw (c.if-rule-eq-AS_NAMES.true, ← c.letter_of-letter.ensures, ← c.is_tuple-then-rule-eq-AS_NAMES.ensures, c.if-not-is_tuple.false, ← c.count_of-count.ensures, ← c.first_of-first.ensures) c.strings.ensures

pub returns : goal.returns
returns c = rw (rule_string _ c.if-rule-eq-WHATEVER.false c.if-rule-eq-AS_BYTES.false c.if-rule-eq-AS_TUPLE.false c.if-rule-eq-AS_NAMES.false, ← c.letter_of-letter.ensures) c.is_string.ensures
