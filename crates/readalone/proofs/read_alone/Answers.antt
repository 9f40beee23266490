-- `readalone::read_alone` meets its contract, by the laws of this crate that it names.
use mathlib.Core.Path.{◌∙◌, ap}
use Rattle.clearing.specs.Lent.{zeros}
use Rattle.readalone.specs.Alone.{lent}
use Rattle.readalone.proofs.Placing.{place-fits, placed-alone}
use Rattle.readalone.proofs.read_alone.Goals as goal

pub placed-requires : goal.placed-requires
placed-requires c =
    place-fits (lent _ _ _ _) _ _ c.deserialize_value-answer.ensures.answer c.requires

pub returns : goal.returns
returns c = (
  c.placed.ensures ∙ placed-alone (lent _ _ _ _) _ _ c.deserialize_value-answer.ensures.answer,
  c.clear_words.ensures ∙ ap zeros c.deserialize_value-answer.auto.nodes,
  c.clear_words-2.ensures ∙ ap zeros c.deserialize_value-answer.auto.entries,
  c.clear_words-3.ensures ∙ ap zeros c.deserialize_value-answer.auto.slots,
)
