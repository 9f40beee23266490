-- `deserialize_value` meets its contract: the laws of Wholes say of each way out what the cycle's answer comes to.
use lib.ListN.{length}
use mathlib.Core.Path.{ap, ◌∙◌}
use Rattle.clearing.specs.Lent.{zeros}
use Rattle.reader.proofs.Wholes.{whole_long, whole-refused, whole-read}
use Rattle.reader.proofs.deserialize_value.Goals as goal

pub returns-then-input : goal.returns-then-input
returns-then-input c =
    whole_long c.args.input.now (length c.args.nodes.now) (length c.args.entries.now) (length c.args.slots.now) c.args.nesting c.if-input.true c.clear_words.ensures c.clear_words-2.ensures c.clear_words-3.ensures c.at.ensures

pub returns-in-Ok : goal.returns-in-Ok
returns-in-Ok c =
    whole-read c.args.input.now (length c.args.nodes.now) (length c.args.entries.now) (length c.args.slots.now) c.args.nesting c.if-input.false c.clear_words.ensures c.clear_words-2.ensures c.clear_words-3.ensures c.node_capacity.ensures c.entry_capacity.ensures c.at_most.ensures c.at_most-allowance.ensures c.by_tables.ensures c.in-Ok.is c.by_tables.auto.nodes c.by_tables.auto.entries c.by_tables.auto.slots

pub shape_of-nodes-in-Err : goal.shape_of-nodes-in-Err
shape_of-nodes-in-Err c =
    c.clear_words-in-Err.auto.words ∙ c.by_tables.auto.nodes ∙ c.clear_words.auto.words

pub shape_of-entries-in-Err : goal.shape_of-entries-in-Err
shape_of-entries-in-Err c =
    c.clear_words-in-Err-2.auto.words ∙ c.by_tables.auto.entries ∙ c.clear_words-2.auto.words

pub shape_of-slots-in-Err : goal.shape_of-slots-in-Err
shape_of-slots-in-Err c =
    c.clear_words-in-Err-3.auto.words ∙ c.by_tables.auto.slots ∙ c.clear_words-3.auto.words

pub returns-in-Err : goal.returns-in-Err
returns-in-Err c =
    whole-refused c.args.input.now (length c.args.nodes.now) (length c.args.entries.now) (length c.args.slots.now) c.args.nesting c.if-input.false c.clear_words.ensures c.clear_words-2.ensures c.clear_words-3.ensures c.node_capacity.ensures c.entry_capacity.ensures c.at_most.ensures c.at_most-allowance.ensures c.by_tables.ensures c.in-Err.is (c.clear_words-in-Err.ensures ∙ ap zeros (c.by_tables.auto.nodes ∙ c.clear_words.auto.words)) (c.clear_words-in-Err-2.ensures ∙ ap zeros (c.by_tables.auto.entries ∙ c.clear_words-2.auto.words)) (c.clear_words-in-Err-3.ensures ∙ ap zeros (c.by_tables.auto.slots ∙ c.clear_words-3.auto.words))
